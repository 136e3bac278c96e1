-- Which step makes the thread that an object holds, and which thread a join takes.
use Rattle.std.proofs.Common.{◌≡◌, refl, sym, subst, ap, ◌∙◌, Bool, true, false, cond, ◌||◌, ℕ, ℤ, List, [], ◌∷◌, length, Option, Some, None}
use Rattle.std.specs.List.{list_any}
use Rattle.c_program.specs.declared.action.Act.{Act}
use Rattle.c_program.specs.declared.action.Act.TheVariants as act
use Rattle.c_program.specs.declared.action.LibraryCall.TheVariants as lib
use Rattle.c_program.specs.declared.program.Program.{Program}
use Rattle.c_program.specs.Syntax.{act_at}
use Rattle.c_program.specs.Types.{is_zero}
use Rattle.c_program.specs.Values.{Cell, Value, same_cell}
use Rattle.c_program.specs.Evaluation.{Here}
use Rattle.c_program.specs.State.{State, Frame, Mark, Unmarked, Joined, Detached, Running, here, opening, has_ended}
use Rattle.c_program.specs.Requests.{Request, Creates, Joins, Detaches, Inits, Tries, Tries_timed, Opens, Makes_key, Retakes, Turn, Goes, Enters, Leaves, Exits, Asks, asked}
use Rattle.c_program.specs.Faults.{A_thread, Uses, Access, does, accesses_of}
use Rattle.c_program.specs.Effects.{Sync, Makes, Marks, Effect, effect_of, sync_of, sync_after, if_done, marks, holds_after, after}
use Rattle.c_program.specs.Step.{Choice, asked_by}
use Rattle.c_program.specs.Runs.{IsGoodRun, state_after, Moment, moment_at}
use Rattle.c_program.specs.Happens.{made_thread, joined_thread, state_at}
use Rattle.c_program.specs.Breaks.{request_in}
use Rattle.c_program.specs.WellFormed.{IsWellFormed}
use Rattle.c_program.specs.Paths.{stands_at}
use Rattle.c_program.specs.Laws.{accesses_object, Names}
use Rattle.c_program.proofs.Asks.{EachAsk, from_each}
use Rattle.c_program.proofs.Cells.{cell_same}
use Rattle.c_program.proofs.Finds.{joins}
use Rattle.c_program.proofs.Named.{named}
use Rattle.path_simulation.specs.Simulates.{LastStep, origin_in}
use Rattle.static_facts.proofs.MutexAsks.{RetakesBy, retakes_by, cell_equal}
use Rattle.static_facts.proofs.Moments.{at_longer, GoodLast, good_last}
use Rattle.static_facts.proofs.Remembering.{sync_is}
use Rattle.static_facts.specs.ObjectStates.{Begins, Joins_it}
use Rattle.static_facts.specs.Seen.{when, use_by, use_with}
use Rattle.static_facts.proofs.Asking.{Leads}
use Rattle.static_facts.proofs.Positions.{last_of}
use Rattle.pointer_targets.specs.LibraryObjects.{type_of_sort, LeadsToObject}
use Rattle.static_facts.specs.Points.{is_creation}

-- ---- joins

pub use_joins : (sync : Sync) (b : Bool) → use_by sync A_thread b ≡ Some Joins_it → (k : ℕ) × ((sync ≡ Marks k Joined) × (b ≡ true))
use_joins (Marks k Joined) true e = (k, (refl, refl))
use_joins (Marks k Joined) false e = absurd (cc)
use_joins (Marks k Detached) true e = absurd (cc)
use_joins (Marks k Detached) false e = absurd (cc)
use_joins (Marks k Unmarked) b e = absurd (cc)
use_joins (Makes object f) true e = absurd (cc)
use_joins (Makes object f) false e = absurd (cc)
use_joins _ b e = absurd (cc)

abbrev pub IsHeld : State → Request → ℕ → Type 0
IsHeld state request k = (object : Cell) × ((state.holds object ≡ Some k) × (accesses_of request ≡ does Uses A_thread object))

held_by : (held : Option ℕ) (own mark : Mark) (k : ℕ) → marks held own ≡ Marks k mark → held ≡ Some k
held_by None own mark k e = absurd (cc)
held_by (Some t) own mark k e = same t k e
  where
    same : (t k : ℕ) → Marks t own ≡ Marks k mark → Some t ≡ Some k
    same t k e = cc

done_marks : (b : Bool) (sync : Sync) (k : ℕ) (mark : Mark) → (sync ≡ Marks k mark → ⊥) → if_done b sync ≡ Marks k mark → ⊥
done_marks true sync k mark n e = n e
done_marks false sync k mark n e = cc

marks_of : (state : State) (request : Request) (k : ℕ) (mark : Mark) → sync_of state request ≡ Marks k mark → IsHeld state request k
marks_of state (Joins object into) k mark e = (object, (held_by (state.holds object) Joined mark k e, refl))
marks_of state (Detaches object) k mark e = (object, (held_by (state.holds object) Detached mark k e, refl))
marks_of state (Creates object f v z) k mark e = absurd (done_marks (is_zero z) _ k mark (λ q. cc) e)
marks_of state (Inits m kind z) k mark e = absurd (done_marks (is_zero z) _ k mark (λ q. cc) e)
marks_of state (Tries m z) k mark e = absurd (done_marks (is_zero z) _ k mark (λ q. cc) e)
marks_of state (Tries_timed m z) k mark e = absurd (done_marks (is_zero z) _ k mark (λ q. cc) e)
marks_of state (Opens c z) k mark e = absurd (done_marks (is_zero z) _ k mark (λ q. cc) e)
marks_of state (Makes_key c z) k mark e = absurd (done_marks (is_zero z) _ k mark (λ q. cc) e)
marks_of state _ k mark e = absurd (cc)

pub marks_after : (state : State) (frames : List Frame) (turn : Turn) (request : Request) (k : ℕ) (mark : Mark) → sync_after frames turn (sync_of state request) ≡ Marks k mark → IsHeld state request k
marks_after state frames Goes request k mark e = marks_of state request k mark e
marks_after state frames (Enters f arguments result) request k mark e = marks_of state request k mark e
marks_after state frames (Exits result) request k mark e = absurd (cc)
marks_after state [] (Leaves result) request k mark e = absurd (cc)
marks_after state (frame ∷ []) (Leaves result) request k mark e = absurd (cc)
marks_after state (frame ∷ caller ∷ frames) (Leaves result) request k mark e = marks_of state request k mark e

-- ---- creations

abbrev IsMaking : Request → Cell → ℕ → Type 0
IsMaking request object function = (v : Value) × ((z : ℤ) × (request ≡ Creates object function v z))

done_makes : (b : Bool) (sync : Sync) (object : Cell) (f : ℕ) → (sync ≡ Makes object f → ⊥) → if_done b sync ≡ Makes object f → ⊥
done_makes true sync object f n e = n e
done_makes false sync object f n e = cc

marks_makes : (held : Option ℕ) (mark : Mark) (object : Cell) (f : ℕ) → marks held mark ≡ Makes object f → ⊥
marks_makes None mark object f e = cc
marks_makes (Some t) mark object f e = cc

makes_of : (state : State) (request : Request) (object : Cell) (f : ℕ) → sync_of state request ≡ Makes object f → IsMaking request object f
makes_of state (Creates own g v z) object f e = go (is_zero z) e
  where
    same : (a b : Cell) (n m : ℕ) → Makes a n ≡ Makes b m → Creates a n v z ≡ Creates b m v z
    same a b n m e = cc

    go : (b : Bool) → if_done b (Makes own g) ≡ Makes object f → IsMaking (Creates own g v z) object f
    go true e = (v, (z, same own object g f e))
    go false e = absurd (cc)
makes_of state (Joins own into) object f e = absurd (marks_makes (state.holds own) _ object f e)
makes_of state (Detaches own) object f e = absurd (marks_makes (state.holds own) _ object f e)
makes_of state (Inits m kind z) object f e = absurd (done_makes (is_zero z) _ object f (λ q. cc) e)
makes_of state (Tries m z) object f e = absurd (done_makes (is_zero z) _ object f (λ q. cc) e)
makes_of state (Tries_timed m z) object f e = absurd (done_makes (is_zero z) _ object f (λ q. cc) e)
makes_of state (Opens c z) object f e = absurd (done_makes (is_zero z) _ object f (λ q. cc) e)
makes_of state (Makes_key c z) object f e = absurd (done_makes (is_zero z) _ object f (λ q. cc) e)
makes_of state _ object f e = absurd (cc)

makes_after : (state : State) (frames : List Frame) (turn : Turn) (request : Request) (object : Cell) (f : ℕ) → sync_after frames turn (sync_of state request) ≡ Makes object f → IsMaking request object f
makes_after state frames Goes request object f e = makes_of state request object f e
makes_after state frames (Enters g arguments result) request object f e = makes_of state request object f e
makes_after state frames (Exits result) request object f e = absurd (cc)
makes_after state [] (Leaves result) request object f e = absurd (cc)
makes_after state (frame ∷ []) (Leaves result) request object f e = absurd (cc)
makes_after state (frame ∷ caller ∷ frames) (Leaves result) request object f e = makes_of state request object f e

create_leads : (here : Here) (action : Act) (object : Cell) (f : ℕ) (v : Value) (z : ℤ) → Names here action (Creates object f v z) → Leads here action A_thread 0 object × (is_creation action ≡ true)
create_leads here (act.Library (lib.ThreadCreate o g e) into) object f v z n =
    (record { call = lib.ThreadCreate o g e; into = into; expression = o; is_call = refl; has = refl; leads = n.0 }, refl)
create_leads here _ object f v z n = absurd n

or_false_end : (b : Bool) → (b || false) ≡ b
or_false_end true = refl
or_false_end false = refl

-- ---- a step

abbrev or_none : (b : Bool) → (b || false) ≡ true → b ≡ true
or_none true e = refl
or_none false e = e

module _ (program : Program) (well : IsWellFormed program) (choice : Choice) (run : List Choice) (step : LastStep program choice run) where
  abbrev t : ℕ
  t = choice.thread

  abbrev state : State
  state = state_after program run

  abbrev action : Act
  action = act_at program step.move.action

  pub record JoinsOne (object : Cell) : Type 0 where
    pub thread : ℕ
    pub holds : state.holds object ≡ Some thread
    pub joined : joined_thread step.effect.sync ≡ Some thread
    pub ended : has_ended (state.thread thread).stand ≡ true

  -- the argument of a join leads to the object that holds the thread
  accessed_held : (c object : Cell) → accesses_of step.by.ask.request ≡ does Uses A_thread object → accesses_object step.effect c ≡ true → same_cell object c ≡ true
  unfolding effect_of
  accessed_held c object u a = or_none _ (sym (ap (λ (x : Effect). accesses_object x c) step.by.gives ∙ ap (λ (xs : List Access). list_any (λ access. same_cell access.cell c) xs) u) ∙ a)

  pub accesses_one : (object c : Cell) → accesses_of step.by.ask.request ≡ does Uses A_thread object → accesses_object step.effect c ≡ same_cell object c
  unfolding effect_of
  accesses_one object c u = ap (λ (x : Effect). accesses_object x c) step.by.gives ∙ ap (λ (xs : List Access). list_any (λ access. same_cell access.cell c) xs) u ∙ or_false_end (same_cell object c)

  pub joins_one : (c : Cell) → use_with step.effect A_thread c ≡ Some Joins_it → JoinsOne c
  joins_one c u = record {
    thread = j.0;
    holds = subst (λ (x : Cell). state.holds x ≡ Some j.0) (cell_same h.0 c (accessed_held c h.0 h.1.1 j.1.1)) h.1.0;
    joined = ap joined_thread j.1.0;
    ended = joins program state choice step.move step.effect j.0 step.by j.1.0;
  }
    where
      j : (k : ℕ) × ((step.effect.sync ≡ Marks k Joined) × (accesses_object step.effect c ≡ true))
      j = use_joins step.effect.sync (accesses_object step.effect c) u

      h : IsHeld state step.by.ask.request j.0
      h = marks_after state step.by.frames step.by.ask.turn step.by.ask.request j.0 Joined (sym (sync_is program well choice run step) ∙ j.1.0)

  module _ (object : Cell) (function : ℕ) (makes : step.effect.sync ≡ Makes object function) where
    making : IsMaking step.by.ask.request object function
    making = makes_after state step.by.frames step.by.ask.turn step.by.ask.request object function (sym (sync_is program well choice run step) ∙ makes)

    outside : step.by.inside ≡ None
    outside = go step.by.inside step.by.asks
      where
        unlike : (x : Cell) (z : ℤ) → Retakes x z ≡ Creates object function making.0 making.1.0 → ⊥
        unlike x z e = cc

        go : (inside : Option Cell) → asked_by program state choice step.move inside ≡ Asks step.by.ask → inside ≡ None
        go None a = refl
        go (Some x) a = let r = from_each (RetakesBy action x) step.by.ask (subst (EachAsk (RetakesBy action x)) a (retakes_by action x choice.values)) in
            absurd (unlike x r.z (sym r.asks ∙ making.1.1))

    asks_here : asked (here program state t) action choice.pair choice.values ≡ Asks step.by.ask
    asks_here = subst (λ (inside : Option Cell). asked_by program state choice step.move inside ≡ Asks step.by.ask) outside step.by.asks

    named_here : Leads (here program state t) action A_thread 0 object × (is_creation action ≡ true)
    named_here = create_leads (here program state t) action object function making.0 making.1.0 (subst (λ (q : Request). Names (here program state t) action q) making.1.1
        (named (here program state t) action choice.pair choice.values step.by.ask.request (ap request_in asks_here)))

    pub creates_here : is_creation action ≡ true
    creates_here = named_here.1

    pub making_leads : LeadsToObject program (type_of_sort A_thread) run t (stands_at (origin_in program run t) step.by.control step.move) 0 object
    making_leads = let l = named_here.0 in record {
      control = step.by.control;
      frames = step.by.frames;
      move = step.move;
      call = l.call;
      into = l.into;
      expression = l.expression;
      stands = step.by.stands ∙ ap (λ (o : Option Cell). Running step.by.control step.by.frames o) outside;
      offers = (choice.pair, step.by.offers);
      here_is = refl;
      is_call = l.is_call;
      has = l.has;
      leads = l.leads;
    }

    pub making_uses : use_with step.effect A_thread object ≡ Some Begins
    unfolding effect_of
    making_uses = ap (λ (y : Sync). use_by y A_thread (accesses_object step.effect object)) makes ∙ ap (λ b. when b Begins)
        (ap (λ (x : Effect). accesses_object x object) step.by.gives ∙ ap (λ (q : Request). list_any (λ access. same_cell access.cell object) (accesses_of q)) making.1.1
        ∙ ap (λ b. b || false) (cell_equal object object refl))

    -- and with no other object
    pub making_misses : (c : Cell) → same_cell object c ≡ false → use_with step.effect A_thread c ≡ None
    making_misses c s = ap (λ (y : Sync). use_by y A_thread (accesses_object step.effect c)) makes
        ∙ ap (λ b. when b Begins) (accesses_one object c (ap accesses_of making.1.1) ∙ s)

-- ---- who is held was made by a step that names the object

pub record Made (program : Program) (run : List Choice) (object : Cell) (thread : ℕ) : Type 0 where
  pub position : ℕ
  pub moment : Moment
  pub at : moment_at program run position ≡ Some moment
  pub makes : made_thread moment.effect.sync (state_at program moment).made ≡ Some thread
  pub function : ℕ
  pub is : moment.effect.sync ≡ Makes object function

module _ (program : Program) (object : Cell) where
  made_longer : (choice : Choice) (run : List Choice) (thread : ℕ) → Made program run object thread → Made program (choice ∷ run) object thread
  made_longer choice run thread b = record { position = b.position; moment = b.moment; at = at_longer program choice run b.position b.moment b.at; makes = b.makes; function = b.function; is = b.is }

  pub held_made : (run : List Choice) → IsGoodRun program run → (thread : ℕ) → (state_after program run).holds object ≡ Some thread → Made program run object thread
  unfolding state_after opening after
  held_made [] r thread h = absurd (cc)
  held_made (choice ∷ run) r thread h = go (held_made run r.0 thread) last.effect.sync refl (sym (ap (λ (s : State). s.holds object) last.is.leads) ∙ h)
    where
      last : GoodLast program choice run
      last = good_last program choice run r

      made : ℕ
      made = (state_after program run).made

      held : Option ℕ
      held = (state_after program run).holds object

      new : (own : Cell) (f : ℕ) → last.effect.sync ≡ Makes own f → (held ≡ Some thread → Made program run object thread) → (b : Bool) → same_cell own object ≡ b
          → cond b (Some made) held ≡ Some thread → Made program (choice ∷ run) object thread
      new own f q before true e h = record {
        position = length run;
        moment = last_of program choice run last;
        at = last.at;
        makes = ap (λ (y : Sync). made_thread y made) q ∙ h;
        function = f;
        is = q ∙ ap (λ (x : Cell). Makes x f) (cell_same own object e);
      }
      new own f q before false e h = made_longer choice run thread (before h)

      go : (held ≡ Some thread → Made program run object thread) → (sync : Sync) → last.effect.sync ≡ sync → holds_after sync made object held ≡ Some thread → Made program (choice ∷ run) object thread
      go before (Makes own f) q h = new own f q before (same_cell own object) refl h
      go before sync q h = made_longer choice run thread (before h)
