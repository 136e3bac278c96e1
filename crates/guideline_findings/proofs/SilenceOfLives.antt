-- Where Rules 22.14 and 22.20 have no finding, no run breaks them.
use Rattle.std.proofs.Common.{◌≡◌, ◌≢◌, ◌⊎◌, inl, inr, refl, sym, subst, ap, ◌∙◌, Bool, true, false, not, ◌||◌, ◌&&◌, ◌==◌, ℕ, ℤ, List, [], ◌∷◌, Option, Some, None, eqb-true, eq-eqb}
use Rattle.std.specs.List.{list_any}
use Rattle.misra_base.specs.declared.guideline.Guideline.TheVariants.{R22_14, R22_20}
use Rattle.c_program.specs.declared.action.Act.{Act}
use Rattle.c_program.specs.declared.program.Program.{Program}
use Rattle.c_program.specs.Syntax.{act_at}
use Rattle.c_program.specs.Values.{Cell, Location, location_of}
use Rattle.c_program.specs.Control.{Control, Move, Point}
use Rattle.c_program.specs.Evaluation.{Here}
use Rattle.c_program.specs.State.{State, Running, Frame, Life, Unmade, Live, Dead, here, Mutex}
use Rattle.c_program.specs.Requests.{Request, Retakes, Asks, asked, Turn}
use Rattle.c_program.specs.Faults.{Sort, A_mutex, A_condition, A_key, A_thread, How, Initialises, Uses, Ends_life, accesses_of, is_key, out_of_turn, is_out_of_turn}
use Rattle.c_program.specs.Effects.{Resumes, sync_of, sync_after}
use Rattle.c_program.specs.Step.{Choice, asked_by}
use Rattle.c_program.specs.Runs.{IsGoodRun, IsRun, state_after}
use Rattle.c_program.specs.Breaks.{Breaks, request_in}
use Rattle.c_program.specs.WellFormed.{IsWellFormed}
use Rattle.c_program.specs.Paths.{Offers, stands_at}
use Rattle.c_program.specs.Tracks.{life_number, life_of}
use Rattle.c_program.specs.Laws.{IsRequestBy, NamesAt, accesses_object}
use Rattle.c_program.proofs.Asking.{by_a_move}
use Rattle.c_program.proofs.Asks.{EachAsk, from_each}
use Rattle.c_program.proofs.Cells.{and_true, cell_same}
use Rattle.c_program.proofs.Named.{named}
use Rattle.path_simulation.specs.Simulates.{LastStep, origin_in}
use Rattle.pointer_targets.specs.Names.{Names}
use Rattle.static_facts.proofs.MutexAsks.{RetakesBy, retakes_by}
use Rattle.static_facts.proofs.Remembering.{sync_is}
use Rattle.static_facts.specs.ObjectStates.{IsNoThread, Is_live, Doing, Begins}
use Rattle.static_facts.specs.Seen.{use_with}
use Rattle.static_facts.specs.Lives.{MayLive}
use Rattle.guideline_findings.specs.Lives.{Accesses, IsUseOrEnd}
use Rattle.static_facts.specs.ThreadLaws.{LivesHere}
use Rattle.guideline_findings.proofs.Unfound.{NoneBegunOutside, NoLife}
use Rattle.static_facts.proofs.Accessing.{IsNamed, IsNamedAccess, EachAccess, found_access, named_accesses}
use Rattle.static_facts.proofs.Births.{initial_thread}
use Rattle.static_facts.proofs.Simulating.{place_typed}
use Rattle.static_facts.proofs.Reaching.{reachable}
use Rattle.static_facts.proofs.Changing.{UsesBy, uses_by, how_of, access_of_sync, agrees, one_access}
use Rattle.static_facts.proofs.Lifetimes.{IsAlone, runs_made, initial_lives, unmade_lives, live_seen}
use Rattle.static_facts.proofs.Waits.{true_false, waits_live}
use Rattle.pointer_targets.specs.LibraryObjects.{type_of_sort, IsObjectAt, LeadsToObject}
use Rattle.pointer_targets.proofs.Told.{Told, ObjectsAreStatic}

-- what is used out of turn is unmade, or live where it is begun
by_life : {A : Type 0} (how : How) (life : Life A) → is_out_of_turn how life ≡ true → ((IsUseOrEnd how) × (life_number life ≡ 0)) ⊎ ((how ≡ Initialises) × (life_number life ≡ 1))
by_life Initialises (Live a) e = inr (refl, refl)
by_life Initialises Unmade e = absurd (cc)
by_life Initialises Dead e = absurd (cc)
by_life Uses Unmade e = inl (tt, refl)
by_life Uses (Live a) e = absurd (cc)
by_life Uses Dead e = absurd (cc)
by_life Ends_life Unmade e = inl (tt, refl)
by_life Ends_life (Live a) e = absurd (cc)
by_life Ends_life Dead e = absurd (cc)

module _ (program : Program) (well : IsWellFormed program) where
  pub created_thread : (run : List Choice) → IsGoodRun program run → (thread : ℕ) (control : Control) (frames : List Frame) (inside : Option Cell)
      → ((state_after program run).thread thread).stand ≡ Running control frames inside → (thread == 0) ≡ false → origin_in program run thread ≢ []
  created_thread run good thread control frames inside s n o = true_false (thread == 0)
      (eq-eqb thread 0 (initial_thread program well run thread good (runs_made program well run good thread control frames inside s) o)) n

module _ (program : Program) (well : IsWellFormed program) (names : Names) (premises : Told program names) (static : ObjectsAreStatic program) where
  -- ---- a thread stands before a call that accesses an object

  pub record StandsBefore (run : List Choice) (thread : ℕ) (control : Control) (move : Move) (how : How) (sort : Sort) (cell : Cell) : Type 0 where
    pub location : Location
    pub at : IsObjectAt program sort cell location
    pub access : Accesses program names (origin_in program run thread) (stands_at (origin_in program run thread) control move) how sort location

  pub stands_before : (run : List Choice) → IsGoodRun program run → (thread : ℕ) (control : Control) (frames : List Frame) (move : Move)
      → ((state_after program run).thread thread).stand ≡ Running control frames None → Offers control move → (how : How) (sort : Sort) (cell : Cell)
      → IsNamed (here program (state_after program run) thread) (act_at program move.action) how sort cell → StandsBefore run thread control move how sort cell
  stands_before run good thread control frames move s o how sort cell n = record {
    location = found.0;
    at = at;
    access = record {
      reachable = reachable program well run good thread control frames None move s o;
      takes = record { argument = n.argument; takes = n.has; candidate = record { named = premises.may_name run thread point sort n.argument cell found.0 good leads found.1; cell = cell; here = at.here; of_sort = at.of_sort } };
    };
  }
    where
      point : Point
      point = stands_at (origin_in program run thread) control move

      leads : LeadsToObject program (type_of_sort sort) run thread point n.argument cell
      leads = let l = n.leads in record {
        control = control;
        frames = frames;
        move = move;
        call = l.call;
        into = l.into;
        expression = l.expression;
        stands = s;
        offers = o;
        here_is = refl;
        is_call = l.is_call;
        has = l.has;
        leads = l.leads;
      }

      found : (location : Location) × (location_of program cell ≡ Some location)
      found = static run thread point sort n.argument cell good leads

      at : IsObjectAt program sort cell found.0
      at = record { here = found.1; of_sort = place_typed (here program (state_after program run) thread) (type_of_sort sort) n.leads.expression cell n.leads.leads }

  -- ---- a step that begins or ends an object

  module _ (sort : Sort) (no_thread : IsNoThread sort) (cell : Cell) (doing : Doing) (choice : Choice) (run : List Choice) (step : LastStep program choice run)
      (used : use_with step.effect sort cell ≡ Some doing) where
    abbrev state : State
    state = state_after program run

    abbrev now : Here
    now = here program state choice.thread

    abbrev action : Act
    action = act_at program step.move.action

    uses : UsesBy sort step.effect.sync (accesses_object step.effect cell) doing
    uses = uses_by sort no_thread step.effect.sync (accesses_object step.effect cell) doing used

    is_cell : uses.access.cell ≡ cell
    is_cell = cell_same uses.access.cell cell (sym (agrees program well sort no_thread cell choice run step uses.access uses.is) ∙ uses.accessed)

    outside : step.by.inside ≡ None
    outside = go step.by.inside step.by.asks
      where
        no_access : (m : Cell) → access_of_sync (Resumes m) ≡ Some uses.access → ⊥
        no_access m e = cc

        go : (inside : Option Cell) → asked_by program state choice step.move inside ≡ Asks step.by.ask → inside ≡ None
        go None a = refl
        go (Some m) a = let r = from_each (RetakesBy action m) step.by.ask (subst (EachAsk (RetakesBy action m)) a (retakes_by action m choice.values)) in
            absurd (no_access m (sym (ap access_of_sync (sync_is program well choice run step ∙ ap (λ (x : Turn). sync_after step.by.frames x (sync_of state step.by.ask.request)) r.goes
            ∙ ap (λ (q : Request). sync_of state q) r.asks)) ∙ uses.is))

    asks_here : asked now action choice.pair choice.values ≡ Asks step.by.ask
    asks_here = subst (λ (inside : Option Cell). asked_by program state choice step.move inside ≡ Asks step.by.ask) outside step.by.asks

    is_named : IsNamed now action (how_of doing) sort cell
    is_named = subst (λ (c : Cell). IsNamed now action (how_of doing) sort c) is_cell
        (subst (λ (h : How). IsNamed now action h sort uses.access.cell) uses.how
        (subst (λ (r : Sort). IsNamed now action uses.access.how r uses.access.cell) uses.of_sort
        ((subst (EachAccess (IsNamedAccess now action)) (one_access program well sort no_thread cell choice run step uses.access uses.is)
        (named_accesses now action step.by.ask.request (named now action choice.pair choice.values step.by.ask.request (ap request_in asks_here)))).0
        (subst IsNoThread (sym uses.of_sort) no_thread))))

    pub does_before : StandsBefore run choice.thread step.by.control step.move (how_of doing) sort cell
    does_before = stands_before run step.good choice.thread step.by.control step.by.frames step.move
        (step.by.stands ∙ ap (λ (i : Option Cell). Running step.by.control step.by.frames i) outside) (choice.pair, step.by.offers) (how_of doing) sort cell is_named

  -- ---- Rules 22.14 and 22.20

  abbrev pub of_rule : Bool → Sort → Bool
  of_rule true sort = is_key sort
  of_rule false sort = not (is_key sort)

  rule_is : (keys : Bool) (sort : Sort) → of_rule keys sort ≡ true → is_key sort ≡ keys
  rule_is true sort e = e
  rule_is false A_key e = absurd (cc)
  rule_is false A_mutex e = refl
  rule_is false A_condition e = refl
  rule_is false A_thread e = refl

  out_number : (state : State) (how : How) (sort : Sort) (cell : Cell) → out_of_turn state (record { how = how; sort = sort; cell = cell }) ≡ true
      → IsNoThread sort × (((IsUseOrEnd how) × (life_of state sort cell ≡ 0)) ⊎ ((how ≡ Initialises) × (life_of state sort cell ≡ 1)))
  out_number state how A_mutex cell e = (tt, by_life how (state.mutex cell) e)
  out_number state how A_condition cell e = (tt, by_life how (state.condition cell) e)
  out_number state how A_key cell e = (tt, by_life how (state.key cell) e)
  out_number state how A_thread cell e = absurd (cc)

  -- the initial thread alone begins objects
  begun_alone : (keys : Bool) → NoneBegunOutside program names keys → (sort : Sort) → IsNoThread sort → is_key sort ≡ keys → (cell : Cell) → IsAlone program sort cell Begins
  begun_alone keys none sort n k cell choice run step z u = let b = does_before sort n cell Begins choice run step u in
      none sort n k (origin_in program run choice.thread) (stands_at (origin_in program run choice.thread) step.by.control step.move) b.location (record {
        accesses = b.access;
        elsewhere = created_thread program well run step.good choice.thread step.by.control step.by.frames step.by.inside step.by.stands z;
      })

  pub live_possible : (keys : Bool) → NoneBegunOutside program names keys → (sort : Sort) → IsNoThread sort → is_key sort ≡ keys → (object : Cell) (location : Location) → IsObjectAt program sort object location
      → (run : List Choice) → IsGoodRun program run → (control : Control) (frames : List Frame) (inside : Option Cell) (move : Move)
      → ((state_after program run).thread 0).stand ≡ Running control frames inside → Offers control move
      → life_of (state_after program run) sort object ≡ 1 → LivesHere program names sort location run 0 control move Is_live
  live_possible keys none sort n k object location at run good control frames inside move s o e = initial_lives program well sort n object names premises location at Is_live tt run good control frames inside move s o
      (live_seen program well sort n object (begun_alone keys none sort n k object) run good e)

  module _ (keys : Bool) (none : NoLife program names keys) where
    alone : (sort : Sort) → IsNoThread sort → is_key sort ≡ keys → (cell : Cell) → IsAlone program sort cell Begins
    alone = begun_alone keys none.outside

    broken : (run : List Choice) → IsGoodRun program run → (thread : ℕ) (control : Control) (frames : List Frame) (move : Move)
        → ((state_after program run).thread thread).stand ≡ Running control frames None → Offers control move → (how : How) (sort : Sort) (cell : Cell)
        → (IsNoThread sort → IsNamed (here program (state_after program run) thread) (act_at program move.action) how sort cell) → is_key sort ≡ keys
        → out_of_turn (state_after program run) (record { how = how; sort = sort; cell = cell }) ≡ true → ⊥
    broken run good thread control frames move s o how sort cell named_one k e = go (out_number (state_after program run) how sort cell e).1
      where
        no_thread : IsNoThread sort
        no_thread = (out_number (state_after program run) how sort cell e).0

        b : StandsBefore run thread control move how sort cell
        b = stands_before run good thread control frames move s o how sort cell (named_one no_thread)

        point : Point
        point = stands_at (origin_in program run thread) control move

        second : how ≡ Initialises → life_of (state_after program run) sort cell ≡ 1 → (z : Bool) → (thread == 0) ≡ z → ⊥
        second h l false z = none.outside sort no_thread k (origin_in program run thread) point b.location (record {
          accesses = subst (λ (x : How). Accesses program names (origin_in program run thread) point x sort b.location) h b.access;
          elsewhere = created_thread program well run good thread control frames None s z;
        })
        second h l true z = none.second sort no_thread k (origin_in program run thread) point b.location
            (subst (λ (x : How). Accesses program names (origin_in program run thread) point x sort b.location) h b.access)
            (subst (λ n. MayLive program names sort b.location (origin_in program run n) (stands_at (origin_in program run n) control move) Is_live) (sym (eqb-true thread 0 z))
            (initial_lives program well sort no_thread cell names premises b.location b.at Is_live tt run good control frames None move
            (ap (λ n. ((state_after program run).thread n).stand) (sym (eqb-true thread 0 z)) ∙ s) o
            (live_seen program well sort no_thread cell (alone sort no_thread k cell) run good l)))

        go : ((IsUseOrEnd how) × (life_of (state_after program run) sort cell ≡ 0)) ⊎ ((how ≡ Initialises) × (life_of (state_after program run) sort cell ≡ 1)) → ⊥
        go (inl u) = none.before sort no_thread k how u.0 (origin_in program run thread) point b.location b.access
            (unmade_lives program well sort no_thread cell names premises b.location b.at run good thread control frames None move s o u.1)
        go (inr l) = second l.0 l.1 (thread == 0) refl

    -- the second step of a wait finds its mutex live
    retaken : (run : List Choice) → IsGoodRun program run → (thread : ℕ) (control : Control) (frames : List Frame) (m : Cell) (z : ℤ)
        → ((state_after program run).thread thread).stand ≡ Running control frames (Some m)
        → list_any (λ access. of_rule keys access.sort && out_of_turn (state_after program run) access) (accesses_of (Retakes m z)) ≡ true → ⊥
    retaken run good thread control frames m z s e = unlike keys ((state_after program run).mutex m) (waits_live program well m run good thread control frames s).live e
      where
        unlike : (keys : Bool) (life : Life Mutex) → life_number life ≡ 1 → ((of_rule keys A_mutex && is_out_of_turn Uses life) || false) ≡ true → ⊥
        unlike true life l e = cc
        unlike false (Live a) l e = cc
        unlike false Unmade l e = cc
        unlike false Dead l e = cc

    pub in_turn : (run : List Choice) → IsGoodRun program run → (choice : Choice) (request : Request) → IsRequestBy program (state_after program run) choice request
        → list_any (λ access. of_rule keys access.sort && out_of_turn (state_after program run) access) (accesses_of request) ≡ true → ⊥
    in_turn run good choice request w e = go w.inside w.stands w.names
      where
        abbrev_state : State
        abbrev_state = state_after program run

        go : (inside : Option Cell) → ((state_after program run).thread choice.thread).stand ≡ Running w.control w.frames inside
            → NamesAt (here program (state_after program run) choice.thread) (act_at program w.move.action) inside request → ⊥
        go None s n = let f = found_access (IsNamedAccess (here program (state_after program run) choice.thread) (act_at program w.move.action))
            (λ access. of_rule keys access.sort && out_of_turn (state_after program run) access) (accesses_of request)
            (named_accesses (here program (state_after program run) choice.thread) (act_at program w.move.action) request n) e in
            let p = and_true (of_rule keys f.0.sort) (out_of_turn (state_after program run) f.0) f.1.1 in
            broken run good choice.thread w.control w.frames w.move s (choice.pair, w.offers) f.0.how f.0.sort f.0.cell f.1.0 (rule_is keys f.0.sort p.0) p.1
        go (Some m) s n = retaken run good choice.thread w.control w.frames m n.0 s
            (subst (λ (q : Request). list_any (λ access. of_rule keys access.sort && out_of_turn (state_after program run) access) (accesses_of q) ≡ true) n.1 e)

  pub silent_14 : NoLife program names false → (run : List Choice) → IsRun program run → Breaks R22_14 program run → ⊥
  silent_14 none [] r b = b
  silent_14 none (choice ∷ run) r b = in_turn false none run r.0 choice b.0 (by_a_move program (state_after program run) choice b.0 b.1) b.2

  pub silent_20 : NoLife program names true → (run : List Choice) → IsRun program run → Breaks R22_20 program run → ⊥
  silent_20 none [] r b = b
  silent_20 none (choice ∷ run) r b = in_turn true none run r.0 choice b.0 (by_a_move program (state_after program run) choice b.0 b.1) b.2
