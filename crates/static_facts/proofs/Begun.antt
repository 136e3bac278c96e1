-- A live mutex was initialised by a call whose argument led to it, with its kind.
use Rattle.std.proofs.Common.{◌≡◌, ◌⊎◌, inl, inr, refl, sym, subst, ap, ◌∙◌, Bool, true, false, cond, ◌==◌, ℕ, ℤ, List, [], ◌∷◌, Option, Some, None}
use Rattle.std.specs.Prelude.{slice_get}
use Rattle.c_program.specs.declared.expression.Expr.{Expr}
use Rattle.c_program.specs.declared.action.Local.{Local}
use Rattle.c_program.specs.declared.action.MutexKind.{MutexKind}
use Rattle.c_program.specs.declared.action.LibraryCall.TheVariants as lib
use Rattle.c_program.specs.declared.action.Act.{Act}
use Rattle.c_program.specs.declared.action.Act.TheVariants as act
use Rattle.c_program.specs.declared.program.Program.{Program}
use Rattle.c_program.specs.Syntax.{act_at}
use Rattle.c_program.specs.Types.{is_zero}
use Rattle.c_program.specs.Values.{Cell, same_cell}
use Rattle.c_program.specs.Control.{Point}
use Rattle.c_program.specs.Evaluation.{Here, place_at}
use Rattle.c_program.specs.State.{State, Running, Frame, Mark, Life, Unmade, Live, Dead, Mutex, opening, here}
use Rattle.c_program.specs.Requests.{mutex_type, Request, Creates, Joins, Detaches, Inits, Tries, Tries_timed, Opens, Makes_key, Retakes, Turn, Goes, Enters, Leaves, Exits, Ask, Asks, asked}
use Rattle.c_program.specs.Effects.{Sync, Starts, Takes, Gives, Suspends, Resumes, Kills, Finishes, if_done, marks, sync_of, sync_after, Use, Keeps, Begins, Takes_it, Gives_it, Dies, Loses, use_if, use_of, mutex_after, after}
use Rattle.c_program.specs.Step.{Choice, asked_by}
use Rattle.c_program.specs.Runs.{IsGoodRun, state_after}
use Rattle.c_program.specs.Breaks.{request_in}
use Rattle.c_program.specs.WellFormed.{IsWellFormed}
use Rattle.c_program.specs.Paths.{stands_at}
use Rattle.c_program.specs.Laws.{Names as RequestNames}
use Rattle.c_program.proofs.Asks.{EachAsk, from_each}
use Rattle.c_program.proofs.Cells.{cell_same}
use Rattle.c_program.proofs.Named.{named}
use Rattle.path_simulation.specs.Simulates.{LastStep}
use Rattle.path_simulation.proofs.Simulated.{last_step}
use Rattle.pointer_targets.specs.LibraryObjects.{LeadsToObject}
use Rattle.static_facts.proofs.MutexAsks.{RetakesBy, retakes_by}
use Rattle.static_facts.proofs.Remembering.{sync_is}

-- a thread stands before the initialisation
pub record Begun (program : Program) (m : Cell) (kind : MutexKind) : Type 0 where
  pub run : List Choice
  pub good : IsGoodRun program run
  pub thread : ℕ
  pub point : Point
  pub leads : LeadsToObject program mutex_type run thread point 0 m
  pub expression : Expr
  pub into : Option Local
  pub is_init : act_at program point.spot.action ≡ act.Library (lib.MutexInit expression kind) into

-- ---- kinds

abbrev KindOf : Use → Life Mutex → MutexKind → Type 0
KindOf u life kind = (u ≡ Begins kind) ⊎ ((old : Mutex) × ((life ≡ Live old) × (old.kind ≡ kind)))

same_live : (a b : Mutex) → Live a ≡ Live b → a ≡ b
same_live a b e = cc

kind_from : (u : Use) (t : ℕ) (life : Life Mutex) (mutex : Mutex) → mutex_after u t life ≡ Live mutex → KindOf u life mutex.kind
kind_from Keeps t (Live old) mutex e = inr (old, (refl, ap (λ (m : Mutex). m.kind) (same_live _ _ e)))
kind_from Keeps t Unmade mutex e = absurd (cc)
kind_from Keeps t Dead mutex e = absurd (cc)
kind_from (Begins kind) t life mutex e = inl (ap (λ (m : Mutex). Begins m.kind) (same_live (record { kind = kind; owner = 0; depth = 0 }) mutex e))
kind_from Takes_it t (Live old) mutex e = inr (old, (refl, ap (λ (m : Mutex). m.kind) (same_live _ _ e)))
kind_from Takes_it t Unmade mutex e = absurd (cc)
kind_from Takes_it t Dead mutex e = absurd (cc)
kind_from Gives_it t (Live old) mutex e = inr (old, (refl, ap (λ (m : Mutex). m.kind) (same_live _ _ e)))
kind_from Gives_it t Unmade mutex e = absurd (cc)
kind_from Gives_it t Dead mutex e = absurd (cc)
kind_from Dies t life mutex e = absurd (cc)
kind_from Loses t (Live old) mutex e = inr (old, (refl, ap (λ (m : Mutex). m.kind) (same_live _ _ e)))
kind_from Loses t Unmade mutex e = absurd (cc)
kind_from Loses t Dead mutex e = absurd (cc)

-- ---- which step begins a mutex

begins_by : (sync : Sync) (c : Cell) (kind : MutexKind) → use_of sync c ≡ Begins kind → (m : Cell) × ((sync ≡ Starts m kind) × (same_cell m c ≡ true))
begins_by (Starts m own) c kind e = (m, go (same_cell m c) refl e)
  where
    same : (a b : MutexKind) → Begins a ≡ Begins b → a ≡ b
    same a b q = cc

    go : (b : Bool) → same_cell m c ≡ b → use_if b (Begins own) ≡ Begins kind → (Starts m own ≡ Starts m kind) × (b ≡ true)
    go true f q = (ap (Starts m) (same own kind q), refl)
    go false f q = absurd (cc)
begins_by (Takes m) c kind e = absurd (go (same_cell m c) e)
  where
    go : (b : Bool) → use_if b Takes_it ≡ Begins kind → ⊥
    go true q = cc
    go false q = cc
begins_by (Resumes m) c kind e = absurd (go (same_cell m c) e)
  where
    go : (b : Bool) → use_if b Takes_it ≡ Begins kind → ⊥
    go true q = cc
    go false q = cc
begins_by (Gives m) c kind e = absurd (go (same_cell m c) e)
  where
    go : (b : Bool) → use_if b Gives_it ≡ Begins kind → ⊥
    go true q = cc
    go false q = cc
begins_by (Suspends d m) c kind e = absurd (go (same_cell m c) e)
  where
    go : (b : Bool) → use_if b Gives_it ≡ Begins kind → ⊥
    go true q = cc
    go false q = cc
begins_by (Kills m) c kind e = absurd (go (same_cell m c) e)
  where
    go : (b : Bool) → use_if b Dies ≡ Begins kind → ⊥
    go true q = cc
    go false q = cc
begins_by _ c kind e = absurd (cc)

done_starts : (b : Bool) (sync : Sync) (m : Cell) (kind : MutexKind) → (sync ≡ Starts m kind → ⊥) → if_done b sync ≡ Starts m kind → ⊥
done_starts true sync m kind n e = n e
done_starts false sync m kind n e = cc

marks_starts : (held : Option ℕ) (mark : Mark) (m : Cell) (kind : MutexKind) → marks held mark ≡ Starts m kind → ⊥
marks_starts None mark m kind e = cc
marks_starts (Some t) mark m kind e = cc

starts_of : (state : State) (request : Request) (m : Cell) (kind : MutexKind) → sync_of state request ≡ Starts m kind → (z : ℤ) × (request ≡ Inits m kind z)
starts_of state (Inits k own z) m kind e = (z, go (is_zero z) e)
  where
    same : Starts k own ≡ Starts m kind → Inits k own z ≡ Inits m kind z
    same q = cc

    go : (b : Bool) → if_done b (Starts k own) ≡ Starts m kind → Inits k own z ≡ Inits m kind z
    go true q = same q
    go false q = absurd (cc)
starts_of state (Creates object f v result) m kind e = absurd (done_starts (is_zero result) _ m kind (λ q. cc) e)
starts_of state (Joins object into) m kind e = absurd (marks_starts (state.holds object) _ m kind e)
starts_of state (Detaches object) m kind e = absurd (marks_starts (state.holds object) _ m kind e)
starts_of state (Tries k result) m kind e = absurd (done_starts (is_zero result) _ m kind (λ q. cc) e)
starts_of state (Tries_timed k result) m kind e = absurd (done_starts (is_zero result) _ m kind (λ q. cc) e)
starts_of state (Opens c result) m kind e = absurd (done_starts (is_zero result) _ m kind (λ q. cc) e)
starts_of state (Makes_key k result) m kind e = absurd (done_starts (is_zero result) _ m kind (λ q. cc) e)
starts_of state _ m kind e = absurd (cc)

starts_by : (state : State) (frames : List Frame) (turn : Turn) (request : Request) (m : Cell) (kind : MutexKind) → sync_after frames turn (sync_of state request) ≡ Starts m kind → (z : ℤ) × (request ≡ Inits m kind z)
starts_by state frames Goes request m kind e = starts_of state request m kind e
starts_by state frames (Enters f arguments result) request m kind e = starts_of state request m kind e
starts_by state frames (Exits result) request m kind e = absurd (cc)
starts_by state [] (Leaves result) request m kind e = absurd (cc)
starts_by state (frame ∷ []) (Leaves result) request m kind e = absurd (cc)
starts_by state (frame ∷ caller ∷ frames) (Leaves result) request m kind e = starts_of state request m kind e

pub record IsInit (here : Here) (action : Act) (m : Cell) (kind : MutexKind) : Type 0 where
  pub expression : Expr
  pub into : Option Local
  pub is : action ≡ act.Library (lib.MutexInit expression kind) into
  pub leads : place_at here mutex_type expression ≡ Some m

init_named : (here : Here) (action : Act) (m : Cell) (kind : MutexKind) (z : ℤ) → RequestNames here action (Inits m kind z) → IsInit here action m kind
init_named here (act.Library (lib.MutexInit e own) into) m kind z n = record { expression = e; into = into; is = ap (λ k. act.Library (lib.MutexInit e k) into) n.1; leads = n.0 }
init_named here _ m kind z n = absurd n

-- ---- one step, and each run

module _ (program : Program) (well : IsWellFormed program) (choice : Choice) (run : List Choice) (step : LastStep program choice run) where
  abbrev t : ℕ
  t = choice.thread

  abbrev state : State
  state = state_after program run

  begun_now : (m : Cell) (kind : MutexKind) → step.effect.sync ≡ Starts m kind → Begun program m kind
  begun_now m kind e = go step.by.inside refl step.by.asks
    where
      request : (z : ℤ) × (step.by.ask.request ≡ Inits m kind z)
      request = starts_by state step.by.frames step.by.ask.turn step.by.ask.request m kind (sym (sync_is program well choice run step) ∙ e)

      unlike : (x : Cell) (z : ℤ) → Retakes x z ≡ Inits m kind request.0 → ⊥
      unlike x z q = cc

      go : (inside : Option Cell) → step.by.inside ≡ inside → asked_by program state choice step.move inside ≡ Asks step.by.ask → Begun program m kind
      go (Some x) i a = let r = from_each (RetakesBy (act_at program step.move.action) x) step.by.ask
          (subst (EachAsk (RetakesBy (act_at program step.move.action) x)) a (retakes_by (act_at program step.move.action) x choice.values)) in
          absurd (unlike x r.z (sym r.asks ∙ request.1))
      go None i a = let n = init_named (here program state t) (act_at program step.move.action) m kind request.0
          (subst (λ (q : Request). RequestNames (here program state t) (act_at program step.move.action) q) request.1
          (named (here program state t) (act_at program step.move.action) choice.pair choice.values step.by.ask.request (ap request_in a))) in record {
            run = run;
            good = step.good;
            thread = t;
            point = stands_at (state.thread t).origin step.by.control step.move;
            leads = record {
              control = step.by.control;
              frames = step.by.frames;
              move = step.move;
              call = lib.MutexInit n.expression kind;
              into = n.into;
              expression = n.expression;
              stands = step.by.stands ∙ ap (λ (o : Option Cell). Running step.by.control step.by.frames o) i;
              offers = (choice.pair, step.by.offers);
              here_is = refl;
              is_call = n.is;
              has = refl;
              leads = n.leads;
            };
            expression = n.expression;
            into = n.into;
            is_init = n.is;
          }

  begun_step : ((m : Cell) (mutex : Mutex) → state.mutex m ≡ Live mutex → Begun program m mutex.kind)
      → (m : Cell) (mutex : Mutex) → (after program state t step.move step.effect).mutex m ≡ Live mutex → Begun program m mutex.kind
  unfolding after
  begun_step h m mutex e = elim (kind_from (use_of step.effect.sync m) t (state.mutex m) mutex e) [
    | inl u ↦ (let b = begins_by step.effect.sync m mutex.kind u in
        subst (λ (x : Cell). Begun program x mutex.kind) (cell_same b.0 m b.1.1) (begun_now b.0 mutex.kind b.1.0))
    | inr o ↦ subst (λ (k : MutexKind). Begun program m k) o.1.1 (h m o.0 o.1.0)
  ]

pub begun : (program : Program) → IsWellFormed program → (run : List Choice) → IsGoodRun program run → (m : Cell) (mutex : Mutex) → (state_after program run).mutex m ≡ Live mutex → Begun program m mutex.kind
unfolding state_after opening
begun program well [] good m mutex e = absurd (cc)
begun program well (choice ∷ run) good m mutex e = let step = last_step program choice run good in
    begun_step program well choice run step (begun program well run good.0) m mutex (ap (λ (s : State). s.mutex m) (sym step.leads) ∙ e)
