-- What a thread remembers of the outcome of a call, behind a step that goes on.
use Rattle.std.proofs.Common.{◌≡◌, refl, sym, subst, ap, ◌∙◌, Bool, true, false, cond, ◌==◌, ℕ, ◌<◌, ℤ, List, [], ◌∷◌, ◌++◌, length, Option, Some, None, eqb-true, arith, inl, inr}
use Rattle.c_program.specs.declared.action.Local.{Local}
use Rattle.c_program.specs.declared.action.Act.{Act}
use Rattle.c_program.specs.declared.action.Act.TheVariants as act
use Rattle.c_program.specs.declared.expression.Expr.{Expr}
use Rattle.c_program.specs.declared.program.Program.{Program}
use Rattle.c_program.specs.declared.program.Storage.{Storage}
use Rattle.c_program.specs.Syntax.{act_at}
use Rattle.c_program.specs.Types.{is_zero}
use Rattle.c_program.specs.Evaluation.{root_in, root_of}
use Rattle.c_program.specs.Values.{Cell, Value, Number, Of_frame}
use Rattle.c_program.specs.Control.{Control, Spot, Point, goes_on, string_of, Move}
use Rattle.c_program.specs.State.{State, Stand, Running, Frame, top, here}
use Rattle.c_program.specs.Requests.{Turn, Goes, Asks, asked, Store}
use Rattle.c_program.specs.Faults.{is_result}
use Rattle.c_program.specs.Effects.{Sync, Suspends, Finishes, Effect, own_stand, frames_after, is_among, put_result, memory_after, after}
use Rattle.c_program.specs.Step.{Choice}
use Rattle.c_program.specs.Runs.{state_after}
use Rattle.c_program.specs.WellFormed.{IsWellFormed}
use Rattle.c_program.specs.Paths.{Stands, stands_at}
use Rattle.c_program.proofs.Asks.{EachAsk, from_each}
use Rattle.c_program.proofs.Far.{local_cell_of}
use Rattle.c_program.proofs.Onward.{Kind, kind_of, Goes_on, left_by, left_is}
use Rattle.path_simulation.proofs.Plain.{string_left}
use Rattle.path_simulation.specs.Simulates.{LastStep, GoesOn, origin_in}
use Rattle.static_facts.specs.Outcomes.{Remembered, Test, kept_behind, forgets, follows_outcome, remembered_by, is_int_local, test_of, is_tested_side, decided, is_side}
use Rattle.static_facts.specs.Owning.{HasFrame, HasOutcome, OutcomeAt, OutcomeIn}
use Rattle.static_facts.proofs.Tests.{test_decides}
use Rattle.static_facts.proofs.Later.{own_later, own_origin}
use Rattle.static_facts.proofs.MutexAsks.{BranchesBy, branch_asks, is_wait}
use Rattle.static_facts.proofs.Remembering.{outcome_later, turn_is, frames_own, top_is_among}
use Rattle.static_facts.proofs.Locals.{int_local, put_holds}

goes_stand : (program : Program) (step_move : Move) (effect : Effect) (called : ℕ) (control : Control) (frames : List Frame) (sync : Sync) → GoesOn sync
    → own_stand program step_move effect called control frames sync ≡ Running (goes_on program step_move) (frames_after effect.turn called frames) None
goes_stand program move effect called control frames (Suspends c m) g = absurd g
goes_stand program move effect called control frames (Finishes result) g = absurd g
goes_stand program move effect called control frames _ g = refl

pub stores_joined : (xs ys : List Store) (memory : Cell → Option Value) (cell : Cell) → memory_after (xs ++ ys) memory cell ≡ memory_after ys (memory_after xs memory) cell
stores_joined [] ys memory cell = refl
stores_joined (x ∷ xs) ys memory cell = stores_joined xs ys _ cell

module _ (program : Program) (well : IsWellFormed program) (choice : Choice) (run : List Choice) (step : LastStep program choice run) where
  abbrev t : ℕ
  t = choice.thread

  abbrev state : State
  state = state_after program run

  abbrev later : State
  later = after program state t step.move step.effect

  abbrev action : Act
  action = act_at program step.move.action

  abbrev origin : List Spot
  origin = origin_in program run t

  abbrev point : Point
  point = stands_at origin step.by.control step.move

  module _ (goes : GoesOn step.effect.sync) where
    pub stand_later : (later.thread t).stand ≡ Running (goes_on program step.move) (frames_after step.effect.turn state.called step.by.frames) None
    stand_later = own_later program well choice run step ∙ goes_stand program step.move step.effect state.called step.by.control step.by.frames step.effect.sync goes

    abbrev pub Behind : Option Remembered → Type 0
    Behind o = OutcomeAt program later.memory (string_of (goes_on program step.move) ++ origin) (frames_after step.effect.turn state.called step.by.frames) o

    pub behind_in : (o : Option Remembered) → Behind o
        → OutcomeIn program (state_after program (choice ∷ run)).memory ((state_after program (choice ∷ run)).thread t).origin ((state_after program (choice ∷ run)).thread t).stand o
    behind_in o k = subst (λ (s : State). OutcomeIn program s.memory (s.thread t).origin (s.thread t).stand o) (sym step.leads)
        (subst (λ (l : List Spot). OutcomeIn program later.memory l (later.thread t).stand o) (sym (own_origin program well choice run step))
        (subst (λ (s : Stand). OutcomeIn program later.memory origin s o) (sym stand_later) k))

    module _ (function : ℕ) (stands : Stands program function step.by.control) where
      pub kept : (o : Option Remembered) → OutcomeAt program state.memory point.string step.by.frames o → Behind (kept_behind point action o)
      kept None k = tt
      kept (Some r) k = go (forgets point action r) refl
        where
          go : (b : Bool) → forgets point action r ≡ b → Behind (cond b None (Some r))
          go true e = tt
          go false e = outcome_later program well choice run step function stands goes r e k

      -- ---- the outcome of a call goes to its local

      module _ (into : Option Local) (z : ℤ) (is_answer : is_result z ≡ true) (onward : kind_of action ≡ Goes_on) (turns : step.by.ask.turn ≡ Goes)
          (first : List Store) (stored : step.effect.stores ≡ first ++ put_result (top step.by.frames) into (Some (Number z))) where
        string_stays : string_of (goes_on program step.move) ++ origin ≡ point.string
        string_stays = ap (λ (s : Control). string_of s ++ origin) (left_is program step.move.action action step.move.left
            ∙ ap (λ (kind : Kind). left_by program step.move.action kind step.move.left) onward)
            ∙ ap (λ (s : List Spot). s ++ origin) (string_left program function step.by.control step.move stands (choice.pair, step.by.offers))

        frames_stay : frames_after step.effect.turn state.called step.by.frames ≡ step.by.frames
        frames_stay = ap (λ (x : Turn). frames_after x state.called step.by.frames) (turn_is program well choice run step ∙ turns)

        at_top : (i : ℕ) (fs : List Frame) → is_among (top fs) fs ≡ true → HasFrame (length point.string) i point.string fs (top fs)
        at_top i [] e = absurd (cc)
        at_top i (frame ∷ fs) e = inl (refl, refl)

        outcome_of : (local : Local) → into ≡ Some local → is_int_local program local ≡ true → Behind (Some (record { height = length point.string; local = local.object; succeeded = is_zero z }))
        unfolding after
        outcome_of local i e = let n = int_local program local e in record {
          call = top step.by.frames;
          number = z;
          frame = subst (λ (fs : List Frame). HasFrame (length point.string) local.object (string_of (goes_on program step.move) ++ origin) fs (top step.by.frames)) (sym frames_stay)
              (subst (λ (s : List Spot). HasFrame (length point.string) local.object s step.by.frames (top step.by.frames)) (sym string_stays)
              (at_top local.object step.by.frames (top_is_among program well choice run step)));
          holds = ap (λ (s : List Store). memory_after s state.memory (local_cell_of (top step.by.frames) local.object)) (stored ∙ ap (λ (l : Option Local). first ++ put_result (top step.by.frames) l (Some (Number z))) i)
              ∙ stores_joined first _ state.memory (local_cell_of (top step.by.frames) local.object)
              ∙ put_holds local (top step.by.frames) z (memory_after first state.memory) n is_answer;
          is_answer = is_answer;
          is_so = refl;
          automatic = n.automatic;
          unaddressed = n.unaddressed;
        }

        remembered : (l : Option Local) → into ≡ l → Behind (remembered_by program point l (is_zero z))
        remembered None i = tt
        remembered (Some local) i = go (is_int_local program local) refl
          where
            go : (b : Bool) → is_int_local program local ≡ b
                → Behind (cond b (Some (record { height = length point.string; local = local.object; succeeded = is_zero z })) None)
            go true e = outcome_of local i e
            go false e = tt

        pub so_remembered : (b : Bool) → is_zero z ≡ b → Behind (remembered_by program point into b)
        so_remembered b e = subst (λ x. Behind (remembered_by program point into x)) e (remembered into refl)

  -- ---- a branch takes the side that the outcome decides

  module _ (outcome : Option Remembered) (outcome_before : OutcomeAt program state.memory point.string step.by.frames outcome) where
    here_top : (here program state t).frame ≡ top step.by.frames
    here_top = ap top (frames_own program well choice run step)

    top_call : (h i f : ℕ) (string : List Spot) (fs : List Frame) → HasFrame h i string fs f → (length string == h) ≡ true → f ≡ top fs
    top_call h i f string [] k e = absurd k
    top_call h i f string (frame ∷ fs) (inl k) e = sym k.1
    top_call h i f string (frame ∷ fs) (inr k) e = absurd (let q : length string ≡ h = eqb-true (length string) h e in let l : h < length string = k.0 in omega arith)

    local_holds : (r : Remembered) → (o : HasOutcome program state.memory point.string step.by.frames r) → (length point.string == r.height) ≡ true
        → (here program state t).memory (record { root = root_of (here program state t) r.local; path = [] }) ≡ Some (Number o.number)
    local_holds r o e = ap (λ (s : Storage). state.memory (record { root = root_in (here program state t) s r.local; path = [] })) o.automatic
        ∙ ap (λ n. state.memory (record { root = Of_frame n r.local; path = [] })) (here_top ∙ sym (top_call r.height r.local o.call point.string step.by.frames o.frame e)) ∙ o.holds

    side_taken : (r : Remembered) → (o : HasOutcome program state.memory point.string step.by.frames r) → (length point.string == r.height) ≡ true → (e : Expr) → BranchesBy (here program state t) e choice.pair
        → (found : Option Test) → test_of e ≡ found → is_tested_side found r choice.pair ≡ true
    side_taken r o h e b None f = refl
    side_taken r o h e b (Some x) f = at_local (x.local == r.local) refl
      where
        at_side : (s : Option Bool) → x.local ≡ r.local → decided x r.succeeded ≡ s → is_side s choice.pair ≡ true
        at_side None l d = refl
        at_side (Some side) l d = subst (λ y. (choice.pair == cond y 0 1) ≡ true)
            (test_decides (here program state t) r.local o.number o.is_answer (local_holds r o h) e x f l side (ap (decided x) o.is_so ∙ d) b.value b.evals b.side b.is_side) b.goes

        at_local : (y : Bool) → (x.local == r.local) ≡ y → cond y (is_side (decided x r.succeeded) choice.pair) true ≡ true
        at_local true l = at_side (decided x r.succeeded) (eqb-true x.local r.local l) refl
        at_local false l = refl

    branch_follows : (e : Expr) (into : Option Local) → action ≡ act.Branch e into → asked (here program state t) action choice.pair choice.values ≡ Asks step.by.ask
        → (o : Option Remembered) → OutcomeAt program state.memory point.string step.by.frames o → follows_outcome point (act.Branch e into) o choice.pair ≡ true
    branch_follows e into q a None k = refl
    branch_follows e into q a (Some r) k = go (length point.string == r.height) refl
      where
        branches : BranchesBy (here program state t) e choice.pair
        branches = from_each (λ ask. BranchesBy (here program state t) e choice.pair) step.by.ask
            (subst (EachAsk (λ ask. BranchesBy (here program state t) e choice.pair)) (ap (λ (x : Act). asked (here program state t) x choice.pair choice.values) (sym q) ∙ a)
            (branch_asks (here program state t) e into choice.pair choice.values))

        go : (b : Bool) → (length point.string == r.height) ≡ b → cond b (is_tested_side (test_of e) r choice.pair) true ≡ true
        go true h = side_taken r k h e branches (test_of e) refl
        go false h = refl

    pub follows : asked (here program state t) action choice.pair choice.values ≡ Asks step.by.ask → follows_outcome point action outcome choice.pair ≡ true
    follows a = go action refl
      where
        go : (x : Act) → action ≡ x → follows_outcome point x outcome choice.pair ≡ true
        go (act.Branch e into) q = branch_follows e into q a outcome outcome_before
        go x q = refl

pub wait_follows : (point : Point) (pair : ℕ) (outcome : Option Remembered) (a : Act) → is_wait a ≡ true → follows_outcome point a outcome pair ≡ true
wait_follows point pair outcome (act.Branch e into) w = absurd (cc)
wait_follows point pair outcome a w = refl
