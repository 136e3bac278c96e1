-- A thread inside a wait stands before that wait, whose argument may name the mutex that it takes again.
use Rattle.std.proofs.Common.{◌≡◌, refl, sym, subst, ap, ◌∙◌, false, ◌==◌, ℕ, ℤ, ◌<◌, List, [], ◌∷◌, Option, Some, None}
use Rattle.c_program.specs.declared.program.Program.{Program}
use Rattle.c_program.specs.Syntax.{act_at}
use Rattle.c_program.specs.Values.{Cell}
use Rattle.c_program.specs.Control.{Control, Move, Spot}
use Rattle.c_program.specs.State.{State, Stand, Running, Frame, opening, here}
use Rattle.c_program.specs.Requests.{Request, Waits, Retakes, Asks}
use Rattle.c_program.specs.Faults.{A_mutex}
use Rattle.c_program.specs.Effects.{Sync, Suspends, Finishes, own_stand, made_by, after}
use Rattle.c_program.specs.Step.{Choice, asked_by}
use Rattle.c_program.specs.Runs.{IsGoodRun, state_after}
use Rattle.c_program.specs.Breaks.{request_in}
use Rattle.c_program.specs.WellFormed.{IsWellFormed}
use Rattle.c_program.specs.Paths.{Offers, stands_at}
use Rattle.c_program.specs.Laws.{Names as RequestNames}
use Rattle.c_program.proofs.Asks.{EachAsk, from_each}
use Rattle.c_program.proofs.Named.{named}
use Rattle.c_program.proofs.Stays.{others, origins}
use Rattle.path_simulation.specs.Tracks.{Track}
use Rattle.path_simulation.specs.Simulates.{LastStep, GoesOn, Simulates, origin_in}
use Rattle.path_simulation.proofs.Simulated.{simulated}
use Rattle.static_facts.proofs.Later.{own_later, own_origin, lt_differs, new_stand}
use Rattle.static_facts.proofs.MutexAsks.{RetakesBy, retakes_by}
use Rattle.static_facts.proofs.Remembering.{sync_is}
use Rattle.static_facts.specs.Facts.{Facts}
use Rattle.guideline_findings.specs.Graph.{takes_mutex}
use Rattle.guideline_findings.proofs.Given.{Premises}
use Rattle.guideline_findings.proofs.Candidate.{Located, located_at}
use Rattle.guideline_findings.proofs.Asked.{wait_leads, suspends_by}

-- ---- a step whose request retakes nothing is made outside a wait

module _ (program : Program) (choice : Choice) (run : List Choice) (step : LastStep program choice run) where
  pub outside : (request : Request) → step.by.ask.request ≡ request → ((m : Cell) (z : ℤ) → request ≡ Retakes m z → ⊥)
      → (((state_after program run).thread choice.thread).stand ≡ Running step.by.control step.by.frames None)
      × RequestNames (here program (state_after program run) choice.thread) (act_at program step.move.action) request
  outside request e unlike = go step.by.inside step.by.stands step.by.asks
    where
      state : State
      state = state_after program run

      go : (inside : Option Cell) → ((state_after program run).thread choice.thread).stand ≡ Running step.by.control step.by.frames inside
          → asked_by program (state_after program run) choice step.move inside ≡ Asks step.by.ask
          → (((state_after program run).thread choice.thread).stand ≡ Running step.by.control step.by.frames None)
          × RequestNames (here program (state_after program run) choice.thread) (act_at program step.move.action) request
      go (Some x) s a = let r = from_each (RetakesBy (act_at program step.move.action) x) step.by.ask
          (subst (EachAsk (RetakesBy (act_at program step.move.action) x)) a (retakes_by (act_at program step.move.action) x choice.values)) in
          absurd (unlike x r.z (sym e ∙ r.asks))
      go None s a = (
        s,
        subst (λ (q : Request). RequestNames (here program (state_after program run) choice.thread) (act_at program step.move.action) q) e
            (named (here program (state_after program run) choice.thread) (act_at program step.move.action) choice.pair choice.values step.by.ask.request (ap request_in a)),
      )

-- ---- the wait that a thread is in

pub record WaitsAt (program : Program) (facts : Facts) (origin : List Spot) (control : Control) (m : Cell) : Type 0 where
  pub move : Move
  pub offers : Offers control move
  pub takes : takes_mutex (act_at program move.action) ≡ Some 1
  pub mutex : Located program facts (stands_at origin control move) 1 A_mutex m

abbrev Alone : Track (Unit {0})
Alone = record { start = λ thread state. Unit {0}; step = λ point pair before behind. Unit {0} }

-- in a stand inside a wait
abbrev pub WaitsIn : Program → Facts → List Spot → Stand → Type 0
WaitsIn program facts origin (Running control frames (Some m)) = WaitsAt program facts origin control m
WaitsIn program facts origin _ = Unit {0}

module _ (program : Program) (well : IsWellFormed program) (facts : Facts) (premises : Premises program facts) where
  abbrev Agrees : ℕ → List Choice → Unit {0} → Type 0
  Agrees thread run state = WaitsIn program facts (origin_in program run thread) ((state_after program run).thread thread).stand

  going : (origin : List Spot) (control : Control) (frames : List Frame) → WaitsIn program facts origin (Running control frames None)
  going origin control frames = tt

  module _ (choice : Choice) (run : List Choice) (step : LastStep program choice run) where
    abbrev t : ℕ
    t = choice.thread

    abbrev state : State
    state = state_after program run

    abbrev later : State
    later = after program state t step.move step.effect

    to_run : (thread : ℕ) → WaitsIn program facts (later.thread thread).origin (later.thread thread).stand → Agrees thread (choice ∷ run) tt
    to_run thread w = subst (λ (s : State). WaitsIn program facts (s.thread thread).origin (s.thread thread).stand) (sym step.leads) w

    own_waits : (sync : Sync) → step.effect.sync ≡ sync → WaitsIn program facts (state.thread t).origin (own_stand program step.move step.effect state.called step.by.control step.by.frames sync)
        → Agrees t (choice ∷ run) tt
    own_waits sync e w = to_run t (subst (λ (o : List Spot). WaitsIn program facts o (later.thread t).stand) (sym (own_origin program well choice run step))
        (subst (λ (s : Stand). WaitsIn program facts (state.thread t).origin s)
        (sym (own_later program well choice run step ∙ ap (λ (x : Sync). own_stand program step.move step.effect state.called step.by.control step.by.frames x) e)) w))

    suspended : (c m : Cell) → step.effect.sync ≡ Suspends c m → WaitsAt program facts (state.thread t).origin step.by.control m
    suspended c m e =
        let q = suspends_by state step.by.frames step.by.ask.turn step.by.ask.request c m (sym (sync_is program well choice run step) ∙ e) in
        let o = outside program choice run step (Waits c m) q (λ x z f. cc) in
        let w = wait_leads (here program state t) (act_at program step.move.action) c m o.1 in record {
          move = step.move;
          offers = (choice.pair, step.by.offers);
          takes = w.takes;
          mutex = located_at program facts premises run step.good t step.by.control step.by.frames step.move 1 A_mutex m o.0 (choice.pair, step.by.offers) w.mutex;
        }

    on_going : (sync : Sync) → GoesOn sync → step.effect.sync ≡ sync → Agrees t (choice ∷ run) tt
    on_going (Suspends c m) g e = absurd g
    on_going (Finishes result) g e = absurd g
    on_going sync g e = own_waits sync e tt

    other_waits : (thread : ℕ) → (thread == t) ≡ false → thread < state.made → Agrees thread run tt → Agrees thread (choice ∷ run) tt
    other_waits thread o l w = to_run thread (subst (λ (s : Stand). WaitsIn program facts (later.thread thread).origin s)
        (sym (others program state t step.move step.effect thread o (lt_differs thread state.made l)))
        (subst (λ (p : List Spot). WaitsIn program facts p (state.thread thread).stand) (sym (origins program state t step.move step.effect thread (lt_differs thread state.made l))) w))

    made_waits : (function : ℕ) → made_by step.effect.sync ≡ Some function → Agrees state.made (choice ∷ run) tt
    made_waits function e = to_run state.made (subst (λ (s : Stand). WaitsIn program facts (later.thread state.made).origin s) (sym (new_stand program well choice run step function e)) tt)

  opens : Agrees 0 [] tt
  unfolding state_after opening
  opens = tt

  simulates : Simulates program Alone Agrees
  simulates = record {
    opens = (tt, (tt, opens));
    fresh = λ choice run step function e. (tt, (tt, made_waits choice run step function e));
    waits = λ choice run step c m e state w. own_waits choice run step (Suspends c m) e (suspended choice run step c m e);
    moves = λ choice run step g function s state w. (tt, (tt, on_going choice run step step.effect.sync g refl));
    others = λ choice run step thread o l state w. other_waits choice run step thread o l w;
  }

  pub waits_at : (run : List Choice) → IsGoodRun program run → (thread : ℕ) (control : Control) (frames : List Frame) (m : Cell)
      → ((state_after program run).thread thread).stand ≡ Running control frames (Some m) → WaitsAt program facts ((state_after program run).thread thread).origin control m
  waits_at run good thread control frames m e = let f = simulated program well Alone Agrees simulates run good thread control frames (Some m) e in
      subst (λ (s : Stand). WaitsIn program facts ((state_after program run).thread thread).origin s) e f.fulfils
