-- What a relation between a run and the states of a track has to fulfil, so that each running thread stands where a path comes to.
use Rattle.std.specs.Prelude.{◌≡◌, ℕ, ◌<◌, ◌==◌, false, List, [], ◌∷◌, Option, Some}
use Rattle.c_program.specs.declared.program.Program.{Program}
use Rattle.c_program.specs.Values.{Cell}
use Rattle.c_program.specs.Control.{Control, Move, Spot}
use Rattle.c_program.specs.State.{Running, Frame}
use Rattle.c_program.specs.Effects.{Sync, Suspends, Finishes, Effect, made_by, after}
use Rattle.c_program.specs.Step.{Choice}
use Rattle.c_program.specs.Runs.{IsGoodRun, state_after}
use Rattle.c_program.specs.Paths.{LeadsTo, Stands, stands_at}
use Rattle.c_program.specs.Laws.{IsStepBy}
use Rattle.path_simulation.specs.Tracks.{Track, Comes}

-- the last step of a run, with its meaning
pub record LastStep (program : Program) (choice : Choice) (run : List Choice) : Type 0 where
  pub good : IsGoodRun program run
  pub move : Move
  pub effect : Effect
  pub by : IsStepBy program (state_after program run) choice move effect
  pub leads : state_after program (choice ∷ run) ≡ after program (state_after program run) choice.thread move effect

-- what the thread of the step does next: it waits for its mutex, it ends, or it goes on
abbrev pub GoesOn : Sync → Type 0
GoesOn (Suspends c m) = ⊥
GoesOn (Finishes result) = ⊥
GoesOn _ = Unit {0}

abbrev pub origin_in : Program → List Choice → ℕ → List Spot
origin_in program run thread = ((state_after program run).thread thread).origin

-- where a thread comes to by a path, in a state that fulfils a property
pub record Follows {A : Type 0} (program : Program) (track : Track A) (thread : List Spot) (control : Control) (Fulfils : A → Type 0) : Type 0 where
  pub function : ℕ
  pub leads : LeadsTo program thread thread function
  pub stands : Stands program function control
  pub state : A
  pub comes : Comes program track thread function control state
  pub fulfils : Fulfils state

pub record Simulates {A : Type 0} (program : Program) (track : Track A) (Agrees : ℕ → List Choice → A → Type 0) : Type 0 where
  pub opens : (state : A) × (track.start [] state × Agrees 0 [] state)
  -- a thread that is made; its number is how many there were
  pub fresh : (choice : Choice) (run : List Choice) (step : LastStep program choice run) (function : ℕ) → made_by step.effect.sync ≡ Some function
      → (state : A) × (track.start (origin_in program (choice ∷ run) (state_after program run).made) state
      × Agrees (state_after program run).made (choice ∷ run) state)
  -- the first step of a wait leaves its thread at its point
  pub waits : (choice : Choice) (run : List Choice) (step : LastStep program choice run) (c m : Cell) → step.effect.sync ≡ Suspends c m
      → (state : A) → Agrees choice.thread run state → Agrees choice.thread (choice ∷ run) state
  -- `Stands` gives what else is known of the control
  pub moves : (choice : Choice) (run : List Choice) (step : LastStep program choice run) → GoesOn step.effect.sync
      → (function : ℕ) → Stands program function step.by.control
      → (state : A) → Agrees choice.thread run state
      → (behind : A) × (track.step (stands_at (origin_in program run choice.thread) step.by.control step.move) choice.pair state behind
      × Agrees choice.thread (choice ∷ run) behind)
  pub others : (choice : Choice) (run : List Choice) (step : LastStep program choice run) (thread : ℕ) → (thread == choice.thread) ≡ false
      → thread < (state_after program run).made → (state : A) → Agrees thread run state → Agrees thread (choice ∷ run) state

-- each running thread stands where a path comes to, in a state that agrees with the run
abbrev pub EachIsFollowed : {A : Type 0} → Program → Track A → (ℕ → List Choice → A → Type 0) → Type 0
EachIsFollowed program track Agrees = (run : List Choice) → IsGoodRun program run
    → (thread : ℕ) (control : Control) (frames : List Frame) (inside : Option Cell) → ((state_after program run).thread thread).stand ≡ Running control frames inside
    → Follows program track (origin_in program run thread) control (Agrees thread run)
