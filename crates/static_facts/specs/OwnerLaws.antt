-- What is promised of owners.
use Rattle.std.specs.Prelude.{◌≡◌, ◌≢◌, ◌⊎◌, ℕ, ◌<◌, ◌≤◌, ◌==◌, true, false, min, List, [], ◌∷◌, length, Option, Some, None}
use Rattle.misra_base.specs.declared.guideline.Guideline.TheVariants.{R22_16, R22_17, R22_18}
use Rattle.c_program.specs.declared.program.Program.{Program}
use Rattle.c_program.specs.Values.{Cell, Location, location_of, same_cell}
use Rattle.c_program.specs.Control.{Control, Move, Spot, Point}
use Rattle.c_program.specs.State.{State, Running, Frame, depth_of}
use Rattle.c_program.specs.Step.{Choice}
use Rattle.c_program.specs.Runs.{IsGoodRun, IsRun, state_after, Moment, moment_at}
use Rattle.c_program.specs.Happens.{Before, releases, takes, state_at}
use Rattle.c_program.specs.Breaks.{Breaks, point_of}
use Rattle.c_program.specs.Paths.{Offers, stands_at}
use Rattle.pointer_targets.specs.Names.{Names}
use Rattle.pointer_targets.specs.LibraryObjects.{IsObjectAt}
use Rattle.static_facts.specs.Depths.{MayHold, IsSurelyHeld}
use Rattle.c_program.specs.Faults.{A_mutex}

-- not inside a wait with this mutex, a running thread has of it a depth that, cut at 8, is possible at its point
abbrev pub IsOutside : Cell → Option Cell → Type 0
IsOutside c None = Unit {0}
IsOutside c (Some m) = same_cell m c ≡ false

abbrev pub EachDepthIsPossible : Program → Names → Type 0
EachDepthIsPossible program names = (c : Cell) (location : Location) → IsObjectAt program A_mutex c location → (run : List Choice) → IsGoodRun program run
    → (thread : ℕ) (control : Control) (frames : List Frame) (inside : Option Cell) (move : Move)
    → ((state_after program run).thread thread).stand ≡ Running control frames inside → Offers control move → IsOutside c inside
    → MayHold program names location ((state_after program run).thread thread).origin (stands_at ((state_after program run).thread thread).origin control move)
    (min (depth_of thread ((state_after program run).mutex c)) 8)

-- ---- between two ownerships by different threads stands a release by the first

-- a thread owns the mutex in the state before the step at a position
pub record OwnsAt (program : Program) (run : List Choice) (c : Cell) (thread position : ℕ) : Type 0 where
  pub moment : Moment
  pub at : moment_at program run position ≡ Some moment
  pub owns : (depth_of thread ((state_at program moment).mutex c) == 0) ≡ false

-- a step of the thread at the position releases the mutex, or takes it
pub record ReleasesAt (program : Program) (run : List Choice) (c : Cell) (thread position : ℕ) : Type 0 where
  pub moment : Moment
  pub at : moment_at program run position ≡ Some moment
  pub by : moment.choice.thread ≡ thread
  pub releases_it : releases moment.effect.sync thread ((state_at program moment).mutex c) c ≡ true

pub record TakesAt (program : Program) (run : List Choice) (c : Cell) (thread position : ℕ) : Type 0 where
  pub moment : Moment
  pub at : moment_at program run position ≡ Some moment
  pub by : moment.choice.thread ≡ thread
  pub takes_it : takes moment.effect.sync c ≡ true

-- a thread owns it before the step at i, and another one behind the whole run
abbrev pub IsHandedOver : Program → Type 0
IsHandedOver program = (c : Cell) (run : List Choice) → IsGoodRun program run → (i s t : ℕ) → s ≢ t → OwnsAt program run c s i
    → (depth_of t ((state_after program run).mutex c) == 0) ≡ false
    → (u : ℕ) × ((i ≤ u) × (ReleasesAt program run c s u × ((l : ℕ) × ((u < l) × TakesAt program run c t l))))

-- two steps in different threads, at whose points one mutex is surely held
abbrev pub HeldIsOrdered : Program → Names → Type 0
HeldIsOrdered program names = (c : Cell) (location : Location) → IsObjectAt program A_mutex c location → (run : List Choice) → IsGoodRun program run
    → (i j : ℕ) (first second : Moment) → moment_at program run i ≡ Some first → moment_at program run j ≡ Some second → i < j
    → first.choice.thread ≢ second.choice.thread
    → IsSurelyHeld program names location ((state_at program first).thread first.choice.thread).origin (point_of program first)
    → IsSurelyHeld program names location ((state_at program second).thread second.choice.thread).origin (point_of program second)
    → Before program run i j
