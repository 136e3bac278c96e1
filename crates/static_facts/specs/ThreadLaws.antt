-- What is promised of threads and library objects.
use Rattle.std.specs.Prelude.{◌≡◌, ℕ, ◌<◌, Bool, true, false, List, [], Option, Some, None}
use Rattle.c_program.specs.declared.program.Program.{Program}
use Rattle.c_program.specs.Values.{Cell, Location, location_of}
use Rattle.c_program.specs.Control.{Control, Move, Spot, Point}
use Rattle.c_program.specs.State.{State, Running, Frame, Mark, Unmarked, Joined, Detached}
use Rattle.c_program.specs.Faults.{Sort}
use Rattle.c_program.specs.Step.{Choice}
use Rattle.c_program.specs.Runs.{IsGoodRun, state_after, Moment, moment_at}
use Rattle.c_program.specs.Happens.{Before, state_at}
use Rattle.misra_base.specs.declared.guideline.Guideline.{Guideline}
use Rattle.misra_base.specs.declared.guideline.Guideline.TheVariants.{R22_11, R22_15}
use Rattle.c_program.specs.Requests.{Request, Joins, Detaches}
use Rattle.c_program.specs.Breaks.{request_by, point_of}
use Rattle.c_program.specs.Paths.{Offers, stands_at}
use Rattle.c_program.specs.Tracks.{life_of}
use Rattle.pointer_targets.specs.Names.{Names}
use Rattle.static_facts.specs.ObjectStates.{ObjectState, Is_unmade, Is_live, Is_joined, Is_detached, IsNoThread}
use Rattle.static_facts.specs.ObjectPaths.{MayBeAlong}
use Rattle.static_facts.specs.Seen.{seen}
use Rattle.static_facts.specs.Lives.{MayLive}
use Rattle.static_facts.specs.Order.{Ordered}
use Rattle.pointer_targets.specs.LibraryObjects.{IsObjectAt}

-- what the initial thread has done with an object is a state that is possible at its point
abbrev pub WhatIsSeenIsPossible : Program → Names → Type 0
WhatIsSeenIsPossible program names = (sort : Sort) (object : Cell) (location : Location) → IsObjectAt program sort object location → (run : List Choice) → IsGoodRun program run
    → (control : Control) (frames : List Frame) (inside : Option Cell) (move : Move)
    → ((state_after program run).thread 0).stand ≡ Running control frames inside → Offers control move
    → MayBeAlong program names sort location (stands_at [] control move) (seen program sort object run)

abbrev pub origin_of : Program → Moment → List Spot
origin_of program moment = ((state_at program moment).thread moment.choice.thread).origin

-- two steps at ordered points happen in order
abbrev pub OrderedHappenInOrder : Program → Names → Type 0
OrderedHappenInOrder program names = (run : List Choice) → IsGoodRun program run
    → (i j : ℕ) (first second : Moment) → moment_at program run i ≡ Some first → moment_at program run j ≡ Some second → i < j
    → Ordered program names (origin_of program first) (point_of program first) (origin_of program second) (point_of program second)
    → Before program run i j

-- ---- the state of a thread object in a run: that of the thread which it holds

abbrev pub state_of_mark : Mark → ObjectState
state_of_mark Unmarked = Is_live
state_of_mark Joined = Is_joined
state_of_mark Detached = Is_detached

abbrev pub state_held : State → Option ℕ → ObjectState
state_held state None = Is_unmade
state_held state (Some thread) = state_of_mark (state.thread thread).mark

abbrev pub state_of_object : State → Cell → ObjectState
state_of_object state object = state_held state (state.holds object)

-- ---- mutexes, condition variables and keys

-- the life of an object in a run, at the point of a thread that stands before a move
abbrev pub LivesHere : Program → Names → Sort → Location → List Choice → ℕ → Control → Move → ObjectState → Type 0
LivesHere program names sort location run thread control move state = let origin = ((state_after program run).thread thread).origin in
    MayLive program names sort location origin (stands_at origin control move) state

-- an object that was never begun may be unmade at the point of each running thread
abbrev pub UnmadeIsPossible : Program → Names → Type 0
UnmadeIsPossible program names = (sort : Sort) → IsNoThread sort → (object : Cell) (location : Location) → IsObjectAt program sort object location → (run : List Choice) → IsGoodRun program run
    → (thread : ℕ) (control : Control) (frames : List Frame) (inside : Option Cell) (move : Move)
    → ((state_after program run).thread thread).stand ≡ Running control frames inside → Offers control move
    → life_of (state_after program run) sort object ≡ 0 → LivesHere program names sort location run thread control move Is_unmade

-- ordered points are so either way
abbrev pub OrderedEitherWay : Program → Names → Type 0
OrderedEitherWay program names = (s t : List Spot) (p q : Point) → Ordered program names s p t q → Ordered program names t q s p
