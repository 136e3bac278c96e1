-- What is promised of thread objects, lives and joins, where the rules on them have no finding.
use Rattle.std.specs.Prelude.{◌≡◌, ℕ, ◌<◌, Bool, true, false, List, [], Option, Some, None}
use Rattle.c_program.specs.declared.program.Program.{Program}
use Rattle.c_program.specs.Values.{Cell, Location, location_of}
use Rattle.c_program.specs.Control.{Control, Move, Spot, Point}
use Rattle.c_program.specs.State.{State, Running, Frame, Mark, Unmarked, Joined, Detached}
use Rattle.c_program.specs.Faults.{Sort, A_thread}
use Rattle.c_program.specs.Step.{Choice}
use Rattle.c_program.specs.Runs.{IsGoodRun, state_after, Moment, moment_at}
use Rattle.c_program.specs.Happens.{Before, state_at}
use Rattle.misra_base.specs.declared.guideline.Guideline.{Guideline}
use Rattle.misra_base.specs.declared.guideline.Guideline.TheVariants.{R22_11, R22_15}
use Rattle.c_program.specs.Requests.{Request, Joins, Detaches}
use Rattle.c_program.specs.Breaks.{request_by, point_of}
use Rattle.c_program.specs.Paths.{Offers, stands_at}
use Rattle.c_program.specs.Tracks.{life_of}
use Rattle.pointer_targets.specs.Names.{Names}
use Rattle.static_facts.specs.ObjectStates.{Is_live, Is_dead, IsNoThread}
use Rattle.static_facts.specs.ObjectPaths.{MayBeAlong}
use Rattle.static_facts.specs.Seen.{seen}
use Rattle.guideline_findings.specs.Threads.{ReleasesOutside}
use Rattle.guideline_findings.specs.Findings.{rule_of_sort, IsClean}
use Rattle.static_facts.specs.ThreadStates.{IsMadeOutside, MayBe}
use Rattle.pointer_targets.specs.LibraryObjects.{IsObjectAt}
use Rattle.static_facts.specs.Facts.{Facts}
use Rattle.static_facts.specs.ThreadLaws.{LivesHere, state_of_object}

-- ---- thread objects

-- no call of another thread creates, joins or detaches by the object
abbrev pub NoneOutside : Program → Names → Location → Type 0
NoneOutside program names object = (IsMadeOutside program names object → ⊥) × ((thread : List Spot) (point : Point) → ReleasesOutside program names thread point object → ⊥)

-- where the initial thread alone creates, joins and detaches by it,
-- the state of a thread object in a run is one that is possible at the initial thread's point
abbrev pub ThreadStatesArePossible : Program → Names → Type 0
ThreadStatesArePossible program names = (object : Cell) (location : Location) → IsObjectAt program A_thread object location → NoneOutside program names location
    → (run : List Choice) → IsGoodRun program run
    → (control : Control) (frames : List Frame) (inside : Option Cell) (move : Move)
    → ((state_after program run).thread 0).stand ≡ Running control frames inside → Offers control move
    → MayBe program names location [] (stands_at [] control move) (state_of_object (state_after program run) object)

-- ---- mutexes, condition variables and keys

-- where Rule 22.14 (of a key: 22.20) has no finding, an object that the initial thread finds live may be live there
abbrev pub LiveWhereClean : Program → Facts → Type 0
LiveWhereClean program facts = (sort : Sort) (rule : Guideline) → rule_of_sort sort ≡ Some rule → IsClean program facts rule
    → (object : Cell) (location : Location) → IsObjectAt program sort object location
    → (run : List Choice) → IsGoodRun program run → (control : Control) (frames : List Frame) (inside : Option Cell) (move : Move)
    → ((state_after program run).thread 0).stand ≡ Running control frames inside → Offers control move
    → life_of (state_after program run) sort object ≡ 1 → LivesHere program facts.names sort location run 0 control move Is_live

-- where Rule 22.15 has no finding, one that it finds dead may be dead there
abbrev pub DeadWhereClean : Program → Facts → Type 0
DeadWhereClean program facts = (sort : Sort) → IsNoThread sort → IsClean program facts R22_15
    → (object : Cell) (location : Location) → IsObjectAt program sort object location
    → (run : List Choice) → IsGoodRun program run → (control : Control) (frames : List Frame) (inside : Option Cell) (move : Move)
    → ((state_after program run).thread 0).stand ≡ Running control frames inside → Offers control move
    → life_of (state_after program run) sort object ≡ 2 → LivesHere program facts.names sort location run 0 control move Is_dead

-- ---- joins and detachments

abbrev pub is_release : Request → Bool
is_release (Joins object result) = true
is_release (Detaches object) = true
is_release _ = false

-- where Rule 22.11 has no finding, only the initial thread joins and detaches, be the step undefined or not
abbrev pub OnlyMainReleases : Program → Facts → Type 0
OnlyMainReleases program facts = IsClean program facts R22_11 → (run : List Choice) → IsGoodRun program run
    → (choice : Choice) (request : Request) → request_by program (state_after program run) choice ≡ Some request → is_release request ≡ true → choice.thread ≡ 0
