-- "Control and pointers sound", of pointers: what a run holds and names, points-to allows.
use Rattle.std.specs.Prelude.{◌≡◌, ℕ, Bool, true, false, not, ◌&&◌, List, [], ◌++◌, Option, Some, None, slice_get}
use Rattle.c_program.specs.declared.types.CType.{CType}
use Rattle.c_program.specs.declared.expression.Expr.{Expr}
use Rattle.std.specs.List.{list_any}
use Rattle.c_program.specs.declared.program.Object.{Object}
use Rattle.c_program.specs.declared.program.Storage.{Storage}
use Rattle.c_program.specs.declared.program.Storage.TheVariants as storage
use Rattle.c_program.specs.declared.program.Program.{Program}
use Rattle.c_program.specs.Types.{holds_library}
use Rattle.c_program.specs.Syntax.{act_at}
use Rattle.c_program.specs.Values.{Root, Static, Of_thread, Of_frame, Cell, Location, Address, location_of, is_static, is_data_cell}
use Rattle.c_program.specs.Control.{Control, Move, Point, string_of, rounds_of, Spot, spot_in}
use Rattle.c_program.specs.Evaluation.{eval}
use Rattle.c_program.specs.State.{State, Running, Ended, Frame, Live, frames_of, here}
use Rattle.c_program.specs.Effects.{Effect, is_among}
use Rattle.c_program.specs.Requests.{Load, Store, Sets}
use Rattle.c_program.specs.Happens.{load_reads, store_writes}
use Rattle.c_program.specs.Faults.{Sort}
use Rattle.c_program.specs.Laws.{IsStepBy}
use Rattle.c_program.specs.Breaks.{Conflict}
use Rattle.c_program.specs.Step.{Choice}
use Rattle.c_program.specs.Runs.{IsGoodRun, state_after}
use Rattle.c_program.specs.Paths.{stands_at}
use Rattle.pointer_targets.specs.Places.{place_of}
use Rattle.pointer_targets.specs.PointsTo.{MayPointTo, Holds, Keeps, Results}
use Rattle.pointer_targets.specs.LibraryObjects.{LeadsToObject, type_of_sort, is_of}
use Rattle.pointer_targets.specs.Manners.{Manner, AreInConflict, MayAccessAt}
use Rattle.pointer_targets.specs.Names.{Names}
use Rattle.pointer_targets.specs.Accesses.{MayTouch}
use Rattle.pointer_targets.specs.Escapes.{NoneEscapes}
use Rattle.pointer_targets.specs.Candidates.{IsCandidateOfType, IsExact, NamesAreSound}

-- ---- what is held

abbrev pub EachAddressIsAllowed : Program → Type 0
EachAddressIsAllowed program = (run : List Choice) → IsGoodRun program run → (cell to : Cell) → (state_after program run).memory cell ≡ Some (Address to)
    → Holds program (place_of (state_after program run).string cell) (place_of (state_after program run).string to)

abbrev pub EachKeyIsAllowed : Program → Type 0
EachKeyIsAllowed program = (run : List Choice) → IsGoodRun program run → (key to : Cell) (pointers : _) (thread : ℕ) → (state_after program run).key key ≡ Live pointers → pointers thread ≡ Address to
    → Keeps program (place_of (state_after program run).string key) (place_of (state_after program run).string to)

abbrev pub EachResultIsAllowed : Program → Type 0
EachResultIsAllowed program = (run : List Choice) → IsGoodRun program run → (thread : ℕ) (to : Cell) → ((state_after program run).thread thread).stand ≡ Ended (Some (Address to))
    → Results program (place_of (state_after program run).string to)

-- ---- what is named

-- where a thread stands, each expression names what points-to allows there
abbrev pub EachNameIsAllowed : Program → Type 0
EachNameIsAllowed program = (run : List Choice) → IsGoodRun program run → (thread : ℕ) (control : Control) (frames : List Frame) (inside : Option Cell)
    → ((state_after program run).thread thread).stand ≡ Running control frames inside
    → (e : Expr) (to : Cell) → eval (here program (state_after program run) thread) e ≡ Some (Address to)
    → MayPointTo program (string_of control ++ ((state_after program run).thread thread).origin) (rounds_of control) e (place_of (state_after program run).string to)

-- what an argument of a library call leads to is a candidate of its type, and where the argument is exact, it is that location
abbrev pub WhatIsLedToIsACandidate : Program → Type 0
WhatIsLedToIsACandidate program = (t : CType) (run : List Choice) (thread : ℕ) (point : Point) (argument : ℕ) (object : Cell) (location : Location) → IsGoodRun program run
    → LeadsToObject program t run thread point argument object → location_of program object ≡ Some location → IsCandidateOfType program t point argument location

abbrev pub ExactIsLedTo : Program → Type 0
ExactIsLedTo program = (t : CType) (run : List Choice) (thread : ℕ) (point : Point) (argument : ℕ) (object : Cell) (location : Location) → IsGoodRun program run → t.sizes ≡ []
    → LeadsToObject program t run thread point argument object → IsExact program point argument location → location_of program object ≡ Some location

-- ---- by tests

abbrev pub WhatIsLedToIsNamed : Program → Type 0
WhatIsLedToIsNamed program = (names : Names) → NamesAreSound program names
    → (run : List Choice) (thread : ℕ) (point : Point) (sort : Sort) (argument : ℕ) (object : Cell) (location : Location) → IsGoodRun program run
    → LeadsToObject program (type_of_sort sort) run thread point argument object → location_of program object ≡ Some location → names.may_name point argument location ≡ true

abbrev pub WhatIsExactIsLedTo : Program → Type 0
WhatIsExactIsLedTo program = (names : Names) → NamesAreSound program names
    → (run : List Choice) (thread : ℕ) (point : Point) (sort : Sort) (argument : ℕ) (object : Cell) (location : Location) → IsGoodRun program run
    → LeadsToObject program (type_of_sort sort) run thread point argument object → names.is_exact point argument location ≡ true → location_of program object ≡ Some location

-- ---- library objects are static, and each is a location of its own

-- no object of automatic or thread storage is or holds a library object: where Rule 22.13 has no finding
abbrev pub holds_locally : Program → Object → Bool
holds_locally program o = not (is_static_storage o.storage) && holds_library program o.c_type
  where
    is_static_storage : Storage → Bool
    is_static_storage storage.Static = true
    is_static_storage _ = false

abbrev pub NoLocalLibrary : Program → Type 0
NoLocalLibrary program = list_any (holds_locally program) program.objects ≡ false

abbrev pub StaticIsLedTo : Program → Type 0
StaticIsLedTo program = NoLocalLibrary program → (t : CType) → holds_library program t ≡ true
    → (run : List Choice) (thread : ℕ) (point : Point) (argument : ℕ) (object : Cell) → IsGoodRun program run
    → LeadsToObject program t run thread point argument object → (location : Location) × (location_of program object ≡ Some location)

-- each element of an array of library objects is a location of its own
abbrev pub OneCellIsMeant : Program → Type 0
OneCellIsMeant program = (t : CType) → holds_library program t ≡ true → (a b : Cell) (location : Location) → is_of program t a ≡ true → is_of program t b ≡ true
    → location_of program a ≡ Some location → location_of program b ≡ Some location → a ≡ b

-- ---- where nothing escapes, no local address is reached by another thread

-- the object is static, of the thread's storage, or of no open call of another thread
abbrev pub IsOwn : State → ℕ → Root → Type 0
IsOwn state thread (Static object) = Unit {0}
IsOwn state thread (Of_thread other object) = other ≡ thread
IsOwn state thread (Of_frame call object) = (other : ℕ) → is_among call (frames_of (state.thread other).stand) ≡ true → other ≡ thread

abbrev pub NoneIsReachedByOthers : Program → Type 0
NoneIsReachedByOthers program = NoneEscapes program → (run : List Choice) → IsGoodRun program run
    → (thread : ℕ) (control : Control) (frames : List Frame) (inside : Option Cell) → ((state_after program run).thread thread).stand ≡ Running control frames inside
    → (e : Expr) (to : Cell) → eval (here program (state_after program run) thread) e ≡ Some (Address to) → IsOwn (state_after program run) thread to.root

-- a static object, a key and the result of a thread have addresses of static objects alone
abbrev pub StaticHoldsStatic : Program → Type 0
StaticHoldsStatic program = NoneEscapes program → (run : List Choice) → IsGoodRun program run → (cell to : Cell) → is_static cell ≡ true → (state_after program run).memory cell ≡ Some (Address to) → is_static to ≡ true

abbrev pub KeysHoldStatic : Program → Type 0
KeysHoldStatic program = NoneEscapes program → (run : List Choice) → IsGoodRun program run → (key to : Cell) (pointers : _) (thread : ℕ) → (state_after program run).key key ≡ Live pointers → pointers thread ≡ Address to → is_static to ≡ true

abbrev pub ResultsAreStatic : Program → Type 0
ResultsAreStatic program = NoneEscapes program → (run : List Choice) → IsGoodRun program run → (thread : ℕ) (to : Cell) → ((state_after program run).thread thread).stand ≡ Ended (Some (Address to)) → is_static to ≡ true

-- ---- what a step accesses of static data cells, its action may touch

abbrev pub stored_atomically : Store → Bool
stored_atomically (Sets to value is_atomic) = is_atomic
stored_atomically _ = false

abbrev pub EachReadIsAllowed : Program → Type 0
EachReadIsAllowed program = (run : List Choice) → IsGoodRun program run → (choice : Choice) (move : Move) (effect : Effect) (step : IsStepBy program (state_after program run) choice move effect)
    → (cell : Cell) (location : Location) → location_of program cell ≡ Some location → is_data_cell program cell ≡ true → (number : ℕ) (load : Load) → slice_get effect.loads number ≡ Some load → load_reads cell load ≡ true
    → MayTouch program (string_of step.control ++ ((state_after program run).thread choice.thread).origin) (spot_in step.control move.action) (act_at program move.action) false load.is_atomic location

abbrev pub EachWriteIsAllowed : Program → Type 0
EachWriteIsAllowed program = (run : List Choice) → IsGoodRun program run → (choice : Choice) (move : Move) (effect : Effect) (step : IsStepBy program (state_after program run) choice move effect)
    → (cell : Cell) (location : Location) → location_of program cell ≡ Some location → is_data_cell program cell ≡ true → (number : ℕ) (store : Store) → slice_get effect.stores number ≡ Some store → store_writes cell store ≡ true
    → MayTouch program (string_of step.control ++ ((state_after program run).thread choice.thread).origin) (spot_in step.control move.action) (act_at program move.action) true (stored_atomically store) location

-- the actions of two points may access the region, one of them writing, and not both atomic
pub record MayConflict (program : Program) (point other : Point) (region : Location) : Type 0 where
  pub manner : Manner
  pub other_manner : Manner
  pub conflict : AreInConflict manner other_manner
  pub first : MayAccessAt program point region manner
  pub second : MayAccessAt program other region other_manner

-- two steps, of one run or of two of its beginnings, that conflict at a static data cell
abbrev pub ConflictsAreTold : Program → Type 0
ConflictsAreTold program = (run : List Choice) → IsGoodRun program run → (choice : Choice) (move : Move) (effect : Effect) (step : IsStepBy program (state_after program run) choice move effect)
    → (longer : List Choice) → IsGoodRun program longer → (next : Choice) (onward : Move) (change : Effect) (last : IsStepBy program (state_after program longer) next onward change)
    → (cell : Cell) (location : Location) → location_of program cell ≡ Some location → is_data_cell program cell ≡ true → Conflict effect change cell
    → MayConflict program (stands_at ((state_after program run).thread choice.thread).origin step.control move) (stands_at ((state_after program longer).thread next.thread).origin last.control onward) location
