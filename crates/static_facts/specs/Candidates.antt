-- The library objects that a call takes, and the candidates of its arguments.
use Rattle.std.specs.Prelude.{◌≡◌, ℕ, Bool, true, false, ◌||◌, List, [], ◌∷◌, Some}
use Rattle.std.specs.List.{Contains}
use Rattle.c_program.specs.declared.action.LibraryCall.{LibraryCall}
use Rattle.c_program.specs.declared.action.LibraryCall.TheVariants as lib
use Rattle.c_program.specs.declared.action.Act.{Act}
use Rattle.c_program.specs.declared.action.Act.TheVariants as act
use Rattle.c_program.specs.declared.program.Program.{Program}
use Rattle.c_program.specs.Syntax.{act_at}
use Rattle.c_program.specs.Values.{Cell, Location, location_of}
use Rattle.c_program.specs.Control.{Point}
use Rattle.c_program.specs.Faults.{Sort, A_mutex, A_condition, A_key, A_thread, How, Initialises, Uses, Ends_life}
use Rattle.pointer_targets.specs.Names.{Names, MayName}
use Rattle.pointer_targets.specs.LibraryObjects.{is_of_sort}

-- ---- the library objects that a call takes, by the numbers of its arguments

pub record Taken : Type 0 where
  pub argument : ℕ
  pub how : How
  pub sort : Sort

abbrev pub taken : ℕ → How → Sort → Taken
taken argument how sort = record { argument = argument; how = how; sort = sort }

abbrev pub taken_by : LibraryCall → List Taken
taken_by (lib.ThreadCreate o f e) = taken 0 Uses A_thread ∷ []
taken_by (lib.ThreadJoin o e) = taken 0 Uses A_thread ∷ []
taken_by (lib.ThreadDetach o) = taken 0 Uses A_thread ∷ []
taken_by (lib.MutexInit e kind) = taken 0 Initialises A_mutex ∷ []
taken_by (lib.MutexLock e) = taken 0 Uses A_mutex ∷ []
taken_by (lib.MutexTryLock e) = taken 0 Uses A_mutex ∷ []
taken_by (lib.MutexTimedLock e t) = taken 0 Uses A_mutex ∷ []
taken_by (lib.MutexUnlock e) = taken 0 Uses A_mutex ∷ []
taken_by (lib.MutexDestroy e) = taken 0 Ends_life A_mutex ∷ []
taken_by (lib.ConditionInit e) = taken 0 Initialises A_condition ∷ []
taken_by (lib.ConditionDestroy e) = taken 0 Ends_life A_condition ∷ []
taken_by (lib.ConditionSignal e) = taken 0 Uses A_condition ∷ []
taken_by (lib.ConditionBroadcast e) = taken 0 Uses A_condition ∷ []
taken_by (lib.ConditionWait e d) = taken 0 Uses A_condition ∷ taken 1 Uses A_mutex ∷ []
taken_by (lib.ConditionTimedWait e d t) = taken 0 Uses A_condition ∷ taken 1 Uses A_mutex ∷ []
taken_by (lib.KeyCreate e) = taken 0 Initialises A_key ∷ []
taken_by (lib.KeyGet e) = taken 0 Uses A_key ∷ []
taken_by (lib.KeySet e v) = taken 0 Uses A_key ∷ []
taken_by (lib.KeyDelete e) = taken 0 Ends_life A_key ∷ []
taken_by _ = []

abbrev pub objects_of : Act → List Taken
objects_of (act.Library call into) = taken_by call
objects_of _ = []

-- ---- joins and detachments

abbrev pub is_join : Act → Bool
is_join (act.Library (lib.ThreadJoin o e) into) = true
is_join _ = false

abbrev pub is_detachment : Act → Bool
is_detachment (act.Library (lib.ThreadDetach o) into) = true
is_detachment _ = false

-- a join or a detachment
abbrev pub releases_thread : Act → Bool
releases_thread action = is_join action || is_detachment action

-- ---- candidates

-- a static location that the argument of a number may name, and that is of the library type that this argument takes
pub record IsCandidate (program : Program) (names : Names) (point : Point) (argument : ℕ) (sort : Sort) (location : Location) : Type 0 where
  pub named : MayName names point argument location
  pub cell : Cell
  pub here : location_of program cell ≡ Some location
  pub of_sort : is_of_sort program sort cell ≡ true

-- the call at the point takes a candidate in this way
pub record TakesCandidate (program : Program) (names : Names) (point : Point) (how : How) (sort : Sort) (location : Location) : Type 0 where
  pub argument : ℕ
  pub takes : Contains (objects_of (act_at program point.spot.action)) (taken argument how sort)
  pub candidate : IsCandidate program names point argument sort location
