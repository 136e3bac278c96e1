-- What sound tests of names give in each run, for library objects of each sort.
use Rattle.std.proofs.Common.{◌≡◌, refl, true, ℕ, List, Some}
use Rattle.c_program.specs.declared.program.Program.{Program}
use Rattle.c_program.specs.Types.{holds_library}
use Rattle.c_program.specs.Values.{Cell, Location, location_of}
use Rattle.c_program.specs.Control.{Point}
use Rattle.c_program.specs.Faults.{Sort, A_mutex, A_condition, A_key, A_thread}
use Rattle.c_program.specs.Step.{Choice}
use Rattle.c_program.specs.Runs.{IsGoodRun}
use Rattle.c_program.specs.WellFormed.{IsWellFormed}
use Rattle.pointer_targets.specs.Names.{Names, MayName, IsExact}
use Rattle.pointer_targets.specs.LibraryObjects.{LeadsToObject, type_of_sort, is_of_sort}
use Rattle.pointer_targets.specs.Candidates.{NamesAreSound}
use Rattle.pointer_targets.specs.Laws.{NoLocalLibrary}
use Rattle.pointer_targets.proofs.Candidates.{named, exactly_named}
use Rattle.pointer_targets.proofs.Libraries
use Rattle.pointer_targets.proofs.Sites.{static_led}

is_library : (program : Program) (sort : Sort) → holds_library program (type_of_sort sort) ≡ true
is_library program A_mutex = refl
is_library program A_condition = refl
is_library program A_key = refl
is_library program A_thread = refl

-- library objects of one sort and location are one cell
pub one_cell : (program : Program) → IsWellFormed program → (sort : Sort) (a b : Cell) (location : Location) → is_of_sort program sort a ≡ true → is_of_sort program sort b ≡ true
    → location_of program a ≡ Some location → location_of program b ≡ Some location → a ≡ b
one_cell program well sort a b location e f g h = Libraries.one_cell program well (type_of_sort sort) (is_library program sort) a b location e f g h

pub record Told (program : Program) (names : Names) : Type 0 where
  pub may_name : (run : List Choice) (thread : ℕ) (point : Point) (sort : Sort) (argument : ℕ) (object : Cell) (location : Location) → IsGoodRun program run
      → LeadsToObject program (type_of_sort sort) run thread point argument object → location_of program object ≡ Some location → MayName names point argument location
  pub exact : (run : List Choice) (thread : ℕ) (point : Point) (sort : Sort) (argument : ℕ) (object : Cell) (location : Location) → IsGoodRun program run
      → LeadsToObject program (type_of_sort sort) run thread point argument object → IsExact names point argument location → location_of program object ≡ Some location
  pub one_cell : (sort : Sort) (a b : Cell) (location : Location) → is_of_sort program sort a ≡ true → is_of_sort program sort b ≡ true
      → location_of program a ≡ Some location → location_of program b ≡ Some location → a ≡ b

pub told : (program : Program) → IsWellFormed program → (names : Names) → NamesAreSound program names → Told program names
told program well names sound = record {
  may_name = λ run thread point sort argument object location good lead e. named program well names sound run thread point sort argument object location good lead e;
  exact = λ run thread point sort argument object location good lead e. exactly_named program well names sound run thread point sort argument object location good lead e;
  one_cell = one_cell program well;
}

-- each library object that an argument leads to is static
abbrev pub ObjectsAreStatic : Program → Type 0
ObjectsAreStatic program = (run : List Choice) (thread : ℕ) (point : Point) (sort : Sort) (argument : ℕ) (object : Cell) → IsGoodRun program run
    → LeadsToObject program (type_of_sort sort) run thread point argument object → (location : Location) × (location_of program object ≡ Some location)

pub are_static : (program : Program) → IsWellFormed program → NoLocalLibrary program → ObjectsAreStatic program
are_static program well none run thread point sort argument object good lead = static_led program well none (type_of_sort sort) (is_library program sort) run thread point argument object good lead
