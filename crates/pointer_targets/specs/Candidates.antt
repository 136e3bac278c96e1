-- Which locations an argument may name, and where it is exact.
use Rattle.std.specs.Prelude.{◌≡◌, ℕ, List, [], Option, Some, slice_get}
use Rattle.c_program.specs.declared.types.CType.{CType}
use Rattle.c_program.specs.declared.expression.Expr.{Expr}
use Rattle.c_program.specs.declared.action.Local.{Local}
use Rattle.c_program.specs.declared.action.LibraryCall.{LibraryCall}
use Rattle.c_program.specs.declared.action.Act.TheVariants.{Library}
use Rattle.c_program.specs.declared.program.Program.{Program}
use Rattle.c_program.specs.Syntax.{act_at}
use Rattle.c_program.specs.Values.{Location}
use Rattle.c_program.specs.Control.{Spot, Point}
use Rattle.c_program.specs.Counters.{arguments_of}
use Rattle.c_program.specs.Paths.{IsPoint}
use Rattle.pointer_targets.specs.Places.{Place, type_of_place, location_of_place}
use Rattle.pointer_targets.specs.PointsTo.{MayPointTo, IsOfType}
use Rattle.pointer_targets.specs.Names.{Names}
use Rattle.pointer_targets.specs.Tellings.{MissesNone, IsRight, Tells}

-- an argument of the library call at a point, by its number from 0
pub record IsArgument (program : Program) (point : Point) (argument : ℕ) (e : Expr) : Type 0 where
  pub call : LibraryCall
  pub into : Option Local
  pub is_call : act_at program point.spot.action ≡ Library call into
  pub has : slice_get (arguments_of call) argument ≡ Some e

pub record MayMean (program : Program) (point : Point) (argument : ℕ) (place : Place) : Type 0 where
  pub expression : Expr
  pub is : IsArgument program point argument expression
  pub names : MayPointTo program point.string point.spot.rounds expression place

-- the static location of a place
abbrev pub LiesAt : Program → Place → Location → Type 0
LiesAt program place location = location_of_place program place ≡ Some location

-- an array is no location
pub record IsNoArray (program : Program) (place : Place) : Type 0 where
  pub own : CType
  pub has_type : type_of_place program place ≡ Some own
  pub no_sizes : own.sizes ≡ []

pub record MayName (program : Program) (point : Point) (argument : ℕ) (location : Location) : Type 0 where
  pub place : Place
  pub means : MayMean program point argument place
  pub no_array : IsNoArray program place
  pub at : LiesAt program place location

-- those of the type that the argument takes
pub record IsCandidateOfType (program : Program) (t : CType) (point : Point) (argument : ℕ) (location : Location) : Type 0 where
  pub place : Place
  pub means : MayMean program point argument place
  pub of_type : IsOfType program t place
  pub at : LiesAt program place location

-- it may name the location and no other, automatic ones included
pub record IsExact (program : Program) (point : Point) (argument : ℕ) (location : Location) : Type 0 where
  pub may : MayName program point argument location
  pub alone : (place : Place) → MayMean program point argument place → IsNoArray program place → LiesAt program place location

-- ---- as tests, at the points of the program

-- each test tells its definition
pub record NamesAreExact (program : Program) (names : Names) : Type 0 where
  pub may_name : (thread : List Spot) (point : Point) (argument : ℕ) (location : Location) → IsPoint program thread point
      → Tells (names.may_name point argument location) (MayName program point argument location)
  pub is_exact : (thread : List Spot) (point : Point) (argument : ℕ) (location : Location) → IsPoint program thread point
      → Tells (names.is_exact point argument location) (IsExact program point argument location)

-- the half of it that silence needs: what may be named is not missed, and what is called exact is
pub record NamesAreSound (program : Program) (names : Names) : Type 0 where
  pub may_name : (thread : List Spot) (point : Point) (argument : ℕ) (location : Location) → IsPoint program thread point
      → MissesNone (names.may_name point argument location) (MayName program point argument location)
  pub is_exact : (thread : List Spot) (point : Point) (argument : ℕ) (location : Location) → IsPoint program thread point
      → IsRight (names.is_exact point argument location) (IsExact program point argument location)
