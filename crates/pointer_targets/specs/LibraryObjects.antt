-- Library objects by their sorts, and what the arguments of library calls lead to in a run.
use Rattle.std.specs.Prelude.{◌≡◌, ℕ, Bool, true, false, List, Option, Some, None, slice_get, option_map, unwrap_or}
use Rattle.c_program.specs.declared.types.CType.{CType}
use Rattle.c_program.specs.declared.expression.Expr.{Expr}
use Rattle.c_program.specs.declared.action.Local.{Local}
use Rattle.c_program.specs.declared.action.LibraryCall.{LibraryCall}
use Rattle.c_program.specs.declared.action.Act.TheVariants.{Library}
use Rattle.c_program.specs.declared.program.Program.{Program}
use Rattle.c_program.specs.Syntax.{act_at}
use Rattle.c_program.specs.Types.{same_type}
use Rattle.c_program.specs.Values.{Cell, Location, location_of, type_of_cell}
use Rattle.c_program.specs.Control.{Control, Move, Point}
use Rattle.c_program.specs.Evaluation.{place_at}
use Rattle.c_program.specs.State.{Running, Frame, here}
use Rattle.c_program.specs.Requests.{mutex_type, condition_type, thread_type, key_type}
use Rattle.c_program.specs.Faults.{Sort, A_mutex, A_condition, A_key, A_thread}
use Rattle.c_program.specs.Step.{Choice}
use Rattle.c_program.specs.Runs.{state_after}
use Rattle.c_program.specs.Counters.{arguments_of}
use Rattle.c_program.specs.Paths.{stands_at, Offers}

abbrev pub type_of_sort : Sort → CType
type_of_sort A_mutex = mutex_type
type_of_sort A_condition = condition_type
type_of_sort A_key = key_type
type_of_sort A_thread = thread_type

abbrev pub is_of : Program → CType → Cell → Bool
is_of program t cell = unwrap_or (option_map (same_type t) (type_of_cell program cell)) false

abbrev pub is_of_sort : Program → Sort → Cell → Bool
is_of_sort program sort cell = is_of program (type_of_sort sort) cell

-- an object of the sort at a static location
pub record IsObjectAt (program : Program) (sort : Sort) (object : Cell) (location : Location) : Type 0 where
  pub here : location_of program object ≡ Some location
  pub of_sort : is_of_sort program sort object ≡ true

-- the location of a static library object of the sort
pub record IsLocationOf (program : Program) (sort : Sort) (location : Location) : Type 0 where
  pub cell : Cell
  pub here : location_of program cell ≡ Some location
  pub of_sort : is_of_sort program sort cell ≡ true

-- a thread stands before a library call whose argument of a number leads to an object of a type; whether the step has a
-- meaning plays no part
pub record LeadsToObject (program : Program) (t : CType) (run : List Choice) (thread : ℕ) (point : Point) (argument : ℕ) (object : Cell) : Type 0 where
  pub control : Control
  pub frames : List Frame
  pub move : Move
  pub call : LibraryCall
  pub into : Option Local
  pub expression : Expr
  pub stands : ((state_after program run).thread thread).stand ≡ Running control frames None
  pub offers : Offers control move
  pub here_is : stands_at ((state_after program run).thread thread).origin control move ≡ point
  pub is_call : act_at program move.action ≡ Library call into
  pub has : slice_get (arguments_of call) argument ≡ Some expression
  pub leads : place_at (here program (state_after program run) thread) t expression ≡ Some object
