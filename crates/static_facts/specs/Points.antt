-- The points of threads: those that a path reaches, those that create a thread, and the thread that one makes.
use Rattle.std.specs.Prelude.{◌≡◌, ℕ, Bool, true, false, List, ◌∷◌}
use Rattle.c_program.specs.declared.action.LibraryCall.TheVariants.{ThreadCreate}
use Rattle.c_program.specs.declared.action.Act.{Act}
use Rattle.c_program.specs.declared.action.Act.TheVariants.{Library}
use Rattle.c_program.specs.declared.program.Program.{Program}
use Rattle.c_program.specs.Syntax.{act_at}
use Rattle.c_program.specs.Control.{Spot, Point}
use Rattle.c_program.specs.Paths.{LeadsTo, IsReached, IsPoint}

-- some path of the thread comes to the point
pub record IsReachable (program : Program) (thread : List Spot) (point : Point) : Type 0 where
  pub function : ℕ
  pub leads : LeadsTo program thread thread function
  pub reached : IsReached program thread function point

abbrev pub is_creation : Act → Bool
is_creation (Library (ThreadCreate object function argument) into) = true
is_creation _ = false

-- a point of a thread, reached or not, that creates a thread
pub record IsCreationPoint (program : Program) (thread : List Spot) (point : Point) : Type 0 where
  pub is_point : IsPoint program thread point
  pub creates : is_creation (act_at program point.spot.action) ≡ true

-- the thread that a creation point makes, by its call string; the call string of the initial thread is empty
abbrev pub thread_of : Point → List Spot
thread_of point = point.spot ∷ point.string
