-- The lives of a mutex, a condition variable or a key that are possible at the points of all threads.
use Rattle.std.specs.Prelude.{List, []}
use Rattle.c_program.specs.declared.program.Program.{Program}
use Rattle.c_program.specs.Values.{Location}
use Rattle.c_program.specs.Control.{Spot, Point}
use Rattle.c_program.specs.Faults.{Sort}
use Rattle.c_program.specs.Paths.{IsPoint}
use Rattle.pointer_targets.specs.Names.{Names}
use Rattle.static_facts.specs.Points.{thread_of}
use Rattle.static_facts.specs.ObjectStates.{ObjectState, IsStateOf}
use Rattle.static_facts.specs.ObjectPaths.{MayBeAlong}

-- along the paths of the initial thread; a created thread has at each of its points the states at its creation point
pub data MayLive (program : Program) (names : Names) (sort : Sort) (object : Location) : List Spot → Point → ObjectState → Type 0 where
  in_initial : (point : Point) (state : ObjectState) → IsStateOf sort state → MayBeAlong program names sort object point state → MayLive program names sort object [] point state
  in_created : (parent : List Spot) (creation point : Point) (state : ObjectState) → IsPoint program parent creation → MayLive program names sort object parent creation state
      → MayLive program names sort object (thread_of creation) point state
