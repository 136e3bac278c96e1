-- The states that a thread object may be in at a point.
use Rattle.std.specs.Prelude.{◌≢◌, List, []}
use Rattle.c_program.specs.declared.program.Program.{Program}
use Rattle.c_program.specs.Values.{Location}
use Rattle.c_program.specs.Control.{Spot, Point}
use Rattle.c_program.specs.Faults.{A_thread}
use Rattle.pointer_targets.specs.Names.{Names, MayName}
use Rattle.static_facts.specs.Points.{IsCreationPoint}
use Rattle.static_facts.specs.ObjectStates.{ObjectState, IsStateOf}
use Rattle.static_facts.specs.ObjectPaths.{MayBeAlong}

-- a creation point outside the initial thread may name the object
pub record IsMadeOutside (program : Program) (names : Names) (object : Location) : Type 0 where
  pub thread : List Spot
  pub outside : thread ≢ []
  pub point : Point
  pub creation : IsCreationPoint program thread point
  pub named : MayName names point 0 object

-- at a point of a created thread none, but for an object that is made outside the initial thread: it has each state at every point
pub data MayBe (program : Program) (names : Names) (object : Location) : List Spot → Point → ObjectState → Type 0 where
  along : (point : Point) (state : ObjectState) → IsStateOf A_thread state → MayBeAlong program names A_thread object point state → MayBe program names object [] point state
  made_outside : (thread : List Spot) (point : Point) (state : ObjectState) → IsStateOf A_thread state → IsMadeOutside program names object → MayBe program names object thread point state
