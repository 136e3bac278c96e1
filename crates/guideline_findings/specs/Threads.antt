-- Directive 5.3 and Rule 22.11: creations, joins and detachments.
use Rattle.std.specs.Prelude.{◌≡◌, ◌≢◌, ◌⊎◌, true, ◌||◌, List, []}
use Rattle.c_program.specs.declared.program.Program.{Program}
use Rattle.c_program.specs.Syntax.{act_at}
use Rattle.c_program.specs.Values.{Location}
use Rattle.c_program.specs.Control.{Spot, Point}
use Rattle.c_program.specs.Faults.{A_thread}
use Rattle.c_program.specs.Paths.{IsCyclic}
use Rattle.static_facts.specs.ObjectStates.{Is_joined, Is_detached}
use Rattle.static_facts.specs.Facts.{Facts, ThreadMayBe}
use Rattle.static_facts.specs.Points.{IsReachable, is_creation}
use Rattle.static_facts.specs.Candidates.{IsCandidate, releases_thread}
use Rattle.pointer_targets.specs.Names.{Names}

-- `outside`: a creation point not in the initial thread
pub record CreatesOutside (program : Program) (thread : List Spot) (point : Point) : Type 0 where
  pub reachable : IsReachable program thread point
  pub creates : is_creation (act_at program point.spot.action) ≡ true
  pub elsewhere : thread ≢ []

-- `repeated`: a cyclic one in it
pub record CreatesRepeatedly (program : Program) (point : Point) : Type 0 where
  pub reachable : IsReachable program [] point
  pub creates : is_creation (act_at program point.spot.action) ≡ true
  pub cyclic : IsCyclic program [] program.main point

-- a candidate of a join or a detachment
pub record Releases (program : Program) (names : Names) (thread : List Spot) (point : Point) (object : Location) : Type 0 where
  pub reachable : IsReachable program thread point
  pub releases : releases_thread (act_at program point.spot.action) ≡ true
  pub candidate : IsCandidate program names point 0 A_thread object

-- `again`: a candidate that may be joined or detached
pub record ReleasesAgain (program : Program) (facts : Facts) (thread : List Spot) (point : Point) (object : Location) : Type 0 where
  pub releases : Releases program facts.names thread point object
  pub was : ThreadMayBe facts thread point object Is_joined ⊎ ThreadMayBe facts thread point object Is_detached

-- `outside`: a candidate of a join or a detachment outside the initial thread
pub record ReleasesOutside (program : Program) (names : Names) (thread : List Spot) (point : Point) (object : Location) : Type 0 where
  pub releases : Releases program names thread point object
  pub elsewhere : thread ≢ []
