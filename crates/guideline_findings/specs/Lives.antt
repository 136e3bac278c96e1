-- Rules 22.14, 22.15 and 22.20: mutexes, condition variables and keys that are not made, made twice, or dead.
use Rattle.std.specs.Prelude.{◌≢◌, ◌⊎◌, List, [], Option, Some, None}
use Rattle.c_program.specs.declared.program.Program.{Program}
use Rattle.c_program.specs.Values.{Location}
use Rattle.c_program.specs.Control.{Spot, Point}
use Rattle.c_program.specs.Faults.{Sort, How, Initialises, Ends_life}
use Rattle.static_facts.specs.ObjectStates.{Is_live, Is_detached, Is_unmade, Is_dead}
use Rattle.static_facts.specs.Facts.{Facts, ThreadMayBe, LifeMayBe}
use Rattle.static_facts.specs.Points.{IsReachable}
use Rattle.static_facts.specs.Candidates.{TakesCandidate}
use Rattle.pointer_targets.specs.Names.{Names}

-- a candidate of a call in this way, at a reachable point
pub record Accesses (program : Program) (names : Names) (thread : List Spot) (point : Point) (how : How) (sort : Sort) (location : Location) : Type 0 where
  pub reachable : IsReachable program thread point
  pub takes : TakesCandidate program names point how sort location

abbrev pub IsUseOrEnd : How → Type 0
IsUseOrEnd Initialises = ⊥
IsUseOrEnd _ = Unit {0}

-- `before`: used or destroyed, where it may be unmade
pub record MayBeBefore (program : Program) (facts : Facts) (thread : List Spot) (point : Point) (sort : Sort) (location : Location) : Type 0 where
  pub how : How
  pub is_late : IsUseOrEnd how
  pub accesses : Accesses program facts.names thread point how sort location
  pub unmade : LifeMayBe facts thread point sort location Is_unmade

-- `second`: initialised, where it may be live
pub record MayBeSecond (program : Program) (facts : Facts) (thread : List Spot) (point : Point) (sort : Sort) (location : Location) : Type 0 where
  pub accesses : Accesses program facts.names thread point Initialises sort location
  pub alive : LifeMayBe facts thread point sort location Is_live

-- `outside`: initialised, or destroyed, outside the initial thread
pub record IsOutside (program : Program) (names : Names) (thread : List Spot) (point : Point) (how : How) (sort : Sort) (location : Location) : Type 0 where
  pub accesses : Accesses program names thread point how sort location
  pub elsewhere : thread ≢ []

-- `dead`: used or destroyed, where it may be dead
pub record MayBeDead (program : Program) (facts : Facts) (thread : List Spot) (point : Point) (sort : Sort) (location : Location) : Type 0 where
  pub how : How
  pub is_late : IsUseOrEnd how
  pub accesses : Accesses program facts.names thread point how sort location
  pub dead : LifeMayBe facts thread point sort location Is_dead

-- whether a created thread may be running at a point of the initial thread: it is not plain, or its object may be held there
abbrev pub MayRunOf : Facts → Point → Option Location → Type 0
MayRunOf facts point None = Unit {0}
MayRunOf facts point (Some object) = ThreadMayBe facts [] point object Is_live ⊎ ThreadMayBe facts [] point object Is_detached

-- `busy`: a destruction in the initial thread of a candidate that some created thread may access, which may not have ended
pub record MayBeBusy (program : Program) (facts : Facts) (point : Point) (sort : Sort) (location : Location) : Type 0 where
  pub destroys : Accesses program facts.names [] point Ends_life sort location
  pub thread : List Spot
  pub created : thread ≢ []
  pub other : Point
  pub how : How
  pub accesses : Accesses program facts.names thread other how sort location
  pub runs : MayRunOf facts point (facts.plain_object thread)
