-- Directive 5.1: accesses of one region at points that nothing orders.
use Rattle.std.specs.Prelude.{List}
use Rattle.c_program.specs.declared.program.Program.{Program}
use Rattle.c_program.specs.Values.{Cell, Location, IsRegion}
use Rattle.c_program.specs.Control.{Spot, Point}
use Rattle.c_program.specs.Faults.{A_mutex}
use Rattle.static_facts.specs.Depths.{IsSurelyHeld}
use Rattle.pointer_targets.specs.LibraryObjects.{IsObjectAt}
use Rattle.pointer_targets.specs.Manners.{Manner, AreInConflict}
use Rattle.static_facts.specs.Facts.{Facts, MayAccess, AreOrdered}
use Rattle.static_facts.specs.Points.{IsReachable}

-- some mutex is surely held at both points
pub record ShareMutex (program : Program) (facts : Facts) (s : List Spot) (p : Point) (t : List Spot) (q : Point) : Type 0 where
  pub cell : Cell
  pub mutex : Location
  pub is_mutex : IsObjectAt program A_mutex cell mutex
  pub at_first : IsSurelyHeld program facts.names mutex s p
  pub at_second : IsSurelyHeld program facts.names mutex t q

-- `race`: an access of a region with a conflicting access at a point not ordered with it, and no mutex surely held at both
pub record MayRace (program : Program) (facts : Facts) (thread : List Spot) (point : Point) (region : Location) (other_thread : List Spot) (other : Point) : Type 0 where
  pub is_region : IsRegion program region
  pub reachable : IsReachable program thread point
  pub other_reachable : IsReachable program other_thread other
  pub manner : Manner
  pub accesses : MayAccess facts point region manner
  pub other_manner : Manner
  pub other_accesses : MayAccess facts other region other_manner
  pub conflict : AreInConflict manner other_manner
  pub unordered : AreOrdered facts thread point other_thread other → ⊥
  pub unlocked : ShareMutex program facts thread point other_thread other → ⊥
