-- What the analyses answer of the points of a program: tests, whose meaning stands in Analyses.
use Rattle.std.specs.Prelude.{◌≡◌, Bool, true, List, Option}
use Rattle.c_program.specs.Values.{Location}
use Rattle.c_program.specs.Control.{Spot, Point}
use Rattle.c_program.specs.Faults.{Sort}
use Rattle.pointer_targets.specs.Names.{Names}
use Rattle.pointer_targets.specs.Manners.{Manner}
use Rattle.static_facts.specs.ObjectStates.{ObjectState}

pub record Facts : Type 0 where
  -- points-to: what an argument names, and which regions the action of a point accesses
  pub names : Names
  pub accesses : Point → Location → Manner → Bool
  -- order: points of two threads
  pub ordered : List Spot → Point → List Spot → Point → Bool
  -- thread states: of a thread object at a point of a thread; the object of a plain thread
  pub thread_may_be : List Spot → Point → Location → ObjectState → Bool
  pub plain_object : List Spot → Option Location
  -- lives: of a mutex, a condition variable or a key at a point of a thread
  pub life_may_be : List Spot → Point → Sort → Location → ObjectState → Bool

abbrev pub MayAccess : Facts → Point → Location → Manner → Type 0
MayAccess facts point region manner = facts.accesses point region manner ≡ true

abbrev pub AreOrdered : Facts → List Spot → Point → List Spot → Point → Type 0
AreOrdered facts s p t q = facts.ordered s p t q ≡ true

abbrev pub ThreadMayBe : Facts → List Spot → Point → Location → ObjectState → Type 0
ThreadMayBe facts thread point object state = facts.thread_may_be thread point object state ≡ true

abbrev pub LifeMayBe : Facts → List Spot → Point → Sort → Location → ObjectState → Type 0
LifeMayBe facts thread point sort location state = facts.life_may_be thread point sort location state ≡ true
