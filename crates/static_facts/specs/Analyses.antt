-- What the analyses owe: each test of `Facts` tells its definition at the points of the program, of states of library objects at
-- the static locations of their sort. Order, thread states and
-- lives are told over the tests of names that are given, so no analysis is proved over two others at once.
use Rattle.std.specs.Prelude.{◌≡◌, List, Option, Some}
use Rattle.c_program.specs.declared.program.Program.{Program}
use Rattle.c_program.specs.Values.{Location}
use Rattle.c_program.specs.Control.{Spot, Point}
use Rattle.c_program.specs.Faults.{Sort, A_thread}
use Rattle.c_program.specs.Paths.{IsPoint}
use Rattle.pointer_targets.specs.Tellings.{MissesNone, IsRight, Tells}
use Rattle.pointer_targets.specs.LibraryObjects.{IsLocationOf}
use Rattle.pointer_targets.specs.Candidates.{NamesAreExact, NamesAreSound}
use Rattle.pointer_targets.specs.Manners.{Manner, MayAccessAt}
use Rattle.static_facts.specs.ObjectStates.{ObjectState, IsNoThread}
use Rattle.static_facts.specs.ThreadStates.{MayBe}
use Rattle.static_facts.specs.Lives.{MayLive}
use Rattle.static_facts.specs.Order.{IsPlainThread, Ordered}
use Rattle.static_facts.specs.Facts.{Facts}

-- ---- exact answers

pub record AreExact (program : Program) (facts : Facts) : Type 0 where
  -- points-to
  pub names : NamesAreExact program facts.names
  pub accesses : (thread : List Spot) (point : Point) (region : Location) (manner : Manner) → IsPoint program thread point
      → Tells (facts.accesses point region manner) (MayAccessAt program point region manner)
  -- order, thread states and lives
  pub ordered : (s t : List Spot) (p q : Point) → IsPoint program s p → IsPoint program t q
      → Tells (facts.ordered s p t q) (Ordered program facts.names s p t q)
  pub thread_may_be : (thread : List Spot) (point : Point) (object : Location) (state : ObjectState) → IsPoint program thread point → IsLocationOf program A_thread object
      → Tells (facts.thread_may_be thread point object state) (MayBe program facts.names object thread point state)
  pub plain : (thread : List Spot) (object : Location) → facts.plain_object thread ≡ Some object → IsPlainThread program facts.names thread object
  pub all_plain : (thread : List Spot) (object : Location) → IsPlainThread program facts.names thread object → facts.plain_object thread ≡ Some object
  pub life_may_be : (thread : List Spot) (point : Point) (sort : Sort) (location : Location) (state : ObjectState) → IsPoint program thread point → IsNoThread sort → IsLocationOf program sort location
      → Tells (facts.life_may_be thread point sort location state) (MayLive program facts.names sort location thread point state)

-- ---- sound answers: the half that silence needs, and so the side on which an analysis may err

pub record AreSound (program : Program) (facts : Facts) : Type 0 where
  -- what may be named or accessed is not missed, and what is called exact is
  pub names : NamesAreSound program facts.names
  pub accesses : (thread : List Spot) (point : Point) (region : Location) (manner : Manner) → IsPoint program thread point
      → MissesNone (facts.accesses point region manner) (MayAccessAt program point region manner)
  -- what is called ordered or plain is, and no possible state is missed
  pub ordered : (s t : List Spot) (p q : Point) → IsPoint program s p → IsPoint program t q
      → IsRight (facts.ordered s p t q) (Ordered program facts.names s p t q)
  pub thread_may_be : (thread : List Spot) (point : Point) (object : Location) (state : ObjectState) → IsPoint program thread point → IsLocationOf program A_thread object
      → MissesNone (facts.thread_may_be thread point object state) (MayBe program facts.names object thread point state)
  pub plain : (thread : List Spot) (object : Location) → facts.plain_object thread ≡ Some object → IsPlainThread program facts.names thread object
  pub life_may_be : (thread : List Spot) (point : Point) (sort : Sort) (location : Location) (state : ObjectState) → IsPoint program thread point → IsNoThread sort → IsLocationOf program sort location
      → MissesNone (facts.life_may_be thread point sort location state) (MayLive program facts.names sort location thread point state)
