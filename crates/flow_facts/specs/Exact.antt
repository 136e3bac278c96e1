-- What the analyses owe: each reader tells its definition, at the numbers of the program's points, threads and locations.
-- All but points-to tell it over the tests of names that they are given.
use Rattle.std.specs.Prelude.{◌≡◌, ◌<◌, ℕ, List, Some}
use Rattle.c_program.specs.declared.program.Program.{Program}
use Rattle.c_program.specs.Values.{Location}
use Rattle.c_program.specs.Control.{Spot, Point}
use Rattle.c_program.specs.Faults.{Sort, A_mutex, A_thread}
use Rattle.c_program.specs.Paths.{IsPoint}
use Rattle.pointer_targets.specs.Names.{Names}
use Rattle.pointer_targets.specs.LibraryObjects.{IsLocationOf}
use Rattle.pointer_targets.specs.Candidates.{NamesAreExact}
use Rattle.pointer_targets.specs.Manners.{Manner, MayAccessAt}
use Rattle.pointer_targets.specs.Tellings.{Tells}
use Rattle.static_facts.specs.Depths.{MayHold}
use Rattle.static_facts.specs.ObjectStates.{ObjectState, IsNoThread}
use Rattle.static_facts.specs.ThreadStates.{MayBe}
use Rattle.static_facts.specs.Lives.{MayLive}
use Rattle.static_facts.specs.Order.{IsPlainThread, Ordered}
use Rattle.flow_facts.specs.declared.points.Points.{Points}
use Rattle.flow_facts.specs.declared.points_to.PointsTo.{PointsTo}
use Rattle.flow_facts.specs.declared.states.Held.{Held}
use Rattle.flow_facts.specs.declared.states.ThreadState.{ThreadState}
use Rattle.flow_facts.specs.declared.states.ThreadStates.{ThreadStates}
use Rattle.flow_facts.specs.declared.states.LifeState.{LifeState}
use Rattle.flow_facts.specs.declared.states.Lives.{Lives}
use Rattle.flow_facts.specs.declared.facts.Order.{Order}
use Rattle.flow_facts.specs.Points.{count_of, threads_of, point_at, thread_at, IsOfThread}
use Rattle.flow_facts.specs.States.{may_hold_at, thread_may_be_at, plain_at, life_may_be_at}
use Rattle.flow_facts.specs.Orders.{ordered_at}
use Rattle.flow_facts.specs.Locations.{location_at}
use Rattle.flow_facts.specs.Told.{names_of, accesses_of, thread_state_of, life_state_of}

-- a point of a thread by their numbers
pub record IsNumbered (points : Points) (number thread : ℕ) : Type 0 where
  pub exists : number < count_of points
  pub of_thread : IsOfThread points number thread

-- a library object of a sort by the number of its location
pub record IsNamed (program : Program) (sort : Sort) (name : ℕ) (object : Location) : Type 0 where
  pub here : location_at program name ≡ Some object
  pub of_sort : IsLocationOf program sort object

pub record PointsToIsExact (program : Program) (points : Points) (to : PointsTo) : Type 0 where
  pub names : NamesAreExact program (names_of program points to)
  pub accesses : (thread : List Spot) (point : Point) (region : Location) (manner : Manner) → IsPoint program thread point
      → Tells (accesses_of program points to point region manner) (MayAccessAt program point region manner)

-- 8 stands for eight or more
pub record HeldIsExact (program : Program) (names : Names) (points : Points) (held : Held) : Type 0 where
  pub may : (number thread name depth : ℕ) (mutex : Location) → IsNumbered points number thread → IsNamed program A_mutex name mutex → depth < 9
      → Tells (may_hold_at held number name depth) (MayHold program names mutex (thread_at points thread) (point_at points number) depth)

pub record ThreadStatesAreExact (program : Program) (names : Names) (points : Points) (states : ThreadStates) : Type 0 where
  pub may : (number thread name : ℕ) (object : Location) (state : ObjectState) (is : ThreadState) → IsNumbered points number thread → IsNamed program A_thread name object
      → thread_state_of state ≡ Some is → Tells (thread_may_be_at states number name is) (MayBe program names object (thread_at points thread) (point_at points number) state)
  -- the object of a plain thread, and none of another one
  pub plain : (thread name : ℕ) → thread < threads_of points → plain_at states thread ≡ Some name
      → (object : Location) × (location_at program name ≡ Some object) × IsPlainThread program names (thread_at points thread) object
  pub all_plain : (thread : ℕ) (object : Location) → thread < threads_of points → IsPlainThread program names (thread_at points thread) object
      → (name : ℕ) × (location_at program name ≡ Some object) × (plain_at states thread ≡ Some name)

pub record LivesAreExact (program : Program) (names : Names) (points : Points) (lives : Lives) : Type 0 where
  pub may : (number thread name : ℕ) (sort : Sort) (object : Location) (state : ObjectState) (is : LifeState) → IsNumbered points number thread
      → IsNoThread sort → IsNamed program sort name object → life_state_of state ≡ Some is
      → Tells (life_may_be_at lives number name is) (MayLive program names sort object (thread_at points thread) (point_at points number) state)

pub record OrderIsExact (program : Program) (names : Names) (points : Points) (order : Order) : Type 0 where
  pub ordered : (a b s t : ℕ) → IsNumbered points a s → IsNumbered points b t
      → Tells (ordered_at order a b) (Ordered program names (thread_at points s) (point_at points a) (thread_at points t) (point_at points b))
