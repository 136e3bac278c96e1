-- Which points are passed in order, by the creation and the joining of threads.
use Rattle.std.specs.Prelude.{◌≡◌, ◌⊎◌, List, [], Option, Some}
use Rattle.c_program.specs.declared.program.Program.{Program}
use Rattle.c_program.specs.Values.{Location}
use Rattle.c_program.specs.Control.{Spot, Point}
use Rattle.c_program.specs.Faults.{A_thread}
use Rattle.c_program.specs.Paths.{IsCyclic}
use Rattle.pointer_targets.specs.Names.{Names, MayName, IsExact}
use Rattle.pointer_targets.specs.LibraryObjects.{IsLocationOf}
use Rattle.static_facts.specs.Points.{IsCreationPoint, thread_of}
use Rattle.static_facts.specs.ObjectStates.{ObjectState, Is_unmade, Is_joined}
use Rattle.static_facts.specs.ThreadStates.{MayBe}

-- a point of the initial thread, passed once, that makes the only threads that a thread object ever holds
pub record IsPlain (program : Program) (names : Names) (creation : Point) (object : Location) : Type 0 where
  pub point : IsCreationPoint program [] creation
  pub once : IsCyclic program [] program.main creation → ⊥
  pub exact : IsExact names creation 0 object
  pub of_thread : IsLocationOf program A_thread object
  pub only : (thread : List Spot) (other : Point) → IsCreationPoint program thread other → MayName names other 0 object → other ≡ creation

-- at this point of the initial thread no thread that the object holds is live: it is not made yet, or joined
abbrev pub IsSettled : Program → Names → Location → Point → Type 0
IsSettled program names object point = (state : ObjectState) → MayBe program names object [] point state → (state ≡ Is_unmade) ⊎ (state ≡ Is_joined)

-- a point of one thread and a point of another one
pub data Ordered (program : Program) (names : Names) : List Spot → Point → List Spot → Point → Type 0 where
  in_initial : (a b : Point) → Ordered program names [] a [] b
  first_initial : (creation : Point) (object : Location) (a b : Point) → IsPlain program names creation object → IsSettled program names object a
      → Ordered program names [] a (thread_of creation) b
  second_initial : (creation : Point) (object : Location) (a b : Point) → IsPlain program names creation object → IsSettled program names object b
      → Ordered program names (thread_of creation) a [] b
  in_one : (creation : Point) (object : Location) (a b : Point) → IsPlain program names creation object
      → Ordered program names (thread_of creation) a (thread_of creation) b
  apart : (one other : Point) (x y : Location) (a b : Point) → IsPlain program names one x → IsPlain program names other y
      → IsSettled program names x other → IsSettled program names y one
      → Ordered program names (thread_of one) a (thread_of other) b

-- the thread is made at a plain creation point, by this object
pub record IsPlainThread (program : Program) (names : Names) (thread : List Spot) (object : Location) : Type 0 where
  pub creation : Point
  pub is : thread ≡ thread_of creation
  pub plain : IsPlain program names creation object
