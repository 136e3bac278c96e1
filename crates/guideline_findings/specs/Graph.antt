-- Directive 5.2: the graph of what is held, or ends, where something is waited for.
use Rattle.std.specs.Prelude.{◌≡◌, ◌≢◌, ◌⊎◌, ℕ, true, List, [], Option, Some, None}
use Rattle.c_program.specs.declared.action.LibraryCall.TheVariants as lib
use Rattle.c_program.specs.declared.action.Act.{Act}
use Rattle.c_program.specs.declared.action.Act.TheVariants as act
use Rattle.c_program.specs.declared.program.Program.{Program}
use Rattle.c_program.specs.Syntax.{act_at}
use Rattle.c_program.specs.Values.{Location}
use Rattle.c_program.specs.Control.{Spot, Point}
use Rattle.c_program.specs.Faults.{A_mutex, A_thread}
use Rattle.c_program.specs.Breaks.{Chain}
use Rattle.c_program.specs.Paths.{IsPoint}
use Rattle.guideline_findings.specs.Ownership.{MayOwn}
use Rattle.static_facts.specs.Facts.{Facts}
use Rattle.static_facts.specs.Points.{IsReachable, is_creation, thread_of}
use Rattle.static_facts.specs.Candidates.{IsCandidate, is_join}

-- a mutex, or the end of a created thread
pub data Vertex : Type 0 where
  Of_mutex : (mutex : Location) → Vertex
  Of_end : (thread : List Spot) → Vertex

-- the argument of a taking: a lock, and a wait, which takes its mutex again
abbrev pub takes_mutex : Act → Option ℕ
takes_mutex (act.Library (lib.MutexLock e) into) = Some 0
takes_mutex (act.Library (lib.ConditionWait e d) into) = Some 1
takes_mutex (act.Library (lib.ConditionTimedWait e d t) into) = Some 1
takes_mutex _ = None

-- what is waited for at a point; the location names it in the finding
pub data Wants (program : Program) (facts : Facts) (point : Point) : Location → Vertex → Type 0 where
  -- a candidate of a taking
  wants_mutex : (argument : ℕ) (mutex : Location) → takes_mutex (act_at program point.spot.action) ≡ Some argument
      → IsCandidate program facts.names point argument A_mutex mutex → Wants program facts point mutex (Of_mutex mutex)
  -- the end of each thread whose creation may name the candidate of a join
  wants_end : (object : Location) (creator : List Spot) (creation : Point) → is_join (act_at program point.spot.action) ≡ true
      → IsCandidate program facts.names point 0 A_thread object
      → IsPoint program creator creation → is_creation (act_at program creation.spot.action) ≡ true
      → IsCandidate program facts.names creation 0 A_thread object → Wants program facts point object (Of_end (thread_of creation))

-- what a thread has at a point: a mutex that may have depth 1 or more there, and its own end, where it is a created one
pub data Has (program : Program) (facts : Facts) (thread : List Spot) (point : Point) : Vertex → Type 0 where
  has_mutex : (mutex : Location) → MayOwn program facts.names mutex thread point → Has program facts thread point (Of_mutex mutex)
  has_end : thread ≢ [] → Has program facts thread point (Of_end thread)

-- a mutex that is taken gets no edge from itself
abbrev pub IsEdgeBetween : Vertex → Vertex → Type 0
IsEdgeBetween (Of_mutex m) (Of_mutex n) = m ≢ n
IsEdgeBetween _ _ = Unit {0}

pub record EdgeAt (program : Program) (facts : Facts) (thread : List Spot) (point : Point) (object : Location) (from to : Vertex) : Type 0 where
  pub reachable : IsReachable program thread point
  pub has : Has program facts thread point from
  pub wants : Wants program facts point object to
  pub between : IsEdgeBetween from to

pub record Edge (program : Program) (facts : Facts) (from to : Vertex) : Type 0 where
  pub thread : List Spot
  pub point : Point
  pub object : Location
  pub is : EdgeAt program facts thread point object from to

-- edges lead back from where the edge leads to where it begins; an edge from a vertex to itself is a cycle
pub record IsOnCycle (program : Program) (facts : Facts) (from to : Vertex) : Type 0 where
  pub between : List Vertex
  pub back : (from ≡ to) ⊎ Chain (Edge program facts) to between from

-- `cycle`: at a point that gives an edge on a cycle
pub record MayBlock (program : Program) (facts : Facts) (thread : List Spot) (point : Point) (object : Location) : Type 0 where
  pub from : Vertex
  pub to : Vertex
  pub edge : EdgeAt program facts thread point object from to
  pub cycle : IsOnCycle program facts from to
