-- When points are those of a program.
use Rattle.std.specs.Prelude.{◌≡◌, ◌<◌, ◌↔◌, ℕ, true, List, [], ◌∷◌, Some, slice_get, option_map}
use Rattle.std.specs.List.{flat_map}
use Rattle.c_program.specs.declared.program.Program.{Program}
use Rattle.c_program.specs.Syntax.{act_at}
use Rattle.c_program.specs.Control.{Control, Move, Spot, Point, moves, move_at, goes_on, entered}
use Rattle.c_program.specs.Paths.{LeadsTo, IsPoint, Stands, Offers, stands_at, IsCyclic}
use Rattle.static_facts.specs.Points.{IsReachable, is_creation, thread_of}
use Rattle.flow_facts.specs.declared.points.Points.{Points}
use Rattle.flow_facts.specs.Points.{count_of, threads_of, point_at, thread_at, IsOfThread, entry_at, creation_at, nexts_at, place_at, is_reached, is_cyclic}

-- the point at which a thread stands that has this to do, if it has anything to do
abbrev pub before : List Spot → Control → List Move → List Point
before thread control [] = []
before thread control (move ∷ all) = stands_at thread control move ∷ []

abbrev pub stops : List Spot → Control → List Point
stops thread control = before thread control (moves control)

-- a thread stands at a numbered point with this to do, in code that is reached or not
pub record StandsWith (program : Program) (points : Points) (number thread : ℕ) (control : Control) : Type 0 where
  pub exists : number < count_of points
  pub of_thread : IsOfThread points number thread
  pub function : ℕ
  pub leads : LeadsTo program (thread_at points thread) (thread_at points thread) function
  pub stands : Stands program function control
  pub move : Move
  pub offers : Offers control move
  pub here : stands_at (thread_at points thread) control move ≡ point_at points number

-- by the move at a position of a point a thread comes to the next one
pub record MovesTo (program : Program) (points : Points) (number pair next : ℕ) : Type 0 where
  pub thread : ℕ
  pub control : Control
  pub stands : StandsWith program points number thread control
  pub move : Move
  pub takes : move_at control pair ≡ Some move
  pub onward : StandsWith program points next thread (goes_on program move)

-- a path leads from the point of the thread to itself
pub record IsOnCycle (program : Program) (thread : List Spot) (point : Point) : Type 0 where
  pub function : ℕ
  pub leads : LeadsTo program thread thread function
  pub cyclic : IsCyclic program thread function point

pub record ArePointsOf (program : Program) (points : Points) : Type 0 where
  -- each call string with an action and its turns has a number, over all threads and in dead code too, and one alone
  pub each : (thread : List Spot) (point : Point) → IsPoint program thread point → (number : ℕ) × (number < count_of points) × (point_at points number ≡ point)
  pub one : (a b : ℕ) → a < count_of points → b < count_of points → point_at points a ≡ point_at points b → a ≡ b
  -- and nothing else has one
  pub only : (number thread : ℕ) → number < count_of points → IsOfThread points number thread → IsPoint program (thread_at points thread) (point_at points number)
  pub threaded : (number : ℕ) → number < count_of points → (thread : ℕ) × (thread < threads_of points) × IsOfThread points number thread
  -- the initial thread, and one for each creation point
  pub initial : thread_at points 0 ≡ []
  pub created : (thread creation : ℕ) → thread < threads_of points → creation_at points thread ≡ Some creation
      → (creation < count_of points) × (thread_at points thread ≡ thread_of (point_at points creation))
  pub creations : (number : ℕ) → number < count_of points
      → (is_creation (act_at program (point_at points number).spot.action) ≡ true) ↔ ((thread : ℕ) × (thread < threads_of points) × (creation_at points thread ≡ Some number))
  -- each thread begins where its function is entered
  pub entries : (thread function : ℕ) → thread < threads_of points → LeadsTo program (thread_at points thread) (thread_at points thread) function
      → stops (thread_at points thread) (entered program function) ≡ entry_at points thread ∷ []
  -- the points that come next are those of the moves, in their order, without the moves behind which the thread has nothing to do
  pub controls : (number : ℕ) → number < count_of points → (thread : ℕ) × (control : Control) × StandsWith program points number thread control
  pub edges : (number thread : ℕ) (control : Control) → StandsWith program points number thread control
      → nexts_at points number ≡ flat_map (λ move. stops (thread_at points thread) (goes_on program move)) (moves control)
  -- so the move at a position is that to the next point at the position
  pub pairs : (number pair next : ℕ) → number < count_of points → next < count_of points
      → (slice_get (nexts_at points number) pair ≡ Some (point_at points next)) ↔ MovesTo program points number pair next
  pub places : (number : ℕ) → number < count_of points
      → place_at points number ≡ option_map (λ action. action.place) (slice_get program.actions (point_at points number).spot.action)
  -- paths, each condition taken freely
  pub reached : (number thread : ℕ) → number < count_of points → IsOfThread points number thread
      → (is_reached points number ≡ true) ↔ IsReachable program (thread_at points thread) (point_at points number)
  pub cyclic : (number thread : ℕ) → number < count_of points → IsOfThread points number thread
      → (is_cyclic points number ≡ true) ↔ IsOnCycle program (thread_at points thread) (point_at points number)
