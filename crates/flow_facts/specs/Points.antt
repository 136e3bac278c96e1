-- What the points of a program are, by their numbers.
use Rattle.std.specs.Prelude.{ℕ, zero, suc, Bool, false, List, map, Option, None, slice_get, slice_index_or, length}
use Rattle.misra_base.specs.declared.place.Place.{Place}
use Rattle.c_program.specs.Control.{Spot, Point}
use Rattle.flow_points.specs.PointLists as graph_points
use Rattle.flow_points.specs.Threads as graph_threads
use Rattle.control_flow.specs.declared.flow.Flow.{Flow}
use Rattle.control_flow.specs.Labels.{spot_at, view}
use Rattle.flow_facts.specs.declared.points.Points.{Points}

-- the graph of the program with the spots of its nodes
abbrev pub flow_of : Points → Flow
flow_of points = record { graph = points.numbered.graph; spots = points.spots; order = points.order }

-- how many points there are, and how many threads
abbrev pub count_of : Points → ℕ
count_of points = length (graph_points.points_of points.numbered.graph)

abbrev pub threads_of : Points → ℕ
threads_of points = graph_threads.count_of_threads points.numbered.graph

-- the point of a number
unfoldable pub point_at : Points → ℕ → Point
point_at points number = view (flow_of points) (graph_points.point_at points.numbered.graph number)

-- the thread of a number: the call string with which it begins, empty for the initial one
unfoldable pub thread_at : Points → ℕ → List Spot
thread_at points thread = map (spot_at (flow_of points)) (graph_threads.entry_point points.numbered.graph thread).string

-- the point is one of the thread
abbrev pub IsOfThread : Points → ℕ → ℕ → Type 0
IsOfThread points number thread = graph_threads.IsThreadOf points.numbered.graph number thread

-- where a thread begins
unfoldable pub entry_at : Points → ℕ → Point
entry_at points thread = view (flow_of points) (graph_threads.entry_point points.numbered.graph thread)

-- the number of the point that creates the thread
abbrev pub creation_at : Points → ℕ → Option ℕ
creation_at points zero = None
creation_at points (suc thread) = slice_get points.threads.creations.items thread

-- the points to which the moves from a point lead, in the order of the moves, with repeats
unfoldable pub nexts_at : Points → ℕ → List Point
nexts_at points number = map (view (flow_of points)) (graph_points.next_points points.numbered.graph (graph_points.point_at points.numbered.graph number))

-- the place of the point's action in the text
abbrev pub place_at : Points → ℕ → Option Place
place_at points number = slice_get points.places.items (graph_points.point_at points.numbered.graph number).action

-- some path of its thread comes to the point; some path leads from it to itself
abbrev pub is_reached : Points → ℕ → Bool
is_reached points number = slice_index_or points.reached.items number false

abbrev pub is_cyclic : Points → ℕ → Bool
is_cyclic points number = slice_index_or points.cyclic.items number false
