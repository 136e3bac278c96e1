-- The moves between points are those of control.
use Rattle.std.specs.Prelude.{◌≡◌, ◌<◌, ℕ, Some, slice_get, length, ◌++◌, List, [], ◌∷◌, map}
use Rattle.std.specs.List.{flat_map, Contains}
use Rattle.c_program.specs.declared.program.Program.{Program}
use Rattle.c_program.specs.Control.{Control, Move, Spot, Point, spot_in, moves, goes_on, string_of}
use Rattle.c_program.specs.Syntax.{body_at}
use Rattle.c_program.specs.Paths.{spots_of, Stands, Offers, stands_at}
use Rattle.flow_points.specs.declared.transfer.Transfer.TheVariants.{Create}
use Rattle.flow_points.specs.Graphs.{transfer_at}
use Rattle.flow_points.specs.PointLists.{at, next_points}
use Rattle.control_flow.specs.declared.flow.Flow.{Flow}
use Rattle.control_flow.specs.Labels.{spot_at, view, AreNodes}

-- a thread is the string of its creation, empty for the initial one
abbrev pub IsThread : Flow → List ℕ → Type 0
IsThread flow [] = Unit {0}
IsThread flow (number ∷ string) = (callee : ℕ) × (transfer_at flow.graph number ≡ Create callee)

abbrev pub before : List Spot → Control → List Move → List Point
before thread control [] = []
before thread control (move ∷ all) = stands_at thread control move ∷ []

-- the point at which a thread stands that has this to do, if it has anything to do
abbrev pub stops : List Spot → Control → List Point
stops thread control = before thread control (moves control)

-- from a point lead the moves of each control that stands there, each to the point at which the thread then stands
abbrev pub EdgesAreMoves : Program → Flow → Type 0
EdgesAreMoves program flow = (function number : ℕ) (control : Control) (move : Move) (string thread : List ℕ) → Stands program function control → Offers control move
    → IsThread flow thread → AreNodes flow (number ∷ string) → map (spot_at flow) string ≡ string_of control → spot_at flow number ≡ spot_in control move.action
    → map (view flow) (next_points flow.graph (at (string ++ thread) number)) ≡ flat_map (λ m. stops (map (spot_at flow) thread) (goes_on program m)) (moves control)

-- each spot of a function of the order has a node
abbrev pub SpotsHaveNodes : Program → Flow → Type 0
SpotsHaveNodes program flow = (place function : ℕ) (spot : Spot) → slice_get flow.order.items place ≡ Some function → Contains (spots_of [] (body_at program function)) spot
    → (number : ℕ) × (number < length flow.graph.nodes.items) × (spot_at flow number ≡ spot)
