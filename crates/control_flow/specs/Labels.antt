-- What the nodes of a graph stand for.
use Rattle.std.specs.Prelude.{◌≡◌, ◌<◌, ℕ, List, [], ◌∷◌, map, slice_get, option_map, unwrap_or, length, Some}
use Rattle.c_program.specs.declared.action.Act.{Act}
use Rattle.c_program.specs.declared.action.Act.TheVariants.{Library, Return, End}
use Rattle.c_program.specs.declared.action.Act.TheVariants as act
use Rattle.c_program.specs.declared.action.LibraryCall.TheVariants.{ThreadCreate, ThreadExit}
use Rattle.c_program.specs.Control.{Round, Spot, Point}
use Rattle.flow_points.specs.declared.transfer.Transfer.{Transfer}
use Rattle.flow_points.specs.declared.transfer.Transfer.TheVariants as transfer
use Rattle.flow_points.specs.PointLists as points
use Rattle.control_flow.specs.declared.flow.Flow.{Flow}
use Rattle.control_flow.specs.declared.flow.Spot.{Spot as SpotOf}
use Rattle.control_flow.specs.declared.flow.Round.{Round as RoundOf}

abbrev pub round_of : RoundOf → Round
round_of round = record { counter = round.counter; value = round.value }

abbrev pub spot_of : SpotOf → Spot
spot_of spot = record { action = spot.action; rounds = map round_of spot.rounds.items }

abbrev pub spot_in_list : List SpotOf → ℕ → Spot
spot_in_list spots number = unwrap_or (option_map spot_of (slice_get spots number)) (record { action = 0; rounds = [] })

-- the spot of a node
unfoldable pub spot_at : Flow → ℕ → Spot
spot_at flow number = spot_in_list flow.spots.items number

-- the point of a call string of nodes with a node
abbrev pub view : Flow → points.Point → Point
view flow point = record { string = map (spot_at flow) point.string; spot = spot_at flow point.action }

-- each is the number of a node
abbrev pub AreNodes : Flow → List ℕ → Type 0
AreNodes flow [] = Unit {0}
AreNodes flow (number ∷ numbers) = (number < length flow.graph.nodes.items) × AreNodes flow numbers

-- what an action does to control, where functions are named by their places in the order
abbrev pub Does : List ℕ → Act → Transfer → Type 0
Does order (act.Call function arguments result) t = (callee : ℕ) × (t ≡ transfer.Call callee) × (slice_get order callee ≡ Some function)
Does order (Library (ThreadCreate object function argument) result) t = (callee : ℕ) × (t ≡ transfer.Create callee) × (slice_get order callee ≡ Some function)
Does order (Return value) t = t ≡ transfer.Return
Does order End t = t ≡ transfer.Return
Does order (Library (ThreadExit value) result) t = t ≡ transfer.Exit
Does order _ t = t ≡ transfer.Next
