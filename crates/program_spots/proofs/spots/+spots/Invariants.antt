use Rattle.std.proofs.Common.{◌≡◌, ◌++◌, drop, length, map}
use Rattle.c_program.specs.Paths.{each_turn}
use Rattle.control_flow.specs.Labels.{round_of, spot_of}
use Rattle.program_spots.specs.Listed.{spots_of_list, spots_of_operands, spots_of_turn}
use Rattle.program_spots.proofs.spots.+spots.Given as goal

abbrev pub invariant-add_spots_in-loop-k : goal.invariant-add_spots_in-loop-k
invariant-add_spots_in-loop-k l = (map spot_of l.spots.items ++ spots_of_list (map round_of l.rounds) (drop l.k l.all)
    ≡ map spot_of l.fn.spots.items ++ spots_of_list (map round_of l.rounds) l.all) × (l.k-end ≡ length l.all)

abbrev pub invariant-add_operand_spots-loop-k : goal.invariant-add_operand_spots-loop-k
invariant-add_operand_spots-loop-k l = (map spot_of l.spots.items ++ spots_of_operands (map round_of l.rounds) (drop l.k l.all)
    ≡ map spot_of l.fn.spots.items ++ spots_of_operands (map round_of l.rounds) l.all) × (l.k-end ≡ length l.all)

abbrev pub invariant-add_turn_spots-loop-turn : goal.invariant-add_turn_spots-loop-turn
invariant-add_turn_spots-loop-turn l = (map spot_of l.spots.items ≡ map spot_of l.fn.spots.items ++ each_turn l.turn (spots_of_turn l.fn.counter l.body (map round_of l.rounds)))
    × (l.turn-end ≡ l.fn.counter.turns)
