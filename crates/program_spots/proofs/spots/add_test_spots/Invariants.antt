use Rattle.std.proofs.Common.{◌≡◌, ◌++◌, ◌∷◌, [], map}
use Rattle.c_program.specs.Control.{round_of as round_in}
use Rattle.c_program.specs.Paths.{in_rounds, each_turn}
use Rattle.control_flow.specs.Labels.{round_of, spot_of}
use Rattle.program_spots.proofs.spots.add_test_spots.Given as goal

abbrev pub invariant-loop-turn : goal.invariant-loop-turn
invariant-loop-turn l = (map spot_of l.spots.items
    ≡ map spot_of l.fn.spots.items ++ each_turn l.turn (λ turn. in_rounds (round_in l.fn.counter turn ∷ map round_of l.rounds) l.fn.counter.test ∷ [])) × (l.turn-end ≡ l.fn.counter.turns)
