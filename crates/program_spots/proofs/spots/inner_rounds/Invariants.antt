use Rattle.std.proofs.Common.{◌≡◌, ◌∷◌, map, take}
use Rattle.c_program.specs.Control.{round_of as round_in}
use Rattle.control_flow.specs.Labels.{round_of}
use Rattle.program_spots.proofs.spots.inner_rounds.Given as goal

abbrev pub invariant-loop-round : goal.invariant-loop-round
invariant-loop-round l = map round_of l.inner.items ≡ round_in l.fn.counter l.turn ∷ map round_of (take l.round-index l.rounds)
