use Rattle.std.proofs.Common.{◌≡◌, map, drop}
use Rattle.c_program.specs.Control.{counted}
use Rattle.control_flow.specs.Labels.{round_of}
use Rattle.flow_facts.proofs.readers.value_in.Given as goal

abbrev pub invariant-loop-round : goal.invariant-loop-round
invariant-loop-round l = counted (map round_of (drop l.round-index l.rounds)) l.local ≡ counted (map round_of l.rounds) l.local
