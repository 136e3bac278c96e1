use Rattle.std.proofs.Common.{◌≡◌, ◌+◌, ◌≤◌, suc}
use Rattle.control_flow.specs.Layout.{times}
use Rattle.program_spots.specs.Counts.{counted}
use Rattle.program_spots.proofs.count.count_turns.Given as goal

abbrev pub invariant-loop-k : goal.invariant-loop-k
invariant-loop-k l = (l.all ≡ counted (suc (suc l.turns + times l._k (suc l.body)))) × (l.all ≤ 60001)
