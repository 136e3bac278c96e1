use Rattle.std.proofs.Common.{◌≡◌, suc}
use Rattle.control_flow.specs.Layout.{times}
use Rattle.control_flow.proofs.size.size_of_turns.Given as goal

abbrev pub invariant-loop-k : goal.invariant-loop-k
invariant-loop-k l = (l.all ≡ times l._k (suc l.body)) × (l.turn ≡ suc l.body)
