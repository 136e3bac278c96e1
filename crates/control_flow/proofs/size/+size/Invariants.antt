use Rattle.std.proofs.Common.{◌≡◌, ◌+◌, drop, length}
use Rattle.control_flow.specs.Listed.{size_of_list, size_of_operands}
use Rattle.control_flow.proofs.size.+size.Given as goal

abbrev pub invariant-size_in-loop-k : goal.invariant-size_in-loop-k
invariant-size_in-loop-k l = (l.total + size_of_list (drop l.k l.all) ≡ size_of_list l.all) × (l.k-end ≡ length l.all)

abbrev pub invariant-size_of_all_tested-loop-k : goal.invariant-size_of_all_tested-loop-k
invariant-size_of_all_tested-loop-k l = (l.total + size_of_operands (drop l.k l.all) ≡ size_of_operands l.all) × (l.k-end ≡ length l.all)
