use Rattle.std.proofs.Common.{◌≡◌, ◌+◌, ◌≤◌, drop, length}
use Rattle.control_flow.specs.Listed.{size_of_list, size_of_operands}
use Rattle.program_spots.specs.Counts.{counted}
use Rattle.program_spots.proofs.count.+count.Given as goal

abbrev pub invariant-count_in-loop-k : goal.invariant-count_in-loop-k
invariant-count_in-loop-k l = (counted (l.total + size_of_list (drop l.k l.all)) ≡ counted (size_of_list l.all)) × (l.k-end ≡ length l.all) × (l.total ≤ 60001)

abbrev pub invariant-count_operands-loop-k : goal.invariant-count_operands-loop-k
invariant-count_operands-loop-k l = (counted (l.total + size_of_operands (drop l.k l.all)) ≡ counted (size_of_operands l.all)) × (l.k-end ≡ length l.all) × (l.total ≤ 60001)
