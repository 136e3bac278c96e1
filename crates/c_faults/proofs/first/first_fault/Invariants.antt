use Rattle.std.proofs.Common.{◌≡◌, drop}
use Rattle.std.specs.Option.{option_copied}
use Rattle.c_faults.specs.Faults.{first_behind, first_fault}
use Rattle.c_faults.proofs.first.first_fault.Given as goal

abbrev pub invariant-loop-fault : goal.invariant-loop-fault
invariant-loop-fault l = first_behind (option_copied l.first) (drop l.fault-index l.faults) ≡ first_fault l.faults
