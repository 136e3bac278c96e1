use Rattle.std.proofs.Common.{take}
use Rattle.misra_base.specs.Rows.{has_bit}
use Rattle.compliance_core.specs.Hashes.{IsFilter}
use Rattle.compliance_core.proofs.hashes.hashes_of.Given as goal

abbrev pub invariant-loop-finding : goal.invariant-loop-finding
invariant-loop-finding l = IsFilter (has_bit l.hashes) l.guideline (take l.finding-index l.findings)
