use Rattle.std.proofs.Common.{take}
use Rattle.compliance_core.specs.Marks.{IsSettled}
use Rattle.compliance_core.proofs.marks.mark_settled.Given as goal

abbrev pub invariant-loop-deviation : goal.invariant-loop-deviation
invariant-loop-deviation l = IsSettled l.plan (take l.deviation-index l.deviations) l.guideline l.findings l.marks
