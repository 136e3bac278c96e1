use Rattle.std.proofs.Common.{arith}
use Rattle.compliance_core.proofs.Counting.{all_counted}
use Rattle.compliance_core.proofs.marks.count_deviated_in.Goals as goal

pub returns-then-count_findings-eq0 : goal.returns-then-count_findings-eq0
returns-then-count_findings-eq0 c = omega (arith, all_counted c.args.plan.now c.args.deviations.now c.args.findings.now c.args.guideline, c.count_findings.ensures)
