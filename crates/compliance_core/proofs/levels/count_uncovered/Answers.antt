use Rattle.std.proofs.Common.{arith}
use Rattle.compliance_core.proofs.Counting.{all_counted}
use Rattle.compliance_core.proofs.levels.count_uncovered.Goals as goal

pub overflow_sub-result : goal.overflow_sub-result
overflow_sub-result c = omega (arith, all_counted c.args.plan.now c.args.deviations.now c.args.findings.now c.args.guideline, c.count_findings.ensures)

pub returns : goal.returns
returns c = omega (arith, all_counted c.args.plan.now c.args.deviations.now c.args.findings.now c.args.guideline, c.count_findings.ensures)
