use Rattle.std.proofs.Common.{arith, refl, ℕ, ap, cond, ◌&&◌, false, get_or}
use Rattle.misra_base.specs.Guidelines.{same_guideline}
use Rattle.misra_base.specs.declared.finding.Finding.{Finding}
use Rattle.compliance_core.specs.Levels.{deviated_of}
use Rattle.compliance_core.proofs.MarkLemmas.{counted_more}
use Rattle.compliance_core.proofs.marks.count_settled.Goals as goal

pub loop-i-init : goal.loop-i-init
unfolding deviated_of
loop-i-init c = record { counted = refl; within = omega arith }

pub loop-i-preserved : goal.loop-i-preserved
loop-i-preserved c =
    let here = c.index-findings-i.result in
    let mark = get_or c.args.marks.now c.loop-i.i false in
    let more = counted_more c.args.plan.now c.args.deviations.now c.args.guideline c.args.findings.now c.args.marks.now c.loop-i.i here (omega arith) c.requires.settled in
    let same = ap {B = ℕ} (λ (x : Finding). cond (same_guideline x.guideline c.args.guideline && mark) 1 0) c.index-findings-i.is in
    record {
      counted = omega (arith, more, same, c.weight-count.ensures.value, c.loop-i.invariant.counted);
      within = omega (arith, c.weight-count.ensures.within);
    }
