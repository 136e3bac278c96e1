use Rattle.std.proofs.Common.{arith, take}
use Rattle.compliance_core.proofs.MarkLemmas.{settled_first, settled_next}
use Rattle.compliance_core.proofs.marks.mark_settled.Goals as goal

pub loop-deviation-init : goal.loop-deviation-init
loop-deviation-init c = settled_first c.args.plan.now c.args.guideline c.args.findings.now _ c.mark_others.ensures

pub loop-deviation-preserved : goal.loop-deviation-preserved
loop-deviation-preserved c =
    settled_next c.args.plan.now c.args.deviations.now c.loop-deviation.deviation-index c.deviation-item.result c.args.guideline c.args.findings.now _ (omega arith) c.deviation-item.is
    (c.mark_next.ensures (take c.loop-deviation.deviation-index c.args.deviations.now) c.loop-deviation.invariant)
