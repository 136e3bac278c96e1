use Rattle.std.proofs.Common.{arith, ◌∙◌, ◌||◌, ap, false, get_or}
use Rattle.std.proofs.lemmas.List.{get_or_default}
use Rattle.compliance_core.specs.Covers.{does_cover}
use Rattle.compliance_core.proofs.MarkLemmas.{marks_more, marks_behind}
use Rattle.compliance_core.proofs.marks.mark_covered.Goals as goal

pub loop-i-preserved : goal.loop-i-preserved
loop-i-preserved c =
    let here = c.index-findings-i.result in
    let p = c.args.plan.now in
    let d = c.args.deviation.now in
    record {
      before = λ j f below.
          marks_more c.loop-i.marks c.loop-i.i c.marked.result (λ k. get_or c.args.marks.now k false || does_cover p d (get_or c.args.findings.now k f)) (omega arith)
          (λ k earlier. c.loop-i.invariant.before k f earlier)
          (c.marked.ensures
          ∙ ap (λ b. b || does_cover p d here) (c.loop-i.invariant.behind c.loop-i.i (omega arith))
          ∙ ap (λ x. get_or c.args.marks.now c.loop-i.i false || does_cover p d x) (c.index-findings-i.is ∙ get_or_default c.args.findings.now c.loop-i.i here f (omega arith)))
          j below;
      behind = λ j above. marks_behind c.loop-i.marks c.loop-i.i c.marked.result (λ k. get_or c.args.marks.now k false) c.loop-i.invariant.behind j above;
    }
