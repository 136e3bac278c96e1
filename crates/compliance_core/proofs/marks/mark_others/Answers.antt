use Rattle.std.proofs.Common.{arith, ◌∙◌, ap, get_or}
use Rattle.std.proofs.lemmas.List.{get_or_default}
use Rattle.compliance_core.specs.Marks.{is_other}
use Rattle.compliance_core.proofs.MarkLemmas.{marks_more}
use Rattle.compliance_core.proofs.marks.mark_others.Goals as goal

pub loop-i-preserved : goal.loop-i-preserved
loop-i-preserved c = λ j f below.
    marks_more c.loop-i.marks c.loop-i.i c.is_of_other.result (λ k. is_other c.args.guideline (get_or c.args.findings.now k f)) (omega arith)
    (λ k before. c.loop-i.invariant k f before)
    (c.is_of_other.ensures ∙ ap (is_other c.args.guideline) (c.index-findings-i.is ∙ get_or_default c.args.findings.now c.loop-i.i c.index-findings-i.result f (omega arith)))
    j below
