use Rattle.std.proofs.Common.{◌≡◌, ◌∙◌, ◌&&◌, sym, false}
use Rattle.misra_base.specs.Rows.{has_bit}
use Rattle.compliance_core.specs.Hashes.{deviation_hash}
use Rattle.compliance_core.specs.Marks.{can_cover}
use Rattle.compliance_core.proofs.MarkLemmas.{covers_none_of, settled_more, settled_past}
use Rattle.compliance_core.proofs.marks.mark_next.Goals as goal

pub returns-then-may_cover : goal.returns-then-may_cover
returns-then-may_cover c = λ before h.
    settled_more c.args.plan.now before c.args.deviation.now c.args.guideline c.args.findings.now c.args.marks.now _ c.mark_covered.ensures h

pub returns-else-may_cover : goal.returns-else-may_cover
returns-else-may_cover c = λ before h.
    let plan = c.args.plan.now in
    let d = c.args.deviation.now in
    let g = c.args.guideline in
    let findings = c.args.findings.now in
    let cannot : (can_cover plan d g && has_bit c.args.hashes.now (deviation_hash d)) ≡ false = sym c.may_cover.ensures ∙ c.if-may_cover.false in
    settled_past plan before d g findings c.args.marks.now (covers_none_of (has_bit c.args.hashes.now) plan d g findings c.requires.hashed cannot) h
