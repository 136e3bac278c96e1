use Rattle.std.proofs.Common.{rules, ◌≡◌, ◌∙◌, length}
use Rattle.compliance_core.proofs.PatternLemmas.{filled_by_end}
use Rattle.compliance_core.proofs.pattern.fills.Goals as goal

pub returns : goal.returns
returns c =
    let ended : length c.loop-pattern.pattern.now ≡ 0 = search rules in
    c.is_empty-2.ensures ∙ filled_by_end c.loop-pattern.pattern.now c.loop-pattern.text.now ended ∙ c.loop-pattern.invariant
