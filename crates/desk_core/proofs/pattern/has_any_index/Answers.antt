use Rattle.std.proofs.Common.{◌∙◌, sym}
use Rattle.desk_core.proofs.Patterns.{goes_on}
use Rattle.desk_core.proofs.pattern.has_any_index.Goals as goal

pub loop-i-preserved : goal.loop-i-preserved
loop-i-preserved c =
    c.loop-i.invariant
    ∙ goes_on c.args.text.now c.loop-i.i c.loop-i-test.true (sym c.begins_with_any_index.ensures ∙ c.if-begins_with_any_index.false)
