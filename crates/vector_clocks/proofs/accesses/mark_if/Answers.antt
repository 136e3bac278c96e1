use Rattle.std.proofs.Common.{sym, ◌∙◌}
use Rattle.std.proofs.lemmas.Bool.{cond-true}
use Rattle.vector_clocks.proofs.accesses.mark_if.Goals as goal

pub returns-in_ok-mark : goal.returns-in_ok-mark
returns-in_ok-mark c = c.in_ok-mark.ensures ∙ sym (cond-true _ _ _ c.if-is_of_the_kind.true)
