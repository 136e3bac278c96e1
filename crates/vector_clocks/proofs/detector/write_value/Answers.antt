use Rattle.std.proofs.Common.{sym, ap, ◌∙◌}
use Rattle.std.proofs.lemmas.Bool.{cond-true}
use Rattle.vector_clocks.specs.Held.{clocks_of, changed}
use Rattle.vector_clocks.proofs.detector.write_value.Goals as goal

pub returns-in_ok-put : goal.returns-in_ok-put
returns-in_ok-put c = c.in_ok-put.ensures
    ∙ ap (λ clock. changed (clocks_of c.args.values.now) c.args.cell (λ _. clock)) c.in_ok-copied.ensures
    ∙ sym (cond-true _ _ _ (sym c.if-is_atomic_write.ensures))
