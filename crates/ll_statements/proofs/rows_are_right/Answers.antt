use Rattle.std.proofs.Common.{refl}
use Rattle.ll_statements.specs.Lists.{lists, sentences, nothing, first, follow}
use Rattle.ll_statements.proofs.rows_are_right.Goals as goal

pub returns : goal.returns
unfolding lists sentences nothing first follow
returns c = record { predicted = refl; complete = refl; rise = refl }
