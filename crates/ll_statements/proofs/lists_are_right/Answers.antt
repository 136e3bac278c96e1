use Rattle.std.proofs.Common.{refl}
use Rattle.ll_statements.specs.Lists.{lists, sentences, nothing, first, follow}
use Rattle.ll_statements.proofs.lists_are_right.Goals as goal

pub returns : goal.returns
unfolding lists sentences nothing first follow
returns c = record {
  some_production = refl;
  formed = refl;
  sentences = refl;
  nothing = refl;
  nothing_closed = refl;
  first = refl;
  first_closed = refl;
  follow = refl;
  follow_closed = refl;
}
