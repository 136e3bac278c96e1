use Rattle.tree_laws.proofs.Units.{one_tree}
use Rattle.tree_laws.proofs.laws.tree_is_one.Goals as goal

pub returns : goal.returns
returns c = one_tree
