use Rattle.c_tree.specs.StatementViews.{tree_view}
use Rattle.c_scope.proofs.declaring.declare.Goals as goal

pub returns-clause-names : goal.returns-clause-names
returns-clause-names c = c.in_ok-names.ensures (tree_view c.args.tree.now) c.in_ok-read.ensures
