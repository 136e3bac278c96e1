use Rattle.pointer_targets.proofs.Libraries.{one_cell}
use Rattle.pointer_targets.proofs.Sites.{static_led}
use Rattle.pointer_targets.proofs.laws.libraries.Goals as goal

pub returns-clause-are_static : goal.returns-clause-are_static
returns-clause-are_static c = static_led c.args.program.now c.requires

pub returns-clause-one_cell : goal.returns-clause-one_cell
returns-clause-one_cell c = one_cell c.args.program.now c.requires
