use Rattle.pointer_targets.proofs.Told.{told}
use Rattle.static_facts.proofs.Ordering.{either_way, in_order}
use Rattle.static_facts.proofs.laws.order.Goals as goal

pub returns-clause-threads : goal.returns-clause-threads
returns-clause-threads c = λ names sound. in_order c.args.program.now c.requires names (told c.args.program.now c.requires names sound)

pub returns-clause-either_way : goal.returns-clause-either_way
returns-clause-either_way c names = either_way c.args.program.now names
