use Rattle.pointer_targets.proofs.Told.{told}
use Rattle.static_facts.proofs.Held.{held_is_ordered}
use Rattle.static_facts.proofs.Ordering.{in_order}
use Rattle.soundness.proofs.laws.order.Goals as goal

pub returns-clause-threads : goal.returns-clause-threads
returns-clause-threads c = λ facts sound. in_order c.args.program.now c.requires facts.names (told c.args.program.now c.requires facts.names sound.names)

pub returns-clause-mutexes : goal.returns-clause-mutexes
returns-clause-mutexes c = λ facts sound. held_is_ordered c.args.program.now c.requires facts.names (told c.args.program.now c.requires facts.names sound.names)
