use Rattle.pointer_targets.proofs.Told.{told}
use Rattle.static_facts.proofs.Held.{held_is_ordered}
use Rattle.static_facts.proofs.laws.held_order.Goals as goal

pub returns : goal.returns
returns c = λ names sound. held_is_ordered c.args.program.now c.requires names (told c.args.program.now c.requires names sound)
