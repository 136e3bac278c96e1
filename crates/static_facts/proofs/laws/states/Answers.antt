use Rattle.pointer_targets.proofs.Told.{told}
use Rattle.static_facts.proofs.Ordering.{what_is_seen}
use Rattle.static_facts.proofs.Lifetimes.{unmade_possible}
use Rattle.static_facts.proofs.laws.states.Goals as goal

pub returns-clause-seen : goal.returns-clause-seen
returns-clause-seen c = λ names sound. what_is_seen c.args.program.now c.requires names (told c.args.program.now c.requires names sound)

pub returns-clause-unmade : goal.returns-clause-unmade
returns-clause-unmade c = λ names sound. unmade_possible c.args.program.now c.requires names (told c.args.program.now c.requires names sound)
