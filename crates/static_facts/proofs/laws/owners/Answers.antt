use Rattle.pointer_targets.proofs.Told.{told}
use Rattle.static_facts.proofs.Possible.{possible}
use Rattle.static_facts.proofs.laws.owners.Goals as goal

pub returns : goal.returns
returns c = λ names sound. possible c.args.program.now c.requires names (told c.args.program.now c.requires names sound)
