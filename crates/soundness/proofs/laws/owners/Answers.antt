use Rattle.pointer_targets.proofs.Told.{told}
use Rattle.static_facts.proofs.Handover.{handed_over}
use Rattle.static_facts.proofs.Possible.{possible}
use Rattle.soundness.proofs.laws.owners.Goals as goal

pub returns-clause-depths : goal.returns-clause-depths
returns-clause-depths c = λ facts sound. possible c.args.program.now c.requires facts.names (told c.args.program.now c.requires facts.names sound.names)

pub returns-clause-hand_over : goal.returns-clause-hand_over
returns-clause-hand_over c = handed_over c.args.program.now c.requires
