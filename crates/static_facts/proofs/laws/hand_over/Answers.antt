use Rattle.static_facts.proofs.Handover.{handed_over}
use Rattle.static_facts.proofs.laws.hand_over.Goals as goal

pub returns : goal.returns
returns c = handed_over c.args.program.now c.requires
