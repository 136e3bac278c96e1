use Rattle.control_flow.proofs.Making.{made_belongs}
use Rattle.control_flow.proofs.Moving.{edges_are_moves}
use Rattle.control_flow.proofs.laws.moves.Goals as goal

pub returns : goal.returns
returns c = edges_are_moves c.args.program.now c.args.flow.now c.requires.well (made_belongs c.args.program.now c.args.flow.now c.requires.well c.requires.made)
