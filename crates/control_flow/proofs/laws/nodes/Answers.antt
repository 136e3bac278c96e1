use Rattle.control_flow.proofs.Making.{spots_have_nodes}
use Rattle.control_flow.proofs.laws.nodes.Goals as goal

pub returns : goal.returns
returns c = spots_have_nodes c.args.program.now c.args.flow.now c.requires.well c.requires.made
