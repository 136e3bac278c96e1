use Rattle.program_spots.proofs.Once.{body_once}
use Rattle.program_spots.proofs.laws.once.Goals as goal

pub returns : goal.returns
returns c = body_once c.args.program.now c.args.function c.requires
