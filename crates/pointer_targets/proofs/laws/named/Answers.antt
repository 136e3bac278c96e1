use Rattle.pointer_targets.proofs.Candidates.{names_allowed}
use Rattle.pointer_targets.proofs.laws.named.Goals as goal

pub returns : goal.returns
returns c = names_allowed c.args.program.now c.requires
