use Rattle.type_safety.proofs.Runs.{each_listed}
use Rattle.type_safety.proofs.laws.undefined_steps.Goals as goal

pub returns : goal.returns
returns c = each_listed c.args.program.now
