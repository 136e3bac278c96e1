use Rattle.type_safety.proofs.Runs.{memory_typed}
use Rattle.type_safety.proofs.laws.memory_is_typed.Goals as goal

pub returns : goal.returns
returns c = memory_typed c.args.program.now
