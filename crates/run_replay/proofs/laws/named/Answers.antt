use Rattle.run_replay.proofs.Agreeing.{names_broken}
use Rattle.run_replay.proofs.laws.named.Goals as goal

pub returns : goal.returns
returns c = names_broken c.args.program.now
