use Rattle.run_replay.proofs.Agreeing.{agreeing}
use Rattle.run_replay.proofs.laws.agree.Goals as goal

pub returns : goal.returns
returns c = agreeing c.args.program.now
