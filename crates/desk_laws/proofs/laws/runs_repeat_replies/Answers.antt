use Rattle.desk_laws.proofs.Repeating.{runs_repeat_replies as shown}
use Rattle.desk_laws.proofs.laws.runs_repeat_replies.Goals as goal

pub returns : goal.returns
returns c = shown
