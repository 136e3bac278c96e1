use Rattle.desk_laws.proofs.Stepping.{steps_keep_keys as shown}
use Rattle.desk_laws.proofs.laws.steps_keep_keys.Goals as goal

pub returns : goal.returns
returns c = shown
