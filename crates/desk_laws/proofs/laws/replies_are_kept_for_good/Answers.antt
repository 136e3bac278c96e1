use Rattle.desk_laws.proofs.Staying.{kept_for_good as shown}
use Rattle.desk_laws.proofs.laws.replies_are_kept_for_good.Goals as goal

pub returns : goal.returns
returns c = shown
