use Rattle.desk_coding.specs.Rows.{change, kept}
use Rattle.desk_coding.proofs.Rows.{exact_change, exact_kept}
use Rattle.desk_coding.proofs.Wholes.{whole_again}
use Rattle.desk_coding.proofs.laws.what_is_put_is_taken.Goals as goal

pub returns : goal.returns
returns c = (whole_again kept exact_kept, whole_again change exact_change)
