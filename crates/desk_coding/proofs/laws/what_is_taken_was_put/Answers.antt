use Rattle.desk_coding.specs.Rows.{change, kept}
use Rattle.desk_coding.proofs.Rows.{exact_change, exact_kept}
use Rattle.desk_coding.proofs.Wholes.{whole_taken}
use Rattle.desk_coding.proofs.laws.what_is_taken_was_put.Goals as goal

pub returns : goal.returns
returns c = (λ bytes x is e. (whole_taken kept exact_kept bytes x is e).1, λ bytes x is e. (whole_taken change exact_change bytes x is e).1)
