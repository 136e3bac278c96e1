use Rattle.std.proofs.Common.{refl}
use Rattle.c_program.proofs.Build.{computes}
use Rattle.litmus.proofs.Plain.{plain}
use Rattle.litmus.proofs.undefined.left_array.Goals as goal

pub returns-clause-index : goal.returns-clause-index
unfolding computes
returns-clause-index c = record { is_well_formed = plain _ refl; is_run = tt; stops = refl }

pub returns-clause-forward : goal.returns-clause-forward
unfolding computes
returns-clause-forward c = record { is_well_formed = plain _ refl; is_run = tt; stops = refl }

pub returns-clause-back : goal.returns-clause-back
unfolding computes
returns-clause-back c = record { is_well_formed = plain _ refl; is_run = tt; stops = refl }
