use Rattle.std.proofs.Common.{refl}
use Rattle.c_program.proofs.Build.{computes}
use Rattle.litmus.proofs.Plain.{plain}
use Rattle.litmus.proofs.undefined.null_address.Goals as goal

pub returns-clause-used : goal.returns-clause-used
unfolding computes
returns-clause-used c = record { is_well_formed = plain _ refl; is_run = (tt, tt); stops = refl }

pub returns-clause-moved : goal.returns-clause-moved
unfolding computes
returns-clause-moved c = record { is_well_formed = plain _ refl; is_run = (tt, tt); stops = refl }
