use Rattle.std.proofs.Common.{refl}
use Rattle.c_program.proofs.Build.{computes}
use Rattle.litmus.proofs.Plain.{plain}
use Rattle.litmus.proofs.undefined.no_result.Goals as goal

pub returns-clause-of_a_call : goal.returns-clause-of_a_call
unfolding computes
returns-clause-of_a_call c = record { is_well_formed = plain _ refl; is_run = (tt, tt); stops = refl }

pub returns-clause-of_a_thread : goal.returns-clause-of_a_thread
unfolding computes
returns-clause-of_a_thread c = record { is_well_formed = plain _ refl; is_run = ((tt, tt), tt); stops = refl }
