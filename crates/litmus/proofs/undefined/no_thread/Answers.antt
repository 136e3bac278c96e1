use Rattle.std.proofs.Common.{refl}
use Rattle.c_program.proofs.Build.{computes}
use Rattle.litmus.proofs.Plain.{plain}
use Rattle.litmus.proofs.undefined.no_thread.Goals as goal

pub returns-clause-joined : goal.returns-clause-joined
unfolding computes
returns-clause-joined c = record { is_well_formed = plain _ refl; is_run = tt; stops = refl }

pub returns-clause-detached : goal.returns-clause-detached
unfolding computes
returns-clause-detached c = record { is_well_formed = plain _ refl; is_run = tt; stops = refl }
