use Rattle.std.proofs.Common.{refl}
use Rattle.c_program.proofs.Build.{computes}
use Rattle.litmus.proofs.Plain.{plain}
use Rattle.litmus.proofs.undefined.zero_divisor.Goals as goal

pub returns-clause-quotient : goal.returns-clause-quotient
unfolding computes
returns-clause-quotient c = record { is_well_formed = plain _ refl; is_run = tt; stops = refl }

pub returns-clause-remainder : goal.returns-clause-remainder
unfolding computes
returns-clause-remainder c = record { is_well_formed = plain _ refl; is_run = tt; stops = refl }
