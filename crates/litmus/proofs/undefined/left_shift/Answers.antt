use Rattle.std.proofs.Common.{refl}
use Rattle.c_program.proofs.Build.{computes}
use Rattle.litmus.proofs.Plain.{plain}
use Rattle.litmus.proofs.undefined.left_shift.Goals as goal

pub returns-clause-leaves : goal.returns-clause-leaves
unfolding computes
returns-clause-leaves c = record { is_well_formed = plain _ refl; is_run = tt; stops = refl }

pub returns-clause-negative : goal.returns-clause-negative
unfolding computes
returns-clause-negative c = record { is_well_formed = plain _ refl; is_run = tt; stops = refl }

pub returns-clause-width : goal.returns-clause-width
unfolding computes
returns-clause-width c = record { is_well_formed = plain _ refl; is_run = tt; stops = refl }

pub returns-clause-below : goal.returns-clause-below
unfolding computes
returns-clause-below c = record { is_well_formed = plain _ refl; is_run = tt; stops = refl }
