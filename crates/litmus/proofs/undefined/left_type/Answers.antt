use Rattle.std.proofs.Common.{refl}
use Rattle.c_program.proofs.Build.{computes}
use Rattle.litmus.proofs.Plain.{plain}
use Rattle.litmus.proofs.undefined.left_type.Goals as goal

pub returns-clause-sum : goal.returns-clause-sum
unfolding computes
returns-clause-sum c = record { is_well_formed = plain _ refl; is_run = tt; stops = refl }

pub returns-clause-difference : goal.returns-clause-difference
unfolding computes
returns-clause-difference c = record { is_well_formed = plain _ refl; is_run = tt; stops = refl }

pub returns-clause-product : goal.returns-clause-product
unfolding computes
returns-clause-product c = record { is_well_formed = plain _ refl; is_run = tt; stops = refl }

pub returns-clause-negation : goal.returns-clause-negation
unfolding computes
returns-clause-negation c = record { is_well_formed = plain _ refl; is_run = tt; stops = refl }

pub returns-clause-quotient : goal.returns-clause-quotient
unfolding computes
returns-clause-quotient c = record { is_well_formed = plain _ refl; is_run = tt; stops = refl }
