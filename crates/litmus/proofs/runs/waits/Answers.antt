use Rattle.std.proofs.Common.{refl}
use Rattle.c_program.proofs.Build.{computes}
use Rattle.litmus.proofs.Plain.{plain}
use Rattle.litmus.proofs.runs.waits.Goals as goal

pub returns : goal.returns
unfolding computes
returns c = record { is_well_formed = plain _ refl; is_run = ((((((((tt, tt), tt), tt), tt), tt), tt), tt), tt); owned = refl; free = refl; first = refl; stays = refl; inside = refl; other = refl; blocked = refl; again = refl; outside = refl }
