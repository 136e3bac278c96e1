use Rattle.std.proofs.Common.{refl}
use Rattle.std.specs.Prelude.{[]}
use Rattle.c_program.specs.Values.{Static}
use Rattle.c_program.specs.Requests.{Locks}
use Rattle.c_program.proofs.Build.{computes}
use Rattle.litmus.proofs.Plain.{plain}
use Rattle.litmus.proofs.guidelines.used_before_initialisation.Goals as goal

pub returns : goal.returns
unfolding computes
returns c = record { is_well_formed = plain _ refl; is_run = (tt, tt); breaks = (Locks (record { root = Static 0; path = [] }), refl, refl); not_before = tt }
