use Rattle.std.proofs.Common.{refl}
use Rattle.std.specs.Prelude.{[]}
use Rattle.c_program.specs.Values.{Static}
use Rattle.c_program.specs.Values.{null}
use Rattle.c_program.specs.Requests.{Sets_key}
use Rattle.c_program.proofs.Build.{computes}
use Rattle.litmus.proofs.Plain.{plain}
use Rattle.litmus.proofs.guidelines.key_used_before_creation.Goals as goal

pub returns : goal.returns
unfolding computes
returns c = record { is_well_formed = plain _ refl; is_run = (tt, tt); breaks = (Sets_key (record { root = Static 4; path = [] }) null, refl, refl); not_before = tt }
