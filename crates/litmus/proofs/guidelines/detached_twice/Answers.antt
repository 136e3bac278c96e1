use Rattle.std.proofs.Common.{refl}
use Rattle.std.specs.Prelude.{[], ◌∷◌}
use Rattle.c_program.specs.Values.{Static}
use Rattle.c_program.specs.Requests.{Detaches}
use Rattle.c_program.proofs.Build.{computes}
use Rattle.litmus.specs.Pieces.{goes, answers}
use Rattle.litmus.specs.Guidelines.{two_detaches}
use Rattle.litmus.proofs.Plain.{plain}
use Rattle.litmus.proofs.Kept.{keeps_11}
use Rattle.litmus.proofs.guidelines.detached_twice.Goals as goal

pub returns : goal.returns
unfolding computes
returns c = record { is_well_formed = plain _ refl; is_run = (((tt, tt), tt), tt); breaks = (Detaches (record { root = Static 3; path = [] }), refl, refl); not_before = keeps_11 two_detaches (goes 0 ∷ answers 0 0 ∷ []) ((tt, tt), tt) }
