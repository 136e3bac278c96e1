use Rattle.std.proofs.Common.{refl}
use Rattle.std.specs.Prelude.{[], ◌∷◌}
use Rattle.c_program.specs.Values.{Static}
use Rattle.c_program.specs.Requests.{Locks}
use Rattle.c_program.proofs.Build.{computes}
use Rattle.litmus.specs.Pieces.{goes, answers}
use Rattle.litmus.specs.Guidelines.{two_locks}
use Rattle.litmus.proofs.Plain.{plain}
use Rattle.litmus.proofs.Kept.{keeps_18}
use Rattle.litmus.proofs.guidelines.locked_twice.Goals as goal

pub returns : goal.returns
unfolding computes
returns c = record { is_well_formed = plain _ refl; is_run = (((tt, tt), tt), tt); breaks = (Locks (record { root = Static 0; path = [] }), refl, refl); not_before = keeps_18 two_locks (goes 0 ∷ answers 0 0 ∷ []) ((tt, tt), tt) }
