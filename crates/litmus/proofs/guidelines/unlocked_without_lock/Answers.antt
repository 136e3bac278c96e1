use Rattle.std.proofs.Common.{refl}
use Rattle.std.specs.Prelude.{[], ◌∷◌}
use Rattle.c_program.specs.Values.{Static}
use Rattle.c_program.specs.Requests.{Unlocks}
use Rattle.c_program.proofs.Build.{computes}
use Rattle.litmus.specs.Pieces.{answers}
use Rattle.litmus.specs.Guidelines.{unlock_without_lock}
use Rattle.litmus.proofs.Plain.{plain}
use Rattle.litmus.proofs.Kept.{keeps_17}
use Rattle.litmus.proofs.guidelines.unlocked_without_lock.Goals as goal

pub returns : goal.returns
unfolding computes
returns c = record { is_well_formed = plain _ refl; is_run = ((tt, tt), tt); breaks = (Unlocks (record { root = Static 0; path = [] }), refl, refl); not_before = keeps_17 unlock_without_lock (answers 0 0 ∷ []) (tt, tt) }
