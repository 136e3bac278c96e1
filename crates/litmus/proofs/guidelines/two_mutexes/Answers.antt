use Rattle.std.proofs.Common.{refl}
use Rattle.std.specs.Prelude.{[], ◌∷◌}
use Rattle.c_program.specs.Values.{Static}
use Rattle.c_program.proofs.Build.{computes}
use Rattle.litmus.specs.Pieces.{goes, answers}
use Rattle.litmus.specs.Guidelines.{two_mutexes_for_one_condition}
use Rattle.litmus.proofs.Plain.{plain}
use Rattle.litmus.proofs.Ends.{keeps_moving, waits_first}
use Rattle.litmus.proofs.guidelines.two_mutexes.Goals as goal

pub returns : goal.returns
unfolding computes
returns c = record {
  is_well_formed = plain _ refl;
  is_run = ((((((((tt, tt), tt), tt), tt), tt), tt), tt), tt);
  breaks = (record { root = Static 2; path = [] }, record { root = Static 1; path = [] }, refl, refl);
  not_before = (keeps_moving two_mutexes_for_one_condition (goes 0) (goes 0 ∷ goes 0 ∷ goes 0 ∷ answers 0 0 ∷ answers 0 0 ∷ answers 0 0 ∷ []) refl, (waits_first two_mutexes_for_one_condition (goes 0) (goes 0 ∷ goes 0 ∷ answers 0 0 ∷ answers 0 0 ∷ answers 0 0 ∷ []) (record { root = Static 2; path = [] }) (record { root = Static 0; path = [] }) refl refl, (keeps_moving two_mutexes_for_one_condition (goes 0) (goes 0 ∷ answers 0 0 ∷ answers 0 0 ∷ answers 0 0 ∷ []) refl, (keeps_moving two_mutexes_for_one_condition (goes 0) (answers 0 0 ∷ answers 0 0 ∷ answers 0 0 ∷ []) refl, (keeps_moving two_mutexes_for_one_condition (answers 0 0) (answers 0 0 ∷ answers 0 0 ∷ []) refl, (keeps_moving two_mutexes_for_one_condition (answers 0 0) (answers 0 0 ∷ []) refl, (keeps_moving two_mutexes_for_one_condition (answers 0 0) ([]) refl, tt)))))));
}
