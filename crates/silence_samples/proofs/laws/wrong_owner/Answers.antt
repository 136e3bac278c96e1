use Rattle.std.proofs.Common.{refl}
use Rattle.std.specs.Prelude.{[], ◌∷◌}
use Rattle.c_program.specs.Values.{Static}
use Rattle.c_program.specs.Requests.{Unlocks}
use Rattle.c_program.proofs.Build.{computes}
use Rattle.litmus.specs.Pieces.{goes, answers}
use Rattle.litmus.proofs.Plain.{plain}
use Rattle.litmus.proofs.Kept.{keeps_17}
use Rattle.silence_samples.specs.Samples.{unlock_by_another}
use Rattle.silence_samples.proofs.WrongOwner.{has_finding}
use Rattle.silence_samples.proofs.laws.wrong_owner.Goals as goal

pub returns-clause-found : goal.returns-clause-found
returns-clause-found c = λ facts sound. has_finding facts sound

pub returns-clause-run : goal.returns-clause-run
unfolding computes
returns-clause-run c = record {
  is_well_formed = plain _ refl;
  is_run = ((((tt, tt), tt), tt), tt);
  breaks = (Unlocks (record { root = Static 0; path = [] }), refl, refl);
  not_before = keeps_17 unlock_by_another (answers 0 0 ∷ goes 0 ∷ answers 0 0 ∷ []) (((tt, tt), tt), tt);
}
