use Rattle.std.proofs.Common.{refl}
use Rattle.std.specs.Prelude.{[], ◌∷◌}
use Rattle.c_program.proofs.Build.{computes}
use Rattle.litmus.specs.Pieces.{goes, answers}
use Rattle.litmus.specs.Guidelines.{two_writes}
use Rattle.litmus.proofs.Plain.{plain}
use Rattle.litmus.proofs.Race.{breaks}
use Rattle.litmus.proofs.Alone.{keeps_apart}
use Rattle.silence_samples.proofs.Racing.{has_finding}
use Rattle.silence_samples.proofs.laws.race.Goals as goal

pub returns-clause-found : goal.returns-clause-found
returns-clause-found c = λ facts sound. has_finding facts sound

pub returns-clause-run : goal.returns-clause-run
unfolding computes
returns-clause-run c = record {
  is_well_formed = plain _ refl;
  is_run = (((tt, tt), tt), tt);
  breaks = breaks;
  not_before = (keeps_apart two_writes 0 (goes 0) (answers 0 0 ∷ []) refl, (keeps_apart two_writes 0 (answers 0 0) [] refl, tt));
}
