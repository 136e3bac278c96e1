use Rattle.std.proofs.Common.{refl, inr}
use Rattle.std.specs.Prelude.{ℕ, [], ◌∷◌}
use Rattle.c_program.specs.Requests.{Goes}
use Rattle.c_program.specs.Effects.{Nothing}
use Rattle.c_program.specs.Runs.{Moment, moment_at}
use Rattle.c_program.proofs.Build.{computes, the}
use Rattle.litmus.specs.Pieces.{goes, answers}
use Rattle.litmus.specs.Guidelines.{creation_in_a_loop}
use Rattle.litmus.proofs.Plain.{plain}
use Rattle.litmus.proofs.Made.{keeps_once}
use Rattle.litmus.proofs.guidelines.dynamic_creation.Goals as goal

abbrev none : Moment
none = record { choice = goes 0; earlier = []; move = record { action = 0; left = [] }; effect = record { loads = []; stores = []; used = []; sync = Nothing; turn = Goes } }

abbrev at : ℕ → Moment
at k = the none (moment_at creation_in_a_loop (answers 0 0 ∷ goes 0 ∷ answers 0 0 ∷ goes 0 ∷ []) k)

pub returns : goal.returns
unfolding computes
returns c = record {
  is_well_formed = plain _ refl;
  is_run = ((((tt, tt), tt), tt), tt);
  breaks = (at 3, refl, (refl, inr (1, at 1, refl, refl, refl)));
  not_before = (keeps_once creation_in_a_loop (goes 0) (answers 0 0 ∷ goes 0 ∷ []) refl, (keeps_once creation_in_a_loop (answers 0 0) (goes 0 ∷ []) refl, (keeps_once creation_in_a_loop (goes 0) [] refl, tt)));
}
