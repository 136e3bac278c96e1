use Rattle.std.proofs.Common.{refl, arith, inr}
use Rattle.std.specs.Prelude.{[], ◌∷◌}
use Rattle.c_program.specs.Values.{Static}
use Rattle.c_program.specs.Requests.{Goes}
use Rattle.c_program.specs.Effects.{Nothing}
use Rattle.c_program.specs.Runs.{Moment, moment_at}
use Rattle.c_program.proofs.Build.{computes, the}
use Rattle.litmus.specs.Pieces.{goes, answers}
use Rattle.litmus.specs.Guidelines.{end_as_owner}
use Rattle.litmus.proofs.Plain.{plain}
use Rattle.litmus.proofs.Ends.{keeps_going}
use Rattle.litmus.proofs.guidelines.ended_as_owner.Goals as goal

abbrev none : Moment
none = record { choice = goes 0; earlier = []; move = record { action = 0; left = [] }; effect = record { loads = []; stores = []; used = []; sync = Nothing; turn = Goes } }

pub returns : goal.returns
unfolding computes
returns c = record {
  is_well_formed = plain _ refl;
  is_run = (((tt, tt), tt), tt);
  breaks = inr (the none (moment_at end_as_owner (goes 0 ∷ goes 0 ∷ answers 0 0 ∷ []) 2), record { root = Static 0; path = [] }, refl, refl, omega arith);
  not_before = (keeps_going end_as_owner (goes 0) (answers 0 0 ∷ []) refl refl, (keeps_going end_as_owner (answers 0 0) [] refl refl, tt));
}
