use Rattle.std.proofs.Common.{refl}
use Rattle.std.specs.Prelude.{pos, []}
use Rattle.c_program.specs.Values.{Static}
use Rattle.c_program.proofs.Build.{computes}
use Rattle.litmus.specs.Pieces.{answers}
use Rattle.litmus.specs.Guidelines.{timed_lock_of_a_plain_mutex}
use Rattle.litmus.proofs.Plain.{plain}
use Rattle.litmus.proofs.Ends.{keeps_plain}
use Rattle.litmus.proofs.guidelines.timed_lock.Goals as goal

pub returns : goal.returns
unfolding computes
returns c = record {
  is_well_formed = plain _ refl;
  is_run = ((tt, tt), tt);
  breaks = (record { root = Static 0; path = [] }, pos 4, refl, refl);
  not_before = (keeps_plain timed_lock_of_a_plain_mutex (answers 0 0) [] refl, tt);
}
