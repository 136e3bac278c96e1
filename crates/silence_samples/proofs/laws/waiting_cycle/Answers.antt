use Rattle.std.proofs.Common.{◌≡◌, refl, None, arith}
use Rattle.std.specs.Prelude.{[], ◌∷◌, false}
use Rattle.c_program.specs.Values.{Static}
use Rattle.c_program.specs.Breaks.{to_lock, to_join}
use Rattle.c_program.proofs.Build.{computes}
use Rattle.litmus.specs.Pieces.{goes, answers}
use Rattle.litmus.specs.Guidelines.{join_of_a_locker}
use Rattle.litmus.proofs.Plain.{plain}
use Rattle.litmus.proofs.Waits.{no_cycle}
use Rattle.silence_samples.proofs.WaitingCycle.{has_finding}
use Rattle.silence_samples.proofs.laws.waiting_cycle.Goals as goal

pub returns-clause-found : goal.returns-clause-found
returns-clause-found c = λ facts sound. has_finding facts sound

pub returns-clause-run : goal.returns-clause-run
unfolding computes
returns-clause-run c = let fine = plain join_of_a_locker refl in record {
  is_well_formed = fine;
  is_run = (((tt, tt), tt), tt);
  breaks = (
    0,
    1 ∷ [],
    (
      to_join (record { root = Static 3; path = [] }) None refl refl refl,
      to_lock (record { root = Static 0; path = [] }) (record { kind = record { is_recursive = false; is_timed = false }; owner = 0; depth = 1 }) refl refl (omega arith) refl (λ e. let f : 0 ≡ 1 = e in omega arith),
    ),
  );
  not_before = (no_cycle join_of_a_locker fine.counts (goes 0 ∷ answers 0 0 ∷ []) ((tt, tt), tt) refl, (no_cycle join_of_a_locker fine.counts (answers 0 0 ∷ []) (tt, tt) refl, tt));
}
