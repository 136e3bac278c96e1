use Rattle.std.proofs.Common.{refl}
use Rattle.c_program.proofs.Build.{computes}
use Rattle.litmus.proofs.Counted.{is_well_formed}
use Rattle.litmus.proofs.runs.counts.Goals as goal

pub returns : goal.returns
unfolding computes
returns c = record {
  is_well_formed = is_well_formed;
  is_run = ((((((((((((((((((((((((((((((((((((((tt, tt), tt), tt), tt), tt), tt), tt), tt), tt), tt), tt), tt), tt), tt), tt), tt), tt), tt), tt), tt), tt), tt), tt), tt), tt), tt), tt), tt), tt), tt), tt), tt), tt), tt), tt), tt), tt), tt);
  is_over = refl;
  first = record { held = refl; made_at = refl; ended = refl; joined = refl };
  second = record { held = refl; made_at = refl; ended = refl; joined = refl };
  third = record { held = refl; made_at = refl; ended = refl; joined = refl };
  fourth = record { held = refl; made_at = refl; ended = refl; joined = refl };
}
