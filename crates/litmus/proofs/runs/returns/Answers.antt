use Rattle.std.proofs.Common.{◌≡◌, refl, true}
use Rattle.misra_base.specs.declared.guideline.Guideline.{Guideline}
use Rattle.misra_base.specs.declared.guideline.Guideline.TheVariants.{D5_1, D5_2, D5_3, R15_4, R15_5, R17_7, R17_8, R21_25, R21_26, R22_11, R22_12, R22_13, R22_14, R22_15, R22_16, R22_17, R22_18, R22_19, R22_20}
use Rattle.c_program.specs.Runs.{IsGoodRun}
use Rattle.c_program.specs.WellFormed.{IsWellFormed}
use Rattle.c_program.proofs.Build.{computes}
use Rattle.litmus.specs.Runs.{counting, counting_schedule, static_cell}
use Rattle.litmus.specs.Statements.{KeepsTo}
use Rattle.litmus.proofs.Plain.{plain}
use Rattle.litmus.proofs.Kept.{keeps_21_25, keeps_11, keeps_12, keeps_13, keeps_14, keeps_15, keeps_17, keeps_18, keeps_20}
use Rattle.litmus.proofs.Each.{at_each, keeps_15_4, keeps_15_5, keeps_17_7, keeps_17_8, none_timed, keeps_21_26, none_waits, keeps_19, made_once, keeps_5_3, rested, keeps_5_2, one_mutex, lets_go, keeps_16}
use Rattle.litmus.proofs.Shared.{keeps_5_1}
use Rattle.litmus.proofs.Counting.{settled}
use Rattle.litmus.proofs.runs.returns.Goals as goal

is_well_formed : IsWellFormed counting
unfolding computes
is_well_formed = plain _ refl

is_run : IsGoodRun counting counting_schedule
unfolding computes
is_run = ((((((((((((((((((((tt, tt), tt), tt), tt), tt), tt), tt), tt), tt), tt), tt), tt), tt), tt), tt), tt), tt), tt), tt), tt)

rests : at_each (rested counting) counting_schedule ≡ true
unfolding computes
rests = refl

is_made_once : at_each (made_once counting) counting_schedule ≡ true
unfolding computes
is_made_once = refl

no_timed : at_each (none_timed counting) counting_schedule ≡ true
unfolding computes
no_timed = refl

no_wait : at_each (none_waits counting) counting_schedule ≡ true
unfolding computes
no_wait = refl

one : at_each (one_mutex counting (static_cell 0)) counting_schedule ≡ true
unfolding computes
one = refl

goes : at_each (lets_go counting (static_cell 0)) counting_schedule ≡ true
unfolding computes
goes = refl

keeps : (guideline : Guideline) → KeepsTo guideline counting counting_schedule
keeps D5_1 = keeps_5_1 counting counting_schedule settled
keeps D5_2 = keeps_5_2 counting is_well_formed.counts counting_schedule is_run rests
keeps D5_3 = keeps_5_3 counting counting_schedule is_made_once
keeps R15_4 = keeps_15_4 counting counting_schedule
keeps R15_5 = keeps_15_5 counting counting_schedule
keeps R17_7 = keeps_17_7 counting counting_schedule
keeps R17_8 = keeps_17_8 counting counting_schedule
keeps R21_25 = keeps_21_25 counting counting_schedule is_run
keeps R21_26 = keeps_21_26 counting counting_schedule no_timed
keeps R22_11 = keeps_11 counting counting_schedule is_run
keeps R22_12 = keeps_12 counting counting_schedule is_run
keeps R22_13 = keeps_13 counting counting_schedule is_run
keeps R22_14 = keeps_14 counting counting_schedule is_run
keeps R22_15 = keeps_15 counting counting_schedule is_run
keeps R22_16 = keeps_16 counting (static_cell 0) counting_schedule one goes
keeps R22_17 = keeps_17 counting counting_schedule is_run
keeps R22_18 = keeps_18 counting counting_schedule is_run
keeps R22_19 = keeps_19 counting counting_schedule no_wait
keeps R22_20 = keeps_20 counting counting_schedule is_run

pub returns : goal.returns
unfolding computes
returns c = record { is_well_formed = is_well_formed; is_run = is_run; is_over = refl; holds = refl; keeps = keeps }
