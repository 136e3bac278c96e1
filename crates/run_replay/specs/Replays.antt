-- The replay of a schedule.
use Rattle.std.specs.Prelude.{◌≡◌, ℕ, suc, ◌<◌, ◌≤◌, ◌↔◌, true, false, List, length, Some, slice_get, slice_index_or}
use Rattle.misra_base.specs.declared.guideline.Guideline.{Guideline}
use Rattle.misra_base.specs.Guidelines.{guideline_number}
use Rattle.schedules.specs.declared.choice.Choice.{Choice as Written}
use Rattle.run_replay.specs.declared.outcome.Replay.{Replay}
use Rattle.run_replay.specs.declared.rows.StepRow.{StepRow}
use Rattle.c_program.specs.declared.program.Program.{Program}
use Rattle.c_program.specs.Runs.{state_after, IsRun}
use Rattle.c_program.specs.Breaks.{Breaks}
use Rattle.run_replay.specs.Choices.{choice_of, first_choices}
use Rattle.run_replay.specs.Steps.{running, place_of}
use Rattle.run_replay.specs.Ends.{end_behind}

-- the first n choices are a run, and no more are
pub record IsLongest (program : Program) (schedule : List Written) (n : ℕ) : Type 0 where
  pub within : n ≤ length schedule
  pub runs : IsRun program (first_choices schedule n)
  pub longest : (more : ℕ) → more ≤ length schedule → IsRun program (first_choices schedule more) → more ≤ n

-- the run of the first n steps breaks the guideline at its last one, and no shorter one does
abbrev pub BreaksFirst : Guideline → Program → List Written → ℕ → Type 0
BreaksFirst guideline program schedule n = Breaks guideline program (first_choices schedule n)
    × ((fewer : ℕ) → fewer < n → Breaks guideline program (first_choices schedule fewer) → ⊥)

-- what is told of the step at n, from 0
pub record IsRow (program : Program) (schedule : List Written) (n : ℕ) (written : Written) (row : StepRow) : Type 0 where
  pub thread : row.thread ≡ written.thread
  pub place : place_of program (state_after program (first_choices schedule n)) (choice_of written) ≡ Some row.place
  pub function : running program (state_after program (first_choices schedule n)) written.thread ≡ Some row.function
  pub broken : (guideline : Guideline) → (slice_index_or row.broken (guideline_number guideline) false ≡ true) ↔ BreaksFirst guideline program schedule (suc n)

-- the replay of a schedule: its longest run, what is told of each step, and how it ends
pub record IsReplay (program : Program) (schedule : List Written) (replay : Replay) : Type 0 where
  pub steps : IsLongest program schedule (length replay.steps)
  pub rows : (n : ℕ) (written : Written) (row : StepRow) → slice_get schedule n ≡ Some written → slice_get replay.steps n ≡ Some row
      → IsRow program schedule n written row
  pub end : replay.end ≡ end_behind program schedule (length replay.steps)
