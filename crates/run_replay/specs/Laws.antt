-- What holds of each replay.
use Rattle.std.specs.Prelude.{◌≡◌, ℕ, suc, true, false, List, length, Some, slice_get, slice_index_or}
use Rattle.misra_base.specs.declared.guideline.Guideline.{Guideline}
use Rattle.misra_base.specs.Guidelines.{guideline_number}
use Rattle.schedules.specs.declared.choice.Choice.{Choice as Written}
use Rattle.run_replay.specs.declared.outcome.Replay.{Replay}
use Rattle.run_replay.specs.declared.rows.StepRow.{StepRow}
use Rattle.c_program.specs.declared.program.Program.{Program}
use Rattle.c_program.specs.Breaks.{Breaks}
use Rattle.run_replay.specs.Choices.{first_choices}
use Rattle.run_replay.specs.Replays.{IsReplay}

-- two replays of a schedule have as many steps, and end alike
abbrev pub ReplaysAgree : Program → Type 0
ReplaysAgree program = (schedule : List Written) (a b : Replay) → IsReplay program schedule a → IsReplay program schedule b
    → (length a.steps ≡ length b.steps) × (a.end ≡ b.end)

-- what a replay names, the run up to its step breaks
abbrev pub NamesWhatIsBroken : Program → Type 0
NamesWhatIsBroken program = (schedule : List Written) (replay : Replay) (n : ℕ) (written : Written) (row : StepRow) (guideline : Guideline) → IsReplay program schedule replay
    → slice_get schedule n ≡ Some written → slice_get replay.steps n ≡ Some row → slice_index_or row.broken (guideline_number guideline) false ≡ true
    → Breaks guideline program (first_choices schedule (suc n))
