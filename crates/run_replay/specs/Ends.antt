-- How a replay ends.
use Rattle.std.specs.Prelude.{ℕ, suc, Bool, nat_lt, if◌then◌else◌, List, [], ◌∷◌, length}
use Rattle.schedules.specs.declared.choice.Choice.{Choice as Written}
use Rattle.run_replay.specs.declared.outcome.End.{End}
use Rattle.run_replay.specs.declared.outcome.End.TheVariants as ends
use Rattle.c_program.specs.declared.program.Program.{Program}
use Rattle.c_program.specs.Step.{Choice, Outcome, Undefined}
use Rattle.c_program.specs.Runs.{state_after, outcome_of}
use Rattle.run_replay.specs.Choices.{first_choices}

abbrev pub end_by : Outcome → Bool → End
end_by Undefined is_over = ends.Undefined
end_by _ is_over = if is_over then ends.Returned else ends.Unfinished

-- of a run, by its last step
abbrev pub end_of : Program → List Choice → End
end_of program [] = ends.Unfinished
end_of program (choice ∷ choices) = end_by (outcome_of program choice choices) (state_after program (choice ∷ choices)).is_over

-- of a schedule whose first n choices are the longest run
abbrev pub end_behind : Program → List Written → ℕ → End
end_behind program schedule n = if nat_lt n (length schedule) then ends.NoStep (suc n) else end_of program (first_choices schedule n)
