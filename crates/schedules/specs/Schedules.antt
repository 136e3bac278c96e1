-- What a schedule is, and why a text is none.
use Rattle.std.specs.Prelude.{ℕ, Bool, ◌||◌, nat_lt, if◌then◌else◌, List, length, Option, Some, None, Result, Ok, Err}
use Rattle.std.specs.List.{filter_map, position_from}
use Rattle.std.specs.Option.{is_none}
use Rattle.schedules.specs.declared.choice.Choice.{Choice}
use Rattle.schedules.specs.declared.schedule.ScheduleStop.{ScheduleStop}
use Rattle.schedules.specs.declared.schedule.ScheduleStop.TheVariants.{TooLong, Form}
use Rattle.schedules.specs.Lines.{lines}

abbrev pub is_too_long : List ℕ → Bool
is_too_long text = nat_lt 262144 (length text) || nat_lt 10000 (length (lines text))

-- by the number of the first line outside the form, from 1
abbrev pub judged : Option ℕ → List (Option Choice) → Result (List Choice) ScheduleStop
judged (Some n) written = Err (Form n)
judged None written = Ok (filter_map (λ choice. choice) written)

abbrev pub schedule_in : List (Option Choice) → Result (List Choice) ScheduleStop
schedule_in written = judged (position_from is_none 1 written) written

-- the choices that a text writes, or why it is no schedule
abbrev pub schedule : List ℕ → Result (List Choice) ScheduleStop
schedule text = if is_too_long text then Err TooLong else schedule_in (lines text)
