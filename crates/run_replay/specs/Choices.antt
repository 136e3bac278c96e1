-- The choices of a schedule as those of a run, the last first.
use Rattle.std.specs.Prelude.{ℕ, List, map, take, reverse}
use Rattle.schedules.specs.declared.choice.Choice.{Choice as Written}
use Rattle.c_program.specs.Step.{Choice}

abbrev pub choice_of : Written → Choice
choice_of written = record { thread = written.thread; pair = written.pair; values = take written.count written.values }

-- the first n choices
abbrev pub first_choices : List Written → ℕ → List Choice
first_choices schedule n = reverse (map choice_of (take n schedule))
