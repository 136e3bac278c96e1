use Rattle.std.proofs.Common.{◌≡◌, ◌++◌, length, map, Some}
use Rattle.schedules.specs.Lines.{lines}
use Rattle.schedules.proofs.schedule.choices_in.Given as goal

abbrev pub decreases-loop-rest : goal.decreases-loop-rest
decreases-loop-rest l = length l.rest

abbrev pub invariant-loop-rest : goal.invariant-loop-rest
invariant-loop-rest l = lines l.fn.text ≡ map Some l.choices.items ++ lines l.rest
