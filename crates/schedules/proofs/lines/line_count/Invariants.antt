use Rattle.std.proofs.Common.{◌≡◌, ◌≤◌, ◌+◌, length}
use Rattle.schedules.specs.Lines.{lines}
use Rattle.schedules.proofs.lines.line_count.Given as goal

abbrev pub decreases-loop-rest : goal.decreases-loop-rest
decreases-loop-rest l = length l.rest

abbrev pub invariant-loop-rest : goal.invariant-loop-rest
invariant-loop-rest l = (l.count + length (lines l.rest) ≡ length (lines l.fn.text)) × (l.count + length l.rest ≤ length l.fn.text)
