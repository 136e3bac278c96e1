use Rattle.std.proofs.Common.{◌≡◌, length}
use Rattle.compliance_core.specs.Patterns.{is_filled}
use Rattle.compliance_core.proofs.pattern.fills.Given as goal

abbrev pub decreases-loop-pattern : goal.decreases-loop-pattern
decreases-loop-pattern l = length l.pattern

abbrev pub invariant-loop-pattern : goal.invariant-loop-pattern
invariant-loop-pattern l = is_filled l.pattern l.text ≡ is_filled l.fn.pattern l.fn.text
