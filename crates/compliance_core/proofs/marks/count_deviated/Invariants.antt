use Rattle.std.proofs.Common.{◌≡◌, ◌+◌, length}
use Rattle.compliance_core.specs.Levels.{deviated_of}
use Rattle.compliance_core.proofs.marks.count_deviated.Given as goal

abbrev pub decreases-loop-rest : goal.decreases-loop-rest
decreases-loop-rest l = length l.rest

abbrev pub invariant-loop-rest : goal.invariant-loop-rest
invariant-loop-rest l = l.count + deviated_of l.plan l.deviations l.rest l.guideline ≡ deviated_of l.plan l.deviations l.findings l.guideline
