use Rattle.std.proofs.Common.{◌≡◌, ◌≤◌, take}
use Rattle.compliance_core.specs.Levels.{deviated_of}
use Rattle.compliance_core.proofs.marks.count_settled.Given as goal

abbrev pub invariant-loop-i : goal.invariant-loop-i
invariant-loop-i l = record {
  counted : l.count ≡ deviated_of l.plan l.deviations (take l.i l.findings) l.guideline;
  within : l.count ≤ l.i;
}
