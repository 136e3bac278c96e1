use Rattle.std.proofs.Common.{◌≡◌, ◌++◌, drop}
use Rattle.c_scope.specs.Faults.{counted}
use Rattle.c_scope.proofs.limits.counted.Given as goal

abbrev pub invariant-loop-seen : goal.invariant-loop-seen
invariant-loop-seen l = l.places.items ++ counted l.limit (drop l.seen-index l.all) ≡ counted l.limit l.all
