use Rattle.std.proofs.Common.{◌≡◌, ◌≤◌, length, map, take, reverse}
use Rattle.c_visibility.specs.Scopes.{innermost}
use Rattle.c_visibility.specs.Knowledge.{has}
use Rattle.c_visibility.proofs.scopes.find.Given as goal

abbrev pub invariant-loop-depth : goal.invariant-loop-depth
invariant-loop-depth l = record {
  within : l.depth ≤ length l.levels;
  same : innermost (has (take l.depth l.levels) l.identifier) ≡ innermost (has l.levels l.identifier);
}

abbrev pub decreases-loop-depth : goal.decreases-loop-depth
decreases-loop-depth l = l.depth
