use Rattle.std.proofs.Common.{◌≡◌, ◌++◌, drop}
use Rattle.c_visibility.specs.Spelling.{texts}
use Rattle.c_scope.specs.Faults.{placed_faults}
use Rattle.c_scope.proofs.placed.add_placed.Given as goal

abbrev pub invariant-loop-seen : goal.invariant-loop-seen
invariant-loop-seen l =
    l.faults.items ++ placed_faults (texts l.names) (drop l.seen-index l.all) ≡ l.fn.faults.items ++ placed_faults (texts l.names) l.all
