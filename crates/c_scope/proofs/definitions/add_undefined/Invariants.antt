use Rattle.std.proofs.Common.{◌≡◌, ◌++◌, drop}
use Rattle.c_visibility.specs.Spelling.{texts}
use Rattle.c_scope.specs.Faults.{undefined_faults}
use Rattle.c_scope.proofs.definitions.add_undefined.Given as goal

abbrev pub invariant-loop-seen : goal.invariant-loop-seen
invariant-loop-seen l =
    l.faults.items ++ undefined_faults (texts l.names) l.all (drop l.seen-index l.all)
    ≡ l.fn.faults.items ++ undefined_faults (texts l.names) l.all l.all
