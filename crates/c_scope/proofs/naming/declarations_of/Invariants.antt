use Rattle.std.proofs.Common.{◌≡◌, ◌++◌, drop}
use Rattle.c_scope.specs.Names.{declarations_of}
use Rattle.c_scope.proofs.naming.declarations_of.Given as goal

abbrev pub invariant-loop-seen : goal.invariant-loop-seen
invariant-loop-seen l = l.declarations.items ++ declarations_of (drop l.seen-index l.all) ≡ declarations_of l.all
