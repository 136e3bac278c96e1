use Rattle.std.proofs.Common.{◌≡◌, drop}
use Rattle.std.specs.List.{list_any}
use Rattle.c_scope.specs.Things.{is_main}
use Rattle.c_scope.proofs.definitions.has_main.Given as goal

abbrev pub invariant-loop-seen : goal.invariant-loop-seen
invariant-loop-seen l = list_any is_main (drop l.seen-index l.all) ≡ list_any is_main l.all
