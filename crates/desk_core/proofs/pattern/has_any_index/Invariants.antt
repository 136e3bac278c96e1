use Rattle.std.proofs.Common.{◌≡◌, drop}
use Rattle.desk_core.specs.Patterns.{has_any_index}
use Rattle.desk_core.proofs.pattern.has_any_index.Given as goal

abbrev pub invariant-loop-i : goal.invariant-loop-i
invariant-loop-i l = has_any_index l.text ≡ has_any_index (drop l.i l.text)
