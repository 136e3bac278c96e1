use Rattle.std.proofs.Common.{◌≡◌, ◌||◌, ℕ, nat_eq, drop}
use Rattle.std.specs.List.{list_any}
use Rattle.indexmap.specs.IndexSet.{contains}
use Rattle.c_scope.specs.Things.{defines, is_defined}
use Rattle.c_scope.proofs.definitions.defined.Given as goal

abbrev pub invariant-loop-seen : goal.invariant-loop-seen
invariant-loop-seen l =
    (thing : ℕ) → (contains nat_eq l.things thing || list_any (defines thing) (drop l.seen-index l.all)) ≡ is_defined l.all thing
