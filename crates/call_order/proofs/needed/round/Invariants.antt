use Rattle.std.proofs.Common.{◌≡◌, ℕ, false, length}
use Rattle.call_order.specs.Marks.{IsMore, AllNeeded, IsClosedBelow}
use Rattle.call_order.proofs.needed.round.Given as goal

abbrev pub invariant-loop-function : goal.invariant-loop-function
invariant-loop-function l = record {
  end : l.function-end ≡ length l.calls;
  more : IsMore l.fn.marks.items l.marks.items l.grew;
  needed : (main : ℕ) → AllNeeded l.calls main l.fn.marks.items → AllNeeded l.calls main l.marks.items;
  closed : l.grew ≡ false → IsClosedBelow l.calls l.marks.items l.function;
}
