use Rattle.std.proofs.Common.{◌≡◌, ◌+◌, false, length, cond}
use Rattle.call_order.specs.Marks.{IsMarked, AllNeeded, IsClosedBelow, unmarked}
use Rattle.call_order.proofs.needed.needed.Given as goal

abbrev pub invariant-loop-grew : goal.invariant-loop-grew
invariant-loop-grew l = record {
  long : length l.marks.items ≡ length l.calls;
  first : IsMarked l.marks.items l.main;
  only : AllNeeded l.calls l.main l.marks.items;
  closed : l.grew ≡ false → IsClosedBelow l.calls l.marks.items (length l.calls);
}

abbrev pub decreases-loop-grew : goal.decreases-loop-grew
decreases-loop-grew l = unmarked l.marks.items + cond l.grew 1 0
