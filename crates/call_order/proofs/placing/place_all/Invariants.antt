use Rattle.std.proofs.Common.{◌≡◌, ◌+◌, false, length, cond}
use Rattle.call_order.specs.Marks.{unmarked}
use Rattle.call_order.specs.Placings.{IsPlacing, IsStuckBelow}
use Rattle.call_order.proofs.placing.place_all.Given as goal

abbrev pub invariant-loop-grew : goal.invariant-loop-grew
invariant-loop-grew l = record {
  placing : IsPlacing l.calls l.needed l.placing;
  stuck : l.grew ≡ false → IsStuckBelow l.calls l.needed l.placing (length l.calls);
}

abbrev pub decreases-loop-grew : goal.decreases-loop-grew
decreases-loop-grew l = unmarked l.placing.placed.items + cond l.grew 1 0
