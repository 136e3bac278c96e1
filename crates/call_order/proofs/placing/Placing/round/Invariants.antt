use Rattle.std.proofs.Common.{◌≡◌, false, length}
use Rattle.call_order.specs.Marks.{Grows}
use Rattle.call_order.specs.Placings.{IsPlacing, IsStuckBelow}
use Rattle.call_order.proofs.placing.Placing.round.Given as goal

abbrev pub invariant-loop-function : goal.invariant-loop-function
invariant-loop-function l = record {
  end : l.function-end ≡ length l.calls;
  placing : IsPlacing l.calls l.needed l.self;
  grows : Grows l.fn.self.placed.items l.self.placed.items l.grew;
  stuck : l.grew ≡ false → IsStuckBelow l.calls l.needed l.self l.function;
}
