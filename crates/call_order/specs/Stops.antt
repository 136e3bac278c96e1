-- Why functions have no order.
use Rattle.std.specs.Prelude.{ℕ, List}
use Rattle.call_order.specs.declared.calls.Callees.{Callees}
use Rattle.call_order.specs.declared.placing.OrderStop.{OrderStop}
use Rattle.call_order.specs.declared.placing.OrderStop.TheVariants.{Cycle, Memory}
use Rattle.call_order.specs.Orders.{IsLayered}

abbrev pub StopsBy : List Callees → ℕ → OrderStop → Type 0
StopsBy calls main Cycle = IsLayered calls main → ⊥
StopsBy calls main Memory = Unit {0}
