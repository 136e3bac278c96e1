use Rattle.std.proofs.Common.{◌≡◌, ◌+◌, false, refl}
use Rattle.call_order.specs.Marks.{Grows}
use Rattle.call_order.specs.Placings.{IsStuckBelow}
use Rattle.call_order.proofs.Placed.{round_placed, round_kept}
use Rattle.call_order.proofs.placing.Placing.round.Goals as goal
use Rattle.call_order.proofs.placing.Placing.round.Goals.{then-branch, else-branch}

pub loop-function-preserved : goal.loop-function-preserved
loop-function-preserved c =
    let first = c.args.self.now in
    let old = c.loop-function.self in
    let new = c.place.new.self in
    let i = c.loop-function.invariant in
    let both : Grows first.placed.items new.placed.items c.if-branch.grew × (c.if-branch.grew ≡ false → IsStuckBelow c.args.calls.now c.args.needed.now new (c.loop-function.function + 1)) = elim c.if-branch.branch [
      | then-branch w ↦ round_placed c.args.calls.now c.args.needed.now first old new c.loop-function.grew c.in_ok-place.field-0 c.if-branch.grew c.loop-function.function i.grows c.in_ok-place.ensures.grows i.stuck
          w.if-branch.true w.grew-is
      | else-branch w ↦ round_kept c.args.calls.now c.args.needed.now first old new c.loop-function.grew c.in_ok-place.field-0 c.if-branch.grew c.loop-function.function i.grows c.in_ok-place.ensures.grows i.stuck
          w.if-branch.false w.grew-is (c.in_ok-place.ensures.stuck w.if-branch.false)
    ] in
    record { end = refl; placing = c.in_ok-place.ensures.placing; grows = both.0; stuck = both.1 }
