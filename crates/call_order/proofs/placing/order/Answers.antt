use Rattle.std.proofs.Common.{◌≡◌, subst, rules, false, true, slice_index_or}
use Rattle.call_order.specs.Marks.{AreNeeded}
use Rattle.call_order.proofs.Placed.{in_order, main_placed}
use Rattle.call_order.proofs.placing.order.Goals as goal

pub returns-then-is_placed : goal.returns-then-is_placed
returns-then-is_placed c =
    let same : c.in-Ok.needed.items ≡ c.as_slice.result.now = search rules in
    let placed : slice_index_or c.in-Ok-place_all.placing.placed.items c.args.main false ≡ true = search rules in
    in_order c.args.calls.now c.args.main c.as_slice.result.now c.in-Ok-place_all.placing (subst (AreNeeded c.args.calls.now c.args.main) same c.in-Ok.ensures) c.in-Ok-place_all.ensures.placing placed

pub returns : goal.returns
returns c =
    let same : c.in-Ok.needed.items ≡ c.as_slice.result.now = search rules in
    let not_placed : slice_index_or c.in-Ok-place_all.placing.placed.items c.args.main false ≡ false = search rules in
    λ layered. main_placed c.args.calls.now c.args.main c.as_slice.result.now c.in-Ok-place_all.placing (subst (AreNeeded c.args.calls.now c.args.main) same c.in-Ok.ensures) layered
    c.in-Ok-place_all.ensures.stuck c.requires.main not_placed
