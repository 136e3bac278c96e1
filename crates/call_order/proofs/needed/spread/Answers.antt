use Rattle.std.proofs.Common.{◌≡◌, subst, Contains}
use Rattle.call_order.specs.Marks.{IsMarked, IsWith}
use Rattle.call_order.specs.Orders.{callees_at}
use Rattle.call_order.proofs.Marking.{callees_are, spread_needed}
use Rattle.call_order.proofs.needed.spread.Goals as goal

pub returns-then-is_marked-clause-needed : goal.returns-then-is_marked-clause-needed
returns-then-is_marked-clause-needed c =
    let named = callees_are c.args.calls.now c.args.function c.index-calls-function.result c.requires c.index-calls-function.is in
    let same : c.as_slice-then-is_marked.result.now ≡ callees_at c.args.calls.now c.args.function = cc in
    let marked : IsMarked c.args.marks.now.items c.args.function = cc in
    spread_needed c.args.calls.now c.args.marks.now.items c.mark_all.new.marks.items c.args.function marked
    (subst (IsWith c.args.marks.now.items c.mark_all.new.marks.items) same c.mark_all.ensures.with)

pub returns-then-is_marked-clause-closed : goal.returns-then-is_marked-clause-closed
returns-then-is_marked-clause-closed c =
    let named = callees_are c.args.calls.now c.args.function c.index-calls-function.result c.requires c.index-calls-function.is in
    let same : callees_at c.args.calls.now c.args.function ≡ c.as_slice-then-is_marked.result.now = cc in
    λ callee marked names known. c.mark_all.ensures.with.all callee (subst (λ xs. Contains xs callee) same names) known
