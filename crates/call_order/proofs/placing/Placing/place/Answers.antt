use Rattle.std.proofs.Common.{◌≡◌, true, false, sym, ◌∙◌, subst, inr, rules, slice_index_or}
use Rattle.std.specs.List.{list_all}
use Rattle.call_order.specs.Marks.{IsMarked}
use Rattle.call_order.specs.Orders.{callees_at}
use Rattle.call_order.proofs.Marking.{callees_are}
use Rattle.call_order.proofs.Placed.{names_unplaced, placed_more}
use Rattle.call_order.proofs.placing.Placing.place.Goals as goal

pub returns-then-not-are_placed-clause-stuck : goal.returns-then-not-are_placed-clause-stuck
returns-then-not-are_placed-clause-stuck c =
    let named = callees_are c.args.calls.now c.args.function c.index-calls-function.result c.requires.function c.index-calls-function.is in
    let same : c.as_slice.result.now ≡ callees_at c.args.calls.now c.args.function = cc in
    let some : c.are_placed.result ≡ false = search rules in
    λ e marked. inr (names_unplaced c.args.calls.now c.args.self.now.placed.items c.args.function c.as_slice.result.now same (sym c.are_placed.ensures ∙ some))

pub returns-clause-placing : goal.returns-clause-placing
returns-clause-placing c =
    let named = callees_are c.args.calls.now c.args.function c.index-calls-function.result c.requires.function c.index-calls-function.is in
    let same : c.as_slice.result.now ≡ callees_at c.args.calls.now c.args.function = cc in
    let are : c.are_placed.result ≡ true = search rules in
    let fresh : slice_index_or c.args.self.now.placed.items c.args.function false ≡ false = search rules in
    let wanted : IsMarked c.args.needed.now c.args.function = search rules in
    placed_more c.args.calls.now c.args.needed.now c.args.self.now _ c.args.function c.requires.function fresh
    (subst (λ xs. list_all (λ f. slice_index_or c.args.self.now.placed.items f false) xs ≡ true) same (sym c.are_placed.ensures ∙ are))
    (search rules) (search rules) wanted c.requires.placing
