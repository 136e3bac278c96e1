use Rattle.std.proofs.Common.{◌≡◌, true, false, length, rules, ap, sym, ◌∙◌, arith}
use Rattle.std.proofs.lemmas.Grind.{common_steps}
use Rattle.std.proofs.lemmas.Option.{slice_get_within}
use Rattle.ll_core.specs.declared.reductions.Pending.TheVariants.{Symbol, Close}
use Rattle.ll_core.specs.Trees.{is_left}
use Rattle.ll_core.proofs.Reducing.{closes, shifts, expands, taken, pushed_goes, pushed_size}
use Rattle.ll_core.proofs.reductions.postorder.Goals as goal

pub loop-pending-preserved-in-Continue-branch-2 : goal.loop-pending-preserved-in-Continue-branch-2
loop-pending-preserved-in-Continue-branch-2 g c = record {
  goes = closes _ _ _ _ _ c.in-Close.number _ c.in_ok-push-in-Close.ensures.items
      (taken _ _ _ _ _ _ _ (Close c.in-Close.number) c.in-Some.ensures.items c.in-Close.is c.loop-pending.invariant.goes);
  within = c.loop-pending.invariant.within;
}

pub production-requires : goal.production-requires
production-requires g c =
    let left : is_left c.args.grammar.now c.in-Symbol.symbol ≡ true = sym c.is_left.ensures ∙ c.if-is_left.true in
    let next = expands _ _ _ _ c.in-Symbol.symbol _ left (taken _ _ _ _ _ _ _ (Symbol c.in-Symbol.symbol) c.in-Some.ensures.items c.in-Symbol.is c.loop-pending.invariant.goes) in
    (search rules, slice_get_within c.args.grammar.now _ next.production next.found)

pub loop-pending-smaller-then-is_left : goal.loop-pending-smaller-then-is_left
loop-pending-smaller-then-is_left g c =
    let left : is_left c.args.grammar.now c.in-Symbol.symbol ≡ true = sym c.is_left.ensures ∙ c.if-is_left.true in
    let next = expands _ _ _ _ c.in-Symbol.symbol _ left (taken _ _ _ _ _ _ _ (Symbol c.in-Symbol.symbol) c.in-Some.ensures.items c.in-Symbol.is c.loop-pending.invariant.goes) in
    let in_range = next.in_range in
    let size = pushed_size c.production.result c.pop.new.self.items c.push-in-Symbol.new.self.items c.push_right.new.stack.items _ c.production.ensures.length c.in_ok-push-in-Symbol.ensures.items c.in_ok-push_right-in-Symbol.ensures in
    let before = ap length c.in-Some.ensures.items in
    grind (arith, common_steps, in_range, size, before)

pub loop-pending-preserved-then-is_left : goal.loop-pending-preserved-then-is_left
loop-pending-preserved-then-is_left g c =
    let left : is_left c.args.grammar.now c.in-Symbol.symbol ≡ true = sym c.is_left.ensures ∙ c.if-is_left.true in
    let next = expands _ _ _ _ c.in-Symbol.symbol _ left (taken _ _ _ _ _ _ _ (Symbol c.in-Symbol.symbol) c.in-Some.ensures.items c.in-Symbol.is c.loop-pending.invariant.goes) in
    let in_range = next.in_range in
    record {
      goes = pushed_goes _ _ _ _ c.pop.new.self.items c.push-in-Symbol.new.self.items c.push_right.new.stack.items c.production.result c.production.ensures.production c.in_ok-push-in-Symbol.ensures.items c.in_ok-push_right-in-Symbol.ensures next;
      within = omega (arith, in_range);
    }

pub loop-pending-preserved : goal.loop-pending-preserved
loop-pending-preserved g c =
    let token : is_left c.args.grammar.now c.in-Symbol.symbol ≡ false = sym c.is_left.ensures ∙ c.if-is_left.false in
    record {
      goes = shifts _ _ _ _ _ c.in-Symbol.symbol _ c.in_ok-push-in-Symbol-2.ensures.items token
          (taken _ _ _ _ _ _ _ (Symbol c.in-Symbol.symbol) c.in-Some.ensures.items c.in-Symbol.is c.loop-pending.invariant.goes);
      within = c.loop-pending.invariant.within;
    }
