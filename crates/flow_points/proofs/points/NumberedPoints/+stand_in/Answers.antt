use Rattle.std.proofs.Common.{◌≡◌, ◌∙◌, ◌+◌, ◌-◌, ◌<◌, ℕ, suc, refl, ap, sym, subst, ◌∷◌, Option, Some, slice_get, arith}
use Rattle.std.specs.Prelude.{option_map, unwrap_or}
use Rattle.flow_points.specs.Transfers.{callee_of}
use Rattle.flow_points.specs.Graphs.{Has, first_of, length_of, actions_of, transfer_at}
use Rattle.flow_points.specs.Tables.{size_of, weight_of, points_before}
use Rattle.flow_points.specs.Frames.{IsFrame}
use Rattle.flow_points.proofs.Places.{place_has}
use Rattle.flow_points.proofs.Frames.{called_frame}
use Rattle.flow_points.proofs.Counted.{before_more}
use Rattle.flow_points.proofs.Numbers.{placed}
use Rattle.flow_points.proofs.points.NumberedPoints.+stand_in.Goals as goal

pub entered-requires-clause-high : goal.entered-requires-clause-high
entered-requires-clause-high t c =
    let points = c.args.self.now in
    let graph = points.graph in
    let n = c.args.function in
    let k = c.place.result in
    let l : k < length_of graph n = c.place.ensures.within in
    let first = c.function.ensures.first in
    let has : Has graph n (c.function.result.first + k) = (omega (arith, first), omega (arith, first, l)) in
    let here = placed points c.requires.comes.string n c.args.base (c.function.result.first + k) c.requires.comes.frame has in
    let at_k : points_before graph n (c.function.result.first + k - first_of graph n) ≡ points_before graph n k = ap (points_before graph n) (omega (arith, first)) in
    let heavy : weight_of graph (c.function.result.first + k) ≡ weight_of graph (first_of graph n + k) = ap (λ a. weight_of graph (a + k)) first in
    omega (arith, c.number-here.ensures, here.exact, at_k, before_more graph n k l, c.place.ensures.high, c.requires.low, heavy)

pub stand_in-requires : goal.stand_in-requires
stand_in-requires t c =
    let points = c.args.self.now in
    let graph = points.graph in
    let n = c.args.function in
    let k = c.place.result in
    let action = c.function.result.first + k in
    let callee = c.in-Some.callee in
    let l : k < length_of graph n = c.place.ensures.within in
    let first = c.function.ensures.first in
    let has : Has graph n action = (omega (arith, first), omega (arith, first, l)) in
    let comes = c.requires.comes in
    let here = placed points comes.string n c.args.base action comes.frame has in
    let at_k : points_before graph n (action - first_of graph n) ≡ points_before graph n k = ap (points_before graph n) (omega (arith, first)) in
    let calls : callee_of (transfer_at graph action) ≡ Some callee = c.in-Some.ensures.1 in
    let stands : slice_get (actions_of graph n) k ≡ Some action = place_has graph n k l ∙ ap (λ a. Some (a + k)) (sym first) in
    let place : c.args.base + points_before graph n k + 1 ≡ c.number-here.result + 1 = omega (arith, c.number-here.ensures, here.exact, at_k) in
    let heavy : weight_of graph (first_of graph n + k) ≡ suc (size_of graph callee) =
    ap (λ a. weight_of graph (a + k)) (sym first) ∙ ap (λ (o : Option ℕ). suc (unwrap_or (option_map (size_of graph) o) 0)) calls in (
      omega (arith, points.whole.callees n action callee has calls, c.decreases),
      (
        record {
          string = action ∷ comes.string;
          frame = subst (IsFrame graph (action ∷ comes.string) callee) place (called_frame graph points.whole comes.string n c.args.base comes.frame k action callee stands calls);
          calls = record { action = refl; function = n; frame = comes.frame; has = has };
        },
        (
          omega (arith, c.in-Some.ensures.0),
          (omega (arith, c.number-here.ensures, here.exact, at_k, before_more graph n k l, c.place.ensures.high, c.requires.low, heavy), c.requires.small),
        ),
      ),
    )
