use Rattle.std.proofs.Common.{◌≡◌, ◌∙◌, ◌+◌, ap, sym, subst, ◌∷◌, ℕ, get_or, Option, Some, arith}
use Rattle.std.specs.Prelude.{unwrap_or}
use Rattle.flow_points.specs.declared.transfer.Transfer.{Transfer}
use Rattle.flow_points.specs.Transfers.{callee_of}
use Rattle.flow_points.specs.declared.points.NumberedPoints.{NumberedPoints}
use Rattle.flow_points.specs.Graphs.{transfer_at, entry_of}
use Rattle.flow_points.specs.PointLists.{IsAt, at, point_at}
use Rattle.flow_points.proofs.Numbering.{created_frame, entry_placed, is_at}
use Rattle.flow_points.proofs.points.NumberedPoints.created.Goals as goal

-- what the action of a point calls, as the code reads it
calls_by : (points : NumberedPoints) (number action : ℕ) (t : Transfer) (o : Option ℕ) (callee : ℕ) → action ≡ (point_at points.graph number).action → t ≡ transfer_at points.graph action → o ≡ callee_of t → o ≡ Some callee
    → callee_of (transfer_at points.graph (point_at points.graph number).action) ≡ Some callee
calls_by points number action t o callee is does names has = ap (λ a. callee_of (transfer_at points.graph a)) (sym is) ∙ ap callee_of (sym does) ∙ sym names ∙ has

pub function-requires : goal.function-requires
function-requires c =
    let points = c.args.self.now in
    let calls = calls_by points c.args.point c.action.result c.transfer.result _ c.in-Some.callee c.action.ensures.value c.transfer.ensures c.callee.ensures c.in-Some.is in
    (created_frame points c.args.point _ (is_at points.graph c.args.point c.requires.point) c.in-Some.callee calls).exists

pub number-requires-clause-action : goal.number-requires-clause-action
number-requires-clause-action c =
    let points = c.args.self.now in
    let calls = calls_by points c.args.point c.action.result c.transfer.result _ c.in-Some.callee c.action.ensures.value c.transfer.ensures c.callee.ensures c.in-Some.is in
    let here = entry_placed points c.args.point _ (is_at points.graph c.args.point c.requires.point) c.in-Some.callee calls in
    omega (arith, here.inside, c.function.ensures.entry)

pub number-requires-clause-small : goal.number-requires-clause-small
number-requires-clause-small c =
    let points = c.args.self.now in
    let calls = calls_by points c.args.point c.action.result c.transfer.result _ c.in-Some.callee c.action.ensures.value c.transfer.ensures c.callee.ensures c.in-Some.is in
    let here = entry_placed points c.args.point _ (is_at points.graph c.args.point c.requires.point) c.in-Some.callee calls in
    omega (arith, here.number, points.within, ap (λ a. get_or points.before.items a 0) c.function.ensures.entry)

pub returns : goal.returns
returns c =
    let points = c.args.self.now in
    let point = point_at points.graph c.args.point in
    let calls = calls_by points c.args.point c.action.result c.transfer.result _ c.in-Some.callee c.action.ensures.value c.transfer.ensures c.callee.ensures c.in-Some.is in
    let here = entry_placed points c.args.point point (is_at points.graph c.args.point c.requires.point) c.in-Some.callee calls in
    let entry : entry_of points.graph c.in-Some.callee ≡ entry_of points.graph (unwrap_or (callee_of (transfer_at points.graph point.action)) 0) =
    ap (λ (o : Option ℕ). entry_of points.graph (unwrap_or o 0)) (sym calls) in
    let number : c.args.point + 1 + get_or points.before.items (entry_of points.graph c.in-Some.callee) 0 ≡ c.number.result =
    ap (λ a. c.args.point + 1 + get_or points.before.items a 0) (sym c.function.ensures.entry) ∙ sym c.number.ensures in
    subst (λ a. IsAt points.graph c.number.result (at (point.action ∷ point.string) a)) entry
    (subst (λ n. IsAt points.graph n (at (point.action ∷ point.string) (entry_of points.graph c.in-Some.callee))) number here.is_at)
