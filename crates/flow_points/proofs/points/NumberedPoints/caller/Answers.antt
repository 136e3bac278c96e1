use Rattle.std.proofs.Common.{◌≡◌, ◌∙◌, ℕ, ap, sym, subst, List, [], ◌∷◌, Some, None, arith}
use Rattle.flow_points.specs.PointLists.{Point, point_at, IsAt, at, IsCalledFrom}
use Rattle.flow_points.proofs.Numbers.{stand_point, called_by, not_called, placed}
use Rattle.flow_points.proofs.Numbering.{base_of, at_number, is_at}
use Rattle.flow_points.proofs.points.NumberedPoints.caller.Goals as goal

pub number-requires-clause-small : goal.number-requires-clause-small
number-requires-clause-small c =
    let called = called_by c.args.self.now.graph c.stand.ensures.comes.string c.stand.result.caller c.in-Some.caller c.in-Some.is c.stand.ensures.comes.calls in
    omega (arith, (placed c.args.self.now called.rest called.function c.in-Some.caller.base c.in-Some.caller.action called.frame called.has).number, c.args.self.now.within)

pub returns-in-Some-clause-call : goal.returns-in-Some-clause-call
returns-in-Some-clause-call c =
    let points = c.args.self.now in
    let called = called_by points.graph c.stand.ensures.comes.string c.stand.result.caller c.in-Some.caller c.in-Some.is c.stand.ensures.comes.calls in
    let here = placed points called.rest called.function c.in-Some.caller.base c.in-Some.caller.action called.frame called.has in
    let string : (point_at points.graph c.args.point).string ≡ c.in-Some.caller.action ∷ called.rest =
    ap (λ (p : Point). p.string) (stand_point points c.args.point c.stand.result c.stand.ensures) ∙ called.is in
    subst (λ (s : List ℕ). IsCalledFrom points.graph s (Some c.number.result)) (sym string) (subst (λ n. IsAt points.graph n (at called.rest c.in-Some.caller.action)) (sym c.number.ensures) here.is_at)

pub returns-in-Some-clause-before : goal.returns-in-Some-clause-before
returns-in-Some-clause-before c =
    let points = c.args.self.now in
    let called = called_by points.graph c.stand.ensures.comes.string c.stand.result.caller c.in-Some.caller c.in-Some.is c.stand.ensures.comes.calls in
    let here = placed points called.rest called.function c.in-Some.caller.base c.in-Some.caller.action called.frame called.has in
    let string : (point_at points.graph c.args.point).string ≡ c.in-Some.caller.action ∷ called.rest =
    ap (λ (p : Point). p.string) (stand_point points c.args.point c.stand.result c.stand.ensures) ∙ called.is in
    omega (arith, c.number.ensures, (at_number points _ _ here.is_at).number, (at_number points c.args.point _ (is_at points.graph c.args.point c.requires)).number, ap (base_of points) string)

pub returns-in-None-clause-call : goal.returns-in-None-clause-call
returns-in-None-clause-call c =
    let points = c.args.self.now in
    let string : (point_at points.graph c.args.point).string ≡ [] =
    ap (λ (p : Point). p.string) (stand_point points c.args.point c.stand.result c.stand.ensures)
    ∙ not_called points.graph c.stand.ensures.comes.string c.stand.result.caller c.in-None.is c.stand.ensures.comes.calls in
    subst (λ (s : List ℕ). IsCalledFrom points.graph s None) (sym string) tt
