use Rattle.std.proofs.Common.{sym, subst, [], arith}
use Rattle.flow_points.specs.Graphs.{Has}
use Rattle.flow_points.specs.PointLists.{IsAt, at}
use Rattle.flow_points.proofs.Frames.{main_frame}
use Rattle.flow_points.proofs.Numbers.{placed}
use Rattle.flow_points.proofs.points.NumberedPoints.first.Goals as goal

pub number-requires-clause-small : goal.number-requires-clause-small
number-requires-clause-small c =
    let points = c.args.self.now in
    let has : Has points.graph points.graph.main c.function.result.entry = subst (Has points.graph points.graph.main) (sym c.function.ensures.entry) (points.whole.entries points.graph.main points.whole.main) in
    omega (arith, (placed points [] points.graph.main 0 c.function.result.entry (main_frame points.graph points.whole) has).number, points.within)

pub returns : goal.returns
returns c =
    let points = c.args.self.now in
    let has : Has points.graph points.graph.main c.function.result.entry = subst (Has points.graph points.graph.main) (sym c.function.ensures.entry) (points.whole.entries points.graph.main points.whole.main) in
    let here = placed points [] points.graph.main 0 c.function.result.entry (main_frame points.graph points.whole) has in
    subst (λ a. IsAt points.graph c.number.result (at [] a)) c.function.ensures.entry (subst (λ n. IsAt points.graph n (at [] c.function.result.entry)) (sym c.number.ensures) here.is_at)
