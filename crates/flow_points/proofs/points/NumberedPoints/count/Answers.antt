use Rattle.std.proofs.Common.{◌≡◌, ◌<◌, get_or, length, arith}
use Rattle.std.proofs.lemmas.List.{get_or_read}
use Rattle.flow_points.proofs.Counted.{all_points}
use Rattle.flow_points.proofs.points.NumberedPoints.count.Goals as goal

pub returns : goal.returns
returns c =
    let points = c.args.self.now in
    let l : points.graph.main < length points.totals.items = omega (arith, points.whole.main, points.counted.all) in
    let read : c.index.result.now ≡ get_or points.totals.items points.graph.main 0 = get_or_read points.totals.items points.graph.main _ l c.index.ensures 0 in
    omega (arith, read, points.counted.functions points.graph.main l, all_points points.graph points.whole, points.within)
