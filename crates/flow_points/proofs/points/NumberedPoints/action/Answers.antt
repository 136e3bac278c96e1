use Rattle.std.proofs.Common.{ap, sym, arith}
use Rattle.flow_points.proofs.Numbers.{stand_point}
use Rattle.flow_points.specs.PointLists.{Point}
use Rattle.flow_points.proofs.points.NumberedPoints.action.Goals as goal

pub returns-clause-value : goal.returns-clause-value
returns-clause-value c = sym (ap (λ (p : Point). p.action) (stand_point c.args.self.now c.args.point c.stand.result c.stand.ensures))

pub returns-clause-within : goal.returns-clause-within
returns-clause-within c = omega (arith, c.stand.ensures.has.1, c.args.self.now.whole.within c.stand.result.function)
