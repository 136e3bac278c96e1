use Rattle.std.proofs.Common.{[], Option, unwrap_or, ap}
use Rattle.flow_points.specs.PointLists.{Point, at}
use Rattle.control_flow.specs.Labels.{view}
use Rattle.flow_facts.specs.Points.{point_at, entry_at, flow_of}
use Rattle.flow_facts.proofs.points.Points.entry.Goals as goal

pub returns-clause-entry : goal.returns-clause-entry
unfolding point_at entry_at
returns-clause-entry c = ap (λ (o : Option Point). view (flow_of c.args.self.now) (unwrap_or o (at [] 0))) c.entry.ensures
