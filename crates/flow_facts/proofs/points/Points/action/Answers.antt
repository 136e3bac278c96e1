use Rattle.std.proofs.Common.{◌<◌, length, ap, sym, ◌∙◌, subst}
use Rattle.control_flow.specs.Labels.{spot_at, spot_in_list}
use Rattle.flow_facts.specs.Points.{point_at}
use Rattle.flow_facts.proofs.Views.{spot_there}
use Rattle.flow_facts.proofs.points.Points.action.Goals as goal

pub returns : goal.returns
unfolding point_at spot_at
returns c =
    let within : c.action.result < length c.args.self.now.spots.items = subst (λ n. c.action.result < n) (sym c.args.self.now.each_spot) c.action.ensures.within in
    sym (ap (λ s. s.action) (spot_there c.args.self.now.spots.items c.action.result c.index.result.now within c.index.ensures))
    ∙ ap (λ n. (spot_in_list c.args.self.now.spots.items n).action) c.action.ensures.value
