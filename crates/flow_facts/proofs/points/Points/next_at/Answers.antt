use Rattle.std.proofs.Common.{◌<◌, length, [], Option, Some, option_map, unwrap_or, ap, sym, ◌∙◌, subst}
use Rattle.std.proofs.lemmas.List.{length-map}
use Rattle.std.proofs.lemmas.Option.{slice_get_within, slice_get-map}
use Rattle.flow_points.specs.PointLists.{Point, at, points_of, next_points, point_at as graph_point}
use Rattle.control_flow.specs.Labels.{view}
use Rattle.flow_facts.specs.Points.{point_at, nexts_at, flow_of}
use Rattle.flow_facts.proofs.Views.{item_there}
use Rattle.flow_facts.proofs.points.Points.next_at.Goals as goal

pub next_at-requires-clause-k : goal.next_at-requires-clause-k
unfolding nexts_at
next_at-requires-clause-k c = subst (λ n. c.args.k < n) (length-map _ _) c.requires.k

pub returns-clause-within : goal.returns-clause-within
unfolding nexts_at
returns-clause-within c =
    let graph = c.args.self.now.numbered.graph in
    let nexts = next_points graph (graph_point graph c.args.point) in
    let k : c.args.k < length nexts = subst (λ n. c.args.k < n) (length-map _ _) c.requires.k in
    let next = item_there nexts c.args.k k in
    slice_get_within (points_of graph) c.next_at.result next.0 (c.next_at.ensures ∙ next.1)

pub returns-clause-next : goal.returns-clause-next
unfolding nexts_at point_at
returns-clause-next c =
    let graph = c.args.self.now.numbered.graph in
    let nexts = next_points graph (graph_point graph c.args.point) in
    let see : Point → _ = view (flow_of c.args.self.now) in
    let k : c.args.k < length nexts = subst (λ n. c.args.k < n) (length-map _ _) c.requires.k in
    let next = item_there nexts c.args.k k in
    slice_get-map see nexts c.args.k ∙ ap (option_map see) next.1
    ∙ ap Some (sym (ap (λ (o : Option Point). see (unwrap_or o (at [] 0))) (c.next_at.ensures ∙ next.1)))
