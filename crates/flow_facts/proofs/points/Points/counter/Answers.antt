use Rattle.std.proofs.Common.{◌<◌, length, map, ap, sym, ◌∙◌, subst, List}
use Rattle.c_program.specs.Control.{counted, Spot}
use Rattle.control_flow.specs.declared.flow.Round.{Round}
use Rattle.control_flow.specs.Labels.{spot_at, spot_in_list, round_of}
use Rattle.flow_facts.specs.Points.{point_at}
use Rattle.flow_facts.proofs.Views.{spot_there}
use Rattle.flow_facts.proofs.points.Points.counter.Goals as goal

pub returns : goal.returns
unfolding point_at spot_at
returns c =
    let spots = c.args.self.now.spots.items in
    let within : c.action.result < length spots = subst (λ n. c.action.result < n) (sym c.args.self.now.each_spot) c.action.ensures.within in
    c.value_in.ensures
    ∙ ap (λ (xs : List Round). counted (map round_of xs) c.args.local) c.as_slice.ensures.value
    ∙ sym (ap (λ (s : Spot). counted s.rounds c.args.local) (spot_there spots c.action.result c.index-spot.result.now within c.index-spot.ensures))
    ∙ ap (λ n. counted (spot_in_list spots n).rounds c.args.local) c.action.ensures.value
