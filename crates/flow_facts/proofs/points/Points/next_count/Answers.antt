use Rattle.std.proofs.Common.{sym, ◌∙◌}
use Rattle.std.proofs.lemmas.List.{length-map}
use Rattle.flow_facts.specs.Points.{nexts_at}
use Rattle.flow_facts.proofs.points.Points.next_count.Goals as goal

pub returns : goal.returns
unfolding nexts_at
returns c = c.next_count.ensures ∙ sym (length-map _ _)
