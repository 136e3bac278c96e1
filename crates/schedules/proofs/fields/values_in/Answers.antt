use Rattle.std.proofs.Common.{map, option_copied, sym, ap, ◌∙◌}
use Rattle.schedules.specs.Lines.{value}
use Rattle.schedules.specs.Pieces.{pieces_behind}
use Rattle.schedules.proofs.Values.{filled, too_many}
use Rattle.schedules.proofs.fields.values_in.Goals as goal

pub returns-then-count-eq3 : goal.returns-then-count-eq3
returns-then-count-eq3 c =
    too_many c.loop-rest.values c.loop-rest.count c.in-Some.text.now (map value (pieces_behind 32 (option_copied c.args.fields))) c.if-count-eq3.true
    (ap (λ rest. filled c.loop-rest.values c.loop-rest.count (map value (pieces_behind 32 (option_copied rest)))) (sym c.in-Some.is) ∙ c.loop-rest.invariant.1)
