use Rattle.std.proofs.Common.{◌∷◌, ap, ◌∙◌, option_copied}
use Rattle.schedules.specs.Pieces.{pieces_behind}
use Rattle.schedules.proofs.Lining.{counted_ended}
use Rattle.schedules.proofs.lines.behind_line.Goals as goal

pub returns-in-Some-clause-counted : goal.returns-in-Some-clause-counted
returns-in-Some-clause-counted c =
    counted_ended c.args.text.now c.cut.result.0.now c.in-Some.behind.now
    (c.cut.ensures.pieces ∙ ap (λ behind. c.cut.result.0.now ∷ pieces_behind 10 (option_copied behind)) c.in-Some.is)
