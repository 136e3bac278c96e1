use Rattle.std.proofs.Common.{◌∷◌, ap, sym, ◌∙◌, option_copied}
use Rattle.schedules.specs.Lines.{choice_of_line, lines}
use Rattle.schedules.specs.Pieces.{pieces_behind}
use Rattle.schedules.proofs.Lining.{ended_line, first_outside}
use Rattle.schedules.proofs.lines.first_choice.Goals as goal

pub returns-in-None : goal.returns-in-None
returns-in-None c =
    let line = c.cut.result.0.now in
    let behind = c.in_ok-behind.behind.now in
    first_outside c.args.text.now (choice_of_line line) (lines behind)
    (ended_line c.args.text.now line behind (c.cut.ensures.pieces ∙ ap (λ rest. line ∷ pieces_behind 10 (option_copied rest)) c.in_ok-behind.was))
    (sym c.choice_of.ensures ∙ c.in-None.is)
