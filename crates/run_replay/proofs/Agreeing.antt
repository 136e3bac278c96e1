-- A schedule has one replay, which names only what is broken.
use Rattle.std.proofs.Common.{◌≡◌, ◌≤◌, sym, ap, ◌∙◌, length, arith}
use Rattle.c_program.specs.declared.program.Program.{Program}
use Rattle.run_replay.specs.Ends.{end_behind}
use Rattle.run_replay.specs.Laws.{ReplaysAgree, NamesWhatIsBroken}

pub agreeing : (program : Program) → ReplaysAgree program
agreeing program schedule a b first second =
    let fewer : length b.steps ≤ length a.steps = first.steps.longest (length b.steps) second.steps.within second.steps.runs in
    let more : length a.steps ≤ length b.steps = second.steps.longest (length a.steps) first.steps.within first.steps.runs in
    let same : length a.steps ≡ length b.steps = omega arith in
    (same, first.end ∙ ap (end_behind program schedule) same ∙ sym second.end)

pub names_broken : (program : Program) → NamesWhatIsBroken program
names_broken program schedule replay n written row guideline is at_n at_row named = (((is.rows n written row at_n at_row).broken guideline).0 named).0
