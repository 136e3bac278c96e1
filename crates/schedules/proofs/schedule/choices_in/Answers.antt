use Rattle.std.proofs.Common.{◌≡◌, length, arith}
use Rattle.schedules.proofs.Lining.{read_to_end}
use Rattle.schedules.proofs.schedule.choices_in.Goals as goal

pub returns : goal.returns
returns c =
    let end : length c.loop-rest.rest.now ≡ 0 = grind (arith, c.is_empty.ensures, c.loop-rest-test.false) in
    read_to_end c.args.text.now c.loop-rest.rest.now c.loop-rest.choices.items end c.loop-rest.invariant
