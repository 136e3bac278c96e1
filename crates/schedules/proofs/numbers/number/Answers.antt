use Rattle.std.proofs.Common.{◌≡◌, ◌+◌, ◌-◌, ◌*◌, get_or, true, arith}
use Rattle.std.specs.Char.{is_ascii_digit}
use Rattle.schedules.proofs.Digits.{too_great, value_more}
use Rattle.schedules.proofs.numbers.number.Goals as goal

pub returns-then-number-most : goal.returns-then-number-most
returns-then-number-most c =
    let digits = c.args.digits.now in
    let i = c.loop-digit.digit-index in
    let is : is_ascii_digit (get_or digits i 0) ≡ true = grind (arith, c.is_ascii_digit.ensures.value, c.if-not-is_ascii_digit.false) in
    too_great digits (i + 1) c.args.most (c.loop-digit.number * 10 + (get_or digits i 0 - 48))
    (value_more digits i c.loop-digit.number c.loop-digit-test.true is c.loop-digit.invariant.0) c.if-number-most.true
