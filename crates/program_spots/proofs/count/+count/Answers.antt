use Rattle.std.proofs.Common.{◌∙◌}
use Rattle.program_spots.proofs.Counting.{if_counted, loop_counted, counted_counted, switch_counted, after_counted}
use Rattle.program_spots.proofs.count.+count.Goals as goal

pub count-returns-in-If : goal.count-returns-in-If
count-returns-in-If t c = c.capped_sum.ensures ∙ if_counted c.args.statement.now _ c.in-If.condition _ c.in-If.yes _ c.in-If.no _ _ _ _ c.in-If.is c.get.ensures c.get-in-If.ensures c.get-in-If-2.ensures
    c.count_tested-tests.ensures c.count.ensures c.count-in-If.ensures c.capped_sum-sides.ensures

pub count-returns-in-Loop : goal.count-returns-in-Loop
count-returns-in-Loop t c = c.capped_sum-in-Loop.ensures ∙ loop_counted c.args.statement.now _ c.in-Loop.first _ c.in-Loop.second _ _ c.in-Loop.is c.get-in-Loop.ensures c.get-in-Loop-2.ensures
    c.count-in-Loop.ensures c.count-in-Loop-2.ensures

pub count-returns-in-Counted : goal.count-returns-in-Counted
count-returns-in-Counted t c = c.count_turns.ensures ∙ counted_counted c.args.statement.now c.in-Counted.counter _ c.in-Counted.body _ c.in-Counted.is c.get-in-Counted.ensures c.count-in-Counted.ensures

pub count-returns-in-Switch : goal.count-returns-in-Switch
count-returns-in-Switch t c = c.capped_sum-in-Switch.ensures ∙ switch_counted c.args.statement.now c.in-Switch.field-0 _ c.in-Switch.clauses _ c.in-Switch.is c.as_slice-in-Switch.ensures c.count_in-in-Switch.ensures

pub count_tested-returns-in-After : goal.count_tested-returns-in-After
count_tested-returns-in-After t c = c.capped_sum.ensures ∙ after_counted c.args.condition.now _ c.in-After.before _ c.in-After.last _ _ c.in-After.is c.get-in-After.ensures c.get-in-After-2.ensures
    c.count.ensures c.count_tested-in-After.ensures
