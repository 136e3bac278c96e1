use Rattle.std.proofs.Common.{◌≡◌, ◌∙◌}
use Rattle.std.proofs.lemmas.Result.{IfOk-weaker}
use Rattle.control_flow.specs.Layout.{size_of, size_of_test}
use Rattle.control_flow.proofs.Sizing.{if_sized, loop_sized, counted_sized, switch_sized, after_sized}
use Rattle.control_flow.proofs.size.+size.Goals as goal

pub size-returns-in_ok-both-in-If : goal.size-returns-in_ok-both-in-If
size-returns-in_ok-both-in-If t c = IfOk-weaker c.plus-in-If.result _ (λ n. n ≡ size_of c.args.statement.now)
    (λ n e. e ∙ if_sized c.args.statement.now _ c.in-If.condition _ c.in-If.yes _ c.in-If.no _ _ _ _ c.in-If.is c.get.ensures c.get-in-If.ensures c.get-in-If-2.ensures
    c.in_ok-tests-in-If.ensures c.in_ok-a-in-If.ensures c.in_ok-b-in-If.ensures c.in_ok-both-in-If.ensures) c.plus-in-If.ensures

pub size-returns-in_ok-b-in-Loop : goal.size-returns-in_ok-b-in-Loop
size-returns-in_ok-b-in-Loop t c = IfOk-weaker c.plus-in-Loop.result _ (λ n. n ≡ size_of c.args.statement.now)
    (λ n e. e ∙ loop_sized c.args.statement.now _ c.in-Loop.first _ c.in-Loop.second _ _ c.in-Loop.is c.get-in-Loop.ensures c.get-in-Loop-2.ensures
    c.in_ok-a-in-Loop.ensures c.in_ok-b-in-Loop.ensures) c.plus-in-Loop.ensures

pub size-returns-in_ok-turn-in-Counted : goal.size-returns-in_ok-turn-in-Counted
size-returns-in_ok-turn-in-Counted t c = IfOk-weaker c.size_of_turns.result _ (λ n. n ≡ size_of c.args.statement.now)
    (λ n e. e ∙ counted_sized c.args.statement.now c.in-Counted.counter _ c.in-Counted.body _ c.in-Counted.is c.get-in-Counted.ensures c.in_ok-turn-in-Counted.ensures) c.size_of_turns.ensures

pub size-returns-in_ok-all-in-Switch : goal.size-returns-in_ok-all-in-Switch
size-returns-in_ok-all-in-Switch t c = IfOk-weaker c.plus-in-Switch.result _ (λ n. n ≡ size_of c.args.statement.now)
    (λ n e. e ∙ switch_sized c.args.statement.now c.in-Switch.field-0 _ c.in-Switch.clauses _ c.in-Switch.is c.as_slice-in-Switch.ensures c.in_ok-all-in-Switch.ensures) c.plus-in-Switch.ensures

pub size_tested-returns-in_ok-b-in-After : goal.size_tested-returns-in_ok-b-in-After
size_tested-returns-in_ok-b-in-After t c = IfOk-weaker c.plus.result _ (λ n. n ≡ size_of_test c.args.condition.now)
    (λ n e. e ∙ after_sized c.args.condition.now _ c.in-After.before _ c.in-After.last _ _ c.in-After.is c.get-in-After.ensures c.get-in-After-2.ensures
    c.in_ok-a-in-After.ensures c.in_ok-b-in-After.ensures) c.plus.ensures
