use Rattle.std.proofs.Common.{◌≡◌, ◌∙◌, refl, sym, ap, arith}
use Rattle.std.specs.Prelude.{option_to_list}
use Rattle.std.proofs.lemmas.Bool.{false≢true}
use Rattle.std.proofs.lemmas.Result.{IfOk-weaker}
use Rattle.c_program.specs.declared.statement.Condition.{Condition}
use Rattle.c_program.specs.declared.statement.Statement.{Statement}
use Rattle.control_flow.specs.Layout.{first, first_test}
use Rattle.control_flow.specs.Listed.{first_of_clauses}
use Rattle.control_flow.proofs.Firsts.{in_if, in_switch, in_not, some_clause, loop_first, after_first, back_place, back_first}
use Rattle.control_flow.proofs.first.+first.Goals as goal

pub first_in-overflow_sub-place : goal.first_in-overflow_sub-place
first_in-overflow_sub-place t c =
    let back = back_place c.args.all.now c.loop-k.k c.args.n c.loop-k.place c.in_ok-length-2.length c.index-all-k.result c.loop-k-test.true c.loop-k.invariant.within c.index-all-k.is
    c.in_ok-length-2.ensures c.loop-k.invariant.place in
    omega (arith, back)

pub first_in-loop-k-preserved : goal.first_in-loop-k-preserved
first_in-loop-k-preserved t c =
    let back = back_place c.args.all.now c.loop-k.k c.args.n c.loop-k.place c.in_ok-length-2.length c.index-all-k.result c.loop-k-test.true c.loop-k.invariant.within c.index-all-k.is
    c.in_ok-length-2.ensures c.loop-k.invariant.place in
    record {
      within = omega (arith, c.loop-k.invariant.within);
      place = omega (arith, back);
      found = back_first c.args.all.now c.loop-k.k c.loop-k.place c.in_ok-length-2.length c.index-all-k.result _ _ _ _ _ c.loop-k-test.true c.loop-k.invariant.within c.index-all-k.is
          c.in_ok-length-2.ensures (omega (arith, back)) c.loop-k.invariant.found c.in_ok-here.ensures;
    }

pub first_node-returns-in-If : goal.first_node-returns-in-If
first_node-returns-in-If t c =
    let h = option_to_list c.args.targets.here in
    let o = option_to_list c.args.targets.out in
    let g = option_to_list c.args.targets.again in
    IfOk-weaker c.first_tested.result _ (λ found. option_to_list found ≡ first c.args.statement.now c.args.n h o g)
    (λ found e. e ∙ ap (λ (k : Condition). first_test k c.args.n o g) c.get.ensures
    ∙ sym (ap (λ (s : Statement). first s c.args.n h o g) c.in-If.is ∙ in_if c.in-If.condition c.in-If.field-1 c.in-If.field-2 c.args.n h o g)) c.first_tested.ensures

pub first_node-returns-in_ok-second-in-Loop : goal.first_node-returns-in_ok-second-in-Loop
first_node-returns-in_ok-second-in-Loop t c =
    let h = option_to_list c.args.targets.here in
    let o = option_to_list c.args.targets.out in
    let g = option_to_list c.args.targets.again in
    IfOk-weaker c.first_node-in-Loop.result _ (λ found. option_to_list found ≡ first c.args.statement.now c.args.n h o g)
    (λ found e. e ∙ loop_first c.args.statement.now _ _ c.in-Loop.a _ c.in-Loop.b c.args.n _ _ _ h o g c.in-Loop.is c.get-in-Loop.ensures c.get-in-Loop-3.ensures c.get-in-Loop-2.ensures
    c.in_ok-length-in-Loop.ensures c.in_ok-place-in-Loop.ensures c.in_ok-second-in-Loop.ensures) c.first_node-in-Loop.ensures

pub first_node-returns-then-is_empty : goal.first_node-returns-then-is_empty
first_node-returns-then-is_empty t c =
    let h = option_to_list c.args.targets.here in
    let o = option_to_list c.args.targets.out in
    let g = option_to_list c.args.targets.again in
    sym (ap (λ (s : Statement). first s c.args.n h o g) c.in-Switch.is ∙ in_switch c.in-Switch.field-0 c.in-Switch.clauses c.args.n h o g ∙ ap (first_of_clauses c.args.n) (c.if-is_empty.ensures.0 refl))

pub first_node-returns-else-is_empty : goal.first_node-returns-else-is_empty
first_node-returns-else-is_empty t c =
    let h = option_to_list c.args.targets.here in
    let o = option_to_list c.args.targets.out in
    let g = option_to_list c.args.targets.again in
    sym (ap (λ (s : Statement). first s c.args.n h o g) c.in-Switch.is ∙ in_switch c.in-Switch.field-0 c.in-Switch.clauses c.args.n h o g
    ∙ some_clause c.args.n c.in-Switch.clauses (λ e. false≢true (c.if-is_empty.ensures.1 e)))

pub first_tested-returns-in-Not : goal.first_tested-returns-in-Not
first_tested-returns-in-Not t c =
    let o = option_to_list c.args.out in
    let g = option_to_list c.args.again in
    IfOk-weaker c.first_tested.result _ (λ found. option_to_list found ≡ first_test c.args.condition.now c.args.n o g)
    (λ found e. e ∙ ap (λ (k : Condition). first_test k c.args.n o g) c.get.ensures
    ∙ sym (ap (λ (k : Condition). first_test k c.args.n o g) c.in-Not.is ∙ in_not c.in-Not.operand c.args.n o g)) c.first_tested.ensures

pub first_tested-returns-in_ok-here-in-After : goal.first_tested-returns-in_ok-here-in-After
first_tested-returns-in_ok-here-in-After t c =
    let o = option_to_list c.args.out in
    let g = option_to_list c.args.again in
    IfOk-weaker c.first_node.result _ (λ found. option_to_list found ≡ first_test c.args.condition.now c.args.n o g)
    (λ found e. e ∙ after_first c.args.condition.now _ _ c.in-After.before _ c.in-After.last c.args.n _ _ _ o g c.in-After.is c.get-in-After.ensures c.get-in-After-3.ensures c.get-in-After-2.ensures
    c.in_ok-length-in-After.ensures c.in_ok-place-in-After.ensures c.in_ok-here-in-After.ensures) c.first_node.ensures
