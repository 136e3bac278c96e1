use Rattle.std.proofs.Common.{◌∙◌, refl, ap, arith}
use Rattle.std.specs.declared.vec.Vec.{Vec}
use Rattle.std.specs.declared.alloc.Global.{Global}
use Rattle.c_parts.specs.declared.part.Part.{Part}
use Rattle.c_parts.specs.declared.part.Part.TheVariants.{Leaf}
use Rattle.c_parts.specs.PartData
use Rattle.c_parts.specs.PartViews.{part_view}
use Rattle.c_grammar.specs.Trees.{stack_view}
use Rattle.c_grammar.proofs.Stacks.{no_token, shifted, reduced_goes, pushed, last_part}
use Rattle.c_grammar.proofs.syntax_tree.built.Goals.{in-Shift+in_ok-push-in-Shift, in-Reduce+in_ok-part-in-Reduce+in_ok-push-in-Reduce}
use Rattle.c_grammar.proofs.syntax_tree.built.Goals as goal

pub loop-event-preserved : goal.loop-event-preserved
loop-event-preserved c = elim c.match-event.branch [
  | in-Shift+in_ok-push-in-Shift w ↦
      let goes = shifted c.args.text.now c.args.tokens.now c.args.events.now c.loop-event.event-index c.loop-event.shifted (stack_view c.loop-event.stack.items) _ _ _
      c.loop-event-test.true w.in-Shift.is c.loop-event.invariant refl (part_view (Leaf w.leaf.result)) (ap PartData.leaf w.leaf.ensures) in
      pushed c.args.text.now c.args.tokens.now c.args.events.now _ _ c.match-event.shifted c.loop-event.stack.items c.match-event.stack.items (Leaf w.leaf.result)
      w.shifted-is (ap (λ (v : Vec Part Global). v.items) w.stack-is ∙ w.in_ok-push-in-Shift.ensures.items) goes
  | in-Reduce+in_ok-part-in-Reduce+in_ok-push-in-Reduce w ↦
      let goes = reduced_goes c.args.text.now c.args.tokens.now c.args.events.now c.loop-event.event-index c.loop-event.shifted (stack_view c.loop-event.stack.items) _ _
      no_token c.loop-event-test.true w.in-Reduce.is c.loop-event.invariant w.in-Reduce.number refl (part_view w.in_ok-part-in-Reduce.part) (stack_view w.reduced.new.stack.items)
      w.in_ok-part-in-Reduce.ensures.part w.in_ok-part-in-Reduce.ensures.stack in
      pushed c.args.text.now c.args.tokens.now c.args.events.now _ _ c.match-event.shifted w.reduced.new.stack.items c.match-event.stack.items w.in_ok-part-in-Reduce.part
      w.shifted-is (ap (λ (v : Vec Part Global). v.items) w.stack-is ∙ w.in_ok-push-in-Reduce.ensures.items) goes
]

pub returns-clause-part : goal.returns-clause-part
returns-clause-part c =
    let last = c.loop-event.auto.event-index-end in
    let over = c.loop-event-test.false in
    last_part c.args.text.now c.args.tokens.now c.args.events.now c.loop-event.event-index c.loop-event.shifted c.loop-event.stack.items (omega (arith, last, over))
    c.loop-event.invariant c.pop.new.self.items c.in-Some.part c.in-Some.ensures.items
