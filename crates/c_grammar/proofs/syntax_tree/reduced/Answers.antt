use Rattle.std.proofs.Common.{◌≡◌, ◌∙◌, ◌<◌, ◌-◌, ◌++◌, ℕ, [], take, reverse, ap, sym, subst, arith}
use Rattle.std.proofs.lemmas.Option.{slice_get_within, same_Some}
use Rattle.c_parts.specs.PartViews.{parts_view}
use Rattle.c_parts.specs.Reading.{Fits}
use Rattle.c_nodes.specs.Nodes.{kinds}
use Rattle.ll_core.specs.Folds.{size_in}
use Rattle.c_grammar.specs.declared.actions.TheConstants.{ACTIONS}
use Rattle.c_grammar.specs.declared.tables.TheConstants.{PRODUCTIONS}
use Rattle.c_grammar.specs.Trees.{stack_view}
use Rattle.c_grammar.proofs.Stacks.{ready, some_left, init_is, part_joins}
use Rattle.c_grammar.proofs.syntax_tree.reduced.Goals as goal

pub size_of-end-requires : goal.size_of-end-requires
size_of-end-requires c = slice_get_within ACTIONS c.args.number _ (ready c.args.number (stack_view c.args.stack.now.items) c.requires).found

pub unreachable-requires : goal.unreachable-requires
unreachable-requires c =
    let r = ready c.args.number (stack_view c.args.stack.now.items) c.requires in
    let gone : c.pop.new.self.items ≡ [] = c.in-None.ensures.rest ∙ ap (λ (n : ℕ). take (n - 1) c.loop.stack.items) c.in-None.ensures.cases.0 in
    some_left (stack_view c.args.stack.now.items) c.loop.counter c.loop.stack.items c.loop.invariant.stack (size_in PRODUCTIONS c.args.number)
    (c.in-None.ensures.items ∙ ap (λ xs. xs ++ []) gone) (subst (λ (n : ℕ). c.loop.counter < n) c.size_of-end.ensures c.loop-test.true) r.enough

pub loop-preserved : goal.loop-preserved
loop-preserved c = record {
  parts = c.in_ok-put_front-in-Some.ensures
      ∙ part_joins (stack_view c.args.stack.now.items) c.loop.counter c.loop.stack.items c.loop.invariant.stack c.pop.new.self.items c.in-Some.part
      c.in-Some.ensures.items (parts_view c.loop.parts) c.loop.invariant.parts;
  stack = init_is (stack_view c.args.stack.now.items) c.loop.counter c.loop.stack.items c.loop.invariant.stack c.pop.new.self.items c.in-Some.part
      c.in-Some.ensures.items;
}

pub action_of-requires : goal.action_of-requires
action_of-requires c = slice_get_within ACTIONS c.args.number _ (ready c.args.number (stack_view c.args.stack.now.items) c.requires).found

pub part-requires : goal.part-requires
part-requires c =
    let r = ready c.args.number (stack_view c.args.stack.now.items) c.requires in
    let last = c.loop.auto.counter-end in
    let over = c.loop-test.false in
    let count : c.loop.counter ≡ c.size_of-end.result = omega (arith, last, over) in
    let parts : parts_view c.loop.parts ≡ reverse (take (size_in PRODUCTIONS c.args.number) (stack_view c.args.stack.now.items)) =
    c.loop.invariant.parts ∙ ap (λ (n : ℕ). reverse (take n (stack_view c.args.stack.now.items))) (count ∙ c.size_of-end.ensures) in
    subst (λ a. Fits (kinds a) (parts_view c.loop.parts)) (same_Some r.action c.action_of.result (sym r.found ∙ c.action_of.ensures))
    (subst (λ ps. Fits (kinds r.action) ps) (sym parts) r.fits)
