use Rattle.std.proofs.Common.{◌≡◌, take, drop, reverse}
use Rattle.c_parts.specs.PartViews.{parts_view}
use Rattle.c_grammar.specs.Trees.{stack_view}
use Rattle.c_grammar.proofs.syntax_tree.reduced.Given as goal

abbrev pub invariant-loop : goal.invariant-loop
invariant-loop l = record {
  parts : parts_view l.parts ≡ reverse (take l.counter (stack_view l.initial.stack.items));
  stack : stack_view l.stack.items ≡ drop l.counter (stack_view l.initial.stack.items);
}
