use Rattle.c_grammar.specs.Trees.{stack_view}
use Rattle.c_grammar.proofs.Stacks.{GoesOn}
use Rattle.c_grammar.proofs.syntax_tree.built.Given as goal

abbrev pub invariant-loop-event : goal.invariant-loop-event
invariant-loop-event l = GoesOn l.text l.tokens l.events l.event-index l.shifted (stack_view l.stack.items)
