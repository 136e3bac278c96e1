use Rattle.std.proofs.Common.{map}
use Rattle.c_tree.specs.Views.{specifiers_view}
use Rattle.c_tree.specs.StatementViews.{init_declarator_view}
use Rattle.c_identifiers.specs.Statements.{init_declarators_events}
use Rattle.c_identifiers.proofs.Walks.{GoesOn}
use Rattle.c_identifiers.proofs.declaration_events.add_init_declarators.Given as goal

abbrev pub invariant-loop-declarator : goal.invariant-loop-declarator
invariant-loop-declarator l = GoesOn (λ xs. init_declarators_events l.level (specifiers_view l.specifiers) (map init_declarator_view xs)) l.events.items l.declarator-index l.declarators l.fn.events.items
