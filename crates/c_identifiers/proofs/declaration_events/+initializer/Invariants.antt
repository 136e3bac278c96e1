use Rattle.std.proofs.Common.{map}
use Rattle.c_tree.specs.StatementViews.{initializer_view, initializers_of}
use Rattle.c_identifiers.specs.Statements.{initializers_events}
use Rattle.c_identifiers.proofs.Walks.{GoesOn}
use Rattle.c_identifiers.proofs.declaration_events.+initializer.Given as goal

abbrev pub invariant-add_initializers-loop-initializer : goal.invariant-add_initializers-loop-initializer
invariant-add_initializers-loop-initializer l = GoesOn (λ xs. initializers_events (initializers_of (map initializer_view xs))) l.events.items l.initializer-index l.initializers l.fn.events.items
