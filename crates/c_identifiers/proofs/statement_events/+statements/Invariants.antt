use Rattle.std.proofs.Common.{map}
use Rattle.c_tree.specs.StatementViews.{item_view, items_of, statement_view, statements_of, clause_view, clauses_of}
use Rattle.c_identifiers.specs.Statements.{items_events, statements_events, clauses_events}
use Rattle.c_identifiers.proofs.Walks.{GoesOn}
use Rattle.c_identifiers.proofs.statement_events.+statements.Given as goal

abbrev pub invariant-add_items-loop-item : goal.invariant-add_items-loop-item
invariant-add_items-loop-item l = GoesOn (λ xs. items_events (items_of (map item_view xs))) l.events.items l.item-index l.items l.fn.events.items

abbrev pub invariant-add_statements-loop-statement : goal.invariant-add_statements-loop-statement
invariant-add_statements-loop-statement l = GoesOn (λ xs. statements_events (statements_of (map statement_view xs))) l.events.items l.statement-index l.statements l.fn.events.items

abbrev pub invariant-add_clauses-loop-clause : goal.invariant-add_clauses-loop-clause
invariant-add_clauses-loop-clause l = GoesOn (λ xs. clauses_events (clauses_of (map clause_view xs))) l.events.items l.clause-index l.clauses l.fn.events.items
