use Rattle.std.proofs.Common.{map}
use Rattle.c_tree.specs.StatementViews.{case_label_view}
use Rattle.c_identifiers.specs.Statements.{labels_events}
use Rattle.c_identifiers.proofs.Walks.{GoesOn}
use Rattle.c_identifiers.proofs.statement_events.add_labels.Given as goal

abbrev pub invariant-loop-label : goal.invariant-loop-label
invariant-loop-label l = GoesOn (λ xs. labels_events (map case_label_view xs)) l.events.items l.label-index l.labels l.fn.events.items
