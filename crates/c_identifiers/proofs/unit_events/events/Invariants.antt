use Rattle.std.proofs.Common.{[], map}
use Rattle.c_tree.specs.StatementViews.{external_view}
use Rattle.c_identifiers.specs.Units.{externals_events}
use Rattle.c_identifiers.proofs.Walks.{GoesOn}
use Rattle.c_identifiers.proofs.unit_events.events.Given as goal

abbrev pub invariant-loop-external : goal.invariant-loop-external
invariant-loop-external l = GoesOn (λ xs. externals_events (map external_view xs)) l.events.items l.external-index l.external-items []
