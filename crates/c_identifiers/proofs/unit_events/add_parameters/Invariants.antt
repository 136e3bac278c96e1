use Rattle.std.proofs.Common.{map}
use Rattle.c_tree.specs.StatementViews.{parameter_view}
use Rattle.c_identifiers.specs.Units.{parameters_events}
use Rattle.c_identifiers.proofs.Walks.{GoesOn}
use Rattle.c_identifiers.proofs.unit_events.add_parameters.Given as goal

abbrev pub invariant-loop-parameter : goal.invariant-loop-parameter
invariant-loop-parameter l = GoesOn (λ xs. parameters_events (map parameter_view xs)) l.events.items l.parameter-index l.parameters l.fn.events.items
