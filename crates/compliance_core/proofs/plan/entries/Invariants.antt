use Rattle.std.proofs.Common.{◌≡◌}
use Rattle.toml.specs.View.{members_view}
use Rattle.compliance_core.specs.Plans.{entries_of}
use Rattle.compliance_core.proofs.PlanLemmas.{onto}
use Rattle.compliance_core.proofs.plan.entries.Given as goal

abbrev pub invariant-loop-key : goal.invariant-loop-key
invariant-loop-key l = entries_of (members_view l.table.entries) ≡ onto l.entries.items (entries_of (members_view l.key-iterator))
