-- The row of a plan's entries behind the refusals of the project.
use Rattle.std.specs.Prelude.{ℕ, List, Some}
use Rattle.misra_base.specs.declared.deviation.Deviation.{Deviation}
use Rattle.misra_base.specs.declared.category.Plan.{Plan}
use Rattle.desk_tables.specs.declared.change.Write.TheVariants as writes
use Rattle.desk_tables.specs.declared.reply.Reply.TheVariants as replies
use Rattle.desk_core.specs.Entries.{Entry, entries_refused, with_all_entries}
use Rattle.desk_core.specs.declared.decision.Decision.{Decision}
use Rattle.desk_core.specs.Rows.{Row}

abbrev pub planned_row : List ℕ → Plan → List Entry → List Deviation → Row
planned_row project plan entries deviations = record {
  refusals = entries_refused entries deviations;
  effect = Some (writes.SetPlan project (with_all_entries entries plan));
  reply = replies.Done;
}

abbrev pub planned_by : List ℕ → Plan → List Entry → Decision
planned_by project plan entries =
    record { effect = Some (writes.SetPlan project (with_all_entries entries plan)); reply = replies.Done }
