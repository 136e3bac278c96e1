-- The table of commands: a row for each, with its refusals in their order, its effect and its reply.
use Rattle.std.specs.Prelude.{ℕ, ◌+◌, List, [], ◌∷◌, ◌++◌, if◌then◌else◌, length, Option, Some, None}
use Rattle.std.specs.List.{list_any}
use Rattle.std.specs.Option.{option_map, option_map_or}
use Rattle.std.specs.Str.{bytes_eq}
use Rattle.misra_base.specs.declared.guideline.Guideline.{Guideline}
use Rattle.misra_base.specs.declared.finding.Finding.{Finding}
use Rattle.misra_base.specs.declared.report.Report.{Report}
use Rattle.misra_base.specs.declared.deviation.Deviation.{Deviation}
use Rattle.misra_base.specs.declared.permit.Permit.{Permit}
use Rattle.misra_base.specs.declared.deviation.Status.{Status}
use Rattle.misra_base.specs.declared.deviation.Status.TheVariants as statuses
use Rattle.misra_base.specs.declared.category.Category.{Category}
use Rattle.compliance_core.specs.Categories.{plan_with, misra_plan}
use Rattle.compliance_core.specs.Levels.{summary_of, claim_of}
use Rattle.desk_tables.specs.declared.change.Write.{Write}
use Rattle.desk_tables.specs.declared.change.Write.TheVariants as writes
use Rattle.desk_tables.specs.declared.command.Command.{Command}
use Rattle.desk_tables.specs.declared.command.Command.TheVariants as commands
use Rattle.desk_tables.specs.declared.reply.Reply.{Reply}
use Rattle.desk_tables.specs.declared.reply.Reply.TheVariants as replies
use Rattle.desk_core.specs.declared.caller.Caller.{Caller}
use Rattle.desk_core.specs.declared.caller.Caller.TheVariants as callers
use Rattle.desk_core.specs.declared.stop.DeskStop.{DeskStop}
use Rattle.desk_core.specs.Callers.{name_of, maker_of}
use Rattle.desk_core.specs.Covering.{found_rows}
use Rattle.desk_core.specs.Entries.{Entry, entries_refused, with_all_entries}
use Rattle.desk_core.specs.Patterns.{form_of}
use Rattle.desk_core.specs.View.{View, plan_of, revision_of, deviation_with}
use Rattle.desk_core.specs.Refusals.{no_project, name_taken, not_member, no_revision, no_deviation, not_open, not_raised, permit_taken, same_person, mandatory, deviates_from_mandatory, no_permit, permit_for_other, lowered, still_deviated, at_limit, too_many_kept}

-- behind the refusals of form and of reused request ids, which each command has first
pub record Row : Type 0 where
  pub refusals : List (Option DeskStop)
  pub effect : Option Write
  pub reply : Reply

abbrev pub members_with : List ℕ → List (List ℕ) → List (List ℕ)
members_with name members = if list_any (λ member. bytes_eq member name) members then members else members ++ name ∷ []

-- the members of a new project: its maker is one of them
abbrev pub joined : Caller → List (List ℕ) → List (List ℕ)
joined callers.Console members = members
joined (callers.Member name) members = members_with name members

abbrev pub make_project : View → Caller → List ℕ → List (List ℕ) → Row
make_project v caller name members = record {
  refusals = name_taken v ∷ at_limit 256 v.counts.projects ∷ too_many_kept caller v ∷ [];
  effect = Some (writes.NewProject (record { name = name; maker = maker_of caller; members = joined caller members; plan = misra_plan; revision = 0 }));
  reply = replies.Made name;
}

abbrev pub submit : View → Caller → List ℕ → List Finding → Row
submit v caller project found = record {
  refusals = no_project v ∷ not_member caller v ∷ at_limit 1000000 (revision_of v) ∷ too_many_kept caller v ∷ [];
  effect = Some (writes.NewRevision project (revision_of v + 1) found);
  reply = replies.Revision (revision_of v + 1) (length found);
}

abbrev pub raised_by : Caller → ℕ → Guideline → List ℕ → List ℕ → List ℕ → Option (List ℕ) → Deviation
raised_by caller id guideline function object reason permit = record {
  id = id;
  guideline = guideline;
  function = function;
  object = object;
  reason = reason;
  raiser = name_of caller;
  permit = permit;
  status = statuses.Raised;
  approver = None;
  form = form_of object;
}

abbrev pub raise : View → Caller → List ℕ → Guideline → List ℕ → List ℕ → List ℕ → Option (List ℕ) → Row
raise v caller project guideline function object reason permit = record {
  refusals = no_project v ∷ not_member caller v ∷ no_permit permit v ∷ mandatory guideline v ∷ permit_for_other guideline permit v
      ∷ at_limit 10000 (length v.deviations) ∷ too_many_kept caller v ∷ [];
  effect = Some (writes.NewDeviation project (raised_by caller (length v.deviations + 1) guideline function object reason permit));
  reply = replies.Raised (length v.deviations + 1);
}

abbrev pub approved_by : Caller → Deviation → Deviation
approved_by caller d = record d { status = statuses.Approved; approver = Some (name_of caller) }

abbrev pub approve : View → Caller → List ℕ → ℕ → Row
approve v caller project id = record {
  refusals = no_project v ∷ not_member caller v ∷ no_deviation id v ∷ not_raised id v ∷ same_person caller id v
      ∷ deviates_from_mandatory id v ∷ too_many_kept caller v ∷ [];
  effect = option_map (λ d. writes.SetDeviation project (approved_by caller d)) (deviation_with id v);
  reply = replies.Done;
}

abbrev pub with_status : Status → Deviation → Deviation
with_status status d = record d { status = status }

abbrev pub reject : View → Caller → List ℕ → ℕ → Row
reject v caller project id = record {
  refusals = no_project v ∷ not_member caller v ∷ no_deviation id v ∷ not_raised id v ∷ too_many_kept caller v ∷ [];
  effect = option_map (λ d. writes.SetDeviation project (with_status statuses.Rejected d)) (deviation_with id v);
  reply = replies.Done;
}

abbrev pub withdraw : View → Caller → List ℕ → ℕ → Row
withdraw v caller project id = record {
  refusals = no_project v ∷ not_member caller v ∷ no_deviation id v ∷ not_open id v ∷ too_many_kept caller v ∷ [];
  effect = option_map (λ d. writes.SetDeviation project (with_status statuses.Withdrawn d)) (deviation_with id v);
  reply = replies.Done;
}

abbrev pub new_permit : Caller → List ℕ → Guideline → List ℕ → Permit
new_permit caller name guideline reason = record { name = name; guideline = guideline; reason = reason; maker = name_of caller }

abbrev pub add_permit : View → Caller → List ℕ → Guideline → List ℕ → Row
add_permit v caller name guideline reason = record {
  refusals = permit_taken name v ∷ at_limit 1024 v.counts.permits ∷ too_many_kept caller v ∷ [];
  effect = Some (writes.NewPermit (new_permit caller name guideline reason));
  reply = replies.Made name;
}

abbrev pub recategorise : View → Caller → List ℕ → Guideline → Category → Row
recategorise v caller project guideline category = record {
  refusals = no_project v ∷ not_member caller v ∷ lowered guideline category ∷ still_deviated guideline category v ∷ too_many_kept caller v ∷ [];
  effect = Some (writes.SetPlan project (plan_with guideline category (plan_of v)));
  reply = replies.Done;
}

-- the first entry that is refused, by guideline, answers
abbrev pub apply_plan : View → Caller → List ℕ → List Entry → Row
apply_plan v caller project entries = record {
  refusals = no_project v ∷ not_member caller v ∷ entries_refused entries v.deviations;
  effect = Some (writes.SetPlan project (with_all_entries entries (plan_of v)));
  reply = replies.Done;
}

abbrev pub read_summary : View → Caller → Row
read_summary v caller = record {
  refusals = no_project v ∷ not_member caller v ∷ no_revision v ∷ [];
  effect = None;
  reply = replies.Summary (revision_of v) (summary_of (plan_of v) v.deviations v.findings);
}

abbrev pub read_findings : View → Caller → Row
read_findings v caller = record {
  refusals = no_project v ∷ not_member caller v ∷ no_revision v ∷ [];
  effect = None;
  reply = replies.Findings (revision_of v) (found_rows (plan_of v) v.deviations v.findings);
}

abbrev pub read_claim : View → Caller → Row
read_claim v caller = record {
  refusals = no_project v ∷ not_member caller v ∷ no_revision v ∷ [];
  effect = None;
  reply = replies.Claim (revision_of v) (claim_of (summary_of (plan_of v) v.deviations v.findings));
}

-- the findings of the report that comes with a submission
abbrev pub reported : Option Report → List Finding
reported report = option_map_or (λ r. r.found) report []

abbrev pub row_for : View → Caller → Command → Option Report → Row
row_for v caller (commands.MakeProject name members) report = make_project v caller name members
row_for v caller (commands.Submit project length) report = submit v caller project (reported report)
row_for v caller (commands.Raise project guideline function object reason permit) report = raise v caller project guideline function object reason permit
row_for v caller (commands.Approve project id) report = approve v caller project id
row_for v caller (commands.Reject project id) report = reject v caller project id
row_for v caller (commands.Withdraw project id) report = withdraw v caller project id
row_for v caller (commands.AddPermit name guideline reason) report = add_permit v caller name guideline reason
row_for v caller (commands.Recategorise project guideline category) report = recategorise v caller project guideline category
row_for v caller (commands.ApplyPlan project entries) report = apply_plan v caller project entries
row_for v caller (commands.ReadSummary project) report = read_summary v caller
row_for v caller (commands.ReadFindings project) report = read_findings v caller
row_for v caller (commands.ReadClaim project) report = read_claim v caller

-- the project that a command speaks of; a permit is of none
abbrev pub project_of : Command → List ℕ
project_of (commands.MakeProject name members) = name
project_of (commands.Submit project length) = project
project_of (commands.Raise project guideline function object reason permit) = project
project_of (commands.Approve project id) = project
project_of (commands.Reject project id) = project
project_of (commands.Withdraw project id) = project
project_of (commands.AddPermit name guideline reason) = []
project_of (commands.Recategorise project guideline category) = project
project_of (commands.ApplyPlan project entries) = project
project_of (commands.ReadSummary project) = project
project_of (commands.ReadFindings project) = project
project_of (commands.ReadClaim project) = project
