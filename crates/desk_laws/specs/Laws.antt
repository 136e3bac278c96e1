-- What holds of each step of the machine.
use Rattle.std.specs.Prelude.{◌≡◌, ℕ, List, Ok, Err, Option, None, length, map}
use Rattle.std.specs.List.{sum_by}
use Rattle.misra_base.specs.declared.report.Report.{Report}
use Rattle.misra_base.specs.declared.summary.SummaryRow.{SummaryRow}
use Rattle.compliance_core.specs.Laws.{findings_in}
use Rattle.desk_tables.specs.declared.command.Command.{Command}
use Rattle.desk_tables.specs.declared.command.Command.TheVariants as commands
use Rattle.desk_tables.specs.declared.reply.Reply.TheVariants as replies
use Rattle.desk_tables.specs.declared.found.Found.{Found}
use Rattle.desk_tables.specs.Keys.{IsKeyed}
use Rattle.desk_tables.specs.Tables.{Tables, project_named, findings_of, deviations_of, kept_for, counts_of}
use Rattle.desk_core.specs.declared.caller.Caller.{Caller}
use Rattle.desk_core.specs.declared.stop.DeskStop.{DeskStop}
use Rattle.desk_core.specs.Callers.{name_of}
use Rattle.desk_core.specs.Rows.{project_of}
use Rattle.desk_core.specs.Step.{desk_step}

-- ---- refusals change nothing

abbrev pub RefusalsChangeNothing : Type 0
RefusalsChangeNothing = (t : Tables) (caller : Caller) (request : Option (List ℕ)) (command : Command) (report : Option Report) (stop : DeskStop)
    → (desk_step t caller request command report).0 ≡ Err stop → (desk_step t caller request command report).1 ≡ t

-- ---- projects are kept apart

-- the tables agree in the project's rows, in the permits, and in what is kept and counted for the caller
pub record Agree (caller project : List ℕ) (t u : Tables) : Type 0 where
  pub project_row : project_named project t ≡ project_named project u
  pub findings : findings_of project t ≡ findings_of project u
  pub deviations : deviations_of project t ≡ deviations_of project u
  pub permits : t.permits ≡ u.permits
  pub kept : kept_for caller t ≡ kept_for caller u
  pub counts : counts_of caller t ≡ counts_of caller u

abbrev pub ProjectsAreApart : Type 0
ProjectsAreApart = (t u : Tables) (caller : Caller) (request : Option (List ℕ)) (command : Command) (report : Option Report)
    → Agree (name_of caller) (project_of command) t u
    → (desk_step t caller request command report).0 ≡ (desk_step u caller request command report).0

-- ---- no finding is lost

-- the rows of a summary that is answered have each finding of the last accepted revision once
abbrev pub NoFindingIsLost : Type 0
NoFindingIsLost = (t : Tables) (caller : Caller) (project : List ℕ) (number : ℕ) (rows : List SummaryRow)
    → (desk_step t caller None (commands.ReadSummary project) None).0 ≡ Ok (replies.Summary number rows)
    → sum_by findings_in rows ≡ length (findings_of project t)

-- the rows that are answered to a reader of findings are the findings of the last accepted revision, in their order
abbrev pub FindingsAreRead : Type 0
FindingsAreRead = (t : Tables) (caller : Caller) (project : List ℕ) (number : ℕ) (rows : List Found)
    → (desk_step t caller None (commands.ReadFindings project) None).0 ≡ Ok (replies.Findings number rows)
    → map (λ row. row.finding) rows ≡ findings_of project t

-- ---- keys

-- where no two rows of a list have the same key, none has after a step
abbrev pub StepsKeepKeys : Type 0
StepsKeepKeys = (t : Tables) (caller : Caller) (request : Option (List ℕ)) (command : Command) (report : Option Report)
    → IsKeyed t → IsKeyed (desk_step t caller request command report).1
