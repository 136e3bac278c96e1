-- No mandatory violation is deviated.
use Rattle.std.specs.Prelude.{◌≡◌, ℕ, Bool, true, false, not, ◌&&◌, List, Option, Some, None}
use Rattle.std.specs.List.{list_all}
use Rattle.misra_base.specs.declared.report.Report.{Report}
use Rattle.misra_base.specs.declared.finding.Finding.{Finding}
use Rattle.misra_base.specs.declared.deviation.Deviation.{Deviation}
use Rattle.misra_base.specs.declared.category.Plan.{Plan}
use Rattle.compliance_core.specs.Categories.{is_mandatory, revised_category}
use Rattle.compliance_core.specs.Covers.{is_approved, is_deviated}
use Rattle.desk_tables.specs.declared.command.Command.{Command}
use Rattle.desk_tables.specs.declared.rows.ProjectRow.{ProjectRow}
use Rattle.desk_tables.specs.Tables.{Tables, no_tables, project_named}
use Rattle.desk_core.specs.declared.caller.Caller.{Caller}
use Rattle.desk_core.specs.Step.{desk_step}
use Rattle.desk_laws.specs.Runs.{Request, tables_after}

-- an approved deviation from a guideline that the plan makes Mandatory
abbrev pub deviates_from_mandatory : Plan → Deviation → Bool
deviates_from_mandatory plan d = is_approved d.status && is_mandatory (revised_category plan d.guideline)

-- the deviation's project is there, and its plan leaves room for it
abbrev pub may_stand : Option ProjectRow → Deviation → Bool
may_stand None d = false
may_stand (Some project) d = not (deviates_from_mandatory project.plan d)

-- each deviation has its project, and no approved one is from a guideline that is Mandatory there
abbrev pub HasNoMandatoryDeviated : Tables → Type 0
HasNoMandatoryDeviated t = list_all (λ row. may_stand (project_named row.project t) row.deviation) t.deviations ≡ true

-- each step keeps it
abbrev pub NoMandatoryIsDeviated : Type 0
NoMandatoryIsDeviated = (t : Tables) (caller : Caller) (request : Option (List ℕ)) (command : Command) (report : Option Report)
    → HasNoMandatoryDeviated t → HasNoMandatoryDeviated (desk_step t caller request command report).1

-- it holds after each list of requests
abbrev pub NoRunDeviatesMandatory : Type 0
NoRunDeviatesMandatory = (requests : List Request) → HasNoMandatoryDeviated (tables_after no_tables requests)

-- no deviation covers a finding of a guideline that the plan makes Mandatory
abbrev pub MandatoryViolationsStand : Type 0
MandatoryViolationsStand = (plan : Plan) (deviations : List Deviation) (f : Finding)
    → is_mandatory (revised_category plan f.guideline) ≡ true → is_deviated plan deviations f ≡ false
