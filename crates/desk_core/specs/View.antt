-- What the machine looks at for one caller and one project. It looks at nothing else, so each answer is a function of this.
use Rattle.std.specs.Prelude.{ℕ, List, ◌==◌, Option}
use Rattle.std.specs.List.{find}
use Rattle.std.specs.Option.{option_map_or}
use Rattle.std.specs.Str.{bytes_eq}
use Rattle.misra_base.specs.declared.finding.Finding.{Finding}
use Rattle.misra_base.specs.declared.deviation.Deviation.{Deviation}
use Rattle.misra_base.specs.declared.permit.Permit.{Permit}
use Rattle.misra_base.specs.declared.category.Plan.{Plan}
use Rattle.desk_tables.specs.declared.rows.ProjectRow.{ProjectRow}
use Rattle.desk_tables.specs.declared.rows.KeptRow.{KeptRow}
use Rattle.desk_tables.specs.declared.rows.Counts.{Counts}
use Rattle.desk_tables.specs.Tables.{Tables, project_named, findings_of, deviations_of, kept_for, counts_of}
use Rattle.compliance_core.specs.Categories.{misra_plan}

pub record View : Type 0 where
  pub project : Option ProjectRow
  pub findings : List Finding
  pub deviations : List Deviation
  pub permits : List Permit
  -- the rows kept for the caller, and how many rows the caller made
  pub kept : List KeptRow
  pub counts : Counts

abbrev pub view_of : List ℕ → List ℕ → Tables → View
view_of caller project t = record {
  project = project_named project t;
  findings = findings_of project t;
  deviations = deviations_of project t;
  permits = t.permits;
  kept = kept_for caller t;
  counts = counts_of caller t;
}

abbrev pub plan_of : View → Plan
plan_of v = option_map_or (λ row. row.plan) v.project misra_plan

-- the number of the last accepted revision
abbrev pub revision_of : View → ℕ
revision_of v = option_map_or (λ row. row.revision) v.project 0

abbrev pub deviation_with : ℕ → View → Option Deviation
deviation_with id v = find (λ d. d.id == id) v.deviations

abbrev pub kept_row : List ℕ → View → Option KeptRow
kept_row request v = find (λ row. bytes_eq row.request request) v.kept
