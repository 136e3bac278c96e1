-- The tables of a desk from before deviations had a form, and what they are now.
use Rattle.std.specs.Prelude.{ℕ, List, map}
use Rattle.misra_base.specs.Deviations.{with_text_form}
use Rattle.misra_base.specs.declared.finding.Finding.{Finding}
use Rattle.misra_base.specs.declared.deviation.FirstDeviation.{FirstDeviation}
use Rattle.misra_base.specs.declared.permit.Permit.{Permit}
use Rattle.desk_tables.specs.declared.rows.ProjectRow.{ProjectRow}
use Rattle.desk_tables.specs.declared.rows.FoundRow.{FoundRow}
use Rattle.desk_tables.specs.declared.rows.DeviationRow.{DeviationRow}
use Rattle.desk_tables.specs.declared.rows.KeptRow.{KeptRow}
use Rattle.desk_tables.specs.Tables.{Tables}

pub record FirstLists : Type 0 where
  pub projects : List ProjectRow
  pub findings : List (List ℕ × List Finding)
  pub deviations : List (List ℕ × FirstDeviation)
  pub permits : List Permit
  pub kept : List KeptRow

abbrev pub found_row : List ℕ × List Finding → FoundRow
found_row row = record { project = row.0; found = row.1 }

abbrev pub deviation_row : List ℕ × FirstDeviation → DeviationRow
deviation_row row = record { project = row.0; deviation = with_text_form row.1 }

-- every row stays, and each deviation gets the form of a text
abbrev pub tables_from : FirstLists → Tables
tables_from first = record {
  projects = first.projects;
  findings = map found_row first.findings;
  deviations = map deviation_row first.deviations;
  permits = first.permits;
  kept = first.kept;
}
