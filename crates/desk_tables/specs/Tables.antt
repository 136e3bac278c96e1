-- The tables of the desk: five lists, what is read of them, and what a change makes of them.
use Rattle.std.specs.Prelude.{ℕ, Bool, List, [], ◌∷◌, ◌&&◌, ◌==◌, nat_le, if◌then◌else◌, filter, map, length, count_by, Option, Some, None, unwrap_or}
use Rattle.std.specs.List.{find}
use Rattle.std.specs.Option.{option_map_or}
use Rattle.std.specs.Str.{bytes_eq}
use Rattle.misra_base.specs.declared.finding.Finding.{Finding}
use Rattle.misra_base.specs.declared.deviation.Deviation.{Deviation}
use Rattle.misra_base.specs.declared.permit.Permit.{Permit}
use Rattle.misra_base.specs.declared.category.Plan.{Plan}
use Rattle.desk_tables.specs.declared.rows.ProjectRow.{ProjectRow}
use Rattle.desk_tables.specs.declared.rows.FoundRow.{FoundRow}
use Rattle.desk_tables.specs.declared.rows.DeviationRow.{DeviationRow}
use Rattle.desk_tables.specs.declared.rows.KeptRow.{KeptRow}
use Rattle.desk_tables.specs.declared.rows.Counts.{Counts}
use Rattle.desk_tables.specs.declared.change.Change.{Change}
use Rattle.desk_tables.specs.declared.change.Write.{Write}
use Rattle.desk_tables.specs.declared.change.Write.TheVariants as writes

pub record Tables : Type 0 where
  pub projects : List ProjectRow
  pub findings : List FoundRow
  pub deviations : List DeviationRow
  pub permits : List Permit
  pub kept : List KeptRow

abbrev pub no_tables : Tables
no_tables = record { projects = []; findings = []; deviations = []; permits = []; kept = [] }

-- ---- what is read of the tables

abbrev pub is_named : List ℕ → ProjectRow → Bool
is_named project row = bytes_eq row.name project

abbrev pub project_named : List ℕ → Tables → Option ProjectRow
project_named project t = find (is_named project) t.projects

abbrev pub is_found_in : List ℕ → FoundRow → Bool
is_found_in project row = bytes_eq row.project project

-- the findings of the project's last accepted revision
abbrev pub findings_of : List ℕ → Tables → List Finding
findings_of project t = option_map_or (λ row. row.found) (find (is_found_in project) t.findings) []

abbrev pub is_deviation_of : List ℕ → DeviationRow → Bool
is_deviation_of project row = bytes_eq row.project project

-- a deviation goes before the first one whose id is not less
abbrev pub insert_by_id : Deviation → List Deviation → List Deviation
insert_by_id d [] = d ∷ []
insert_by_id d (e ∷ es) = if nat_le d.id e.id then d ∷ e ∷ es else e ∷ insert_by_id d es

abbrev pub by_id : List Deviation → List Deviation
by_id [] = []
by_id (d ∷ ds) = insert_by_id d (by_id ds)

-- the deviations of the project, in the order of the table
abbrev pub rows_of : List ℕ → Tables → List Deviation
rows_of project t = map (λ row. row.deviation) (filter (is_deviation_of project) t.deviations)

-- the deviations of the project, by id
abbrev pub deviations_of : List ℕ → Tables → List Deviation
deviations_of project t = by_id (rows_of project t)

abbrev pub is_permit : List ℕ → Permit → Bool
is_permit permit row = bytes_eq row.name permit

abbrev pub permit_named : List ℕ → Tables → Option Permit
permit_named permit t = find (is_permit permit) t.permits

-- the rows kept for a caller
abbrev pub kept_for : List ℕ → Tables → List KeptRow
kept_for caller t = filter (λ row. bytes_eq row.caller caller) t.kept

abbrev pub kept_by : List ℕ → List ℕ → Tables → Option KeptRow
kept_by caller request t = find (λ row. bytes_eq row.request request) (kept_for caller t)

-- a project that the console made is counted for the empty name
abbrev pub counts_of : List ℕ → Tables → Counts
counts_of caller t = record {
  projects = count_by (λ row. bytes_eq (unwrap_or row.maker []) caller) t.projects;
  permits = count_by (λ row. bytes_eq row.maker caller) t.permits;
  kept = length (kept_for caller t);
}

-- ---- what a change makes of the tables

-- the row replaces the one with its key, in its place; where no row has the key it goes to the end
abbrev pub put : {R : Type 0} → (R → Bool) → R → List R → List R
put has_key row [] = row ∷ []
put has_key row (r ∷ rs) = if has_key r then row ∷ rs else r ∷ put has_key row rs

abbrev pub put_project : ProjectRow → Tables → Tables
put_project row t = record t { projects = put (is_named row.name) row t.projects }

abbrev pub is_deviation : List ℕ → ℕ → DeviationRow → Bool
is_deviation project id row = bytes_eq row.project project && row.deviation.id == id

abbrev pub put_deviation : List ℕ → Deviation → Tables → Tables
put_deviation project d t =
    record t { deviations = put (is_deviation project d.id) (record { project = project; deviation = d }) t.deviations }

-- without the project nothing changes
abbrev pub put_revision : Option ProjectRow → List ℕ → ℕ → List Finding → Tables → Tables
put_revision None project number found t = t
put_revision (Some row) project number found t = record t {
  projects = put (is_named project) (record row { revision = number }) t.projects;
  findings = put (is_found_in project) (record { project = project; found = found }) t.findings;
}

abbrev pub put_plan : Option ProjectRow → List ℕ → Plan → Tables → Tables
put_plan None project plan t = t
put_plan (Some row) project plan t = record t { projects = put (is_named project) (record row { plan = plan }) t.projects }

abbrev pub after_write : Write → Tables → Tables
after_write (writes.NewProject row) t = put_project row t
after_write (writes.NewRevision project number found) t = put_revision (project_named project t) project number found t
after_write (writes.NewDeviation project d) t = put_deviation project d t
after_write (writes.SetDeviation project d) t = put_deviation project d t
after_write (writes.NewPermit permit) t = record t { permits = put (is_permit permit.name) permit t.permits }
after_write (writes.SetPlan project plan) t = put_plan (project_named project t) project plan t

abbrev pub same_request : KeptRow → KeptRow → Bool
same_request a b = bytes_eq b.caller a.caller && bytes_eq b.request a.request

abbrev pub after_keeping : Option KeptRow → Tables → Tables
after_keeping None t = t
after_keeping (Some row) t = record t { kept = put (same_request row) row t.kept }

abbrev pub after_change : Change → Tables → Tables
after_change change t = after_keeping change.kept (after_write change.write t)
