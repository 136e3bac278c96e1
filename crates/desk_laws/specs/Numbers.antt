-- The deviations of each project are numbered from 1, in the order of their table.
use Rattle.std.specs.Prelude.{◌≡◌, ℕ, List, length, map}
use Rattle.std.specs.List.{range_with_len}
use Rattle.desk_tables.specs.Tables.{Tables, rows_of, no_tables}
use Rattle.desk_laws.specs.Runs.{Request, tables_after}

abbrev pub AreNumbered : Tables → Type 0
AreNumbered t = (project : List ℕ) → map (λ d. d.id) (rows_of project t) ≡ range_with_len 1 (length (rows_of project t))

-- so none takes another's place, and a keeper answers them by id
abbrev pub DeviationsAreNumbered : Type 0
DeviationsAreNumbered = (requests : List Request) → AreNumbered (tables_after no_tables requests)
