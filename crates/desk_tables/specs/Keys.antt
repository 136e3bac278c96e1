-- In each list of the tables the rows have different keys.
use Rattle.std.specs.Prelude.{◌≡◌, Bool, true, not, ◌&&◌, List, [], ◌∷◌}
use Rattle.std.specs.List.{list_any}
use Rattle.desk_tables.specs.Tables.{Tables, is_deviation, is_found_in, is_named, is_permit, same_request}

-- no row has the key of an earlier one
abbrev pub are_keyed : {R : Type 0} → (R → R → Bool) → List R → Bool
are_keyed has_key_of [] = true
are_keyed has_key_of (row ∷ rows) = not (list_any (has_key_of row) rows) && are_keyed has_key_of rows

-- by the names of projects and permits, by the project of findings, by project and id of deviations, by caller and request of kept rows
abbrev pub has_keys : Tables → Bool
has_keys t =
    are_keyed (λ a b. is_named a.name b) t.projects
    && are_keyed (λ a b. is_found_in a.project b) t.findings
    && are_keyed (λ a b. is_deviation a.project a.deviation.id b) t.deviations
    && are_keyed (λ a b. is_permit a.name b) t.permits
    && are_keyed same_request t.kept

abbrev pub IsKeyed : Tables → Type 0
IsKeyed t = has_keys t ≡ true
