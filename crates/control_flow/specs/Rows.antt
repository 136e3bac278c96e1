-- The rows of a table as lists of numbers.
use Rattle.std.specs.Prelude.{ℕ, List, map}
use Rattle.control_flow.specs.declared.rows.Row.{Row}

abbrev pub next_in : Row → List ℕ
next_in row = row.next.items

unfoldable pub nexts_in : List Row → List (List ℕ)
nexts_in rows = map next_in rows
