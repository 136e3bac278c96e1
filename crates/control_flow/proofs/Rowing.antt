-- Rows one behind the other.
use Rattle.std.proofs.Common.{◌≡◌, refl, ap, List, [], ◌∷◌, ◌++◌}
use Rattle.control_flow.specs.declared.rows.Row.{Row}
use Rattle.control_flow.specs.Rows.{nexts_in}

pub rows_joined : (rows : List Row) (row : Row) → nexts_in (rows ++ row ∷ []) ≡ nexts_in rows ++ row.next.items ∷ []
unfolding nexts_in
rows_joined [] row = refl
rows_joined (x ∷ rows) row = ap (λ l. x.next.items ∷ l) (rows_joined rows row)
