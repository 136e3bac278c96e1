-- A row at the first place with its key is the row put.
use Rattle.std.proofs.Common.{◌≡◌, ◌∙◌, ◌+◌, ℕ, suc, Bool, true, false, not, cond, List, [], ◌∷◌, Some, None, length, refl, ap, arith}
use Rattle.std.specs.Prelude.{position, nat_lt}
use Rattle.std.specs.List.{position_or_len}
use Rattle.desk_tables.specs.Tables.{put}
use Rattle.desk_memory.specs.Places.{placed}

later : {R : Type 0} (b : Bool) (n : ℕ) (r row : R) (rows : List R)
    → placed (cond b (Some (1 + n)) None) row (r ∷ rows) ≡ r ∷ placed (cond b (Some n) None) row rows
later true n r row rows = let e : 1 + n ≡ suc n = omega arith in rw e refl
later false n r row rows = refl

one_more : (n m : ℕ) → nat_lt (1 + n) (suc m) ≡ nat_lt n m
one_more n m = grind arith

first : (m : ℕ) → nat_lt 0 (suc m) ≡ true
first m = grind arith

by_first : {R : Type 0} (b : Bool) (p : R → Bool) (r row : R) (rows : List R) → placed (position p rows) row rows ≡ put p row rows
    → (let n = cond (not b) (1 + position_or_len p rows) 0 in placed (cond (nat_lt n (suc (length rows))) (Some n) None) row (r ∷ rows))
    ≡ cond b (row ∷ rows) (r ∷ put p row rows)
by_first true p r row rows e = rw (first (length rows)) refl
by_first false p r row rows e = rw (one_more (position_or_len p rows) (length rows)) (later _ _ r row rows ∙ ap (λ l. r ∷ l) e)

pub puts : {R : Type 0} (p : R → Bool) (row : R) (rows : List R) → placed (position p rows) row rows ≡ put p row rows
puts p row [] = refl
puts p row (r ∷ rows) = by_first (p r) p r row rows (puts p row rows)
