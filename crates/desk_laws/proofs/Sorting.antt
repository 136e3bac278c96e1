-- What the order of deviations does not change.
use Rattle.std.proofs.Common.{◌≡◌, ◌∙◌, ◌+◌, ℕ, Bool, true, false, ◌||◌, cond, List, [], ◌∷◌, refl, ap, sym, length, map, suc, arith}
use Rattle.std.specs.Prelude.{nat_le, count_by}
use Rattle.std.specs.List.{list_any}
use Rattle.std.proofs.lemmas.List.Sums.{sum_by-cons}
use Rattle.misra_base.specs.declared.deviation.Deviation.{Deviation}
use Rattle.desk_tables.specs.Tables.{by_id, insert_by_id}

-- ---- their number

length_step : (b : Bool) (d e : Deviation) (es rest : List Deviation) → length rest ≡ suc (length es)
    → length (cond b (d ∷ e ∷ es) (e ∷ rest)) ≡ suc (suc (length es))
length_step true d e es rest h = refl
length_step false d e es rest h = ap suc h

length_inserted : (d : Deviation) (ds : List Deviation) → length (insert_by_id d ds) ≡ suc (length ds)
length_inserted d [] = refl
length_inserted d (e ∷ es) = length_step (nat_le d.id e.id) d e es (insert_by_id d es) (length_inserted d es)

pub length_sorted : (ds : List Deviation) → length (by_id ds) ≡ length ds
length_sorted [] = refl
length_sorted (d ∷ ds) = length_inserted d (by_id ds) ∙ ap suc (length_sorted ds)

-- ---- how many pass a test

swap : (a b c : ℕ) → b + (a + c) ≡ a + (b + c)
swap a b c = omega arith

-- a count of one more
more : (p : Deviation → Bool) (d : Deviation) (ds : List Deviation) → count_by p (d ∷ ds) ≡ cond (p d) 1 0 + count_by p ds
more p d ds = sum_by-cons (λ x. cond (p x) 1 0) d ds

count_step : (p : Deviation → Bool) (b : Bool) (d e : Deviation) (es rest : List Deviation)
    → count_by p rest ≡ cond (p d) 1 0 + count_by p es
    → count_by p (cond b (d ∷ e ∷ es) (e ∷ rest)) ≡ cond (p d) 1 0 + count_by p (e ∷ es)
count_step p true d e es rest h = more p d (e ∷ es)
count_step p false d e es rest h =
    more p e rest ∙ ap (λ n. cond (p e) 1 0 + n) h ∙ swap (cond (p d) 1 0) (cond (p e) 1 0) (count_by p es)
    ∙ ap (λ n. cond (p d) 1 0 + n) (sym (more p e es))

count_inserted : (p : Deviation → Bool) (d : Deviation) (ds : List Deviation) → count_by p (insert_by_id d ds) ≡ cond (p d) 1 0 + count_by p ds
count_inserted p d [] = more p d []
count_inserted p d (e ∷ es) = count_step p (nat_le d.id e.id) d e es (insert_by_id d es) (count_inserted p d es)

pub count_sorted : (p : Deviation → Bool) (ds : List Deviation) → count_by p (by_id ds) ≡ count_by p ds
count_sorted p [] = refl
count_sorted p (d ∷ ds) = count_inserted p d (by_id ds) ∙ ap (λ n. cond (p d) 1 0 + n) (count_sorted p ds) ∙ sym (more p d ds)

-- ---- whether some id passes a test

or_swap : (a b c : Bool) → (b || (a || c)) ≡ (a || (b || c))
or_swap true true c = refl
or_swap true false c = refl
or_swap false b c = refl

any_step : (q : ℕ → Bool) (b : Bool) (d e : Deviation) (es rest : List Deviation)
    → list_any q (map (λ x. x.id) rest) ≡ (q d.id || list_any q (map (λ x. x.id) es))
    → list_any q (map (λ x. x.id) (cond b (d ∷ e ∷ es) (e ∷ rest))) ≡ (q d.id || (q e.id || list_any q (map (λ x. x.id) es)))
any_step q true d e es rest h = refl
any_step q false d e es rest h = ap (λ b. q e.id || b) h ∙ or_swap (q d.id) (q e.id) (list_any q (map (λ x. x.id) es))

any_inserted : (q : ℕ → Bool) (d : Deviation) (ds : List Deviation)
    → list_any q (map (λ x. x.id) (insert_by_id d ds)) ≡ (q d.id || list_any q (map (λ x. x.id) ds))
any_inserted q d [] = refl
any_inserted q d (e ∷ es) = any_step q (nat_le d.id e.id) d e es (insert_by_id d es) (any_inserted q d es)

pub any_sorted : (q : ℕ → Bool) (ds : List Deviation) → list_any q (map (λ x. x.id) (by_id ds)) ≡ list_any q (map (λ x. x.id) ds)
any_sorted q [] = refl
any_sorted q (d ∷ ds) = any_inserted q d (by_id ds) ∙ ap (λ b. q d.id || b) (any_sorted q ds)
