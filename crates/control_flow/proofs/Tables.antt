-- Tables read at consecutive places.
use Rattle.std.proofs.Common.{◌≡◌, refl, sym, ap, ◌∙◌, subst, ℕ, zero, suc, ◌+◌, List, [], ◌∷◌, ◌++◌, map, length, Some, slice_get, arith}
use Rattle.std.specs.Prelude.{option_map, unwrap_or}
use Rattle.c_program.specs.Control.{Spot}
use Rattle.c_program.proofs.Members.{mapped}
use Rattle.c_program.proofs.Sites.{Site, spot_of}
use Rattle.control_flow.proofs.Places.{Marks}

-- the table has these, from a place on
abbrev pub At : {A : Type 0} → (ℕ → A) → ℕ → List A → Type 0
At table n [] = Unit {0}
At table n (x ∷ xs) = (table n ≡ x) × At table (suc n) xs

moved : (n k : ℕ) → suc n + k ≡ n + suc k
moved n k = omega arith

still : (n : ℕ) → n ≡ n + 0
still n = omega arith

pub at_left : {A : Type 0} (table : ℕ → A) (n : ℕ) (xs ys : List A) → At table n (xs ++ ys) → At table n xs
at_left table n [] ys m = tt
at_left table n (x ∷ xs) ys m = (m.0, at_left table (suc n) xs ys m.1)

pub at_right : {A : Type 0} (table : ℕ → A) (n : ℕ) (xs ys : List A) → At table n (xs ++ ys) → At table (n + length xs) ys
at_right table n [] ys m = subst (λ i. At table i ys) (still n) m
at_right table n (x ∷ xs) ys m = subst (λ i. At table i ys) (moved n (length xs)) (at_right table (suc n) xs ys m.1)

pub to_at : {A : Type 0} (table : ℕ → A) (n : ℕ) (xs : List A) → ((k : ℕ) (x : A) → slice_get xs k ≡ Some x → table (n + k) ≡ x) → At table n xs
to_at table n [] h = tt
to_at table n (x ∷ xs) h = (ap table (still n) ∙ h 0 x refl, to_at table (suc n) xs (λ k y e. ap table (moved n k) ∙ h (suc k) y e))

got_map : {A B : Type 0} (f : A → B) (xs : List A) (k : ℕ) → slice_get (map f xs) k ≡ option_map f (slice_get xs k)
got_map f [] k = refl
got_map f (x ∷ xs) zero = refl
got_map f (x ∷ xs) (suc k) = got_map f xs k

-- a list of values read by place
pub by_list : {A B : Type 0} (f : A → B) (none : B) (xs : List A) (ys : List B) → map f xs ≡ ys → At (λ k. unwrap_or (option_map f (slice_get xs k)) none) 0 ys
by_list f none xs ys e = to_at (λ k. unwrap_or (option_map f (slice_get xs k)) none) 0 ys
    (λ k y got. ap (λ i. unwrap_or (option_map f (slice_get xs i)) none) (from_none k) ∙ ap (λ o. unwrap_or o none) (sym (got_map f xs k) ∙ ap (λ l. slice_get l k) e ∙ got))
  where
    from_none : (k : ℕ) → 0 + k ≡ k
    from_none k = omega arith

pub to_marks : (label : ℕ → Spot) (n : ℕ) (all : List Site) → At label n (mapped spot_of all) → Marks label n all
to_marks label n [] m = tt
to_marks label n (site ∷ all) m = (m.0, to_marks label (suc n) all m.1)
