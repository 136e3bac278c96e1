-- The numbers of the scopes that are open.
use Rattle.std.proofs.Common.{◌≡◌, ◌∙◌, ℕ, ◌<◌, ◌-◌, ◌≤◌, List, [], ◌∷◌, ◌++◌, length, get_or, reverse, refl, sym, ap, arith}
use Rattle.std.proofs.lemmas.List.{reverse-append, get_or-reverse, length-reverse}
use Rattle.std.proofs.Math.ListN.{get_or-eq_default}
use Rattle.c_visibility.specs.Scopes.{round}

pub opens_one : (xs : List ℕ) (x : ℕ) → reverse (xs ++ x ∷ []) ≡ x ∷ reverse xs
opens_one xs x = reverse-append xs (x ∷ [])

pub closes_one : (old new : List ℕ) (x : ℕ) → old ≡ new ++ x ∷ [] → reverse new ≡ round (reverse old)
closes_one old new x e = sym (ap (λ (xs : List ℕ). round (reverse xs)) e ∙ ap (λ (xs : List ℕ). round xs) (opens_one new x))

pub closes_none : (old new : List ℕ) → old ≡ [] → new ≡ [] → reverse new ≡ round (reverse old)
closes_none old new e f = ap (λ (xs : List ℕ). reverse xs) f ∙ sym (ap (λ (xs : List ℕ). round (reverse xs)) e)

pub far_out : (xs : List ℕ) (k : ℕ) → length xs ≤ k → 0 ≡ get_or (reverse xs) k 0
far_out xs k le = sym (get_or-eq_default (reverse xs) 0 (omega (arith, length-reverse xs)))

pub within : (xs : List ℕ) (k : ℕ) → k < length xs → get_or xs (length xs - 1 - k) 0 ≡ get_or (reverse xs) k 0
within xs k lt = sym (get_or-reverse xs k 0 lt)
