-- The first slash by its place, and what stands round it.
use Rattle.std.proofs.Common.{◌≡◌, ◌<◌, ◌≤◌, ◌+◌, ◌-◌, ℕ, Bool, true, false, cond, Option, Some, None, is_some, unwrap_or, List, [], length, take, drop, nat_lt, refl, sym, ap, ◌∙◌, arith}
use Rattle.std.proofs.lemmas.Grind.{common_steps}
use Rattle.std.proofs.lemmas.Bool.Decides.{nat_tests}
use Rattle.std.specs.List.{after_first, before_first, position, position_or_len}

decided : (inside : Bool) (n place : ℕ) → cond inside (Some n) None ≡ Some place → (inside ≡ true) × (place ≡ n)
decided true n place is = (refl, ap (λ o. unwrap_or o 0) (sym is))
decided false n place is = let e : false ≡ true = ap is_some is in grind (arith, e)

undecided : (inside : Bool) (n : ℕ) → cond inside (Some n) None ≡ None → inside ≡ false
undecided true n is = ap is_some is
undecided false n is = refl

below : (m n : ℕ) → nat_lt m n ≡ true → m < n
below m n test = grind (arith, nat_tests)

not_below : (m n : ℕ) → nat_lt m n ≡ false → n ≤ m
not_below m n test = grind (arith, nat_tests)

module _ (p : ℕ → Bool) (path : List ℕ) (found : Option ℕ) (is : found ≡ position p path) where
  abbrev place : ℕ
  place = position_or_len p path

  at : (n : ℕ) → found ≡ Some n → (nat_lt place (length path) ≡ true) × (n ≡ place)
  at n some = decided (nat_lt place (length path)) place n (sym is ∙ some)

  past : found ≡ None → length path ≤ place
  past none = not_below place (length path) (undecided (nat_lt place (length path)) place (sym is ∙ none))

  pub place_below : (n : ℕ) → found ≡ Some n → n < length path
  place_below n some =
      let inside = below place (length path) (at n some).0 in
      let same = (at n some).1 in
      omega (arith, inside, same)

  rest : (n : ℕ) → take (length path - (n + 1)) (drop (n + 1) path) ≡ drop (n + 1) path
  rest n = grind (arith, common_steps)

  pub behind_place : (n : ℕ) → found ≡ Some n → take (length path - (n + 1)) (drop (n + 1) path) ≡ after_first p path
  behind_place n some = rest n ∙ ap (λ k. drop (k + 1) path) (at n some).1

  pub before_place : (n : ℕ) → found ≡ Some n → take n path ≡ before_first p path
  before_place n some = ap (λ k. take k path) (at n some).1

  pub behind_none : found ≡ None → let none : List ℕ = [] in none ≡ after_first p path
  behind_none none = let over = past none in grind (arith, common_steps)

  pub before_none : found ≡ None → path ≡ before_first p path
  before_none none = let over = past none in grind (arith, common_steps)
