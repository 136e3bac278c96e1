-- The number of a deviation, from a number that is cut at the limit.
use Rattle.std.proofs.Common.{◌≡◌, ◌<◌, ◌≤◌, ℕ, Bool, true, false, if◌then◌else◌, Option, Some, None, is_some, unwrap_or, min, nat_lt, refl, sym, ap, ◌∙◌, arith}
use Rattle.std.proofs.lemmas.Bool.Decides.{nat_tests}
use Rattle.std.specs.Option.{option_and_then, option_map}
use Rattle.http_routes.specs.Paths.{below_limit}

below_is : (n : ℕ) → n < 4294967296 → nat_lt n 4294967296 ≡ true
below_is n small = grind (arith, nat_tests)

above_is : (n : ℕ) → 4294967296 ≤ n → nat_lt n 4294967296 ≡ false
above_is n large = grind (arith, nat_tests)

pub numbered : (told number : Option ℕ) (n : ℕ) → told ≡ option_map (λ m. min m 4294967296) number → told ≡ Some n → n < 4294967296 → Some n ≡ option_and_then below_limit number
numbered told None n is some small = let e : false ≡ true = ap is_some (sym is ∙ some) in grind (arith, e)
numbered told (Some m) n is some small =
    let cut : min m 4294967296 ≡ n = ap (λ o. unwrap_or o 0) (sym is ∙ some) in
    let same : n ≡ m = omega (arith, cut, small) in
    let fits : m < 4294967296 = omega (arith, cut, small) in
    ap Some same ∙ ap (λ b. if b then Some m else None) (sym (below_is m fits))

pub too_large : (told number : Option ℕ) (n : ℕ) → told ≡ option_map (λ m. min m 4294967296) number → told ≡ Some n → 4294967296 ≤ n → (let none : Option ℕ = None in none) ≡ option_and_then below_limit number
too_large told None n is some large = refl
too_large told (Some m) n is some large =
    let cut : min m 4294967296 ≡ n = ap (λ o. unwrap_or o 0) (sym is ∙ some) in
    let over : 4294967296 ≤ m = omega (arith, cut, large) in
    ap (λ b. if b then Some m else None) (sym (above_is m over))

pub no_number : (told number : Option ℕ) → told ≡ option_map (λ m. min m 4294967296) number → told ≡ None → (let none : Option ℕ = None in none) ≡ option_and_then below_limit number
no_number told None is none = refl
no_number told (Some m) is none = let e : true ≡ false = ap is_some (sym is ∙ none) in grind (arith, e)
