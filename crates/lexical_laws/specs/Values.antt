-- The value of an integer literal (C11 6.4.4.1).
use Rattle.std.specs.Prelude.{◌≡◌, ◌⊎◌, ◌<◌, ℕ, ◌+◌, ◌*◌, true, false, List, [], ◌∷◌, ◌++◌, length, All, codes, Some, is_some}
use Rattle.c_lexer.specs.declared.integer.IntegerLiteral.{IntegerLiteral}
use Rattle.c_lexer.specs.Integers.{digit_value, place_value, suffix_of, begins_zero, integer_literal}

-- the base that a prefix and the first digit say
abbrev pub IsBase : ℕ → List ℕ → List ℕ → Type 0
IsBase base prefix digits =
    ((base ≡ 16) × ((prefix ≡ codes "0x") ⊎ (prefix ≡ codes "0X")))
    ⊎ ((base ≡ 8) × (prefix ≡ []) × (begins_zero digits ≡ true))
    ⊎ ((base ≡ 10) × (prefix ≡ []) × (begins_zero digits ≡ false))

-- a prefix, digits of its base and a suffix, and the value is that of the digits
pub record IsWritten (text : List ℕ) (literal : IntegerLiteral) : Type 0 where
  pub base : ℕ
  pub prefix : List ℕ
  pub digits : List ℕ
  pub suffix : List ℕ
  pub whole : text ≡ prefix ++ (digits ++ suffix)
  pub in_base : IsBase base prefix digits
  pub some : 0 < length digits
  pub each : All (λ digit. digit_value digit < base) digits
  pub ends : is_some (suffix_of suffix) ≡ true
  pub value : literal.value ≡ place_value base digits

abbrev pub LiteralIsItsDigits : Type 0
LiteralIsItsDigits = (text : List ℕ) (literal : IntegerLiteral) → integer_literal text ≡ Some literal → IsWritten text literal

-- each digit before the last one counts the base times what it counts without that one
abbrev pub FirstDigitCountsMost : Type 0
FirstDigitCountsMost = (base last : ℕ) (digits : List ℕ) → place_value base (digits ++ last ∷ []) ≡ place_value base digits * base + digit_value last
