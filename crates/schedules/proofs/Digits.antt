-- The number that some digits write, one digit after the other.
use Rattle.std.proofs.Common.{◌≡◌, ◌≢◌, ◌<◌, ◌≤◌, ◌+◌, ◌-◌, ◌*◌, ℕ, Bool, true, false, not, ◌&&◌, List, [], ◌∷◌, ◌++◌, length, take, get_or, refl, sym, ap, ◌∙◌, arith, eq-eqb, Some, None}
use Rattle.std.specs.Prelude.{if◌then◌else◌, nat_le}
use Rattle.std.proofs.lemmas.Grind.{common_steps}
use Rattle.std.proofs.lemmas.List.Folds.{list_all-append, list_all_at}
use Rattle.std.proofs.lemmas.Int.Digits.{digits_value_more}
use Rattle.std.proofs.lemmas.Str.Parse.{digits_value-take-le}
use Rattle.std.proofs.lemmas.Bool.{lt-leb, le-leb, ne_eqb}
use Rattle.std.proofs.lemmas.List.{take_all}
use Rattle.std.specs.Char.{is_ascii_digit, digit_value}
use Rattle.std.specs.List.{list_all}
use Rattle.std.specs.Str.Parse.{digits_value}
use Rattle.schedules.specs.Lines.{number_up_to, is_numeral, has_leading_zero}

take_one_more : (xs : List ℕ) (i : ℕ) → i < length xs → take (i + 1) xs ≡ take i xs ++ get_or xs i 0 ∷ []
take_one_more xs i below = grind (arith, common_steps)

digit_is : (c : ℕ) → is_ascii_digit c ≡ true → digit_value c ≡ c - 48
digit_is c is = grind (arith, common_steps)

both : (a b : Bool) → a ≡ true → b ≡ true → (a && (b && true)) ≡ true
both a b is also = grind (arith, is, also)

-- the invariant at one digit more
pub value_more : (xs : List ℕ) (i n : ℕ) → i < length xs → is_ascii_digit (get_or xs i 0) ≡ true → n ≡ digits_value 10 (take i xs)
    → n * 10 + (get_or xs i 0 - 48) ≡ digits_value 10 (take (i + 1) xs)
value_more xs i n below digit is =
    ap (λ m. m * 10 + (get_or xs i 0 - 48)) is ∙ ap (λ d. digits_value 10 (take i xs) * 10 + d) (sym (digit_is (get_or xs i 0) digit))
    ∙ sym (digits_value_more 10 xs i below)

pub all_digits : (xs : List ℕ) (i : ℕ) → i < length xs → is_ascii_digit (get_or xs i 0) ≡ true → list_all is_ascii_digit (take i xs) ≡ true
    → list_all is_ascii_digit (take (i + 1) xs) ≡ true
all_digits xs i below digit all =
    ap (list_all is_ascii_digit) (take_one_more xs i below) ∙ list_all-append is_ascii_digit (take i xs) (get_or xs i 0 ∷ [])
    ∙ both (list_all is_ascii_digit (take i xs)) (is_ascii_digit (get_or xs i 0)) all digit

-- ---- no number

fails_both : (a b : Bool) → b ≡ false → (a && b) ≡ false
fails_both a b is = grind (arith, is)

not_numeral : (xs : List ℕ) → list_all is_ascii_digit xs ≡ false → is_numeral xs ≡ false
not_numeral [] is = refl
not_numeral (d ∷ ds) is = fails_both (not (has_leading_zero (d ∷ ds))) (list_all is_ascii_digit (d ∷ ds)) is

chosen_none : (a b : Bool) (n : ℕ) → a ≡ false → None ≡ (if a && b then Some n else None)
chosen_none a b n is = grind (arith, is)

above_none : (a b : Bool) (n : ℕ) → b ≡ false → None ≡ (if a && b then Some n else None)
above_none a b n is = grind (arith, is)

pub none_read : (xs : List ℕ) (i most : ℕ) → i < length xs → is_ascii_digit (get_or xs i 0) ≡ false → None ≡ number_up_to most xs
none_read xs i most below digit =
    chosen_none (is_numeral xs) (nat_le (digits_value 10 xs) most) (digits_value 10 xs) (not_numeral xs (list_all_at is_ascii_digit xs i 0 below digit))

pub too_great : (xs : List ℕ) (i most n : ℕ) → n ≡ digits_value 10 (take i xs) → most < n → None ≡ number_up_to most xs
too_great xs i most n is above =
    above_none (is_numeral xs) (nat_le (digits_value 10 xs) most) (digits_value 10 xs)
    (lt-leb (digits_value 10 xs) most (let within : digits_value 10 (take i xs) ≤ digits_value 10 xs = digits_value-take-le 10 xs i (omega arith) in omega arith))

pub empty_is_none : (xs : List ℕ) (most : ℕ) → length xs ≡ 0 → None ≡ number_up_to most xs
empty_is_none [] most is = refl
empty_is_none (x ∷ xs) most is = cc

pub zero_leads : (xs : List ℕ) (most : ℕ) → 1 < length xs → get_or xs 0 0 ≡ 48 → None ≡ number_up_to most xs
zero_leads [] most long is = refl
zero_leads (x ∷ []) most long is = absurd (omega arith)
zero_leads (x ∷ y ∷ xs) most long is =
    chosen_none (is_numeral (x ∷ y ∷ xs)) (nat_le (digits_value 10 (x ∷ y ∷ xs)) most) (digits_value 10 (x ∷ y ∷ xs)) (ap (λ b. not b && list_all is_ascii_digit (x ∷ y ∷ xs)) (eq-eqb x 48 is))

-- ---- a number

does_not_lead : (xs : List ℕ) → (1 < length xs → get_or xs 0 0 ≢ 48) → has_leading_zero xs ≡ false
does_not_lead [] other = refl
does_not_lead (x ∷ []) other = refl
does_not_lead (x ∷ y ∷ xs) other = ne_eqb x 48 (other (omega (arith)))

is_numeral_where : (xs : List ℕ) → 0 < length xs → has_leading_zero xs ≡ false → list_all is_ascii_digit xs ≡ true → is_numeral xs ≡ true
is_numeral_where [] some short all = absurd (omega arith)
is_numeral_where (x ∷ xs) some short all = ap (λ b. not b && list_all is_ascii_digit (x ∷ xs)) short ∙ all

chosen_some : (a b : Bool) (n : ℕ) → a ≡ true → b ≡ true → Some n ≡ (if a && b then Some n else None)
chosen_some a b n is also = grind (arith, is, also)

whole_is_read : (xs : List ℕ) (most : ℕ) → 0 < length xs → (1 < length xs → get_or xs 0 0 ≢ 48) → list_all is_ascii_digit xs ≡ true → digits_value 10 xs ≤ most
    → Some (digits_value 10 xs) ≡ number_up_to most xs
whole_is_read xs most some other all within =
    chosen_some (is_numeral xs) (nat_le (digits_value 10 xs) most) (digits_value 10 xs) (is_numeral_where xs some (does_not_lead xs other) all) (le-leb (digits_value 10 xs) most within)

pub is_read : (xs : List ℕ) (most n i : ℕ) → 0 < length xs → (1 < length xs → get_or xs 0 0 ≢ 48) → i ≡ length xs → list_all is_ascii_digit (take i xs) ≡ true
    → n ≡ digits_value 10 (take i xs) → n ≤ most → Some n ≡ number_up_to most xs
is_read xs most n i some other end all is within =
    let whole : take i xs ≡ xs = ap (λ k. take k xs) end ∙ take_all (length xs) xs (omega arith) in
    let value : n ≡ digits_value 10 xs = is ∙ ap (digits_value 10) whole in
    ap Some value ∙ whole_is_read xs most some other (sym (ap (list_all is_ascii_digit) whole) ∙ all) (omega arith)
