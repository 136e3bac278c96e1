-- What an integer literal counts.
use Rattle.std.proofs.Common.{◌≡◌, ◌⊎◌, inl, inr, ◌<◌, ◌≤◌, ◌==◌, ◌+◌, ◌*◌, ◌^◌, ℕ, suc, zero, Bool, true, false, cond, ◌&&◌, ◌||◌, List, [], ◌∷◌, ◌++◌, length, take, drop, All, Option, Some, None, is_some, refl, sym, ap, ◌∙◌, subst, codes, option_map, option_and_then, add-mul, mul_assoc, mul_comm, arith}
use Rattle.std.specs.List.{prefix_len, AllByRecursion}
use Rattle.std.proofs.lemmas.Bool.{eqb-true, eqb-false, ltb-true, true≢false}
use Rattle.std.proofs.lemmas.List.{take-append-drop, length-take-le}
use Rattle.std.proofs.lemmas.List.Elements.{All-from_recursion}
use Rattle.std.proofs.Math.Nat.{pow-zero, pow-succ'}
use Rattle.std.proofs.lemmas.List.Sums.{prefix_len-le-length}
use Rattle.c_lexer.specs.declared.integer.IntegerType.{IntegerType}
use Rattle.c_lexer.specs.declared.integer.IntegerLiteral.{IntegerLiteral}
use Rattle.c_lexer.specs.Numbers.{begins_hexadecimal}
use Rattle.c_lexer.specs.Integers.{digit_value, is_digit_of, place_value, suffix_of, types_of, first_type, begins_zero, typed, literal_of, integer_literal}
use Rattle.lexical_laws.specs.Values.{IsBase, IsWritten, LiteralIsItsDigits, FirstDigitCountsMost}

-- ---- the first digit

longer : (bs : List ℕ) (b : ℕ) → length (bs ++ b ∷ []) ≡ suc (length bs)
longer [] b = refl
longer (x ∷ xs) b = ap (λ (n : ℕ). suc n) (longer xs b)

pub first_counts : FirstDigitCountsMost
first_counts base last [] = omega (arith, alone)
  where
    alone : digit_value last * base ^ 0 ≡ digit_value last
    alone = ap (λ (n : ℕ). digit_value last * n) (pow-zero base) ∙ times_one (digit_value last)
      where
        times_one : (n : ℕ) → n * 1 ≡ n
        times_one n = omega arith
first_counts base last (d ∷ ds) =
    let p = base ^ length ds in
    let power : base ^ length (ds ++ last ∷ []) ≡ base * p = ap (λ (n : ℕ). base ^ n) (longer ds last) ∙ pow-succ' base (length ds) in
    let moved : digit_value d * base ^ length (ds ++ last ∷ []) ≡ digit_value d * p * base =
    ap (λ (n : ℕ). digit_value d * n) power ∙ turned (digit_value d) base p in
    let later = first_counts base last ds in
    let shared : (digit_value d * p + place_value base ds) * base ≡ digit_value d * p * base + place_value base ds * base = add-mul (digit_value d * p) (place_value base ds) base in
    omega (arith, moved, later, shared)
  where
    turned : (a b c : ℕ) → a * (b * c) ≡ a * c * b
    turned a b c = ap (λ (n : ℕ). a * n) (mul_comm b c) ∙ sym (mul_assoc a c b)

-- ---- the literal in its parts

digits_pass : (base : ℕ) (bs : List ℕ) → AllByRecursion (λ b. digit_value b < base) (take (prefix_len (is_digit_of base) bs) bs)
digits_pass base [] = tt
digits_pass base (b ∷ bs) = here (is_digit_of base b) refl (digits_pass base bs)
  where
    one : suc (prefix_len (is_digit_of base) bs) ≡ 1 + prefix_len (is_digit_of base) bs
    one = omega arith

    here : (x : Bool) → is_digit_of base b ≡ x → AllByRecursion (λ b. digit_value b < base) (take (prefix_len (is_digit_of base) bs) bs)
        → AllByRecursion (λ b. digit_value b < base) (take (cond x (1 + prefix_len (is_digit_of base) bs) 0) (b ∷ bs))
    here true e later = subst (λ (n : ℕ). AllByRecursion (λ b. digit_value b < base) (take n (b ∷ bs))) one (ltb-true (digit_value b) base e, later)
    here false e later = tt

-- a literal of a body
pub record InBody (base : ℕ) (body : List ℕ) (literal : IntegerLiteral) : Type 0 where
  pub digits : List ℕ
  pub suffix : List ℕ
  pub whole : body ≡ digits ++ suffix
  pub size : ℕ
  pub front : digits ≡ take size body
  pub some : 0 < length digits
  pub each : All (λ digit. digit_value digit < base) digits
  pub ends : is_some (suffix_of suffix) ≡ true
  pub value : literal.value ≡ place_value base digits

abbrev value_or : Option IntegerLiteral → ℕ
value_or None = 0
value_or (Some literal) = literal.value

value_is : (value : ℕ) (literal : IntegerLiteral) (kind : Option IntegerType) → option_map (λ (k : IntegerType). record { value = value; kind = k }) kind ≡ Some literal
    → literal.value ≡ value
value_is value literal None e = absurd_none e
  where
    absurd_none : None ≡ Some literal → literal.value ≡ value
    absurd_none h = cc
value_is value literal (Some k) e = sym (ap value_or e)

after_suffix : {S : Type 0} (o : Option S) (f : S → Option IntegerLiteral) (literal : IntegerLiteral) → option_and_then f o ≡ Some literal
    → (is_some o ≡ true) × ((s : S) × (f s ≡ Some literal))
after_suffix None f literal e = absurd (none e)
  where
    none : None ≡ Some literal → ⊥
    none h = cc
after_suffix (Some s) f literal e = (refl, (s, e))

in_body : (base n : ℕ) (body : List ℕ) (literal : IntegerLiteral) → n ≤ length body → AllByRecursion (λ b. digit_value b < base) (take n body)
    → literal_of base n body ≡ Some literal → InBody base body literal
in_body base n body literal within each e = here (n == 0) refl e
  where
    value : ℕ
    value = place_value base (take n body)

    here : (x : Bool) → (n == 0) ≡ x → cond x None (option_and_then (λ s. typed value (base == 10) s) (suffix_of (drop n body))) ≡ Some literal → InBody base body literal
    here true is h = absurd (none h)
      where
        none : None ≡ Some literal → ⊥
        none k = cc
    here false is h =
        let found = after_suffix (suffix_of (drop n body)) (λ s. typed value (base == 10) s) literal h in
        record {
          digits = take n body;
          suffix = drop n body;
          whole = sym (take-append-drop n body);
          size = n;
          front = refl;
          some = omega (arith, length-take-le n body within, eqb-false n 0 is);
          each = All-from_recursion (λ digit. digit_value digit < base) (take n body) each;
          ends = found.0;
          value = value_is value literal (first_type value (types_of (base == 10) found.1.0)) found.1.1;
        }

read_body : (base : ℕ) (body : List ℕ) (literal : IntegerLiteral) → literal_of base (prefix_len (is_digit_of base) body) body ≡ Some literal → InBody base body literal
read_body base body literal e = in_body base (prefix_len (is_digit_of base) body) body literal (prefix_len-le-length (is_digit_of base) body) (digits_pass base body) e

written : (text prefix : List ℕ) (base : ℕ) (body : List ℕ) (literal : IntegerLiteral) → text ≡ prefix ++ body → (read : InBody base body literal) → IsBase base prefix read.digits
    → IsWritten text literal
written text prefix base body literal is read in_base =
    record {
      base = base;
      prefix = prefix;
      digits = read.digits;
      suffix = read.suffix;
      whole = is ∙ ap (λ (bs : List ℕ). prefix ++ bs) read.whole;
      in_base = in_base;
      some = read.some;
      each = read.each;
      ends = read.ends;
      value = read.value;
    }

abbrev IsHexadecimal : List ℕ → Type 0
IsHexadecimal prefix = (prefix ≡ codes "0x") ⊎ (prefix ≡ codes "0X")

hexadecimal_front : (text : List ℕ) → begins_hexadecimal text ≡ true → (prefix : List ℕ) × IsHexadecimal prefix × (text ≡ prefix ++ drop 2 text)
hexadecimal_front [] e = absurd (true≢false (sym e))
hexadecimal_front (a ∷ []) e = here (a == 48) e
  where
    here : (x : Bool) → (x && false) ≡ true → (prefix : List ℕ) × IsHexadecimal prefix × (a ∷ [] ≡ prefix ++ [])
    here true h = absurd (true≢false (sym h))
    here false h = absurd (true≢false (sym h))
hexadecimal_front (a ∷ b ∷ bs) e = here (a == 48) (b == 120) (b == 88) refl refl refl e
  where
    here : (x y z : Bool) → (a == 48) ≡ x → (b == 120) ≡ y → (b == 88) ≡ z → (x && (y || z)) ≡ true
        → (prefix : List ℕ) × IsHexadecimal prefix × (a ∷ b ∷ bs ≡ prefix ++ bs)
    here true true z is_a is_b is_c h = (48 ∷ 120 ∷ [], inl refl, ap (λ (n : ℕ). n ∷ b ∷ bs) (eqb-true a 48 is_a) ∙ ap (λ (n : ℕ). 48 ∷ n ∷ bs) (eqb-true b 120 is_b))
    here true false true is_a is_b is_c h = (48 ∷ 88 ∷ [], inr refl, ap (λ (n : ℕ). n ∷ b ∷ bs) (eqb-true a 48 is_a) ∙ ap (λ (n : ℕ). 48 ∷ n ∷ bs) (eqb-true b 88 is_c))
    here true false false is_a is_b is_c h = absurd (true≢false (sym h))
    here false y z is_a is_b is_c h = absurd (true≢false (sym h))

zero_front : (n : ℕ) (text digits : List ℕ) → 0 < length digits → digits ≡ take n text → begins_zero digits ≡ begins_zero text
zero_front zero text digits some is = absurd (omega (arith, some, ap (λ (bs : List ℕ). length bs) is))
zero_front (suc n) [] digits some is = ap (λ (bs : List ℕ). begins_zero bs) is
zero_front (suc n) (b ∷ bs) digits some is = ap (λ (bs : List ℕ). begins_zero bs) is

pub its_digits : LiteralIsItsDigits
unfolding integer_literal
its_digits text literal e = here (begins_hexadecimal text) (begins_zero text) refl refl e
  where
    here : (h z : Bool) → begins_hexadecimal text ≡ h → begins_zero text ≡ z
        → literal_of (cond h 16 (cond z 8 10)) (prefix_len (is_digit_of (cond h 16 (cond z 8 10))) (cond h (drop 2 text) text)) (cond h (drop 2 text) text) ≡ Some literal
        → IsWritten text literal
    here true z is_h is_z h =
        let front = hexadecimal_front text is_h in
        written text front.0 16 (drop 2 text) literal front.2 (read_body 16 (drop 2 text) literal h) (inl (refl, front.1))
    here false true is_h is_z h =
        let read = read_body 8 text literal h in
        written text [] 8 text literal refl read (inr (inl (refl, refl, zero_front read.size text read.digits read.some read.front ∙ is_z)))
    here false false is_h is_z h =
        let read = read_body 10 text literal h in
        written text [] 10 text literal refl read (inr (inr (refl, refl, zero_front read.size text read.digits read.some read.front ∙ is_z)))
