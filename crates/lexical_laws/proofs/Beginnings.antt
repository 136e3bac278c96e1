-- Which kind of token a text may begin with.
use Rattle.std.proofs.Common.{◌≡◌, inl, inr, ◌<◌, ◌≤◌, ◌==◌, ℕ, suc, zero, Bool, true, false, cond, not, ◌&&◌, ◌||◌, nat_le, nat_eq, List, [], ◌∷◌, take, Option, Some, None, is_some, refl, sym, ◌∙◌, subst, codes, arith}
use Rattle.std.specs.List.{list_all, list_any, AllByRecursion}
use Rattle.std.proofs.lemmas.Bool.{true≢false, eqb-true, leb-true}
use Rattle.std.proofs.lemmas.List.Elements.{All-contains, All-from_recursion}
use Rattle.c_lexer.specs.declared.piece.LexemeKind.{LexemeKind}
use Rattle.c_lexer.specs.declared.piece.LexemeKind.TheVariants.{Word, Number, Character, String, Punctuator}
use Rattle.c_lexer.specs.Bytes.{is_letter, is_digit}
use Rattle.c_lexer.specs.Identifiers.{is_word}
use Rattle.c_lexer.specs.Literals.{character_literal, escape_value, is_plain}
use Rattle.c_lexer.specs.Numbers.{begins_digit, begins_number}
use Rattle.c_lexer.specs.Punctuators.{is_punctuator, threes, pairs}
use Rattle.lexical_laws.specs.Classes.{kind_at}
use Rattle.lexical_laws.specs.Lexemes.{IsConstant, IsPunctuator, IsLexeme, IsToken}

-- ---- bytes

pub letter_above : (b : ℕ) → is_letter b ≡ true → 65 ≤ b
letter_above b e = here (nat_le 97 b) (nat_le 65 b) (b == 95) refl refl refl e
  where
    here : (x y z : Bool) → nat_le 97 b ≡ x → nat_le 65 b ≡ y → (b == 95) ≡ z → (x && nat_le b 122 || y && nat_le b 90 || z) ≡ true → 65 ≤ b
    here x true z is_x is_y is_z h = leb-true 65 b is_y
    here true false z is_x is_y is_z h = omega (arith, leb-true 97 b is_x)
    here false false true is_x is_y is_z h = omega (arith, eqb-true b 95 is_z)
    here false false false is_x is_y is_z h = absurd (true≢false (sym h))

pub no_letter : (b : ℕ) → b < 65 → is_letter b ≡ false
no_letter b small = here (is_letter b) refl
  where
    here : (x : Bool) → is_letter b ≡ x → x ≡ false
    here true e = absurd (omega (arith, small, letter_above b e))
    here false e = refl

digit_below : (b : ℕ) → is_digit b ≡ true → b < 65
digit_below b e = here (nat_le 48 b) (nat_le b 57) refl e
  where
    here : (x y : Bool) → nat_le b 57 ≡ y → (x && y) ≡ true → b < 65
    here true true is h = omega (arith, leb-true b 57 is)
    here true false is h = absurd (true≢false (sym h))
    here false y is h = absurd (true≢false (sym h))

number_below : (b : ℕ) (bs : List ℕ) → begins_number (b ∷ bs) ≡ true → b < 65
number_below b bs e = here (is_digit b) (b == 46) refl refl e
  where
    here : (x y : Bool) → is_digit b ≡ x → (b == 46) ≡ y → (x || y && begins_digit bs) ≡ true → b < 65
    here true y is_x is_y h = digit_below b is_x
    here false true is_x is_y h = omega (arith, eqb-true b 46 is_y)
    here false false is_x is_y h = absurd (true≢false (sym h))

-- a number begins with neither of these
number_first : (b : ℕ) (bs : List ℕ) → begins_number (b ∷ bs) ≡ true → is_letter b ≡ false
number_first b bs e = no_letter b (number_below b bs e)

-- a test that all bytes of a list pass is passed by one of them
any_of : (test : ℕ → Bool) (b : ℕ) (bytes : List ℕ) → list_all test bytes ≡ true → list_any (λ p. nat_eq p b) bytes ≡ true → test b ≡ true
any_of test b [] all e = absurd (true≢false (sym e))
any_of test b (p ∷ ps) all e = here (test p) (nat_eq p b) refl refl all e (any_of test b ps)
  where
    here : (x y : Bool) → test p ≡ x → nat_eq p b ≡ y → (x && list_all test ps) ≡ true → (y || list_any (λ p. nat_eq p b) ps) ≡ true
        → (list_all test ps ≡ true → list_any (λ p. nat_eq p b) ps ≡ true → test b ≡ true) → test b ≡ true
    here true true is_x is_y h k later = subst (λ (n : ℕ). test n ≡ true) (eqb-true p b is_y) is_x
    here true false is_x is_y h k later = later h k
    here false y is_x is_y h k later = absurd (true≢false (sym h))

-- a byte that begins no other token
abbrev is_other : ℕ → Bool
is_other b = not (is_letter b) && (not (is_digit b) && (not (b == 39) && not (b == 34)))

punctuator_first : (b : ℕ) → is_punctuator b ≡ true → is_other b ≡ true
punctuator_first b e = any_of is_other b (codes "[](){}.&*+-~!/%<>^|?:;=,") refl e

-- ---- the kind of a token

letter_word : (b : ℕ) (bs : List ℕ) → is_letter b ≡ true → kind_at (b ∷ bs) ≡ Some Word
letter_word b bs e = rw e refl

pub number_kind : (b : ℕ) (bs : List ℕ) → begins_number (b ∷ bs) ≡ true → kind_at (b ∷ bs) ≡ Some Number
number_kind b bs e = rw (number_first b bs e, e) refl

pub punctuator_kind : (b : ℕ) (bs : List ℕ) → is_punctuator b ≡ true → begins_number (b ∷ bs) ≡ false → kind_at (b ∷ bs) ≡ Some Punctuator
punctuator_kind b bs e none = here (is_letter b) (is_digit b) (b == 39) (b == 34) (punctuator_first b e)
  where
    here : (w x y z : Bool) → (not w && (not x && (not y && not z))) ≡ true
        → cond w (Some Word) (cond (begins_number (b ∷ bs)) (Some Number) (cond y (Some Character) (cond z (Some String) (cond (is_punctuator b) (Some Punctuator) None)))) ≡ Some Punctuator
    here false false false false h = rw (none, e) refl
    here true x y z h = absurd (true≢false (sym h))
    here false true y z h = absurd (true≢false (sym h))
    here false false true z h = absurd (true≢false (sym h))
    here false false false true h = absurd (true≢false (sym h))

left_true : (a b : Bool) → (a && b) ≡ true → a ≡ true
left_true true b e = refl
left_true false b e = e

word_kind : (text : List ℕ) → is_word text ≡ true → kind_at text ≡ Some Word
word_kind [] e = absurd (true≢false (sym e))
word_kind (b ∷ bs) e = letter_word b bs (left_true (is_letter b) _ e)

constant_kind : (text : List ℕ) → IsConstant text → kind_at text ≡ Some Number
constant_kind [] is = absurd (true≢false (sym is.number))
constant_kind (b ∷ bs) is = number_kind b bs (left_true (begins_number (b ∷ bs)) _ is.number)

quote_first : (a : ℕ) (x : Bool) (o : Option ℕ) → (a == 39) ≡ x → is_some (cond x o None) ≡ true → a ≡ 39
quote_first a true o is e = eqb-true a 39 is
quote_first a false o is e = absurd (true≢false (sym e))

quoted : (a : ℕ) (bs : List ℕ) → a ≡ 39 → kind_at (a ∷ bs) ≡ Some Character
quoted a bs is = subst (λ (n : ℕ). kind_at (n ∷ bs) ≡ Some Character) (sym is) refl

character_kind : (text : List ℕ) → is_some (character_literal text) ≡ true → kind_at text ≡ Some Character
character_kind [] e = absurd (true≢false (sym e))
character_kind (a ∷ []) e = absurd (true≢false (sym e))
character_kind (a ∷ b ∷ []) e = absurd (true≢false (sym e))
character_kind (a ∷ b ∷ c ∷ []) e = quoted a (b ∷ c ∷ []) (here (a == 39) refl e)
  where
    here : (x : Bool) → (a == 39) ≡ x → is_some (cond (x && c == 39 && is_plain b) (Some b) None) ≡ true → a ≡ 39
    here true is h = eqb-true a 39 is
    here false is h = absurd (true≢false (sym h))
character_kind (a ∷ b ∷ c ∷ d ∷ []) e = quoted a (b ∷ c ∷ d ∷ []) (here (a == 39) refl e)
  where
    here : (x : Bool) → (a == 39) ≡ x → is_some (cond (x && b == 92 && d == 39) (escape_value c) None) ≡ true → a ≡ 39
    here true is h = eqb-true a 39 is
    here false is h = absurd (true≢false (sym h))
character_kind (a ∷ b ∷ c ∷ d ∷ f ∷ fs) e = absurd (true≢false (sym e))

threes_kind : AllByRecursion (λ w. kind_at w ≡ Some Punctuator) threes
unfolding threes
threes_kind = (refl, (refl, (refl, tt)))

pairs_kind : AllByRecursion (λ w. kind_at w ≡ Some Punctuator) pairs
unfolding pairs
pairs_kind = (refl, (refl, (refl, (refl, (refl, (refl, (refl, (refl, (refl, (refl, (refl, (refl, (refl, (refl, (refl, (refl, (refl, (refl, (refl, tt)))))))))))))))))))

one_kind : (b : ℕ) → is_punctuator b ≡ true → kind_at (b ∷ []) ≡ Some Punctuator
one_kind b e = punctuator_kind b [] e (here (is_letter b) (is_digit b) (b == 39) (b == 34) (b == 46) (punctuator_first b e))
  where
    here : (w x y z p : Bool) → (not w && (not x && (not y && not z))) ≡ true → (x || p && false) ≡ false
    here false false false false true h = refl
    here false false false false false h = refl
    here true x y z p h = absurd (true≢false (sym h))
    here false true y z p h = absurd (true≢false (sym h))
    here false false true z p h = absurd (true≢false (sym h))
    here false false false true p h = absurd (true≢false (sym h))

mark_kind : (text : List ℕ) → IsPunctuator text → kind_at text ≡ Some Punctuator
mark_kind text (inl is) = All-contains (λ w. kind_at w ≡ Some Punctuator) threes text (All-from_recursion (λ w. kind_at w ≡ Some Punctuator) threes threes_kind) is
mark_kind text (inr (inl is)) = All-contains (λ w. kind_at w ≡ Some Punctuator) pairs text (All-from_recursion (λ w. kind_at w ≡ Some Punctuator) pairs pairs_kind) is
mark_kind text (inr (inr (b, is, e))) = subst (λ (bs : List ℕ). kind_at bs ≡ Some Punctuator) (sym is) (one_kind b e)

pub kind_of : (kind : LexemeKind) (text : List ℕ) → IsLexeme kind text → kind_at text ≡ Some kind
kind_of Word text is = word_kind text is
kind_of Number text is = constant_kind text is
kind_of Character text is = character_kind text is
kind_of String [] is = absurd is
kind_of String (b ∷ bs) is = subst (λ (n : ℕ). kind_at (n ∷ bs) ≡ Some String) (sym is.0) refl
kind_of Punctuator text is = mark_kind text is

-- a longer front has the kind of the text
still_kind : (text : List ℕ) (longer : ℕ) → 1 < longer → kind_at (take longer text) ≡ kind_at text
still_kind text zero more = absurd (omega (arith, more))
still_kind text (suc zero) more = absurd (omega (arith, more))
still_kind [] (suc (suc n)) more = refl
still_kind (b ∷ []) (suc (suc n)) more = refl
still_kind (b ∷ c ∷ bs) (suc (suc n)) more = refl

pub same_kind : (text : List ℕ) (longer : ℕ) (kind : LexemeKind) → kind_at text ≡ Some kind → 1 < longer → IsToken (take longer text) → IsLexeme kind (take longer text)
same_kind text longer kind is more token =
    let same : Some kind ≡ Some token.0 = sym is ∙ sym (still_kind text longer more) ∙ kind_of token.0 (take longer text) token.1 in
    subst (λ (k : LexemeKind). IsLexeme k (take longer text)) (one same) token.1
  where
    one : {a b : LexemeKind} → Some a ≡ Some b → b ≡ a
    one h = cc
