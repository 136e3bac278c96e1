-- What is cut is the longest token.
use Rattle.std.proofs.Common.{◌≡◌, ◌<◌, ◌≤◌, ◌==◌, ℕ, ◌+◌, suc, zero, Bool, true, false, cond, ◌&&◌, ◌||◌, List, [], ◌∷◌, length, take, Some, is_some, refl, sym, ap, ◌∙◌, subst, arith}
use Rattle.std.specs.List.{prefix_len}
use Rattle.std.proofs.lemmas.Bool.{true≢false, eqb-true}
use Rattle.std.proofs.lemmas.List.Sums.{prefix_len-le-length}
use Rattle.c_lexer.specs.declared.piece.LexemeKind.{LexemeKind}
use Rattle.c_lexer.specs.declared.piece.LexemeKind.TheVariants.{Word, Number}
use Rattle.c_lexer.specs.declared.piece.Fault.TheVariants.{NoLiteral}
use Rattle.c_lexer.specs.declared.piece.Piece.{Piece}
use Rattle.c_lexer.specs.declared.piece.Piece.TheVariants.{Passed, Token as Cut, Faulty}
use Rattle.c_lexer.specs.Bytes.{is_letter, is_digit, is_word_byte}
use Rattle.c_lexer.specs.Literals.{number_literal}
use Rattle.c_lexer.specs.Numbers.{begins_number, begins_hexadecimal, goes_on_number, number_rest}
use Rattle.c_lexer.specs.Pieces.{number_piece}
use Rattle.lexical_laws.specs.Classes.{kind_at}
use Rattle.lexical_laws.specs.Lexemes.{is_number, IsLexeme, IsToken, IsLongest}
use Rattle.lexical_laws.proofs.Beginnings.{number_kind, same_kind}

-- no longer front is a token where none is one of the text's kind
pub longest_of_kind : (text : List ℕ) (kind : LexemeKind) (size : ℕ) → kind_at text ≡ Some kind → 0 < size
    → ((longer : ℕ) → size < longer → longer ≤ length text → ¬ (IsLexeme kind (take longer text)))
    → (longer : ℕ) → size < longer → longer ≤ length text → ¬ (IsToken (take longer text))
longest_of_kind text kind size is some none longer more within token =
    none longer more within (same_kind text longer kind is (omega (arith, some, more)) token)

right_true : (a b : Bool) → (a && b) ≡ true → b ≡ true
right_true true b e = e
right_true false b e = absurd (true≢false (sym e))

-- ---- words

prefix_taken : (p : ℕ → Bool) (m : ℕ) (bs : List ℕ) → prefix_len p (take m bs) ≡ length (take m bs) → m ≤ length bs → m ≤ prefix_len p bs
prefix_taken p zero bs e within = omega arith
prefix_taken p (suc m) [] e within = within
prefix_taken p (suc m) (b ∷ bs) e within = here (p b) e (prefix_taken p m bs)
  where
    here : (x : Bool) → cond x (1 + prefix_len p (take m bs)) 0 ≡ suc (length (take m bs))
        → (prefix_len p (take m bs) ≡ length (take m bs) → m ≤ length bs → m ≤ prefix_len p bs) → suc m ≤ cond x (1 + prefix_len p bs) 0
    here true h later = omega (arith, later (omega (arith, h)) (omega (arith, within)))
    here false h later = absurd (omega (arith, h))

front_passes : (p : ℕ → Bool) (bs : List ℕ) → prefix_len p (take (prefix_len p bs) bs) ≡ length (take (prefix_len p bs) bs)
front_passes p [] = refl
front_passes p (b ∷ bs) = here (p b) refl (front_passes p bs)
  where
    here : (x : Bool) → p b ≡ x → prefix_len p (take (prefix_len p bs) bs) ≡ length (take (prefix_len p bs) bs)
        → prefix_len p (take (cond x (1 + prefix_len p bs) 0) (b ∷ bs)) ≡ length (take (cond x (1 + prefix_len p bs) 0) (b ∷ bs))
    here true e later =
        let one : suc (prefix_len p bs) ≡ 1 + prefix_len p bs = omega arith in
        subst (λ (n : ℕ). prefix_len p (take n (b ∷ bs)) ≡ length (take n (b ∷ bs))) one (rw e (omega (arith, later)))
    here false e later = refl

equal_true : (a b : ℕ) → a ≡ b → (a == b) ≡ true
equal_true a b e = grind (arith, e)

pub word_cut : (b : ℕ) (bs : List ℕ) → is_letter b ≡ true → IsLongest Word (suc (prefix_len is_word_byte bs)) (b ∷ bs)
word_cut b bs e =
    record {
      some = omega arith;
      within = omega (arith, prefix_len-le-length is_word_byte bs);
      token = rw e (equal_true _ _ (front_passes is_word_byte bs));
      longest = longest_of_kind (b ∷ bs) Word _ (rw e refl) (omega arith) none;
    }
  where
    none : (longer : ℕ) → suc (prefix_len is_word_byte bs) < longer → longer ≤ length (b ∷ bs) → ¬ (IsLexeme Word (take longer (b ∷ bs)))
    none zero more within word = omega (arith, more)
    none (suc m) more within word =
        let all : prefix_len is_word_byte (take m bs) ≡ length (take m bs) = eqb-true _ _ (right_true (is_letter b) _ word) in
        omega (arith, more, prefix_taken is_word_byte m bs all (omega (arith, within)))

-- ---- numbers

rest_taken : (h : Bool) (before m : ℕ) (bs : List ℕ) → number_rest h before (take m bs) ≡ length (take m bs) → m ≤ length bs → m ≤ number_rest h before bs
rest_taken h before zero bs e within = omega arith
rest_taken h before (suc m) [] e within = within
rest_taken h before (suc m) (b ∷ bs) e within = here (goes_on_number h before b) e (rest_taken h b m bs)
  where
    here : (x : Bool) → cond x (suc (number_rest h b (take m bs))) 0 ≡ suc (length (take m bs))
        → (number_rest h b (take m bs) ≡ length (take m bs) → m ≤ length bs → m ≤ number_rest h b bs) → suc m ≤ cond x (suc (number_rest h b bs)) 0
    here true k later = omega (arith, later (omega (arith, k)) (omega (arith, within)))
    here false k later = absurd (omega (arith, k))

rest_passes : (h : Bool) (before : ℕ) (bs : List ℕ) → number_rest h before (take (number_rest h before bs) bs) ≡ length (take (number_rest h before bs) bs)
rest_passes h before [] = refl
rest_passes h before (b ∷ bs) = here (goes_on_number h before b) refl (rest_passes h b bs)
  where
    here : (x : Bool) → goes_on_number h before b ≡ x → number_rest h b (take (number_rest h b bs) bs) ≡ length (take (number_rest h b bs) bs)
        → number_rest h before (take (cond x (suc (number_rest h b bs)) 0) (b ∷ bs)) ≡ length (take (cond x (suc (number_rest h b bs)) 0) (b ∷ bs))
    here true e later = rw e (ap (λ (n : ℕ). suc n) later)
    here false e later = refl

rest_within : (h : Bool) (before : ℕ) (bs : List ℕ) → number_rest h before bs ≤ length bs
rest_within h before [] = omega arith
rest_within h before (b ∷ bs) = here (goes_on_number h before b) (rest_within h b bs)
  where
    here : (x : Bool) → number_rest h b bs ≤ length bs → cond x (suc (number_rest h b bs)) 0 ≤ suc (length bs)
    here true later = omega (arith, later)
    here false later = omega arith

-- a front of two bytes or more begins as the text
still_begins : (b m : ℕ) (bs : List ℕ) → 0 < m → begins_hexadecimal (b ∷ take m bs) ≡ begins_hexadecimal (b ∷ bs)
still_begins b zero bs some = absurd (omega (arith, some))
still_begins b (suc m) [] some = refl
still_begins b (suc m) (c ∷ cs) some = refl

still_number : (b m : ℕ) (bs : List ℕ) → 0 < m → begins_number (b ∷ take m bs) ≡ begins_number (b ∷ bs)
still_number b zero bs some = absurd (omega (arith, some))
still_number b (suc m) [] some = refl
still_number b (suc m) (c ∷ cs) some = refl

right_or : (a b : Bool) → b ≡ true → (a || b) ≡ true
right_or true b e = refl
right_or false b e = e

digit_goes : (h : Bool) (before c : ℕ) → is_digit c ≡ true → goes_on_number h before c ≡ true
digit_goes h before c e = rw (right_or (is_letter c) (is_digit c) e) refl

digit_follows : (h : Bool) (b c : ℕ) (cs : List ℕ) → is_digit c ≡ true → number_rest h b (c ∷ cs) ≡ 0 → ⊥
digit_follows h b c cs e none = omega (arith, sym (goes (goes_on_number h b c) (digit_goes h b c e)) ∙ none)
  where
    goes : (x : Bool) → x ≡ true → cond x (suc (number_rest h c cs)) 0 ≡ suc (number_rest h c cs)
    goes true k = refl
    goes false k = absurd (true≢false (sym k))

-- a number of one byte: what follows does not go on it
alone_number : (b : ℕ) (bs : List ℕ) → begins_number (b ∷ bs) ≡ true → number_rest (begins_hexadecimal (b ∷ bs)) b bs ≡ 0 → begins_number (b ∷ []) ≡ true
alone_number b [] e none = e
alone_number b (c ∷ cs) e none = here (is_digit b) (b == 46) (is_digit c) refl e
  where
    here : (x y z : Bool) → is_digit c ≡ z → (x || y && z) ≡ true → (x || y && false) ≡ true
    here true y z is h = refl
    here false true true is h = absurd (digit_follows (begins_hexadecimal (b ∷ c ∷ cs)) b c cs is none)
    here false true false is h = absurd (true≢false (sym h))
    here false false z is h = absurd (true≢false (sym h))

number_front : (b : ℕ) (bs : List ℕ) → begins_number (b ∷ bs) ≡ true → is_number (b ∷ take (number_rest (begins_hexadecimal (b ∷ bs)) b bs) bs) ≡ true
number_front b bs e = here (number_rest (begins_hexadecimal (b ∷ bs)) b bs) refl
  where
    here : (n : ℕ) → number_rest (begins_hexadecimal (b ∷ bs)) b bs ≡ n → is_number (b ∷ take n bs) ≡ true
    here zero is = rw (alone_number b bs e is) refl
    here (suc n) is =
        let passes : number_rest (begins_hexadecimal (b ∷ bs)) b (take (suc n) bs) ≡ length (take (suc n) bs) =
        subst (λ (m : ℕ). number_rest (begins_hexadecimal (b ∷ bs)) b (take m bs) ≡ length (take m bs)) is (rest_passes (begins_hexadecimal (b ∷ bs)) b bs) in
        rw (still_number b (suc n) bs (omega arith), still_begins b (suc n) bs (omega arith), e) (equal_true _ _ passes)

-- what is cut is the longest token, where a token is cut
abbrev pub CutOf : Piece → List ℕ → Type 0
CutOf (Passed size) text = Unit {0}
CutOf (Cut kind size) text = IsLongest kind size text
CutOf (Faulty fault) text = Unit {0}

pub number_cut : (b : ℕ) (bs : List ℕ) → begins_number (b ∷ bs) ≡ true
    → CutOf (number_piece (b ∷ bs) (1 + number_rest (begins_hexadecimal (b ∷ bs)) b bs)) (b ∷ bs)
number_cut b bs e = subst (λ (n : ℕ). CutOf (number_piece (b ∷ bs) n) (b ∷ bs)) one (here (is_some (number_literal (b ∷ take n bs))) refl)
  where
    h : Bool
    h = begins_hexadecimal (b ∷ bs)

    n : ℕ
    n = number_rest h b bs

    one : suc n ≡ 1 + n
    one = omega arith

    none : (longer : ℕ) → suc n < longer → longer ≤ length (b ∷ bs) → ¬ (IsLexeme Number (take longer (b ∷ bs)))
    none zero more within is = omega (arith, more)
    none (suc m) more within is =
        let some : 0 < m = omega (arith, more) in
        let all : number_rest (begins_hexadecimal (b ∷ take m bs)) b (take m bs) ≡ length (take m bs) = eqb-true _ _ (right_true (begins_number (b ∷ take m bs)) _ is.number) in
        omega (arith, more, rest_taken h b m bs (rw (still_begins b m bs some) at all) (omega (arith, within)))

    here : (x : Bool) → is_some (number_literal (b ∷ take n bs)) ≡ x → CutOf (cond x (Cut Number (suc n)) (Faulty NoLiteral)) (b ∷ bs)
    here true is =
        record {
          some = omega arith;
          within = omega (arith, rest_within h b bs);
          token = record { number = number_front b bs e; constant = is };
          longest = longest_of_kind (b ∷ bs) Number (suc n) (number_kind b bs e) (omega arith) none;
        }
    here false is = tt
