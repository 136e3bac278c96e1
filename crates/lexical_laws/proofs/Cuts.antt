-- Characters, strings and punctuators are the longest tokens, and so is all that is cut.
use Rattle.std.proofs.Common.{◌≡◌, ◌⊎◌, inl, inr, ◌<◌, ◌≤◌, ◌==◌, ℕ, ◌+◌, suc, zero, Bool, true, false, cond, not, ◌&&◌, ◌||◌, nat_eq, List, [], ◌∷◌, ◌++◌, length, take, drop, Option, Some, None, is_some, refl, sym, ap, ◌∙◌, subst, length-append, arith}
use Rattle.std.specs.Prelude.{Contains}
use Rattle.std.specs.List.{prefix_len, starts_with, AllByRecursion}
use Rattle.std.proofs.lemmas.Bool.{true≢false, eqb-true}
use Rattle.std.proofs.lemmas.Bool.Decides.{Decides-eqb}
use Rattle.std.proofs.lemmas.List.{length-take-le, take-append-drop}
use Rattle.std.proofs.lemmas.List.Elements.{All-contains, All-from_recursion}
use Rattle.std.proofs.lemmas.Slice.Eq.{starts_is}
use Rattle.std.proofs.Math.Seq.{take-append_seam}
use Rattle.c_lexer.specs.declared.piece.LexemeKind.TheVariants.{Word, Character, String, Punctuator}
use Rattle.c_lexer.specs.declared.piece.Fault.TheVariants.{ForeignByte, OtherLine}
use Rattle.c_lexer.specs.declared.piece.Piece.{Piece}
use Rattle.c_lexer.specs.declared.piece.Piece.TheVariants.{Passed, Token as Cut, Faulty}
use Rattle.c_lexer.specs.Bytes.{is_blank, is_letter, is_word_byte, is_in_line}
use Rattle.c_lexer.specs.Lines.{comment_end, quote_end, is_line_mark, include_end}
use Rattle.c_lexer.specs.Literals.{character_literal, escape_value, is_plain}
use Rattle.c_lexer.specs.Numbers.{begins_number, begins_hexadecimal, number_rest}
use Rattle.c_lexer.specs.Pieces.{piece_at, number_piece, no_character, character_piece, string_piece, comment_piece, slash_piece, hash_piece, other_piece}
use Rattle.c_lexer.specs.Punctuators.{is_punctuator, threes, pairs, begins_with_any, punctuator_length}
use Rattle.lexical_laws.specs.Classes.{kind_at}
use Rattle.lexical_laws.specs.Lexemes.{IsPunctuator, IsLexeme, IsLongest, LongestTokenIsCut}
use Rattle.lexical_laws.proofs.Beginnings.{punctuator_kind}
use Rattle.lexical_laws.proofs.Longest.{CutOf, longest_of_kind, word_cut, number_cut}

-- ---- characters

abbrev IsCharacter : List ℕ → Type 0
IsCharacter text = is_some (character_literal text) ≡ true

-- no character literal has more than four bytes
none_longer : (text : List ℕ) (longer : ℕ) → 4 < longer → longer ≤ length text → ¬ (IsCharacter (take longer text))
none_longer text zero more within e = omega (arith, more)
none_longer text (suc zero) more within e = omega (arith, more)
none_longer text (suc (suc zero)) more within e = omega (arith, more)
none_longer text (suc (suc (suc zero))) more within e = omega (arith, more)
none_longer text (suc (suc (suc (suc zero)))) more within e = omega (arith, more)
none_longer [] (suc (suc (suc (suc (suc n))))) more within e = omega (arith, within)
none_longer (a ∷ []) (suc (suc (suc (suc (suc n))))) more within e = omega (arith, within)
none_longer (a ∷ b ∷ []) (suc (suc (suc (suc (suc n))))) more within e = omega (arith, within)
none_longer (a ∷ b ∷ c ∷ []) (suc (suc (suc (suc (suc n))))) more within e = omega (arith, within)
none_longer (a ∷ b ∷ c ∷ d ∷ []) (suc (suc (suc (suc (suc n))))) more within e = omega (arith, within)
none_longer (a ∷ b ∷ c ∷ d ∷ f ∷ fs) (suc (suc (suc (suc (suc n))))) more within e = true≢false (sym e)

-- an escape is no plain character
not_both : (a b c d : ℕ) → IsCharacter (a ∷ b ∷ c ∷ []) → ¬ (IsCharacter (a ∷ b ∷ c ∷ d ∷ []))
not_both a b c d plain escape = here (a == 39) (c == 39) (is_plain b) (b == 92) refl refl plain escape
  where
    slash : is_plain 92 ≡ false
    slash = refl

    here : (x y z w : Bool) → is_plain b ≡ z → (b == 92) ≡ w → is_some (cond (x && y && z) (Some b) None) ≡ true
        → is_some (cond (x && w && d == 39) (escape_value c) None) ≡ true → ⊥
    here true true true true is_z is_w h k = true≢false (sym is_z ∙ ap (λ (n : ℕ). is_plain n) (eqb-true b 92 is_w) ∙ slash)
    here true true true false is_z is_w h k = true≢false (sym k)
    here true true false w is_z is_w h k = true≢false (sym h)
    here true false z w is_z is_w h k = true≢false (sym h)
    here false y z w is_z is_w h k = true≢false (sym h)

none_behind_three : (text : List ℕ) (longer : ℕ) → IsCharacter (take 3 text) → 3 < longer → longer ≤ length text → ¬ (IsCharacter (take longer text))
none_behind_three text zero plain more within e = omega (arith, more)
none_behind_three text (suc zero) plain more within e = omega (arith, more)
none_behind_three text (suc (suc zero)) plain more within e = omega (arith, more)
none_behind_three text (suc (suc (suc zero))) plain more within e = omega (arith, more)
none_behind_three [] (suc (suc (suc (suc zero)))) plain more within e = omega (arith, within)
none_behind_three (a ∷ []) (suc (suc (suc (suc zero)))) plain more within e = omega (arith, within)
none_behind_three (a ∷ b ∷ []) (suc (suc (suc (suc zero)))) plain more within e = omega (arith, within)
none_behind_three (a ∷ b ∷ c ∷ []) (suc (suc (suc (suc zero)))) plain more within e = omega (arith, within)
none_behind_three (a ∷ b ∷ c ∷ d ∷ ds) (suc (suc (suc (suc zero)))) plain more within e = not_both a b c d plain e
none_behind_three text (suc (suc (suc (suc (suc n))))) plain more within e = none_longer text (suc (suc (suc (suc (suc n))))) (omega arith) within e

three_within : (text : List ℕ) → IsCharacter (take 3 text) → 3 ≤ length text
three_within [] e = absurd (true≢false (sym e))
three_within (a ∷ []) e = absurd (true≢false (sym e))
three_within (a ∷ b ∷ []) e = absurd (true≢false (sym e))
three_within (a ∷ b ∷ c ∷ cs) e = omega arith

four_within : (text : List ℕ) → is_some (character_literal (take 3 text)) ≡ false → IsCharacter (take 4 text) → 4 ≤ length text
four_within [] none e = absurd (true≢false (sym e))
four_within (a ∷ []) none e = absurd (true≢false (sym e))
four_within (a ∷ b ∷ []) none e = absurd (true≢false (sym e))
four_within (a ∷ b ∷ c ∷ []) none e = absurd (true≢false (sym e ∙ none))
four_within (a ∷ b ∷ c ∷ d ∷ ds) none e = omega arith

no_cut : (o : Option ℕ) (text : List ℕ) → CutOf (no_character o) text
no_cut None text = tt
no_cut (Some n) text = tt

character_cut : (text : List ℕ) (end : Option ℕ) → kind_at text ≡ Some Character → CutOf (character_piece text end) text
character_cut text end is = here (is_some (character_literal (take 3 text))) (is_some (character_literal (take 4 text))) refl refl
  where
    here : (x y : Bool) → is_some (character_literal (take 3 text)) ≡ x → is_some (character_literal (take 4 text)) ≡ y
        → CutOf (cond (cond x 3 (cond y 4 0) == 0) (no_character end) (Cut Character (cond x 3 (cond y 4 0)))) text
    here true y is_x is_y =
        record {
          some = omega arith;
          within = three_within text is_x;
          token = is_x;
          longest = longest_of_kind text Character 3 is (omega arith) (λ longer more within. none_behind_three text longer is_x more within);
        }
    here false true is_x is_y =
        record {
          some = omega arith;
          within = four_within text is_x is_y;
          token = is_y;
          longest = longest_of_kind text Character 4 is (omega arith) (λ longer more within. none_longer text longer more within);
        }
    here false false is_x is_y = no_cut end text

-- ---- strings

no_end : (n : ℕ) → None ≡ Some n → ⊥
no_end n h = cc

some_one : (m n : ℕ) → Some m ≡ Some n → m ≡ n
some_one m n h = cc

quote_above : (quote count before : ℕ) (bs : List ℕ) (n : ℕ) → quote_end quote count before bs ≡ Some n → (count < n) × (n ≤ count + length bs)
quote_above quote count before [] n e = absurd (no_end n e)
quote_above quote count before (b ∷ bs) n e = here (b == 10) (b == quote && not (before == 92)) e (quote_above quote (count + 1) b bs n)
  where
    here : (x y : Bool) → cond x None (cond y (Some (count + 1)) (quote_end quote (count + 1) b bs)) ≡ Some n
        → (quote_end quote (count + 1) b bs ≡ Some n → (count + 1 < n) × (n ≤ count + 1 + length bs)) → (count < n) × (n ≤ count + suc (length bs))
    here true y h later = absurd (no_end n h)
    here false true h later = let one : count + 1 ≡ n = some_one (count + 1) n h in (omega (arith, one), omega (arith, one))
    here false false h later = (omega (arith, (later h).0), omega (arith, (later h).1))

quote_taken : (quote count before : ℕ) (bs : List ℕ) (n m : ℕ) → quote_end quote count before bs ≡ Some n → n ≤ count + m → quote_end quote count before (take m bs) ≡ Some n
quote_taken quote count before [] n m e within = absurd (no_end n e)
quote_taken quote count before (b ∷ bs) n zero e within = absurd (omega (arith, within, (quote_above quote count before (b ∷ bs) n e).0))
quote_taken quote count before (b ∷ bs) n (suc m) e within = here (b == 10) (b == quote && not (before == 92)) e (λ h. quote_taken quote (count + 1) b bs n m h (omega (arith, within)))
  where
    here : (x y : Bool) → cond x None (cond y (Some (count + 1)) (quote_end quote (count + 1) b bs)) ≡ Some n
        → (quote_end quote (count + 1) b bs ≡ Some n → quote_end quote (count + 1) b (take m bs) ≡ Some n)
        → cond x None (cond y (Some (count + 1)) (quote_end quote (count + 1) b (take m bs))) ≡ Some n
    here true y h later = h
    here false true h later = h
    here false false h later = later h

string_cut : (bs : List ℕ) (end : Option ℕ) → quote_end 34 0 34 bs ≡ end → CutOf (string_piece end) (34 ∷ bs)
string_cut bs None e = tt
string_cut bs (Some n) e = subst (λ (m : ℕ). IsLongest String m (34 ∷ bs)) one cut
  where
    one : suc n ≡ n + 1
    one = omega arith

    within : n ≤ length bs
    within = omega (arith, (quote_above 34 0 34 bs n e).1)

    none : (longer : ℕ) → suc n < longer → longer ≤ length (34 ∷ bs) → ¬ (IsLexeme String (take longer (34 ∷ bs)))
    none zero more inside is = omega (arith, more)
    none (suc m) more inside is =
        let size : length (take m bs) ≡ m = length-take-le m bs (omega (arith, inside)) in
        let same : n ≡ length (take m bs) = some_one n (length (take m bs)) (sym (quote_taken 34 0 34 bs n m e (omega (arith, more))) ∙ is.1) in
        omega (arith, more, same, size)

    cut : IsLongest String (suc n) (34 ∷ bs)
    cut = record {
      some = omega arith;
      within = omega (arith, within);
      token = (refl, quote_taken 34 0 34 bs n n e (omega arith) ∙ ap (λ (k : ℕ). Some k) (sym (length-take-le n bs within)));
      longest = longest_of_kind (34 ∷ bs) String (suc n) refl (omega arith) none;
    }

-- ---- punctuators

is_front : (word text : List ℕ) → starts_with nat_eq text word ≡ true → text ≡ word ++ drop (length word) text
is_front word text e = (starts_is Decides-eqb text word (starts_with nat_eq text word) refl).0 e

front_is : (word text : List ℕ) (n : ℕ) → word ≡ take n text → starts_with nat_eq text word ≡ true
front_is word text n e =
    (starts_is Decides-eqb text word (starts_with nat_eq text word) refl).1 (drop n text) (sym (take-append-drop n text) ∙ ap (λ (w : List ℕ). w ++ drop n text) (sym e))

none_of : (text : List ℕ) (words : List (List ℕ)) → begins_with_any words text ≡ false → AllByRecursion (λ w. starts_with nat_eq text w ≡ false) words
none_of text [] e = tt
none_of text (w ∷ ws) e = here (starts_with nat_eq text w) refl e (none_of text ws)
  where
    here : (x : Bool) → starts_with nat_eq text w ≡ x → (x || begins_with_any ws text) ≡ false
        → (begins_with_any ws text ≡ false → AllByRecursion (λ w. starts_with nat_eq text w ≡ false) ws)
        → (starts_with nat_eq text w ≡ false) × AllByRecursion (λ w. starts_with nat_eq text w ≡ false) ws
    here true is h later = absurd (true≢false h)
    here false is h later = (is, later h)

-- a front of the text is none of the words where it begins with none
not_among : (text : List ℕ) (words : List (List ℕ)) (n : ℕ) → begins_with_any words text ≡ false → ¬ (Contains words (take n text))
not_among text words n e among =
    true≢false (sym (front_is (take n text) text n refl)
    ∙ All-contains (λ w. starts_with nat_eq text w ≡ false) words (take n text) (All-from_recursion (λ w. starts_with nat_eq text w ≡ false) words (none_of text words e)) among)

-- one of the words of this size is a front of the text
pub record Front (n : ℕ) (words : List (List ℕ)) (text : List ℕ) : Type 0 where
  pub among : Contains words (take n text)
  pub within : n ≤ length text

front_of : (n : ℕ) (word text : List ℕ) → length word ≡ n → starts_with nat_eq text word ≡ true → (take n text ≡ word) × (n ≤ length text)
front_of n word text size e =
    let split : text ≡ word ++ drop (length word) text = is_front word text e in (
      ap (λ (k : ℕ). take k text) (sym size) ∙ ap (λ (t : List ℕ). take (length word) t) split ∙ take-append_seam word (drop (length word) text),
      omega (arith, size, length-append word (drop (length word) text), ap (λ (t : List ℕ). length t) split),
    )

front_among : (n : ℕ) (words : List (List ℕ)) (text : List ℕ) → AllByRecursion (λ w. length w ≡ n) words → begins_with_any words text ≡ true → Front n words text
front_among n [] text sizes e = absurd (true≢false (sym e))
front_among n (w ∷ ws) text sizes e = here (starts_with nat_eq text w) refl e (front_among n ws text sizes.1)
  where
    here : (x : Bool) → starts_with nat_eq text w ≡ x → (x || begins_with_any ws text) ≡ true → (begins_with_any ws text ≡ true → Front n ws text) → Front n (w ∷ ws) text
    here true is h later =
        let front = front_of n w text sizes.0 is in
        record { among = (zero, omega arith, sym front.0); within = front.1 }
    here false is h later =
        let found = later h in
        record { among = (suc found.among.0, omega (arith, found.among.1), found.among.2); within = found.within }

threes_long : AllByRecursion (λ w. length w ≡ 3) threes
unfolding threes
threes_long = (refl, (refl, (refl, tt)))

pairs_long : AllByRecursion (λ w. length w ≡ 2) pairs
unfolding pairs
pairs_long = (refl, (refl, (refl, (refl, (refl, (refl, (refl, (refl, (refl, (refl, (refl, (refl, (refl, (refl, (refl, (refl, (refl, (refl, (refl, tt)))))))))))))))))))

-- a punctuator that is a front of the text has three bytes, two or one
mark_size : (text : List ℕ) (longer : ℕ) → longer ≤ length text → IsPunctuator (take longer text)
    → (Contains threes (take longer text) × (longer ≡ 3)) ⊎ (Contains pairs (take longer text) × (longer ≡ 2)) ⊎ (longer ≡ 1)
mark_size text longer within (inl is) =
    inl (is, sym (length-take-le longer text within) ∙ All-contains (λ w. length w ≡ 3) threes (take longer text) (All-from_recursion (λ w. length w ≡ 3) threes threes_long) is)
mark_size text longer within (inr (inl is)) =
    inr (inl (is, sym (length-take-le longer text within) ∙ All-contains (λ w. length w ≡ 2) pairs (take longer text) (All-from_recursion (λ w. length w ≡ 2) pairs pairs_long) is))
mark_size text longer within (inr (inr (b, is, e))) = inr (inr (sym (length-take-le longer text within) ∙ ap (λ (t : List ℕ). length t) is))

punctuator_cut : (b : ℕ) (bs : List ℕ) → is_punctuator b ≡ true → begins_number (b ∷ bs) ≡ false → IsLongest Punctuator (punctuator_length (b ∷ bs)) (b ∷ bs)
punctuator_cut b bs e other = here (begins_with_any threes (b ∷ bs)) (begins_with_any pairs (b ∷ bs)) refl refl
  where
    kind : kind_at (b ∷ bs) ≡ Some Punctuator
    kind = punctuator_kind b bs e other

    here : (x y : Bool) → begins_with_any threes (b ∷ bs) ≡ x → begins_with_any pairs (b ∷ bs) ≡ y → IsLongest Punctuator (cond x 3 (cond y 2 1)) (b ∷ bs)
    here true y is_x is_y =
        let front = front_among 3 threes (b ∷ bs) threes_long is_x in
        record { some = omega arith; within = front.within; token = inl front.among; longest = longest_of_kind (b ∷ bs) Punctuator 3 kind (omega arith) none }
      where
        by_size : (longer : ℕ) → 3 < longer → (Contains threes (take longer (b ∷ bs)) × (longer ≡ 3)) ⊎ (Contains pairs (take longer (b ∷ bs)) × (longer ≡ 2)) ⊎ (longer ≡ 1) → ⊥
        by_size longer more (inl is) = omega (arith, more, is.1)
        by_size longer more (inr (inl is)) = omega (arith, more, is.1)
        by_size longer more (inr (inr is)) = omega (arith, more, is)

        none : (longer : ℕ) → 3 < longer → longer ≤ length (b ∷ bs) → ¬ (IsPunctuator (take longer (b ∷ bs)))
        none longer more within is = by_size longer more (mark_size (b ∷ bs) longer within is)
    here false true is_x is_y =
        let front = front_among 2 pairs (b ∷ bs) pairs_long is_y in
        record { some = omega arith; within = front.within; token = inr (inl front.among); longest = longest_of_kind (b ∷ bs) Punctuator 2 kind (omega arith) none }
      where
        by_size : (longer : ℕ) → 2 < longer → (Contains threes (take longer (b ∷ bs)) × (longer ≡ 3)) ⊎ (Contains pairs (take longer (b ∷ bs)) × (longer ≡ 2)) ⊎ (longer ≡ 1) → ⊥
        by_size longer more (inl is) = not_among (b ∷ bs) threes longer is_x is.0
        by_size longer more (inr (inl is)) = omega (arith, more, is.1)
        by_size longer more (inr (inr is)) = omega (arith, more, is)

        none : (longer : ℕ) → 2 < longer → longer ≤ length (b ∷ bs) → ¬ (IsPunctuator (take longer (b ∷ bs)))
        none longer more within is = by_size longer more (mark_size (b ∷ bs) longer within is)
    here false false is_x is_y =
        record { some = omega arith; within = omega arith; token = inr (inr (b, refl, e)); longest = longest_of_kind (b ∷ bs) Punctuator 1 kind (omega arith) none }
      where
        by_size : (longer : ℕ) → 1 < longer → (Contains threes (take longer (b ∷ bs)) × (longer ≡ 3)) ⊎ (Contains pairs (take longer (b ∷ bs)) × (longer ≡ 2)) ⊎ (longer ≡ 1) → ⊥
        by_size longer more (inl is) = not_among (b ∷ bs) threes longer is_x is.0
        by_size longer more (inr (inl is)) = not_among (b ∷ bs) pairs longer is_y is.0
        by_size longer more (inr (inr is)) = omega (arith, more, is)

        none : (longer : ℕ) → 1 < longer → longer ≤ length (b ∷ bs) → ¬ (IsPunctuator (take longer (b ∷ bs)))
        none longer more within is = by_size longer more (mark_size (b ∷ bs) longer within is)

-- ---- all that is cut

alone_size : punctuator_length (47 ∷ []) ≡ 1
unfolding threes pairs
alone_size = refl

comment_cut : (o : Option ℕ) (text : List ℕ) → CutOf (comment_piece o) text
comment_cut None text = tt
comment_cut (Some n) text = tt

slash_cut : (bs : List ℕ) → CutOf (slash_piece bs) (47 ∷ bs)
slash_cut [] = subst (λ (n : ℕ). IsLongest Punctuator n (47 ∷ [])) alone_size (punctuator_cut 47 [] refl refl)
slash_cut (c ∷ cs) = here (c == 47) (c == 42)
  where
    here : (x y : Bool)
        → CutOf (cond x (Passed (suc (prefix_len is_in_line (c ∷ cs)))) (cond y (comment_piece (comment_end 0 0 cs)) (Cut Punctuator (punctuator_length (47 ∷ c ∷ cs))))) (47 ∷ c ∷ cs)
    here true y = tt
    here false true = comment_cut (comment_end 0 0 cs) (47 ∷ c ∷ cs)
    here false false = punctuator_cut 47 (c ∷ cs) refl refl

hash_cut : (bs text : List ℕ) → CutOf (hash_piece bs) text
hash_cut bs text = here (is_line_mark bs) (include_end bs == 0)
  where
    here : (x y : Bool) → CutOf (cond x (Passed (suc (prefix_len is_in_line bs))) (cond y (Faulty OtherLine) (Passed (suc (include_end bs))))) text
    here true y = tt
    here false true = tt
    here false false = tt

other_cut : (fresh : Bool) (b : ℕ) (bs : List ℕ) → begins_number (b ∷ bs) ≡ false → CutOf (other_piece fresh b bs) (b ∷ bs)
other_cut fresh b bs other = here (b == 47) (b == 34) (b == 39) (b == 35 && fresh) (is_punctuator b) refl refl refl refl
  where
    here : (v w x y z : Bool) → (b == 47) ≡ v → (b == 34) ≡ w → (b == 39) ≡ x → is_punctuator b ≡ z
        → CutOf (cond v (slash_piece bs)
        (cond w (string_piece (quote_end 34 0 34 bs))
        (cond x (character_piece (b ∷ bs) (quote_end 39 0 39 bs))
        (cond y (hash_piece bs) (cond z (Cut Punctuator (punctuator_length (b ∷ bs))) (Faulty ForeignByte)))))) (b ∷ bs)
    here true w x y z is_v is_w is_x is_z = subst (λ (n : ℕ). CutOf (slash_piece bs) (n ∷ bs)) (sym (eqb-true b 47 is_v)) (slash_cut bs)
    here false true x y z is_v is_w is_x is_z =
        subst (λ (n : ℕ). CutOf (string_piece (quote_end 34 0 34 bs)) (n ∷ bs)) (sym (eqb-true b 34 is_w)) (string_cut bs (quote_end 34 0 34 bs) refl)
    here false false true y z is_v is_w is_x is_z =
        character_cut (b ∷ bs) (quote_end 39 0 39 bs) (subst (λ (n : ℕ). kind_at (n ∷ bs) ≡ Some Character) (sym (eqb-true b 39 is_x)) refl)
    here false false false true z is_v is_w is_x is_z = hash_cut bs (b ∷ bs)
    here false false false false true is_v is_w is_x is_z = punctuator_cut b bs is_z other
    here false false false false false is_v is_w is_x is_z = tt

pub all_cut : (fresh : Bool) (text : List ℕ) → CutOf (piece_at fresh text) text
all_cut fresh [] = tt
all_cut fresh (b ∷ bs) = here (is_blank b) (is_letter b) (begins_number (b ∷ bs)) refl refl
  where
    here : (x y z : Bool) → is_letter b ≡ y → begins_number (b ∷ bs) ≡ z
        → CutOf (cond x (Passed 1)
        (cond y (Cut Word (suc (prefix_len is_word_byte bs)))
        (cond z (number_piece (b ∷ bs) (1 + number_rest (begins_hexadecimal (b ∷ bs)) b bs)) (other_piece fresh b bs)))) (b ∷ bs)
    here true y z is_y is_z = tt
    here false true z is_y is_z = word_cut b bs is_y
    here false false true is_y is_z = number_cut b bs is_z
    here false false false is_y is_z = other_cut fresh b bs is_z

pub longest : LongestTokenIsCut
longest fresh text kind size e = subst (λ (p : Piece). CutOf p text) e (all_cut fresh text)
