-- The parts of a text end to end are the text.
use Rattle.std.proofs.Common.{◌≡◌, inl, inr, ◌<◌, ◌≤◌, ◌==◌, ℕ, ◌+◌, ◌-◌, suc, zero, Bool, true, false, cond, not, ◌&&◌, ◌||◌, nat_eq, nat_lt, List, [], ◌∷◌, ◌++◌, map, flat_map, length, take, drop, Option, Some, None, slice_get, refl, sym, ap, ◌∙◌, subst, codes, length-append, drop-drop, take-add, arith}
use Rattle.std.specs.List.{prefix_len, starts_with, AllByRecursion}
use Rattle.std.proofs.lemmas.Bool.{true≢false, eqb-true}
use Rattle.std.proofs.lemmas.Bool.Decides.{Decides-eqb}
use Rattle.std.proofs.lemmas.List.{length-take-le, length-drop, take-append-drop}
use Rattle.std.proofs.lemmas.List.Elements.{All-from_recursion}
use Rattle.std.proofs.lemmas.List.Sums.{prefix_len-le-length}
use Rattle.std.proofs.lemmas.Slice.Eq.{starts_is}
use Rattle.std.proofs.Math.Seq.{take-append_seam}
use Rattle.misra_base.specs.declared.place.Place.{Place}
use Rattle.misra_base.specs.declared.refusal.Refusal.{Refusal}
use Rattle.c_lexer.specs.declared.token.Token.{Token}
use Rattle.c_lexer.specs.declared.piece.LexemeKind.{LexemeKind}
use Rattle.c_lexer.specs.declared.piece.LexemeKind.TheVariants.{Word, Number, Character, Punctuator}
use Rattle.c_lexer.specs.declared.piece.Fault.TheVariants.{ForeignByte, NoLiteral, OtherLine}
use Rattle.c_lexer.specs.declared.piece.Piece.{Piece}
use Rattle.c_lexer.specs.declared.piece.Piece.TheVariants.{Passed, Token as Cut, Faulty}
use Rattle.c_lexer.specs.Bytes.{is_blank, is_gap, is_letter, is_word_byte, is_in_line}
use Rattle.c_lexer.specs.Limits.{fault_or, fault_of, lexical_fault}
use Rattle.c_lexer.specs.Lines.{comment_end, quote_end, without_gap, is_line_mark, header_length, include_length, include_end}
use Rattle.c_lexer.specs.Numbers.{begins_number, begins_hexadecimal, number_rest}
use Rattle.c_lexer.specs.Pieces.{piece_at, size_of, fresh_behind, number_piece, character_length, no_character, character_piece, string_piece, comment_piece, slash_piece, hash_piece, other_piece}
use Rattle.c_lexer.specs.Positions.{first_place, next_place}
use Rattle.c_lexer.specs.Punctuators.{is_punctuator, punctuator_length}
use Rattle.c_lexer.specs.TokenClasses.{class_number}
use Rattle.c_lexer.specs.Tokens.{Lexed, with_piece, lexed_from, lexed_of, tokens_of}
use Rattle.c_lexer.specs.TypedefNames.{classed, stretch_behind, names_behind, named_from, outside, with_typedef_names}
use Rattle.c_lexer.specs.declared.token_class.TokenClass.TheVariants.{TypedefName}
use Rattle.c_lexer.specs.declared.typedef_name.Stretch.{Stretch}
use Rattle.lexical_laws.specs.Comments.{IsInLine}
use Rattle.lexical_laws.specs.Lexemes.{IsLongest}
use Rattle.lexical_laws.specs.Parts.{Part, Lexeme, Between, bytes_of, IsPart, spans, span_of, TextIsItsParts}
use Rattle.lexical_laws.proofs.Closing.{Comment, comment_of, no_close}
use Rattle.lexical_laws.proofs.Cuts.{all_cut}
use Rattle.lexical_laws.proofs.Longest.{CutOf}

-- ---- bytes of a line

abbrev AllInLine : List ℕ → Type 0
AllInLine bytes = AllByRecursion (λ b. is_in_line b ≡ true) bytes

in_line : (bytes : List ℕ) → AllInLine bytes → IsInLine bytes
in_line bytes h = All-from_recursion (λ b. is_in_line b ≡ true) bytes h

-- so many bytes are there, and none of them ends the line
pub record LineFront (n : ℕ) (bytes : List ℕ) : Type 0 where
  pub within : n ≤ length bytes
  pub each : AllInLine (take n bytes)

joined : (xs ys : List ℕ) → AllInLine xs → AllInLine ys → AllInLine (xs ++ ys)
joined [] ys h k = k
joined (x ∷ xs) ys h k = (h.0, joined xs ys h.1 k)

front_and : (a b : ℕ) (bytes : List ℕ) → LineFront a bytes → LineFront b (drop a bytes) → LineFront (a + b) bytes
front_and a b bytes one two =
    record {
      within = omega (arith, one.within, two.within, length-drop a bytes);
      each = subst (λ (xs : List ℕ). AllInLine xs) (sym (take-add a b bytes)) (joined (take a bytes) (take b (drop a bytes)) one.each two.each);
    }

gap_in_line : (b : ℕ) → is_gap b ≡ true → is_in_line b ≡ true
gap_in_line b e = here (b == 32) (b == 9) refl refl e
  where
    here : (x y : Bool) → (b == 32) ≡ x → (b == 9) ≡ y → (x || y) ≡ true → is_in_line b ≡ true
    here true y is_x is_y h = subst (λ (n : ℕ). is_in_line n ≡ true) (sym (eqb-true b 32 is_x)) refl
    here false true is_x is_y h = subst (λ (n : ℕ). is_in_line n ≡ true) (sym (eqb-true b 9 is_y)) refl
    here false false is_x is_y h = absurd (true≢false (sym h))

-- the bytes of a front that all pass a test
passing : (p : ℕ → Bool) (bytes : List ℕ) → ((b : ℕ) → p b ≡ true → is_in_line b ≡ true) → AllInLine (take (prefix_len p bytes) bytes)
passing p [] f = tt
passing p (b ∷ bs) f = here (p b) refl (passing p bs f)
  where
    one : suc (prefix_len p bs) ≡ 1 + prefix_len p bs
    one = omega arith

    here : (x : Bool) → p b ≡ x → AllInLine (take (prefix_len p bs) bs) → AllInLine (take (cond x (1 + prefix_len p bs) 0) (b ∷ bs))
    here true e later = subst (λ (n : ℕ). AllInLine (take n (b ∷ bs))) one (f b e, later)
    here false e later = tt

front_of_all : (p : ℕ → Bool) (bytes : List ℕ) → ((b : ℕ) → p b ≡ true → is_in_line b ≡ true) → LineFront (prefix_len p bytes) bytes
front_of_all p bytes f = record { within = prefix_len-le-length p bytes; each = passing p bytes f }

front_of_word : (word bytes : List ℕ) (n : ℕ) → length word ≡ n → AllInLine word → starts_with nat_eq bytes word ≡ true → LineFront n bytes
front_of_word word bytes n size each e =
    let split : bytes ≡ word ++ drop (length word) bytes = (starts_is Decides-eqb bytes word (starts_with nat_eq bytes word) refl).0 e in
    let front : take n bytes ≡ word =
    ap (λ (k : ℕ). take k bytes) (sym size) ∙ ap (λ (t : List ℕ). take (length word) t) split ∙ take-append_seam word (drop (length word) bytes) in
    record {
      within = omega (arith, size, length-append word (drop (length word) bytes), ap (λ (t : List ℕ). length t) split);
      each = subst (λ (xs : List ℕ). AllInLine xs) (sym front) each;
    }

no_front : (bytes : List ℕ) → LineFront 0 bytes
no_front bytes = record { within = omega arith; each = tt }

first : (bytes word : List ℕ) (n rest : ℕ) (x : Bool) → starts_with nat_eq bytes word ≡ x → length word ≡ n → AllInLine word → LineFront rest bytes
    → LineFront (cond x n rest) bytes
first bytes word n rest true e size each other = front_of_word word bytes n size each e
first bytes word n rest false e size each other = other

header_front : (bytes : List ℕ) → LineFront (header_length bytes) bytes
header_front bytes =
    first bytes (codes "<threads.h>") 11 _ _ refl refl (refl, (refl, (refl, (refl, (refl, (refl, (refl, (refl, (refl, (refl, (refl, tt)))))))))))
    (first bytes (codes "<stdatomic.h>") 13 _ _ refl refl (refl, (refl, (refl, (refl, (refl, (refl, (refl, (refl, (refl, (refl, (refl, (refl, (refl, tt)))))))))))))
    (first bytes (codes "<stdint.h>") 10 _ _ refl refl (refl, (refl, (refl, (refl, (refl, (refl, (refl, (refl, (refl, (refl, tt))))))))))
    (first bytes (codes "<stdbool.h>") 11 _ _ refl refl (refl, (refl, (refl, (refl, (refl, (refl, (refl, (refl, (refl, (refl, (refl, tt)))))))))))
    (first bytes (codes "<stddef.h>") 10 0 _ refl refl (refl, (refl, (refl, (refl, (refl, (refl, (refl, (refl, (refl, (refl, tt)))))))))) (no_front bytes)))))

include_front : (bytes : List ℕ) → LineFront (include_length bytes) bytes
include_front bytes = here (starts_with nat_eq bytes (codes "include")) refl (header_length (without_gap (drop 7 bytes)) == 0)
  where
    gap : ℕ
    gap = prefix_len is_gap (drop 7 bytes)

    all : starts_with nat_eq bytes (codes "include") ≡ true → LineFront (7 + gap + header_length (without_gap (drop 7 bytes))) bytes
    all e =
        let word = front_of_word (codes "include") bytes 7 refl (refl, (refl, (refl, (refl, (refl, (refl, (refl, tt))))))) e in
        let blanks = front_and 7 gap bytes word (front_of_all is_gap (drop 7 bytes) gap_in_line) in
        let behind : drop gap (drop 7 bytes) ≡ drop (7 + gap) bytes = drop-drop gap 7 bytes in
        front_and (7 + gap) (header_length (without_gap (drop 7 bytes))) bytes blanks
        (subst (λ (xs : List ℕ). LineFront (header_length (without_gap (drop 7 bytes))) xs) behind (header_front (without_gap (drop 7 bytes))))

    here : (x : Bool) → starts_with nat_eq bytes (codes "include") ≡ x → (y : Bool) → LineFront (cond (x && not y) (7 + gap + header_length (without_gap (drop 7 bytes))) 0) bytes
    here true e false = all e
    here true e true = no_front bytes
    here false e y = no_front bytes

include_line : (bytes : List ℕ) → LineFront (include_end bytes) bytes
include_line bytes = here (include_length (without_gap bytes) == 0)
  where
    here : (x : Bool) → LineFront (cond x 0 (prefix_len is_gap bytes + include_length (without_gap bytes))) bytes
    here true = no_front bytes
    here false = front_and (prefix_len is_gap bytes) (include_length (without_gap bytes)) bytes (front_of_all is_gap bytes gap_in_line) (include_front (without_gap bytes))

-- ---- what is passed over

pub record Gone (size : ℕ) (text : List ℕ) : Type 0 where
  pub some : 0 < size
  pub within : size ≤ length text
  pub between : IsPart (Between (take size text))

abbrev pub GoneOf : Piece → List ℕ → Type 0
GoneOf (Passed size) text = Gone size text
GoneOf (Cut kind size) text = Unit {0}
GoneOf (Faulty fault) text = Unit {0}

not_passed : (x : Bool) (kind : LexemeKind) (n : ℕ) (text : List ℕ) → GoneOf (cond x (Cut kind n) (Faulty NoLiteral)) text
not_passed true kind n text = tt
not_passed false kind n text = tt

no_character_gone : (o : Option ℕ) (text : List ℕ) → GoneOf (no_character o) text
no_character_gone None text = tt
no_character_gone (Some n) text = tt

character_gone : (text : List ℕ) (end : Option ℕ) → GoneOf (character_piece text end) text
character_gone text end = here (character_length text == 0)
  where
    here : (x : Bool) → GoneOf (cond x (no_character end) (Cut Character (character_length text))) text
    here true = no_character_gone end text
    here false = tt

string_gone : (o : Option ℕ) (text : List ℕ) → GoneOf (string_piece o) text
string_gone None text = tt
string_gone (Some n) text = tt

comment_gone : (bs : List ℕ) (o : Option ℕ) → comment_end 0 0 bs ≡ o → GoneOf (comment_piece o) (47 ∷ 42 ∷ bs)
comment_gone bs None e = tt
comment_gone bs (Some more) e = gone (comment_of bs more e)
  where
    gone : Comment bs more → Gone (more + 2) (47 ∷ 42 ∷ bs)
    gone comment =
        let whole = codes "/*" ++ comment.body ++ codes "*/" in
        let split : 47 ∷ 42 ∷ bs ≡ whole ++ comment.rest = ap (λ (xs : List ℕ). 47 ∷ 42 ∷ xs) (comment.whole ∙ parted comment.body comment.rest) in
        let size : length whole ≡ more + 2 = omega (arith, comment.size, long comment.body) in
        let front : take (more + 2) (47 ∷ 42 ∷ bs) ≡ whole = ap (λ (n : ℕ). take n (47 ∷ 42 ∷ bs)) (sym size) ∙ ap (λ (t : List ℕ). take (length whole) t) split ∙ take-append_seam whole comment.rest in
        record {
          some = omega arith;
          within = omega (arith, size, length-append whole comment.rest, ap (λ (t : List ℕ). length t) split);
          between = inr (inl (comment.body, no_close comment.body comment.unclosed, front));
        }
      where
        parted : (body rest : List ℕ) → body ++ 42 ∷ 47 ∷ rest ≡ (body ++ 42 ∷ 47 ∷ []) ++ rest
        parted [] rest = refl
        parted (x ∷ xs) rest = ap (λ (ys : List ℕ). x ∷ ys) (parted xs rest)

        behind : (xs : List ℕ) → length (xs ++ 42 ∷ 47 ∷ []) ≡ length xs + 2
        behind [] = refl
        behind (x ∷ xs) = omega (arith, behind xs)

        long : (body : List ℕ) → length (codes "/*" ++ body ++ codes "*/") ≡ length body + 4
        long body = omega (arith, behind body)

same_byte : (b : ℕ) → is_in_line b ≡ true → is_in_line b ≡ true
same_byte b e = e

line_gone : (c : ℕ) (cs : List ℕ) → c ≡ 47 → Gone (suc (prefix_len is_in_line (c ∷ cs))) (47 ∷ c ∷ cs)
line_gone c cs e =
    let front = front_of_all is_in_line cs same_byte in
    let size : prefix_len is_in_line (47 ∷ cs) ≡ suc (prefix_len is_in_line cs) = omega arith in
    subst (λ (n : ℕ). Gone (suc (prefix_len is_in_line (n ∷ cs))) (47 ∷ n ∷ cs)) (sym e)
    (subst (λ (n : ℕ). Gone (suc n) (47 ∷ 47 ∷ cs)) (sym size)
    (record {
      some = omega arith;
      within = omega (arith, front.within);
      between = inr (inr (inl (take (prefix_len is_in_line cs) cs, in_line (take (prefix_len is_in_line cs) cs) front.each, refl)));
    }))

slash_gone : (bs : List ℕ) → GoneOf (slash_piece bs) (47 ∷ bs)
slash_gone [] = tt
slash_gone (c ∷ cs) = here (c == 47) (c == 42) refl refl
  where
    here : (x y : Bool) → (c == 47) ≡ x → (c == 42) ≡ y
        → GoneOf (cond x (Passed (suc (prefix_len is_in_line (c ∷ cs)))) (cond y (comment_piece (comment_end 0 0 cs)) (Cut Punctuator (punctuator_length (47 ∷ c ∷ cs))))) (47 ∷ c ∷ cs)
    here true y is_x is_y = line_gone c cs (eqb-true c 47 is_x)
    here false true is_x is_y =
        subst (λ (n : ℕ). GoneOf (comment_piece (comment_end 0 0 cs)) (47 ∷ n ∷ cs)) (sym (eqb-true c 42 is_y)) (comment_gone cs (comment_end 0 0 cs) refl)
    here false false is_x is_y = tt

hash_front : (n : ℕ) (bs : List ℕ) → LineFront n bs → Gone (suc n) (35 ∷ bs)
hash_front n bs front =
    record {
      some = omega arith;
      within = omega (arith, front.within);
      between = inr (inr (inr (take n bs, in_line (take n bs) front.each, refl)));
    }

hash_gone : (bs : List ℕ) → GoneOf (hash_piece bs) (35 ∷ bs)
hash_gone bs = here (is_line_mark bs) (include_end bs == 0)
  where
    here : (x y : Bool) → GoneOf (cond x (Passed (suc (prefix_len is_in_line bs))) (cond y (Faulty OtherLine) (Passed (suc (include_end bs))))) (35 ∷ bs)
    here true y = hash_front (prefix_len is_in_line bs) bs (front_of_all is_in_line bs same_byte)
    here false true = tt
    here false false = hash_front (include_end bs) bs (include_line bs)

marked : (f z : Bool) (b : ℕ) (bs : List ℕ) → (b == 35) ≡ true → GoneOf (cond f (hash_piece bs) (cond z (Cut Punctuator (punctuator_length (b ∷ bs))) (Faulty ForeignByte))) (b ∷ bs)
marked true z b bs is = subst (λ (n : ℕ). GoneOf (hash_piece bs) (n ∷ bs)) (sym (eqb-true b 35 is)) (hash_gone bs)
marked false true b bs is = tt
marked false false b bs is = tt

other_gone : (fresh : Bool) (b : ℕ) (bs : List ℕ) → GoneOf (other_piece fresh b bs) (b ∷ bs)
other_gone fresh b bs = here (b == 47) (b == 34) (b == 39) (b == 35) (is_punctuator b) refl refl
  where
    here : (v w x y z : Bool) → (b == 47) ≡ v → (b == 35) ≡ y
        → GoneOf (cond v (slash_piece bs)
        (cond w (string_piece (quote_end 34 0 34 bs))
        (cond x (character_piece (b ∷ bs) (quote_end 39 0 39 bs))
        (cond (y && fresh) (hash_piece bs) (cond z (Cut Punctuator (punctuator_length (b ∷ bs))) (Faulty ForeignByte)))))) (b ∷ bs)
    here true w x y z is_v is_y = subst (λ (n : ℕ). GoneOf (slash_piece bs) (n ∷ bs)) (sym (eqb-true b 47 is_v)) (slash_gone bs)
    here false true x y z is_v is_y = string_gone (quote_end 34 0 34 bs) (b ∷ bs)
    here false false true y z is_v is_y = character_gone (b ∷ bs) (quote_end 39 0 39 bs)
    here false false false true z is_v is_y = marked fresh z b bs is_y
    here false false false false true is_v is_y = tt
    here false false false false false is_v is_y = tt

all_gone : (fresh : Bool) (b : ℕ) (bs : List ℕ) → GoneOf (piece_at fresh (b ∷ bs)) (b ∷ bs)
all_gone fresh b bs = here (is_blank b) (is_letter b) (begins_number (b ∷ bs)) refl
  where
    here : (x y z : Bool) → is_blank b ≡ x
        → GoneOf (cond x (Passed 1)
        (cond y (Cut Word (suc (prefix_len is_word_byte bs)))
        (cond z (number_piece (b ∷ bs) (1 + number_rest (begins_hexadecimal (b ∷ bs)) b bs)) (other_piece fresh b bs)))) (b ∷ bs)
    here true y z is = record { some = omega arith; within = omega arith; between = inl (b, is, refl) }
    here false true z is = tt
    here false false true is = not_passed _ Number _ (b ∷ bs)
    here false false false is = other_gone fresh b bs

-- ---- end to end

-- the parts of bytes from this offset on, with these tokens among them
pub record Laid (at : ℕ) (text : List ℕ) (tokens : List Token) : Type 0 where
  pub parts : List Part
  pub each : AllByRecursion IsPart parts
  pub whole : flat_map bytes_of parts ≡ text
  pub tokens_are : spans at parts ≡ map span_of tokens

behind : (size b : ℕ) (bs : List ℕ) → 0 < size → take size (b ∷ bs) ++ drop (size - 1) bs ≡ b ∷ bs
behind zero b bs some = absurd (omega (arith, some))
behind (suc n) b bs some =
    let one : suc n - 1 ≡ n = omega arith in
    ap (λ (k : ℕ). b ∷ (take n bs ++ drop k bs)) one ∙ ap (λ (xs : List ℕ). b ∷ xs) (take-append-drop n bs)

offset : (start size : ℕ) → 0 < size → start + 1 + (size - 1) ≡ start + size
offset start size some = omega (arith, some)

-- one more part in front
with_between : (start size b : ℕ) (bs : List ℕ) (tokens : List Token) → Gone size (b ∷ bs) → Laid (start + 1 + (size - 1)) (drop (size - 1) bs) tokens → Laid (start + 0) (b ∷ bs) tokens
with_between start size b bs tokens gone laid =
    let long : length (take size (b ∷ bs)) ≡ size = length-take-le size (b ∷ bs) gone.within in
    let at : start + 0 + length (take size (b ∷ bs)) ≡ start + 1 + (size - 1) = omega (arith, long, gone.some) in
    record {
      parts = Between (take size (b ∷ bs)) ∷ laid.parts;
      each = (gone.between, laid.each);
      whole = ap (λ (xs : List ℕ). take size (b ∷ bs) ++ xs) laid.whole ∙ behind size b bs gone.some;
      tokens_are = ap (λ (n : ℕ). spans n laid.parts) at ∙ laid.tokens_are;
    }

with_lexeme : (start size b : ℕ) (bs : List ℕ) (kind : LexemeKind) (token : Token) (tokens : List Token) → token.start ≡ start → token.length ≡ size
    → IsLongest kind size (b ∷ bs) → Laid (start + 1 + (size - 1)) (drop (size - 1) bs) tokens → Laid (start + 0) (b ∷ bs) (token ∷ tokens)
with_lexeme start size b bs kind token tokens from long_as cut laid =
    let long : length (take size (b ∷ bs)) ≡ size = length-take-le size (b ∷ bs) cut.within in
    let at : start + 0 + length (take size (b ∷ bs)) ≡ start + 1 + (size - 1) = omega (arith, long, cut.some) in
    let first : start + 0 ≡ token.start = omega (arith, from) in
    let second : length (take size (b ∷ bs)) ≡ token.length = long ∙ sym long_as in
    record {
      parts = Lexeme (take size (b ∷ bs)) ∷ laid.parts;
      each = ((kind, cut.token), laid.each);
      whole = ap (λ (xs : List ℕ). take size (b ∷ bs) ++ xs) laid.whole ∙ behind size b bs cut.some;
      tokens_are =
          ap (λ (n : ℕ). (n, length (take size (b ∷ bs))) ∷ spans (start + 0 + length (take size (b ∷ bs))) laid.parts) first
          ∙ ap (λ (n : ℕ). (token.start, n) ∷ spans (start + 0 + length (take size (b ∷ bs))) laid.parts) second
          ∙ ap (λ (ss : List (ℕ × ℕ)). (token.start, token.length) ∷ ss) (ap (λ (n : ℕ). spans n laid.parts) at ∙ laid.tokens_are);
    }

with_part : (piece : Piece) (start b : ℕ) (bs : List ℕ) (place : Place) (later : Lexed) → GoneOf piece (b ∷ bs) → CutOf piece (b ∷ bs)
    → (with_piece piece start place (b ∷ bs) later).fault ≡ None
    → (0 < size_of piece → later.fault ≡ None → Laid (start + 1 + (size_of piece - 1)) (drop (size_of piece - 1) bs) later.tokens)
    → size_of piece ≤ length (b ∷ bs)
    → Laid (start + 0) (b ∷ bs) (with_piece piece start place (b ∷ bs) later).tokens
with_part (Passed size) start b bs place later gone cut none laid within = with_between start size b bs later.tokens gone (laid gone.some none)
with_part (Cut kind size) start b bs place later gone cut none laid within = with_lexeme start size b bs kind _ later.tokens refl refl cut (laid cut.some none)
with_part (Faulty fault) start b bs place later gone cut none laid within = absurd (some_none none)
  where
    some_none : {x : Refusal} → Some x ≡ None → ⊥
    some_none h = cc

piece_within : (piece : Piece) (b : ℕ) (bs : List ℕ) → GoneOf piece (b ∷ bs) → CutOf piece (b ∷ bs) → size_of piece ≤ length (b ∷ bs)
piece_within (Passed size) b bs gone cut = gone.within
piece_within (Cut kind size) b bs gone cut = cut.within
piece_within (Faulty fault) b bs gone cut = omega arith

abbrev no_bytes : List ℕ
no_bytes = []

nothing_left : (inside : ℕ) → no_bytes ≡ drop inside no_bytes
nothing_left zero = refl
nothing_left (suc n) = refl

laid_from : (inside : ℕ) (fresh : Bool) (start : ℕ) (place : Place) (text : List ℕ) → inside ≤ length text → (lexed_from inside fresh start place text).fault ≡ None
    → Laid (start + inside) (drop inside text) (lexed_from inside fresh start place text).tokens
laid_from inside fresh start place [] within none = record { parts = []; each = tt; whole = nothing_left inside; tokens_are = refl }
laid_from (suc inside) fresh start place (b ∷ bs) within none =
    let same : start + 1 + inside ≡ start + suc inside = omega arith in
    subst (λ (n : ℕ). Laid n (drop inside bs) (lexed_from inside fresh (start + 1) (next_place place b) bs).tokens) same
    (laid_from inside fresh (start + 1) (next_place place b) bs (omega (arith, within)) none)
laid_from zero fresh start place (b ∷ bs) within none =
    let piece = piece_at fresh (b ∷ bs) in
    let inside = piece_within piece b bs (all_gone fresh b bs) (all_cut fresh (b ∷ bs)) in
    with_part piece start b bs place (lexed_from (size_of piece - 1) (fresh_behind fresh b) (start + 1) (next_place place b) bs) (all_gone fresh b bs) (all_cut fresh (b ∷ bs)) none
    (λ some later. laid_from (size_of piece - 1) (fresh_behind fresh b) (start + 1) (next_place place b) bs (omega (arith, inside, some)) later)
    inside

-- ---- the tokens of a text

same_span : (text : List ℕ) (names : List (List ℕ)) (token : Token) → span_of (classed text names token) ≡ span_of token
same_span text names token = here _
  where
    here : (b : Bool) → span_of (cond b (record token { class = class_number TypedefName }) token) ≡ span_of token
    here true = refl
    here false = refl

named_spans : (text : List ℕ) (stretch : Stretch) (names : List (List ℕ)) (tokens : List Token) → map span_of (named_from text stretch names tokens) ≡ map span_of tokens
named_spans text stretch names [] = refl
named_spans text stretch names (token ∷ tokens) =
    ap (λ (s : ℕ × ℕ). s ∷ map span_of (named_from text (stretch_behind stretch (classed text names token)) (names_behind text stretch names (classed text names token)) tokens)) (same_span text names token)
    ∙ ap (λ (ss : List (ℕ × ℕ)). span_of token ∷ ss) (named_spans text (stretch_behind stretch (classed text names token)) (names_behind text stretch names (classed text names token)) tokens)

all_spans : (text : List ℕ) → map span_of (tokens_of text) ≡ map span_of (lexed_of text).tokens
unfolding tokens_of with_typedef_names
all_spans text = named_spans text outside [] (lexed_of text).tokens

no_fault_behind : (fault : Option Refusal) (token : Option Token) → fault_or fault token ≡ None → fault ≡ None
no_fault_behind fault None e = e
no_fault_behind fault (Some token) e = absurd (some_none e)
  where
    some_none : {x : Refusal} → Some x ≡ None → ⊥
    some_none h = cc

no_fault : (text : List ℕ) → lexical_fault text ≡ None → (lexed_of text).fault ≡ None
no_fault text e = here (nat_lt 262144 (length text)) e
  where
    here : (x : Bool) → cond x (Some (record { code = 5; place = first_place; name = codes "bytes" })) (fault_of (lexed_of text)) ≡ None → (lexed_of text).fault ≡ None
    here true h = absurd (some_none h)
      where
        some_none : {x : Refusal} → Some x ≡ None → ⊥
        some_none k = cc
    here false h = no_fault_behind (lexed_of text).fault (slice_get (lexed_of text).tokens 60000) h

laid_out : (text : List ℕ) → (lexed_of text).fault ≡ None → Laid 0 text (lexed_of text).tokens
unfolding lexed_of
laid_out text none = laid_from zero true 0 first_place text (omega arith) none

pub its_parts : TextIsItsParts
its_parts text e =
    let laid = laid_out text (no_fault text e) in (
      laid.parts,
      record {
        each = All-from_recursion IsPart laid.parts laid.each;
        whole = laid.whole;
        tokens = laid.tokens_are ∙ sym (all_spans text);
      },
    )
