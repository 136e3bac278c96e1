-- No keyword is a name.
use Rattle.std.proofs.Common.{◌≡◌, ◌⊎◌, inl, inr, ◌+◌, ◌-◌, ℕ, suc, zero, Bool, true, false, cond, not, ◌&&◌, nat_lt, List, [], ◌∷◌, take, drop, refl, sym, ap, ◌∙◌, subst, drop-drop}
use Rattle.std.specs.Prelude.{Contains}
use Rattle.std.specs.List.{list_all, AllByRecursion}
use Rattle.std.proofs.lemmas.Bool.{true≢false, eqb-true}
use Rattle.std.proofs.lemmas.List.Elements.{All-contains, All-from_recursion}
use Rattle.misra_base.specs.declared.place.Place.{Place}
use Rattle.c_lexer.specs.declared.token.Token.{Token}
use Rattle.c_lexer.specs.declared.piece.LexemeKind.{LexemeKind}
use Rattle.c_lexer.specs.declared.piece.LexemeKind.TheVariants.{Word, Number, Character, String, Punctuator}
use Rattle.c_lexer.specs.declared.piece.Piece.{Piece}
use Rattle.c_lexer.specs.declared.piece.Piece.TheVariants.{Passed, Token as Cut, Faulty}
use Rattle.c_lexer.specs.declared.token_class.TokenClass.TheVariants.{Identifier, TypedefName, Constant, NamedConstruct}
use Rattle.c_lexer.specs.declared.typedef_name.Stretch.{Stretch}
use Rattle.c_lexer.specs.Identifiers.{is_reserved, is_identifier}
use Rattle.c_lexer.specs.Literals.{is_floating}
use Rattle.c_lexer.specs.Pieces.{piece_at, size_of, fresh_behind}
use Rattle.c_lexer.specs.Positions.{first_place, next_place}
use Rattle.c_lexer.specs.Slices.{token_text}
use Rattle.c_lexer.specs.TokenClasses.{class_rows, number_rows, class_of, class_number}
use Rattle.c_lexer.specs.Tokens.{Lexed, class_of_lexeme, with_piece, lexed_from, lexed_of, tokens_of}
use Rattle.c_lexer.specs.TypedefNames.{has_class, is_name, classed, stretch_behind, names_behind, named_from, outside, with_typedef_names}
use Rattle.lexical_laws.specs.Keywords.{keywords, KeywordIsNoIdentifier, KeywordIsNoName}

-- a test that all words of a list pass
passed_by : (test : List ℕ → Bool) (words : List (List ℕ)) → list_all test words ≡ true → AllByRecursion (λ w. test w ≡ true) words
passed_by test [] e = tt
passed_by test (w ∷ ws) e = here (test w) refl e (passed_by test ws)
  where
    here : (b : Bool) → test w ≡ b → (b && list_all test ws) ≡ true → (list_all test ws ≡ true → AllByRecursion (λ w. test w ≡ true) ws)
        → (test w ≡ true) × AllByRecursion (λ w. test w ≡ true) ws
    here true is h later = (is, later h)
    here false is h later = absurd (true≢false (sym h))

at_word : (test : List ℕ → Bool) (words : List (List ℕ)) (word : List ℕ) → list_all test words ≡ true → Contains words word → test word ≡ true
at_word test words word e among = All-contains (λ w. test w ≡ true) words word (All-from_recursion (λ w. test w ≡ true) words (passed_by test words e)) among

not_true : (b : Bool) → not b ≡ true → b ≡ false
not_true true e = sym e
not_true false e = refl

no_identifiers : list_all (λ word. not (is_identifier word)) keywords ≡ true
unfolding keywords is_reserved number_rows class_rows
no_identifiers = refl

pub no_identifier : KeywordIsNoIdentifier
no_identifier word among = not_true (is_identifier word) (at_word (λ word. not (is_identifier word)) keywords word no_identifiers among)

-- ---- the classes of tokens

abbrev is_name_class : ℕ → Bool
is_name_class class = nat_lt class 2

no_classes : list_all (λ word. not (is_name_class (class_number (class_of word)))) keywords ≡ true
unfolding keywords class_of class_rows
no_classes = refl

no_class : (word : List ℕ) → Contains keywords word → is_name_class (class_number (class_of word)) ≡ false
no_class word among = not_true _ (at_word (λ word. not (is_name_class (class_number (class_of word)))) keywords word no_classes among)

-- the token is none of a keyword with the class of a name
abbrev IsUnnamed : List ℕ → Token → Type 0
IsUnnamed text token = Contains keywords (token_text text token) → is_name_class token.class ≡ false

class_if : (b : Bool) → is_name_class (class_number (cond b NamedConstruct Constant)) ≡ false
class_if true = refl
class_if false = refl

lexeme_unnamed : (kind : LexemeKind) (word : List ℕ) → Contains keywords word → is_name_class (class_number (class_of_lexeme kind word)) ≡ false
lexeme_unnamed Word word among = no_class word among
lexeme_unnamed Number word among = class_if (is_floating word)
lexeme_unnamed Character word among = refl
lexeme_unnamed String word among = refl
lexeme_unnamed Punctuator word among = no_class word among

with_one : (text : List ℕ) (piece : Piece) (start : ℕ) (place : Place) (rest : List ℕ) (later : Lexed) → rest ≡ drop start text → AllByRecursion (IsUnnamed text) later.tokens
    → AllByRecursion (IsUnnamed text) (with_piece piece start place rest later).tokens
with_one text (Passed size) start place rest later is h = h
with_one text (Cut kind size) start place rest later is h =
    (subst (λ (bs : List ℕ). Contains keywords (take size bs) → is_name_class (class_number (class_of_lexeme kind (take size rest))) ≡ false) is (lexeme_unnamed kind (take size rest)), h)
with_one text (Faulty fault) start place rest later is h = tt

one_further : (text : List ℕ) (start b : ℕ) (bs : List ℕ) → b ∷ bs ≡ drop start text → bs ≡ drop (start + 1) text
one_further text start b bs is = ap (λ (xs : List ℕ). drop 1 xs) is ∙ drop-drop 1 start text

lexemes_unnamed : (text : List ℕ) (inside : ℕ) (fresh : Bool) (start : ℕ) (place : Place) (rest : List ℕ) → rest ≡ drop start text
    → AllByRecursion (IsUnnamed text) (lexed_from inside fresh start place rest).tokens
lexemes_unnamed text inside fresh start place [] is = tt
lexemes_unnamed text (suc inside) fresh start place (b ∷ bs) is = lexemes_unnamed text inside fresh (start + 1) (next_place place b) bs (one_further text start b bs is)
lexemes_unnamed text zero fresh start place (b ∷ bs) is =
    with_one text (piece_at fresh (b ∷ bs)) start place (b ∷ bs) _ is
    (lexemes_unnamed text (size_of (piece_at fresh (b ∷ bs)) - 1) (fresh_behind fresh b) (start + 1) (next_place place b) bs (one_further text start b bs is))

-- typedef names are identifiers without that
still_unnamed : (text : List ℕ) (names : List (List ℕ)) (token : Token) → IsUnnamed text token → IsUnnamed text (classed text names token)
still_unnamed text names token h = here (has_class Identifier token) (is_name names (token_text text token)) refl
  where
    here : (a b : Bool) → has_class Identifier token ≡ a → IsUnnamed text (cond (a && b) (record token { class = class_number TypedefName }) token)
    here true true is among =
        let none : is_name_class 0 ≡ false = subst (λ (n : ℕ). is_name_class n ≡ false) (eqb-true token.class 0 is) (h among) in
        absurd (true≢false none)
    here true false is among = h among
    here false b is among = h among

named_unnamed : (text : List ℕ) (stretch : Stretch) (names : List (List ℕ)) (tokens : List Token) → AllByRecursion (IsUnnamed text) tokens
    → AllByRecursion (IsUnnamed text) (named_from text stretch names tokens)
named_unnamed text stretch names [] h = tt
named_unnamed text stretch names (token ∷ tokens) h =
    (still_unnamed text names token h.0, named_unnamed text (stretch_behind stretch (classed text names token)) (names_behind text stretch names (classed text names token)) tokens h.1)

all_unnamed : (text : List ℕ) → AllByRecursion (IsUnnamed text) (tokens_of text)
unfolding tokens_of lexed_of with_typedef_names
all_unnamed text = named_unnamed text outside [] (lexed_of text).tokens (lexemes_unnamed text zero true 0 first_place text refl)

no_name_class : (class : ℕ) → is_name_class class ≡ false → ¬ ((class ≡ 0) ⊎ (class ≡ 1))
no_name_class class e (inl is) = true≢false (ap (λ (n : ℕ). is_name_class n) (sym is) ∙ e)
no_name_class class e (inr is) = true≢false (ap (λ (n : ℕ). is_name_class n) (sym is) ∙ e)

pub no_name : KeywordIsNoName
no_name text token among word =
    no_name_class token.class (All-contains (IsUnnamed text) (tokens_of text) token (All-from_recursion (IsUnnamed text) (tokens_of text) (all_unnamed text)) among word)
