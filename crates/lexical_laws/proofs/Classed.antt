-- Without `typedef` the class of a token is that of its bytes.
use Rattle.std.proofs.Common.{◌≡◌, ℕ, ◌+◌, ◌-◌, ◌==◌, suc, zero, Bool, true, false, cond, ◌&&◌, List, [], ◌∷◌, map, take, drop, codes, Option, None, Some, refl, sym, ap, ◌∙◌, subst, drop-drop}
use Rattle.std.specs.List.{list_any}
use Rattle.std.specs.Str.{bytes_eq}
use Rattle.std.proofs.lemmas.Bool.{true≢false, or_parts}
use Rattle.misra_base.specs.declared.place.Place.{Place}
use Rattle.c_lexer.specs.declared.token.Token.{Token}
use Rattle.c_lexer.specs.declared.piece.LexemeKind.{LexemeKind}
use Rattle.c_lexer.specs.declared.piece.Piece.{Piece}
use Rattle.c_lexer.specs.declared.piece.Piece.TheVariants.{Passed, Token as Cut, Faulty}
use Rattle.c_lexer.specs.declared.token_class.TokenClass.TheVariants.{Typedef, TypedefName}
use Rattle.c_lexer.specs.Pieces.{piece_at, size_of, fresh_behind}
use Rattle.c_lexer.specs.Positions.{first_place, next_place}
use Rattle.c_lexer.specs.Slices.{token_text}
use Rattle.c_lexer.specs.TokenClasses.{class_number}
use Rattle.c_lexer.specs.Tokens.{Lexed, class_of_lexeme, with_piece, lexed_from, lexed_of, tokens_of}
use Rattle.c_lexer.specs.TypedefNames.{has_class, classed, stretch_behind, names_behind, named_from, outside, with_typedef_names}
use Rattle.lexical_laws.specs.Classes.{kind_at, class_at, class_of_word, words_in, ClassesAreOfWords}
use Rattle.lexical_laws.proofs.Beginnings.{kind_of}
use Rattle.lexical_laws.proofs.Cuts.{all_cut}
use Rattle.lexical_laws.proofs.Longest.{CutOf}
use Rattle.lexical_laws.proofs.Typedefs.{typedef_word}

-- ---- the lexemes

abbrev class_in_token : Token → ℕ
class_in_token token = token.class

abbrev AreOfWords : List ℕ → List Token → Type 0
AreOfWords text tokens = map class_in_token tokens ≡ map class_of_word (map (token_text text) tokens)

with_one : (text : List ℕ) (piece : Piece) (start : ℕ) (place : Place) (rest : List ℕ) (later : Lexed) → rest ≡ drop start text → CutOf piece rest → AreOfWords text later.tokens
    → AreOfWords text (with_piece piece start place rest later).tokens
with_one text (Passed size) start place rest later is cut h = h
with_one text (Cut kind size) start place rest later is cut h =
    let word = take size rest in
    let kind_is : kind_at word ≡ Some kind = kind_of kind word cut.token in
    let class_is : class_number (class_of_lexeme kind word) ≡ class_of_word word = ap (λ (o : Option LexemeKind). class_number (class_at o word)) (sym kind_is) in
    let there : class_of_word word ≡ class_of_word (take size (drop start text)) = ap (λ (bs : List ℕ). class_of_word (take size bs)) is in
    ap (λ (n : ℕ). n ∷ map class_in_token later.tokens) (class_is ∙ there)
    ∙ ap (λ (ns : List ℕ). class_of_word (take size (drop start text)) ∷ ns) h
with_one text (Faulty fault) start place rest later is cut h = refl

one_further : (text : List ℕ) (start b : ℕ) (bs : List ℕ) → b ∷ bs ≡ drop start text → bs ≡ drop (start + 1) text
one_further text start b bs is = ap (λ (xs : List ℕ). drop 1 xs) is ∙ drop-drop 1 start text

lexemes : (text : List ℕ) (inside : ℕ) (fresh : Bool) (start : ℕ) (place : Place) (rest : List ℕ) → rest ≡ drop start text
    → AreOfWords text (lexed_from inside fresh start place rest).tokens
lexemes text inside fresh start place [] is = refl
lexemes text (suc inside) fresh start place (b ∷ bs) is = lexemes text inside fresh (start + 1) (next_place place b) bs (one_further text start b bs is)
lexemes text zero fresh start place (b ∷ bs) is =
    with_one text (piece_at fresh (b ∷ bs)) start place (b ∷ bs) _ is (all_cut fresh (b ∷ bs))
    (lexemes text (size_of (piece_at fresh (b ∷ bs)) - 1) (fresh_behind fresh b) (start + 1) (next_place place b) bs (one_further text start b bs is))

-- ---- typedef names

same_text : (text : List ℕ) (names : List (List ℕ)) (token : Token) → token_text text (classed text names token) ≡ token_text text token
same_text text names token = here _
  where
    here : (b : Bool) → token_text text (cond b (record token { class = class_number TypedefName }) token) ≡ token_text text token
    here true = refl
    here false = refl

named_texts : (text : List ℕ) (stretch : _) (names : List (List ℕ)) (tokens : List Token) → map (token_text text) (named_from text stretch names tokens) ≡ map (token_text text) tokens
named_texts text stretch names [] = refl
named_texts text stretch names (token ∷ tokens) =
    ap (λ (w : List ℕ). w ∷ map (token_text text) (named_from text (stretch_behind stretch (classed text names token)) (names_behind text stretch names (classed text names token)) tokens)) (same_text text names token)
    ∙ ap (λ (ws : List (List ℕ)). token_text text token ∷ ws) (named_texts text (stretch_behind stretch (classed text names token)) (names_behind text stretch names (classed text names token)) tokens)

-- without a typedef nothing is named
not_classed : (text : List ℕ) (token : Token) → classed text [] token ≡ token
not_classed text token = here _
  where
    here : (b : Bool) → cond (b && false) (record token { class = class_number TypedefName }) token ≡ token
    here true = refl
    here false = refl

stays_outside : (token : Token) → has_class Typedef token ≡ false → stretch_behind outside token ≡ outside
stays_outside token e = here (has_class Typedef token) e
  where
    here : (b : Bool) → b ≡ false → cond b (record { inside = true; depth = 0; named = None }) outside ≡ outside
    here true h = absurd (true≢false h)
    here false h = refl

head_class : (text : List ℕ) (token : Token) (tokens : List Token) → AreOfWords text (token ∷ tokens) → (token.class ≡ class_of_word (token_text text token)) × AreOfWords text tokens
head_class text token tokens h = (ap first h, ap rest h)
  where
    first : List ℕ → ℕ
    first [] = 0
    first (n ∷ ns) = n

    rest : List ℕ → List ℕ
    rest [] = []
    rest (n ∷ ns) = ns

no_typedef : (text : List ℕ) (token : Token) → token.class ≡ class_of_word (token_text text token) → bytes_eq (codes "typedef") (token_text text token) ≡ false → has_class Typedef token ≡ false
no_typedef text token is none = here (has_class Typedef token) refl
  where
    here : (b : Bool) → has_class Typedef token ≡ b → b ≡ false
    here true e = absurd (true≢false (sym (typedef_word (token_text text token) (subst (λ (n : ℕ). (n == class_number Typedef) ≡ true) is e)) ∙ none))
    here false e = refl

unnamed : (text : List ℕ) (tokens : List Token) → AreOfWords text tokens → list_any (bytes_eq (codes "typedef")) (map (token_text text) tokens) ≡ false → named_from text outside [] tokens ≡ tokens
unnamed text [] h none = refl
unnamed text (token ∷ tokens) h none =
    let parts = or_parts (bytes_eq (codes "typedef") (token_text text token)) _ none in
    let split = head_class text token tokens h in
    let stays : stretch_behind outside (classed text [] token) ≡ outside = ap (λ (t : Token). stretch_behind outside t) (not_classed text token) ∙ stays_outside token (no_typedef text token split.0 parts.0) in
    ap (λ (t : Token). t ∷ named_from text (stretch_behind outside (classed text [] token)) [] tokens) (not_classed text token)
    ∙ ap (λ (s : _). token ∷ named_from text s [] tokens) stays
    ∙ ap (λ (ts : List Token). token ∷ ts) (unnamed text tokens split.1 parts.1)

abbrev lexed_tokens : List ℕ → List Token
lexed_tokens text = (lexed_of text).tokens

all_lexemes : (text : List ℕ) → AreOfWords text (lexed_tokens text)
unfolding lexed_of
all_lexemes text = lexemes text zero true 0 first_place text refl

same_words : (text : List ℕ) → words_in text ≡ map (token_text text) (lexed_tokens text)
unfolding tokens_of with_typedef_names
same_words text = named_texts text outside [] (lexed_tokens text)

same_tokens : (text : List ℕ) → list_any (bytes_eq (codes "typedef")) (words_in text) ≡ false → tokens_of text ≡ lexed_tokens text
unfolding tokens_of with_typedef_names
same_tokens text none =
    unnamed text (lexed_tokens text) (all_lexemes text) (sym (ap (λ (ws : List (List ℕ)). list_any (bytes_eq (codes "typedef")) ws) (same_words text)) ∙ none)

pub of_words : ClassesAreOfWords
of_words text none = subst (λ (ts : List Token). map class_in_token ts ≡ map class_of_word (map (token_text text) ts)) (sym (same_tokens text none)) (all_lexemes text)
