-- Only the word `typedef` has its class.
use Rattle.std.proofs.Common.{◌≡◌, ℕ, ◌==◌, Bool, true, false, cond, not, ◌&&◌, ◌||◌, List, [], ◌∷◌, codes, Option, None, Some, refl, sym, subst}
use Rattle.std.specs.List.{list_all}
use Rattle.std.specs.Str.{bytes_eq}
use Rattle.std.proofs.lemmas.Bool.{true≢false}
use Rattle.std.proofs.lemmas.Slice.Eq.{bytes_eq-Decides}
use Rattle.c_lexer.specs.declared.piece.LexemeKind.{LexemeKind}
use Rattle.c_lexer.specs.declared.piece.LexemeKind.TheVariants.{Word, Number, Character, String, Punctuator}
use Rattle.c_lexer.specs.declared.token_class.TokenClass.{TokenClass}
use Rattle.c_lexer.specs.declared.token_class.TokenClass.TheVariants.{Typedef, Constant, NamedConstruct}
use Rattle.c_lexer.specs.Literals.{is_floating}
use Rattle.c_lexer.specs.TokenClasses.{class_rows, class_in, class_of, class_number}
use Rattle.lexical_laws.specs.Classes.{kind_at, class_at, class_of_word}

abbrev is_typedef : TokenClass → Bool
is_typedef class = class_number class == class_number Typedef

-- a row of another class, or of the word
abbrev is_right : List ℕ × TokenClass → Bool
is_right row = not (is_typedef row.1) || bytes_eq (codes "typedef") row.0

rows_right : list_all is_right class_rows ≡ true
unfolding class_rows
rows_right = refl

same_bytes : (a b : List ℕ) → bytes_eq a b ≡ true → a ≡ b
same_bytes a b e = (bytes_eq-Decides a b).0 e

only_in : (rows : List (List ℕ × TokenClass)) (word : List ℕ) → list_all is_right rows ≡ true → is_typedef (class_in rows word) ≡ true → bytes_eq (codes "typedef") word ≡ true
only_in [] word all e = absurd (true≢false (sym e))
only_in (r ∷ rs) word all e = here (is_right r) (bytes_eq r.0 word) refl refl all e (only_in rs word)
  where
    marked : (x y : Bool) → is_typedef r.1 ≡ x → bytes_eq (codes "typedef") r.0 ≡ y → (not x || y) ≡ true → x ≡ true → bytes_eq (codes "typedef") r.0 ≡ true
    marked true true is_x is_y h k = is_y
    marked true false is_x is_y h k = absurd (true≢false (sym h))
    marked false y is_x is_y h k = absurd (true≢false (sym k))

    here : (x y : Bool) → is_right r ≡ x → bytes_eq r.0 word ≡ y → (x && list_all is_right rs) ≡ true → is_typedef (cond y r.1 (class_in rs word)) ≡ true
        → (list_all is_right rs ≡ true → is_typedef (class_in rs word) ≡ true → bytes_eq (codes "typedef") word ≡ true) → bytes_eq (codes "typedef") word ≡ true
    here true true is_x is_y h k later =
        subst (λ (w : List ℕ). bytes_eq (codes "typedef") w ≡ true) (same_bytes r.0 word is_y) (marked (is_typedef r.1) _ refl refl is_x k)
    here true false is_x is_y h k later = later h k
    here false y is_x is_y h k later = absurd (true≢false (sym h))

only_word : (word : List ℕ) → is_typedef (class_of word) ≡ true → bytes_eq (codes "typedef") word ≡ true
unfolding class_of
only_word word e = only_in class_rows word rows_right e

constant_class : (x : Bool) → is_typedef (cond x NamedConstruct Constant) ≡ true → ⊥
constant_class true e = true≢false (sym e)
constant_class false e = true≢false (sym e)

by_kind : (kind : Option LexemeKind) (word : List ℕ) → is_typedef (class_at kind word) ≡ true → bytes_eq (codes "typedef") word ≡ true
by_kind None word e = absurd (true≢false (sym e))
by_kind (Some Word) word e = only_word word e
by_kind (Some Number) word e = absurd (constant_class (is_floating word) e)
by_kind (Some Character) word e = absurd (true≢false (sym e))
by_kind (Some String) word e = absurd (true≢false (sym e))
by_kind (Some Punctuator) word e = only_word word e

pub typedef_word : (word : List ℕ) → (class_of_word word == class_number Typedef) ≡ true → bytes_eq (codes "typedef") word ≡ true
typedef_word word e = by_kind (kind_at word) word e
