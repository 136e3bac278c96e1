-- The class of a token, told by its bytes alone.
use Rattle.std.specs.Prelude.{◌≡◌, ℕ, false, ◌==◌, List, [], ◌∷◌, map, codes, if◌then◌else◌, Option, Some, None}
use Rattle.std.specs.List.{list_any}
use Rattle.std.specs.Str.{bytes_eq}
use Rattle.c_lexer.specs.declared.piece.LexemeKind.{LexemeKind}
use Rattle.c_lexer.specs.declared.piece.LexemeKind.TheVariants.{Word, Number, Character, String, Punctuator}
use Rattle.c_lexer.specs.declared.token_class.TokenClass.{TokenClass}
use Rattle.c_lexer.specs.declared.token_class.TokenClass.TheVariants.{Identifier}
use Rattle.c_lexer.specs.Bytes.{is_letter}
use Rattle.c_lexer.specs.Numbers.{begins_number}
use Rattle.c_lexer.specs.Punctuators.{is_punctuator}
use Rattle.c_lexer.specs.Slices.{token_text}
use Rattle.c_lexer.specs.TokenClasses.{class_number}
use Rattle.c_lexer.specs.Tokens.{class_of_lexeme, tokens_of}

-- the kind of token that begins with these bytes, which the first two tell
abbrev pub kind_at : List ℕ → Option LexemeKind
kind_at [] = None
kind_at (b ∷ bs) =
    if is_letter b then Some Word
    else (if begins_number (b ∷ bs) then Some Number
    else (if b == 39 then Some Character else (if b == 34 then Some String else (if is_punctuator b then Some Punctuator else None))))

abbrev pub class_at : Option LexemeKind → List ℕ → TokenClass
class_at None text = Identifier
class_at (Some kind) text = class_of_lexeme kind text

-- the class of a token with these bytes, where a name is an identifier
abbrev pub class_of_word : List ℕ → ℕ
class_of_word text = class_number (class_at (kind_at text) text)

abbrev pub words_in : List ℕ → List (List ℕ)
words_in text = map (token_text text) (tokens_of text)

-- in a text without `typedef` each token has the class of its bytes
abbrev pub ClassesAreOfWords : Type 0
ClassesAreOfWords = (text : List ℕ) → list_any (bytes_eq (codes "typedef")) (words_in text) ≡ false → map (λ token. token.class) (tokens_of text) ≡ map class_of_word (words_in text)
