-- Tokens, each told by its bytes alone (C11 6.4), and that the longest one is cut.
use Rattle.std.specs.Prelude.{◌≡◌, ◌⊎◌, ◌<◌, ◌≤◌, ℕ, Bool, true, false, ◌&&◌, ◌==◌, List, [], ◌∷◌, length, take, Contains, Some, is_some}
use Rattle.c_lexer.specs.declared.piece.LexemeKind.{LexemeKind}
use Rattle.c_lexer.specs.declared.piece.LexemeKind.TheVariants.{Word, Number, Character, String, Punctuator}
use Rattle.c_lexer.specs.declared.piece.Piece.TheVariants.{Token as Cut}
use Rattle.c_lexer.specs.Identifiers.{is_word}
use Rattle.c_lexer.specs.Lines.{quote_end}
use Rattle.c_lexer.specs.Literals.{number_literal, character_literal}
use Rattle.c_lexer.specs.Numbers.{begins_number, begins_hexadecimal, number_rest}
use Rattle.c_lexer.specs.Pieces.{piece_at}
use Rattle.c_lexer.specs.Punctuators.{is_punctuator, threes, pairs}

-- a digit, or a point and a digit, and bytes that go on a number (C11 6.4.8)
abbrev pub is_number : List ℕ → Bool
is_number [] = false
is_number (b ∷ bs) = begins_number (b ∷ bs) && number_rest (begins_hexadecimal (b ∷ bs)) b bs == length bs

-- a number that is a constant (C11 6.4.4)
pub record IsConstant (text : List ℕ) : Type 0 where
  pub number : is_number text ≡ true
  pub constant : is_some (number_literal text) ≡ true

-- a quote, bytes of its line, and the first quote behind it that closes it (C11 6.4.5)
abbrev pub IsString : List ℕ → Type 0
IsString [] = ⊥
IsString (b ∷ bs) = (b ≡ 34) × (quote_end 34 0 34 bs ≡ Some (length bs))

-- one of three bytes, of two or of one (C11 6.4.6, without `#`, `##` and the digraphs)
abbrev pub IsPunctuator : List ℕ → Type 0
IsPunctuator text = Contains threes text ⊎ Contains pairs text ⊎ ((b : ℕ) × (text ≡ b ∷ []) × (is_punctuator b ≡ true))

abbrev pub IsLexeme : LexemeKind → List ℕ → Type 0
IsLexeme Word text = is_word text ≡ true
IsLexeme Number text = IsConstant text
IsLexeme Character text = is_some (character_literal text) ≡ true
IsLexeme String text = IsString text
IsLexeme Punctuator text = IsPunctuator text

-- the bytes of one token
abbrev pub IsToken : List ℕ → Type 0
IsToken text = (kind : LexemeKind) × IsLexeme kind text

-- a front of the text is a token of this kind, and no longer front of it is a token
pub record IsLongest (kind : LexemeKind) (size : ℕ) (text : List ℕ) : Type 0 where
  pub some : 0 < size
  pub within : size ≤ length text
  pub token : IsLexeme kind (take size text)
  pub longest : (longer : ℕ) → size < longer → longer ≤ length text → ¬ (IsToken (take longer text))

-- what is cut is the longest token that the text begins with (C11 6.4, paragraph 4)
abbrev pub LongestTokenIsCut : Type 0
LongestTokenIsCut = (fresh : Bool) (text : List ℕ) (kind : LexemeKind) (size : ℕ) → piece_at fresh text ≡ Cut kind size → IsLongest kind size text
