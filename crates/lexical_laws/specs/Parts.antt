-- A text as its parts: tokens, and between them blanks, comments and `#` lines (C11 5.1.1.2).
use Rattle.std.specs.Prelude.{◌≡◌, ◌⊎◌, ℕ, ◌+◌, true, List, [], ◌∷◌, map, flat_map, length, All, None}
use Rattle.c_lexer.specs.declared.token.Token.{Token}
use Rattle.c_lexer.specs.Bytes.{is_blank}
use Rattle.c_lexer.specs.Limits.{lexical_fault}
use Rattle.c_lexer.specs.Tokens.{tokens_of}
use Rattle.lexical_laws.specs.Comments.{IsBlockComment, IsLineComment, IsInLine}
use Rattle.lexical_laws.specs.Lexemes.{IsToken}

pub data Part : Type 0 where
  Lexeme : (bytes : List ℕ) → Part
  Between : (bytes : List ℕ) → Part

abbrev pub bytes_of : Part → List ℕ
bytes_of (Lexeme bytes) = bytes
bytes_of (Between bytes) = bytes

-- one blank
abbrev pub IsBlank : List ℕ → Type 0
IsBlank bytes = (b : ℕ) × (is_blank b ≡ true) × (bytes ≡ b ∷ [])

-- `#` and bytes of its line
abbrev pub IsHashLine : List ℕ → Type 0
IsHashLine bytes = (line : List ℕ) × IsInLine line × (bytes ≡ 35 ∷ line)

abbrev pub IsPart : Part → Type 0
IsPart (Lexeme bytes) = IsToken bytes
IsPart (Between bytes) = IsBlank bytes ⊎ IsBlockComment bytes ⊎ IsLineComment bytes ⊎ IsHashLine bytes

-- where the tokens among the parts begin, from this offset on, and how many bytes each has
abbrev pub spans : ℕ → List Part → List (ℕ × ℕ)
spans at [] = []
spans at (Lexeme bytes ∷ parts) = (at, length bytes) ∷ spans (at + length bytes) parts
spans at (Between bytes ∷ parts) = spans (at + length bytes) parts

abbrev pub span_of : Token → ℕ × ℕ
span_of token = (token.start, token.length)

-- the parts end to end are the text, and the tokens among them are its tokens
pub record IsLaidOut (text : List ℕ) (parts : List Part) : Type 0 where
  pub each : All IsPart parts
  pub whole : flat_map bytes_of parts ≡ text
  pub tokens : spans 0 parts ≡ map span_of (tokens_of text)

-- a text without a fault is its parts end to end
abbrev pub TextIsItsParts : Type 0
TextIsItsParts = (text : List ℕ) → lexical_fault text ≡ None → (parts : List Part) × IsLaidOut text parts
