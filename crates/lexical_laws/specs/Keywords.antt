-- Keywords (C11 6.4.1).
use Rattle.std.specs.Prelude.{◌≡◌, ◌⊎◌, ℕ, false, List, codes, Contains}
use Rattle.misra_base.specs.Keys.{words_of}
use Rattle.c_lexer.specs.declared.token.Token.{Token}
use Rattle.c_lexer.specs.declared.token_class.TokenClass.TheVariants.{Identifier, TypedefName}
use Rattle.c_lexer.specs.Identifiers.{is_identifier}
use Rattle.c_lexer.specs.Slices.{token_text}
use Rattle.c_lexer.specs.TokenClasses.{class_number}
use Rattle.c_lexer.specs.Tokens.{tokens_of}

-- the keywords that C lists
unfoldable pub keywords : List (List ℕ)
keywords =
    words_of (codes "auto break case char const continue default do double else enum extern float for goto if inline int long register restrict return short signed sizeof static struct switch typedef union unsigned void volatile while _Alignas _Alignof _Atomic _Bool _Complex _Generic _Imaginary _Noreturn _Static_assert _Thread_local")

-- the token has the class of an identifier or of a typedef name
abbrev pub IsName : Token → Type 0
IsName token = (token.class ≡ class_number Identifier) ⊎ (token.class ≡ class_number TypedefName)

-- no object may have a keyword as its name
abbrev pub KeywordIsNoIdentifier : Type 0
KeywordIsNoIdentifier = (word : List ℕ) → Contains keywords word → is_identifier word ≡ false

-- and no token of a text that is a keyword is a name
abbrev pub KeywordIsNoName : Type 0
KeywordIsNoName = (text : List ℕ) (token : Token) → Contains (tokens_of text) token → Contains keywords (token_text text token) → ¬ (IsName token)
