-- What is true of every tree.
use Rattle.std.specs.Prelude.{◌≡◌, ℕ, List}
use Rattle.c_lexer.specs.declared.token.Token.{Token}
use Rattle.c_tree.specs.Statements.{TreeData}
use Rattle.c_reader.specs.SpelledExternals.{IsTree}

-- two trees of the same tokens are the same
abbrev pub TreeIsOne : Type 0
TreeIsOne = (text : List ℕ) (tokens : List Token) (a b : TreeData) → IsTree text tokens a → IsTree text tokens b → a ≡ b
