-- Comments (C11 6.4.9).
use Rattle.std.specs.Prelude.{◌≡◌, ℕ, Bool, true, List, [], ◌∷◌, ◌++◌, length, All, codes}
use Rattle.c_lexer.specs.declared.piece.Fault.TheVariants.{NotClosed}
use Rattle.c_lexer.specs.declared.piece.Piece.TheVariants.{Passed, Faulty}
use Rattle.c_lexer.specs.Bytes.{is_in_line}
use Rattle.c_lexer.specs.Pieces.{piece_at}

-- `*/` stands somewhere in these bytes
abbrev pub HasClose : List ℕ → Type 0
HasClose bytes = (before after : List ℕ) × (bytes ≡ before ++ (codes "*/" ++ after))

-- `/*`, a body without `*/`, and `*/`
abbrev pub IsBlockComment : List ℕ → Type 0
IsBlockComment bytes = (body : List ℕ) × ¬ (HasClose body) × (bytes ≡ codes "/*" ++ body ++ codes "*/")

-- bytes without a line's end
abbrev pub IsInLine : List ℕ → Type 0
IsInLine bytes = All (λ b. is_in_line b ≡ true) bytes

-- `//` and bytes without a line's end
abbrev pub IsLineComment : List ℕ → Type 0
IsLineComment bytes = (body : List ℕ) × IsInLine body × (bytes ≡ codes "//" ++ body)

-- the line ends here: nothing follows, or LF
abbrev pub EndsLine : List ℕ → Type 0
EndsLine [] = Unit {0}
EndsLine (b ∷ bs) = b ≡ 10

-- a text that begins with a comment is passed over up to the end of the comment, whatever stands behind it
abbrev pub BlockCommentIsPassed : Type 0
BlockCommentIsPassed = (fresh : Bool) (comment rest : List ℕ) → IsBlockComment comment → piece_at fresh (comment ++ rest) ≡ Passed (length comment)

-- one that begins with `//` up to the line's end
abbrev pub LineCommentIsPassed : Type 0
LineCommentIsPassed = (fresh : Bool) (comment rest : List ℕ) → IsLineComment comment → EndsLine rest → piece_at fresh (comment ++ rest) ≡ Passed (length comment)

-- and `/*` without a `*/` behind it is a comment that is not closed
abbrev pub OpenCommentIsFaulty : Type 0
OpenCommentIsFaulty = (fresh : Bool) (body : List ℕ) → ¬ (HasClose body) → piece_at fresh (codes "/*" ++ body) ≡ Faulty NotClosed
