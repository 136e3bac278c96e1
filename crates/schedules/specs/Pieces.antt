-- The pieces of a text behind the first one.
use Rattle.std.specs.Prelude.{ℕ, ◌==◌, List, [], Option, Some, None}
use Rattle.std.specs.List.{slice_split}

-- those of what stands behind a byte, and none where it does not stand there
abbrev pub pieces_behind : ℕ → Option (List ℕ) → List (List ℕ)
pieces_behind at None = []
pieces_behind at (Some behind) = slice_split (λ b. b == at) behind
