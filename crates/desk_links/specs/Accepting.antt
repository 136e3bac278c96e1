-- What an accept does to the connections, where they are told.
use Rattle.std.specs.Prelude.{◌≡◌, ℕ, Bool, true, false, List, [], ◌∷◌, ◌++◌, Some, IfSome, Result, Ok, Err}
use Rattle.std.specs.declared.option.Option.{Option}

-- the bytes left and written on the current connection, what was written before it, and the connections to come
pub record Situation : Type 0 where
  pub left : Option (List ℕ)
  pub written : Option (List ℕ)
  pub before : Option (List (List ℕ))
  pub coming : Option (List (List ℕ))

-- the bytes left are those of the first connection that was to come
abbrev pub IsNext : Option (List (List ℕ)) → Situation → Type 0
IsNext coming new =
    IfSome coming (λ all. (bytes : List ℕ) × (rest : List (List ℕ)) × (all ≡ bytes ∷ rest) × (new.left ≡ Some bytes) × (new.coming ≡ Some rest))

-- nothing is written on it yet, and what was written stays
abbrev pub BeginsAnew : Option (List ℕ) → Option (List (List ℕ)) → Situation → Type 0
BeginsAnew written before new =
    IfSome written (λ out. (new.written ≡ Some []) × IfSome before (λ lists. new.before ≡ Some (lists ++ out ∷ [])))

-- the next connection becomes current; where none is left, or after a fault, all stays
abbrev pub Accepts : {E : Type 0} → Situation → Situation → Result Bool E → Type 0
Accepts old new (Ok true) = IsNext old.coming new × BeginsAnew old.written old.before new
Accepts old new (Ok false) = (new ≡ old) × IfSome old.coming (λ all. all ≡ [])
Accepts old new (Err e) = new ≡ old
