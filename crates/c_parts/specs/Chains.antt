-- Lists that grow at their front.
use Rattle.std.specs.Prelude.{◌≡◌, Bool, true, false, List, [], ◌∷◌, Option, Some, None}

-- the first item was taken, where there is one
abbrev pub IsTaken : {A : Type 0} → Option A → (before after : List A) → Type 0
IsTaken None before after = (before ≡ []) × (after ≡ [])
IsTaken (Some item) before after = before ≡ item ∷ after

abbrev pub is_nil : {A : Type 0} → List A → Bool
is_nil [] = true
is_nil (item ∷ items) = false
