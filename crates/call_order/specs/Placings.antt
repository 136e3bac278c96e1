-- What is placed.
use Rattle.std.specs.Prelude.{◌≡◌, ◌<◌, ◌⊎◌, ℕ, Bool, false, List, Some, slice_get, slice_index_or, length}
use Rattle.std.specs.List.{Contains}
use Rattle.call_order.specs.declared.calls.Callees.{Callees}
use Rattle.call_order.specs.declared.placing.Placing.{Placing}
use Rattle.call_order.specs.Orders.{Names}
use Rattle.call_order.specs.Marks.{IsMarked}

abbrev pub IsPlaced : Placing → ℕ → Type 0
IsPlaced placing function = IsMarked placing.placed.items function

-- what is placed is needed and in the order, at one place, behind what it names
pub record IsPlacing (calls : List Callees) (needed : List Bool) (placing : Placing) : Type 0 where
  pub long : length placing.placed.items ≡ length calls
  pub wanted : (function : ℕ) → IsPlaced placing function → IsMarked needed function
  pub each : (function : ℕ) → IsPlaced placing function → Contains placing.order.items function
  pub only : (place function : ℕ) → slice_get placing.order.items place ≡ Some function → IsPlaced placing function
  pub one : (a b function : ℕ) → slice_get placing.order.items a ≡ Some function → slice_get placing.order.items b ≡ Some function → a ≡ b
  pub inward : (place function callee : ℕ) → slice_get placing.order.items place ≡ Some function → Names calls function callee
      → (before : ℕ) × (before < place) × (slice_get placing.order.items before ≡ Some callee)

-- if it is needed, it is placed, or it names one that is not
abbrev pub IsStuck : List Callees → List Bool → Placing → ℕ → Type 0
IsStuck calls needed placing function = IsMarked needed function
    → IsPlaced placing function ⊎ ((callee : ℕ) × Names calls function callee × (slice_index_or placing.placed.items callee false ≡ false))

abbrev pub IsStuckBelow : List Callees → List Bool → Placing → ℕ → Type 0
IsStuckBelow calls needed placing n = (function : ℕ) → function < n → IsStuck calls needed placing function
