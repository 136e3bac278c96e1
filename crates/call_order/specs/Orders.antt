-- Orders of functions.
use Rattle.std.specs.Prelude.{◌≡◌, ◌<◌, ℕ, List, [], Some, slice_get, option_map, unwrap_or, length}
use Rattle.std.specs.List.{Contains}
use Rattle.call_order.specs.declared.calls.Callees.{Callees}

-- the functions that a function names
abbrev pub callees_at : List Callees → ℕ → List ℕ
callees_at calls function = unwrap_or (option_map (λ c. c.functions.items) (slice_get calls function)) []

abbrev pub Names : List Callees → ℕ → ℕ → Type 0
Names calls caller callee = Contains (callees_at calls caller) callee

-- the function is the main one, or one that is needed names it
pub data IsNeeded (calls : List Callees) (main : ℕ) : ℕ → Type 0 where
  itself : IsNeeded calls main main
  named : (caller callee : ℕ) → IsNeeded calls main caller → Names calls caller callee → IsNeeded calls main callee

-- no needed function names itself, neither at once nor through others (MISRA C:2012, rule 17.2): each stands above those that it names
pub record IsLayered (calls : List Callees) (main : ℕ) : Type 0 where
  pub height : ℕ → ℕ
  pub known : (caller callee : ℕ) → IsNeeded calls main caller → Names calls caller callee → callee < length calls
  pub above : (caller callee : ℕ) → IsNeeded calls main caller → Names calls caller callee → height callee < height caller

-- each needed function has one place, behind those that it names
pub record IsOrder (calls : List Callees) (main : ℕ) (order : List ℕ) : Type 0 where
  pub each : (function : ℕ) → IsNeeded calls main function → Contains order function
  pub one : (a b function : ℕ) → slice_get order a ≡ Some function → slice_get order b ≡ Some function → a ≡ b
  pub only : (place function : ℕ) → slice_get order place ≡ Some function → (function < length calls) × IsNeeded calls main function
  pub inward : (place function callee : ℕ) → slice_get order place ≡ Some function → Names calls function callee
      → (before : ℕ) × (before < place) × (slice_get order before ≡ Some callee)
