-- Marks of functions.
use Rattle.std.specs.Prelude.{◌≡◌, ◌<◌, ◌⊎◌, ℕ, Bool, true, false, List, slice_index_or, length}
use Rattle.std.specs.List.{Contains, sum_by}
use Rattle.call_order.specs.declared.calls.Callees.{Callees}
use Rattle.call_order.specs.Orders.{Names, IsNeeded}

abbrev pub IsMarked : List Bool → ℕ → Type 0
IsMarked marks function = slice_index_or marks function false ≡ true

abbrev pub left_at : Bool → ℕ
left_at true = 0
left_at false = 1

-- how many are not marked
abbrev pub unmarked : List Bool → ℕ
unmarked marks = sum_by left_at marks

-- more are marked, or nothing is changed
abbrev pub Grows : List Bool → List Bool → Bool → Type 0
Grows old new true = unmarked new < unmarked old
Grows old new false = new ≡ old

-- what is marked stays marked
pub record IsMore (old new : List Bool) (grew : Bool) : Type 0 where
  pub long : length new ≡ length old
  pub kept : (function : ℕ) → IsMarked old function → IsMarked new function
  pub grows : Grows old new grew

-- these functions are marked, and no others
pub record IsWith (old new : List Bool) (functions : List ℕ) : Type 0 where
  pub all : (function : ℕ) → Contains functions function → function < length old → IsMarked new function
  pub only : (function : ℕ) → IsMarked new function → IsMarked old function ⊎ Contains functions function

abbrev pub AllNeeded : List Callees → ℕ → List Bool → Type 0
AllNeeded calls main marks = (function : ℕ) → IsMarked marks function → IsNeeded calls main function

-- what one of the first functions names is marked, if that one is
abbrev pub IsClosedBelow : List Callees → List Bool → ℕ → Type 0
IsClosedBelow calls marks n = (function callee : ℕ) → function < n → IsMarked marks function → Names calls function callee → callee < length marks → IsMarked marks callee

-- the marks of the needed functions of a table
pub record AreNeeded (calls : List Callees) (main : ℕ) (marks : List Bool) : Type 0 where
  pub long : length marks ≡ length calls
  pub all : (function : ℕ) → IsNeeded calls main function → function < length calls → IsMarked marks function
  pub only : AllNeeded calls main marks
