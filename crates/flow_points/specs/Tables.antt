-- The tables from which numbers are computed.
use Rattle.std.specs.Prelude.{◌≡◌, ℕ, suc, ◌<◌, ◌≤◌, ◌+◌, List, [], slice_index, option_map, unwrap_or, length, take, min}
use Rattle.std.specs.List.{sum_by}
use Rattle.flow_points.specs.declared.graph.Graph.{Graph}
use Rattle.flow_points.specs.Transfers.{callee_of}
use Rattle.flow_points.specs.Graphs.{first_of, length_of, actions_of, transfer_at}
use Rattle.flow_points.specs.PointLists.{points_from}

-- how many points a function has, with all that it calls
unfoldable pub size_of : Graph → ℕ → ℕ
size_of graph function = length (points_from graph (suc function) [] function)

-- how many points an action has, with all that it calls
abbrev pub weight_of : Graph → ℕ → ℕ
weight_of graph action = suc (unwrap_or (option_map (size_of graph) (callee_of (transfer_at graph action))) 0)

-- how many points the first k actions of a function have
unfoldable pub points_before : Graph → ℕ → ℕ → ℕ
points_before graph function k = sum_by (weight_of graph) (take k (actions_of graph function))

-- numbers stop here
abbrev pub cap : ℕ
cap = 4000000001

-- the entries of the first functions
abbrev pub HasTotals : Graph → List ℕ → Type 0
HasTotals graph totals = (n : ℕ) → n < length totals → slice_index totals n ≡ min cap (size_of graph n)

-- the entries of a function's actions
pub record HasBefore (graph : Graph) (before : List ℕ) (n : ℕ) : Type 0 where
  pub within : first_of graph n + length_of graph n ≤ length before
  pub each : (k : ℕ) → k < length_of graph n → slice_index before (first_of graph n + k) ≡ min cap (points_before graph n k)

-- what a list has at its places the other one has there too
abbrev pub Extends : List ℕ → List ℕ → Type 0
Extends xs ys = (length xs ≤ length ys) × ((k : ℕ) → k < length xs → slice_index ys k ≡ slice_index xs k)

-- the one list has an entry for each action, the other for each function
pub record IsCounted (graph : Graph) (before totals : List ℕ) : Type 0 where
  pub actions : (n : ℕ) → n < length graph.functions.items → HasBefore graph before n
  pub functions : HasTotals graph totals
  pub all : length totals ≡ length graph.functions.items
