-- What stands in a graph.
use Rattle.std.specs.Prelude.{◌≡◌, ℕ, ◌+◌, ◌<◌, ◌≤◌, ◌^◌, List, [], Option, Some, slice_get, option_map, unwrap_or, length}
use Rattle.std.specs.List.{range_with_len}
use Rattle.flow_points.specs.declared.transfer.Transfer.{Transfer}
use Rattle.flow_points.specs.declared.transfer.Transfer.TheVariants.{Exit}
use Rattle.flow_points.specs.Transfers.{callee_of}
use Rattle.flow_points.specs.declared.graph.Function.{Function}
use Rattle.flow_points.specs.declared.graph.Graph.{Graph}

abbrev pub function_at : Graph → ℕ → Option Function
function_at graph function = slice_get graph.functions.items function

-- the first action of a function, and how many it has
abbrev pub first_of : Graph → ℕ → ℕ
first_of graph function = unwrap_or (option_map (λ f. f.first) (function_at graph function)) 0

abbrev pub length_of : Graph → ℕ → ℕ
length_of graph function = unwrap_or (option_map (λ f. f.length) (function_at graph function)) 0

-- the actions of a function, in the order of the text
abbrev pub actions_of : Graph → ℕ → List ℕ
actions_of graph function = range_with_len (first_of graph function) (length_of graph function)

abbrev pub transfer_at : Graph → ℕ → Transfer
transfer_at graph action = unwrap_or (option_map (λ node. node.transfer) (slice_get graph.nodes.items action)) Exit

-- the actions that may come next in the same function
abbrev pub next_at : Graph → ℕ → List ℕ
next_at graph action = unwrap_or (option_map (λ node. node.next.items) (slice_get graph.nodes.items action)) []

-- the action that a call of the function comes to
abbrev pub entry_of : Graph → ℕ → ℕ
entry_of graph function = unwrap_or (option_map (λ f. f.entry) (function_at graph function)) 0

-- the function has the action
abbrev pub Has : Graph → ℕ → ℕ → Type 0
Has graph function action = (first_of graph function ≤ action) × (action < first_of graph function + length_of graph function)

-- the functions that are called come first, their actions follow each other, and control stays in its function
pub record IsGraph (graph : Graph) : Type 0 where
  pub main : graph.main < length graph.functions.items
  pub opens : first_of graph 0 ≡ 0
  pub follows : (n : ℕ) → n + 1 < length graph.functions.items → first_of graph (n + 1) ≡ first_of graph n + length_of graph n
  pub within : (n : ℕ) → first_of graph n + length_of graph n ≤ length graph.nodes.items
  pub callees : (n action callee : ℕ) → Has graph n action → callee_of (transfer_at graph action) ≡ Some callee → callee < n
  pub entries : (n : ℕ) → n < length graph.functions.items → Has graph n (entry_of graph n)
  pub stays : (n action k next : ℕ) → Has graph n action → slice_get (next_at graph action) k ≡ Some next → Has graph n next
  pub small : length graph.nodes.items < 2 ^ 32
  pub functions : length graph.functions.items < 2 ^ 32
  pub few : (action : ℕ) → length (next_at graph action) < 2 ^ 32
