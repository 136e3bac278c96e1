-- The threads of a program: the initial one, and one for each creation point.
use Rattle.std.specs.Prelude.{◌≡◌, ◌<◌, ℕ, zero, suc, Bool, true, false, cond, List, [], ◌∷◌, filter, Option, Some, None, slice_index, length, unwrap_or}
use Rattle.std.specs.List.{range_with_len}
use Rattle.flow_points.specs.declared.transfer.Transfer.{Transfer}
use Rattle.flow_points.specs.declared.transfer.Transfer.TheVariants.{Create}
use Rattle.flow_points.specs.Transfers.{callee_of}
use Rattle.flow_points.specs.declared.graph.Graph.{Graph}
use Rattle.flow_points.specs.Graphs.{transfer_at, entry_of}
use Rattle.flow_points.specs.PointLists.{Point, at, points_of, point_at, behind}
use Rattle.flow_points.specs.Strings.{LeadsTo}

abbrev pub creates : Transfer → Bool
creates (Create function) = true
creates _ = false

-- whether a number is that of a creation point
abbrev pub is_creation : Graph → ℕ → Bool
is_creation graph number = creates (transfer_at graph (point_at graph number).action)

-- the creation points in their order
unfoldable pub creations_of : Graph → List ℕ
creations_of graph = filter (is_creation graph) (range_with_len 0 (length (points_of graph)))

-- where a creation's thread begins
abbrev pub first_of_created : Graph → Point → Point
first_of_created graph point = at (point.action ∷ point.string) (entry_of graph (unwrap_or (callee_of (transfer_at graph point.action)) 0))

-- where a thread begins
abbrev pub entry_point : Graph → ℕ → Point
entry_point graph zero = at [] (entry_of graph graph.main)
entry_point graph (suc thread) = first_of_created graph (point_at graph (slice_index (creations_of graph) thread))

abbrev pub count_of_threads : Graph → ℕ
count_of_threads graph = suc (length (creations_of graph))

-- the part of a call string that its thread began with, from the innermost creation outward
abbrev pub origin_of : Graph → List ℕ → List ℕ
origin_of graph [] = []
origin_of graph (action ∷ string) = cond (creates (transfer_at graph action)) (action ∷ string) (origin_of graph string)

-- the creation point, if any, at which a call string's thread began
abbrev pub BeganBy : Graph → List ℕ → Option ℕ → Type 0
BeganBy graph string None = origin_of graph string ≡ []
BeganBy graph string (Some number) = (number < length (points_of graph)) × (is_creation graph number ≡ true) × (origin_of graph string ≡ (point_at graph number).action ∷ (point_at graph number).string)

-- the thread of a point
pub record IsThreadOf (graph : Graph) (number thread : ℕ) : Type 0 where
  pub exists : thread < count_of_threads graph
  pub began : origin_of graph (point_at graph number).string ≡ (entry_point graph thread).string

-- the thread that a creation point makes
pub record IsMade (graph : Graph) (creation thread : ℕ) : Type 0 where
  pub exists : thread < count_of_threads graph
  pub began : (entry_point graph thread).string ≡ (point_at graph creation).action ∷ (point_at graph creation).string

-- the function with which a thread begins, and whose return leads nowhere
pub record ThreadBegins (graph : Graph) (thread : ℕ) : Type 0 where
  pub function : ℕ
  pub leads : LeadsTo graph (entry_point graph thread).string function
  pub entry : (entry_point graph thread).action ≡ entry_of graph function
  pub ends : behind graph (entry_point graph thread).string ≡ []

abbrev pub EachThreadBegins : Graph → Type 0
EachThreadBegins graph = (thread : ℕ) → thread < count_of_threads graph → ThreadBegins graph thread
