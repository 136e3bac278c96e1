-- What a search over the points of a program has marked.
use Rattle.std.specs.Prelude.{◌≡◌, ℕ, ◌+◌, ◌*◌, ◌<◌, ◌≤◌, Bool, true, false, ◌⊎◌, length, slice_index_or, vec_len}
use Rattle.std.specs.List.{Contains, sum_by}
use Rattle.flow_points.specs.declared.graph.Graph.{Graph}
use Rattle.flow_points.specs.PointLists.{points_of}
use Rattle.flow_points.specs.Threads.{count_of_threads}
use Rattle.flow_reach.specs.Paths.{Transitions, Leads, Begins, Arrives}
use Rattle.flow_reach.specs.declared.kept.Reach.{Reach}

abbrev pub IsMarked : Reach → ℕ → ℕ → Type 0
IsMarked search point state = slice_index_or search.marks.items (point * search.size + state) false ≡ true

abbrev pub IsQueued : Reach → ℕ → ℕ → Type 0
IsQueued search point state = Contains search.work.items (record { point = point; state = state })

abbrev pub left_at : Bool → ℕ
left_at true = 0
left_at false = 1

abbrev pub unmarked : Reach → ℕ
unmarked search = sum_by left_at search.marks.items

-- what is left to do
abbrev pub effort : Reach → ℕ
effort search = 2 * unmarked search + vec_len search.work

-- Marks are added and put into the queue, and no other.
pub record Grows (old new : Reach) : Type 0 where
  pub size : new.size ≡ old.size
  pub points : new.points ≡ old.points
  pub kept : (point state : ℕ) → IsMarked old point state → IsMarked new point state
  pub queue : (point state : ℕ) → IsQueued old point state → IsQueued new point state
  pub queued : (point state : ℕ) → point < old.points → state < old.size → IsMarked new point state → IsMarked old point state ⊎ IsQueued new point state
  pub from_queue : (point state : ℕ) → IsQueued new point state → IsQueued old point state ⊎ ((point < old.points) × (state < old.size) × IsMarked new point state)
  pub effort : effort new ≤ effort old

-- what is queued is marked
abbrev pub IsFine : Reach → Type 0
IsFine search = (point state : ℕ) → IsQueued search point state → (point < search.points) × (state < search.size) × IsMarked search point state

-- paths come wherever there is a mark
abbrev pub IsSound : Graph → Transitions → Reach → Type 0
IsSound graph track search = (point state : ℕ) → point < search.points → state < search.size → IsMarked search point state → Arrives graph track point state

-- each step on from here is marked
abbrev pub IsDone : Graph → Transitions → Reach → ℕ → ℕ → Type 0
IsDone graph track search point state = (next after : ℕ) → Leads graph point next → track.step point next state after ≡ true → IsMarked search next after

-- each mark is queued or done
abbrev pub IsClosed : Graph → Transitions → Reach → Type 0
IsClosed graph track search = (point state : ℕ) → point < search.points → state < search.size → IsMarked search point state
    → IsQueued search point state ⊎ IsDone graph track search point state

-- each thread's start is marked
abbrev pub IsStarted : Graph → Transitions → Reach → Type 0
IsStarted graph track search = (thread entry state : ℕ) → Begins graph thread entry → track.start thread state ≡ true → IsMarked search entry state

-- the search is about this program and this track
pub record Suits (graph : Graph) (states : ℕ) (search : Reach) : Type 0 where
  pub points : search.points ≡ length (points_of graph)
  pub size : search.size ≡ states

-- a track answers at each thread and each move between points, in each of its states
pub record IsAskable (graph : Graph) (can_start : ℕ → ℕ → Type 0) (can_step : ℕ → ℕ → ℕ → ℕ → Type 0) (states : ℕ) : Type 0 where
  pub starts : (thread state : ℕ) → thread < count_of_threads graph → state < states → can_start thread state
  pub steps : (point next state after : ℕ) → Leads graph point next → state < states → after < states → can_step point next state after
