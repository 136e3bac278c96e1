-- Paths over the numbers of points, with what a track follows along them.
use Rattle.std.specs.Prelude.{ℕ, ◌+◌, ◌*◌, Bool, false, slice_index_or}
use Rattle.flow_reach.specs.declared.kept.Reach.{Reach}
use Rattle.flow_reach.specs.Paths.{Transitions, Arrives}
use Rattle.flow_reach.specs.Searches.{IsAskable}
use Rattle.flow_facts.specs.declared.points.Points.{Points}

-- a track answers at each thread and each move between points, in each of its states
abbrev pub IsAskableAt : Points → (ℕ → ℕ → Type 0) → (ℕ → ℕ → ℕ → ℕ → Type 0) → ℕ → Type 0
IsAskableAt points can_start can_step states = IsAskable points.numbered.graph can_start can_step states

-- some path of the point's thread comes to the point in the state
abbrev pub Comes : Points → Transitions → ℕ → ℕ → Type 0
Comes points track point state = Arrives points.numbered.graph track point state

-- what a search tells of a point and a state
abbrev pub may_at : Reach → ℕ → ℕ → Bool
may_at reach point state = slice_index_or reach.marks.items (point * reach.size + state) false
