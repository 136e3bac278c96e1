-- Paths of one thread, each condition taken freely, with what is followed along them.
use Rattle.std.specs.Prelude.{◌≡◌, ◌==◌, ◌<◌, ℕ, Bool, true, List, [], ◌∷◌, Some, slice_get}
use Rattle.flow_points.specs.declared.graph.Graph.{Graph}
use Rattle.flow_points.specs.PointLists.{Point, IsAt, point_at, next_points}
use Rattle.flow_points.specs.Threads.{entry_point, count_of_threads}

-- a stop of a path: a point by its number, and the state in which the path comes there
pub record Stop : Type 0 where
  pub point : ℕ
  pub state : ℕ

-- What is followed along paths: the states in which a thread may start,
-- and the states after a move from one point to a next one.
pub record Transitions : Type 0 where
  pub start : ℕ → ℕ → Bool
  pub step : ℕ → ℕ → ℕ → ℕ → Bool

-- one of the moves from a point leads to a next one
pub record LeadsBy (graph : Graph) (point k next : ℕ) : Type 0 where
  pub goal : Point
  pub move : slice_get (next_points graph (point_at graph point)) k ≡ Some goal
  pub there : IsAt graph next goal

abbrev pub Leads : Graph → ℕ → ℕ → Type 0
Leads graph point next = (k : ℕ) × LeadsBy graph point k next

-- the thread begins at the point
pub record Begins (graph : Graph) (thread point : ℕ) : Type 0 where
  pub thread_is : thread < count_of_threads graph
  pub there : IsAt graph point (entry_point graph thread)

-- a path of the thread, its last stop first
abbrev pub IsPath : Graph → Transitions → ℕ → List Stop → Type 0
IsPath graph track thread [] = ⊥
IsPath graph track thread (stop ∷ []) = Begins graph thread stop.point × (track.start thread stop.state ≡ true)
IsPath graph track thread (stop ∷ last ∷ stops) =
    Leads graph last.point stop.point
    × (track.step last.point stop.point last.state stop.state ≡ true)
    × IsPath graph track thread (last ∷ stops)

-- some path of the thread comes to the point in the state
abbrev pub Comes : Graph → Transitions → ℕ → ℕ → ℕ → Type 0
Comes graph track thread point state = (stops : List Stop) × IsPath graph track thread (record { point = point; state = state } ∷ stops)

-- some thread comes to the point in the state
abbrev pub Arrives : Graph → Transitions → ℕ → ℕ → Type 0
Arrives graph track point state = (thread : ℕ) × Comes graph track thread point state

-- a track of one state, for paths alone
abbrev pub plain : Transitions
plain = record { start = λ thread state. state == 0; step = λ point next state after. after == 0 }

-- a path comes to the point
abbrev pub IsReached : Graph → ℕ → Type 0
IsReached graph point = Arrives graph plain point 0
