-- Paths by functions: what can happen inside a function from an entry state on, and the frames below it.
use Rattle.std.specs.Prelude.{◌≡◌, ◌<◌, ℕ, Bool, true, List, ◌∷◌, Some, slice_get, ◌↔◌}
use Rattle.flow_points.specs.declared.transfer.Transfer.{Transfer}
use Rattle.flow_points.specs.declared.transfer.Transfer.TheVariants.{Next, Call, Create, Return}
use Rattle.flow_points.specs.declared.graph.Graph.{Graph}
use Rattle.flow_points.specs.Graphs.{transfer_at, next_at, entry_of}
use Rattle.flow_points.specs.PointLists.{Point, at, IsAt, point_at}
use Rattle.flow_points.specs.Strings.{LeadsTo}
use Rattle.flow_points.specs.Threads.{entry_point, count_of_threads}
use Rattle.flow_reach.specs.Paths.{Transitions, Leads, Comes}

-- a step by the actions alone
abbrev pub LocalStep : Type 0
LocalStep = ℕ → ℕ → ℕ → ℕ → Bool

-- the track answers the same wherever the actions are the same
abbrev pub IsLocal : Graph → Transitions → LocalStep → Type 0
IsLocal graph track local = (point next state after : ℕ) → Leads graph point next
    → track.step point next state after ≡ local (point_at graph point).action (point_at graph next).action state after

abbrev pub StaysIn : Transfer → Type 0
StaysIn Next = Unit {0}
StaysIn (Create function) = Unit {0}
StaysIn _ = ⊥

-- a function that is entered in one state may come to an action in another, with all that it calls
pub data Inside (graph : Graph) (local : LocalStep) : ℕ → ℕ → ℕ → ℕ → Type 0 where
  begins : (function entry : ℕ) → Inside graph local function entry (entry_of graph function) entry
  goes : (function entry action state k next after : ℕ) → Inside graph local function entry action state → StaysIn (transfer_at graph action)
      → slice_get (next_at graph action) k ≡ Some next → local action next state after ≡ true → Inside graph local function entry next after
  passes : (function entry call state callee inner last left k next after : ℕ) → Inside graph local function entry call state → transfer_at graph call ≡ Call callee
      → local call (entry_of graph callee) state inner ≡ true → Inside graph local callee inner last left → transfer_at graph last ≡ Return
      → slice_get (next_at graph call) k ≡ Some next → local last next left after ≡ true → Inside graph local function entry next after

-- the thread's first function, and functions that are called one from the other, each inside its function
pub data Stacked (graph : Graph) (track : Transitions) (local : LocalStep) (thread : ℕ) : List ℕ → ℕ → ℕ → ℕ → Type 0 where
  bottom : (string : List ℕ) (function entry action state : ℕ) → thread < count_of_threads graph → LeadsTo graph string function → entry_point graph thread ≡ at string (entry_of graph function)
      → track.start thread entry ≡ true → Inside graph local function entry action state → Stacked graph track local thread string function action state
  above : (string : List ℕ) (function call state callee entry action after : ℕ) → Stacked graph track local thread string function call state → transfer_at graph call ≡ Call callee
      → local call (entry_of graph callee) state entry ≡ true → Inside graph local callee entry action after → Stacked graph track local thread (call ∷ string) callee action after

-- a point is reached in a state exactly where its frames lead there
abbrev pub PathsAreStacks : Graph → Transitions → LocalStep → Type 0
PathsAreStacks graph track local = (thread number state : ℕ) (point : Point) → IsAt graph number point
    → Comes graph track thread number state ↔ ((function : ℕ) × Stacked graph track local thread point.string function point.action state)
