-- The states of one library object along the paths of the initial thread, with the remembered outcome of the call that
-- begins it: a creation of a thread or a key, or an initialisation.
use Rattle.std.specs.Prelude.{◌≡◌, ◌⊎◌, ℕ, true, false, List, [], Option, Some, None}
use Rattle.c_program.specs.declared.program.Program.{Program}
use Rattle.c_program.specs.Syntax.{act_at}
use Rattle.c_program.specs.Values.{Location}
use Rattle.c_program.specs.Control.{Spot, Point}
use Rattle.c_program.specs.Faults.{Sort}
use Rattle.path_simulation.specs.Tracks.{Track, IsPossible}
use Rattle.pointer_targets.specs.Names.{Names, MayName, IsExact}
use Rattle.static_facts.specs.Outcomes.{Remembered, remembered_by, kept_behind, follows_outcome}
use Rattle.static_facts.specs.ObjectStates.{ObjectState, Is_unmade, Is_live, Doing, Begins, doing_of, result_of_call, changed}

-- a created thread follows no object
pub data Mark : Type 0 where
  Follows_none : Mark
  At : (state : ObjectState) (outcome : Option Remembered) → Mark

abbrev pub IsNoStart : Doing → Type 0
IsNoStart Begins = ⊥
IsNoStart _ = Unit {0}

-- from a point, by the move at a position
pub data ObjectStep (program : Program) (names : Names) (sort : Sort) (object : Location) (point : Point) (pair : ℕ) : Mark → Mark → Type 0 where
  follows_none : ObjectStep program names sort object point pair Follows_none Follows_none
  -- no call that begins, joins, detaches or ends an object of the sort
  passes : (state : ObjectState) (outcome : Option Remembered) → doing_of sort (act_at program point.spot.action) ≡ None
      → follows_outcome point (act_at program point.spot.action) outcome pair ≡ true
      → ObjectStep program names sort object point pair (At state outcome) (At state (kept_behind point (act_at program point.spot.action) outcome))
  -- a call moves each object that its argument may name, and leaves it where the argument is not exact
  moves : (state : ObjectState) (outcome : Option Remembered) (doing : Doing) → doing_of sort (act_at program point.spot.action) ≡ Some doing → IsNoStart doing
      → MayName names point 0 object
      → ObjectStep program names sort object point pair (At state outcome) (At (changed doing state) (kept_behind point (act_at program point.spot.action) outcome))
  leaves : (state : ObjectState) (outcome : Option Remembered) (doing : Doing) → doing_of sort (act_at program point.spot.action) ≡ Some doing → IsNoStart doing
      → (IsExact names point 0 object → ⊥)
      → ObjectStep program names sort object point pair (At state outcome) (At state (kept_behind point (act_at program point.spot.action) outcome))
  -- a call that begins the exact object makes it live with outcome success, or leaves it with another outcome
  succeeds : (state : ObjectState) (outcome : Option Remembered) → doing_of sort (act_at program point.spot.action) ≡ Some Begins → IsExact names point 0 object
      → ObjectStep program names sort object point pair (At state outcome) (At Is_live (remembered_by program point (result_of_call (act_at program point.spot.action)) true))
  fails : (state : ObjectState) (outcome : Option Remembered) → doing_of sort (act_at program point.spot.action) ≡ Some Begins → IsExact names point 0 object
      → ObjectStep program names sort object point pair (At state outcome) (At state (remembered_by program point (result_of_call (act_at program point.spot.action)) false))
  -- where it only may name the object, an earlier outcome is forgotten
  may_succeed : (state : ObjectState) (outcome : Option Remembered) → doing_of sort (act_at program point.spot.action) ≡ Some Begins
      → (IsExact names point 0 object → ⊥) → MayName names point 0 object
      → ObjectStep program names sort object point pair (At state outcome) (At Is_live None)
  may_fail : (state : ObjectState) (outcome : Option Remembered) → doing_of sort (act_at program point.spot.action) ≡ Some Begins
      → (IsExact names point 0 object → ⊥) → MayName names point 0 object
      → ObjectStep program names sort object point pair (At state outcome) (At state None)
  -- a call that begins other objects
  elsewhere : (state : ObjectState) (outcome : Option Remembered) → doing_of sort (act_at program point.spot.action) ≡ Some Begins
      → (MayName names point 0 object → ⊥)
      → ObjectStep program names sort object point pair (At state outcome) (At state (kept_behind point (act_at program point.spot.action) outcome))

-- the initial thread, whose call string is empty, starts with each object unmade
abbrev pub Starts : List Spot → Mark → Type 0
Starts thread mark = ((thread ≡ []) × (mark ≡ At Is_unmade None)) ⊎ ((thread ≡ [] → ⊥) × (mark ≡ Follows_none))

abbrev pub states : Program → Names → Sort → Location → Track Mark
states program names sort object = record {
  start = λ thread mark. Starts thread mark;
  step = λ point pair before behind. ObjectStep program names sort object point pair before behind;
}

-- some path of the initial thread comes to the point with the object in the state, before the point's action
abbrev pub MayBeAlong : Program → Names → Sort → Location → Point → ObjectState → Type 0
MayBeAlong program names sort object point state = (outcome : Option Remembered) × IsPossible program (states program names sort object) [] point (At state outcome)
