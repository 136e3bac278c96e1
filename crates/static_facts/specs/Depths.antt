-- The depths of one mutex along the paths of a thread, with the remembered outcome of a try call on it.
use Rattle.std.specs.Prelude.{◌≡◌, ◌⊎◌, ℕ, suc, ◌-◌, min, Bool, true, false, List, Option, Some, None}
use Rattle.c_program.specs.declared.action.Local.{Local}
use Rattle.c_program.specs.declared.action.LibraryCall.TheVariants as lib
use Rattle.c_program.specs.declared.action.Act.{Act}
use Rattle.c_program.specs.declared.action.Act.TheVariants as act
use Rattle.c_program.specs.declared.program.Program.{Program}
use Rattle.c_program.specs.Syntax.{act_at}
use Rattle.c_program.specs.Values.{Location}
use Rattle.c_program.specs.Control.{Spot, Point}
use Rattle.path_simulation.specs.Tracks.{Track, IsPossible}
use Rattle.pointer_targets.specs.Names.{Names, MayName, IsExact}
use Rattle.static_facts.specs.Outcomes.{Remembered, remembered_by, kept_behind, follows_outcome}

-- ---- what a call does with the mutex of its first argument

pub data Doing : Type 0 where
  Does_lock : Doing
  Does_unlock : Doing
  Does_destroy : Doing
  -- the local that gets the result
  Does_try : (into : Option Local) → Doing

-- an initialisation finds no owner, and a wait leaves the depth
abbrev pub doing_of : Act → Option Doing
doing_of (act.Library (lib.MutexLock e) into) = Some Does_lock
doing_of (act.Library (lib.MutexUnlock e) into) = Some Does_unlock
doing_of (act.Library (lib.MutexDestroy e) into) = Some Does_destroy
doing_of (act.Library (lib.MutexTryLock e) into) = Some (Does_try into)
doing_of (act.Library (lib.MutexTimedLock e t) into) = Some (Does_try into)
doing_of _ = None

-- ---- one step

-- 8 stands for eight or more
pub record Mark : Type 0 where
  pub depth : ℕ
  pub outcome : Option Remembered

abbrev pub marked : ℕ → Option Remembered → Mark
marked depth outcome = record { depth = depth; outcome = outcome }

abbrev pub one_more : ℕ → ℕ
one_more depth = min (suc depth) 8

abbrev pub DepthMoves : Doing → ℕ → ℕ → Type 0
DepthMoves Does_lock depth behind = behind ≡ one_more depth
DepthMoves Does_unlock depth behind = (behind ≡ depth - 1) ⊎ ((depth ≡ 8) × (behind ≡ 8))
DepthMoves Does_destroy depth behind = behind ≡ 0
DepthMoves (Does_try into) depth behind = behind ≡ one_more depth

abbrev pub IsNoTry : Doing → Type 0
IsNoTry (Does_try into) = ⊥
IsNoTry _ = Unit {0}

-- from a point, by the move at a position
pub data DepthStep (program : Program) (names : Names) (mutex : Location) (point : Point) (pair : ℕ) : Mark → Mark → Type 0 where
  -- no lock, try, unlock or destruction
  passes : (depth : ℕ) (outcome : Option Remembered) → doing_of (act_at program point.spot.action) ≡ None
      → follows_outcome point (act_at program point.spot.action) outcome pair ≡ true
      → DepthStep program names mutex point pair (marked depth outcome) (marked depth (kept_behind point (act_at program point.spot.action) outcome))
  -- a call moves each mutex that its argument may name, and leaves it where the argument is not exact
  moves : (depth behind : ℕ) (outcome : Option Remembered) (doing : Doing) → doing_of (act_at program point.spot.action) ≡ Some doing → IsNoTry doing
      → MayName names point 0 mutex → DepthMoves doing depth behind
      → DepthStep program names mutex point pair (marked depth outcome) (marked behind (kept_behind point (act_at program point.spot.action) outcome))
  leaves : (depth : ℕ) (outcome : Option Remembered) (doing : Doing) → doing_of (act_at program point.spot.action) ≡ Some doing
      → IsNoTry doing → (IsExact names point 0 mutex → ⊥)
      → DepthStep program names mutex point pair (marked depth outcome) (marked depth (kept_behind point (act_at program point.spot.action) outcome))
  -- a try call with an exact argument moves it with outcome success, or leaves it with another outcome
  succeeds : (depth : ℕ) (outcome : Option Remembered) (into : Option Local) → doing_of (act_at program point.spot.action) ≡ Some (Does_try into)
      → IsExact names point 0 mutex
      → DepthStep program names mutex point pair (marked depth outcome) (marked (one_more depth) (remembered_by program point into true))
  fails : (depth : ℕ) (outcome : Option Remembered) (into : Option Local) → doing_of (act_at program point.spot.action) ≡ Some (Does_try into)
      → IsExact names point 0 mutex
      → DepthStep program names mutex point pair (marked depth outcome) (marked depth (remembered_by program point into false))
  -- where it only may name the mutex, an earlier outcome is forgotten
  may_succeed : (depth : ℕ) (outcome : Option Remembered) (into : Option Local) → doing_of (act_at program point.spot.action) ≡ Some (Does_try into)
      → (IsExact names point 0 mutex → ⊥) → MayName names point 0 mutex
      → DepthStep program names mutex point pair (marked depth outcome) (marked (one_more depth) None)
  may_fail : (depth : ℕ) (outcome : Option Remembered) (into : Option Local) → doing_of (act_at program point.spot.action) ≡ Some (Does_try into)
      → (IsExact names point 0 mutex → ⊥) → MayName names point 0 mutex
      → DepthStep program names mutex point pair (marked depth outcome) (marked depth None)
  -- a try call of other mutexes
  elsewhere : (depth : ℕ) (outcome : Option Remembered) (into : Option Local) → doing_of (act_at program point.spot.action) ≡ Some (Does_try into)
      → (MayName names point 0 mutex → ⊥)
      → DepthStep program names mutex point pair (marked depth outcome) (marked depth (kept_behind point (act_at program point.spot.action) outcome))

abbrev pub depths : Program → Names → Location → Track Mark
depths program names mutex = record {
  start = λ thread mark. mark ≡ marked 0 None;
  step = λ point pair before behind. DepthStep program names mutex point pair before behind;
}

-- some path of the thread comes to the point with the depth, before the point's action
abbrev pub MayHold : Program → Names → Location → List Spot → Point → ℕ → Type 0
MayHold program names mutex thread point depth = (outcome : Option Remembered) × IsPossible program (depths program names mutex) thread point (marked depth outcome)

abbrev pub IsSurelyHeld : Program → Names → Location → List Spot → Point → Type 0
IsSurelyHeld program names mutex thread point = MayHold program names mutex thread point 0 → ⊥
