-- Rules 22.16, 22.17 and 22.18: mutexes that are kept, given up by another thread than their owner, or locked again.
use Rattle.std.specs.Prelude.{◌≡◌, ℕ, ◌<◌, true, false, List, Option, Some, None}
use Rattle.c_program.specs.declared.expression.Expr.{Expr}
use Rattle.c_program.specs.declared.action.Local.{Local}
use Rattle.c_program.specs.declared.action.MutexKind.{MutexKind}
use Rattle.c_program.specs.declared.action.LibraryCall.TheVariants as lib
use Rattle.c_program.specs.declared.action.Act.{Act}
use Rattle.c_program.specs.declared.action.Act.TheVariants as act
use Rattle.c_program.specs.declared.program.Program.{Program}
use Rattle.c_program.specs.Syntax.{act_at}
use Rattle.c_program.specs.Values.{Location}
use Rattle.c_program.specs.Control.{Spot, Point}
use Rattle.c_program.specs.Faults.{A_mutex}
use Rattle.pointer_targets.specs.Names.{Names}
use Rattle.pointer_targets.specs.LibraryObjects.{IsLocationOf}
use Rattle.static_facts.specs.Points.{IsReachable}
use Rattle.static_facts.specs.Candidates.{IsCandidate}
use Rattle.static_facts.specs.Depths.{MayHold}

-- a depth of 1 or more is possible
abbrev pub MayOwn : Program → Names → Location → List Spot → Point → Type 0
MayOwn program names location thread point = (depth : ℕ) × ((0 < depth) × MayHold program names location thread point depth)

-- ---- Rule 22.17, `unlock` and `wait`

-- the argument of an unlock or a wait
abbrev pub gives_up : Act → Option ℕ
gives_up (act.Library (lib.MutexUnlock e) into) = Some 0
gives_up (act.Library (lib.ConditionWait e d) into) = Some 1
gives_up (act.Library (lib.ConditionTimedWait e d t) into) = Some 1
gives_up _ = None

pub record IsUnlockedUnowned (program : Program) (names : Names) (thread : List Spot) (point : Point) (location : Location) : Type 0 where
  pub argument : ℕ
  pub gives : gives_up (act_at program point.spot.action) ≡ Some argument
  pub candidate : IsCandidate program names point argument A_mutex location
  pub may_be_free : MayHold program names location thread point 0

-- ---- Rule 22.18, `again`

-- the argument of a lock or a timed lock
abbrev pub locks : Act → Option ℕ
locks (act.Library (lib.MutexLock e) into) = Some 0
locks (act.Library (lib.MutexTimedLock e t) into) = Some 0
locks _ = None

-- some reachable `mtx_init` that may name it has no recursive kind
pub record MayBePlain (program : Program) (names : Names) (location : Location) : Type 0 where
  pub thread : List Spot
  pub point : Point
  pub reachable : IsReachable program thread point
  pub expression : Expr
  pub kind : MutexKind
  pub into : Option Local
  pub is_init : act_at program point.spot.action ≡ act.Library (lib.MutexInit expression kind) into
  pub candidate : IsCandidate program names point 0 A_mutex location
  pub is_plain : kind.is_recursive ≡ false

pub record IsLockedAgain (program : Program) (names : Names) (thread : List Spot) (point : Point) (location : Location) : Type 0 where
  pub argument : ℕ
  pub locks_it : locks (act_at program point.spot.action) ≡ Some argument
  pub candidate : IsCandidate program names point argument A_mutex location
  pub may_own : MayOwn program names location thread point
  pub may_be_plain : MayBePlain program names location

-- ---- Rule 22.16, `end` and `destroyed`

abbrev pub destroys : Act → Option ℕ
destroys (act.Library (lib.MutexDestroy e) into) = Some 0
destroys _ = None

-- a return of the thread's first function, the end of its body, or `thrd_exit`
abbrev pub EndsAt : List Spot → Point → Act → Type 0
EndsAt thread point (act.Return value) = point.string ≡ thread
EndsAt thread point act.End = point.string ≡ thread
EndsAt thread point (act.Library (lib.ThreadExit e) into) = Unit {0}
EndsAt thread point _ = ⊥

pub record IsKeptAtEnd (program : Program) (names : Names) (thread : List Spot) (point : Point) (location : Location) : Type 0 where
  pub ends : EndsAt thread point (act_at program point.spot.action)
  pub of_mutex : IsLocationOf program A_mutex location
  pub may_own : MayOwn program names location thread point

pub record IsDestroyedOwned (program : Program) (names : Names) (thread : List Spot) (point : Point) (location : Location) : Type 0 where
  pub argument : ℕ
  pub destroys_it : destroys (act_at program point.spot.action) ≡ Some argument
  pub candidate : IsCandidate program names point argument A_mutex location
  pub may_own : MayOwn program names location thread point
