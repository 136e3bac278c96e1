-- Rules 21.26 and 22.19: timed locks of mutexes that are not timed, and condition variables with several mutexes.
use Rattle.std.specs.Prelude.{◌≡◌, ◌≢◌, Bool, true, false, List, Option}
use Rattle.c_program.specs.declared.expression.Expr.{Expr}
use Rattle.c_program.specs.declared.action.Local.{Local}
use Rattle.c_program.specs.declared.action.MutexKind.{MutexKind}
use Rattle.c_program.specs.declared.action.LibraryCall.TheVariants as lib
use Rattle.c_program.specs.declared.action.Act.{Act}
use Rattle.c_program.specs.declared.action.Act.TheVariants as act
use Rattle.c_program.specs.declared.program.Program.{Program}
use Rattle.c_program.specs.Syntax.{act_at}
use Rattle.c_program.specs.Values.{Location}
use Rattle.c_program.specs.Control.{Spot, Point}
use Rattle.c_program.specs.Faults.{A_mutex, A_condition}
use Rattle.static_facts.specs.Facts.{Facts}
use Rattle.static_facts.specs.Points.{IsReachable}
use Rattle.static_facts.specs.Candidates.{IsCandidate}

-- ---- Rule 21.26

abbrev pub is_timed_lock : Act → Bool
is_timed_lock (act.Library (lib.MutexTimedLock e t) into) = true
is_timed_lock _ = false

-- some reachable `mtx_init` that may name it has no timed kind
pub record MayBeUntimed (program : Program) (facts : Facts) (location : Location) : Type 0 where
  pub thread : List Spot
  pub point : Point
  pub reachable : IsReachable program thread point
  pub expression : Expr
  pub kind : MutexKind
  pub into : Option Local
  pub is_init : act_at program point.spot.action ≡ act.Library (lib.MutexInit expression kind) into
  pub candidate : IsCandidate program facts.names point 0 A_mutex location
  pub is_untimed : kind.is_timed ≡ false

-- `kind`: a candidate of a timed lock that may not be timed
pub record LocksUntimed (program : Program) (facts : Facts) (thread : List Spot) (point : Point) (location : Location) : Type 0 where
  pub reachable : IsReachable program thread point
  pub locks : is_timed_lock (act_at program point.spot.action) ≡ true
  pub candidate : IsCandidate program facts.names point 0 A_mutex location
  pub may_be : MayBeUntimed program facts location

-- ---- Rule 22.19

abbrev pub is_wait : Act → Bool
is_wait (act.Library (lib.ConditionWait e d) into) = true
is_wait (act.Library (lib.ConditionTimedWait e d t) into) = true
is_wait _ = false

-- a reachable wait of some thread that may name the condition variable and the mutex
pub record MayWait (program : Program) (facts : Facts) (thread : List Spot) (point : Point) (condition mutex : Location) : Type 0 where
  pub reachable : IsReachable program thread point
  pub waits : is_wait (act_at program point.spot.action) ≡ true
  pub names : IsCandidate program facts.names point 0 A_condition condition
  pub with_mutex : IsCandidate program facts.names point 1 A_mutex mutex

-- the waits on a condition variable have two candidate mutexes
pub record HasTwoMutexes (program : Program) (facts : Facts) (condition : Location) : Type 0 where
  pub thread : List Spot
  pub point : Point
  pub mutex : Location
  pub waits : MayWait program facts thread point condition mutex
  pub other_thread : List Spot
  pub other : Point
  pub other_mutex : Location
  pub other_waits : MayWait program facts other_thread other condition other_mutex
  pub differ : mutex ≢ other_mutex

-- `second`: a candidate condition variable of a wait whose waits have two candidate mutexes
pub record WaitsWithSecond (program : Program) (facts : Facts) (thread : List Spot) (point : Point) (condition : Location) : Type 0 where
  pub reachable : IsReachable program thread point
  pub waits : is_wait (act_at program point.spot.action) ≡ true
  pub candidate : IsCandidate program facts.names point 0 A_condition condition
  pub two : HasTwoMutexes program facts condition
