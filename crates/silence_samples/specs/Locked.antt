-- A text whose two threads write an object under one mutex, and its exact answers.
use Rattle.std.specs.Prelude.{ℕ, nat_lt, Bool, true, false, not, ◌&&◌, ◌==◌, if◌then◌else◌, List, [], ◌∷◌, Option, Some, None}
use Rattle.c_program.specs.declared.expression.Expr.{Object}
use Rattle.c_program.specs.declared.action.LibraryCall.TheVariants as lib
use Rattle.c_program.specs.declared.action.Act.{Act}
use Rattle.c_program.specs.declared.action.Act.TheVariants.{Write, Library}
use Rattle.c_program.specs.declared.program.Program.{Program}
use Rattle.c_program.specs.Syntax.{c_int, act_at}
use Rattle.c_program.specs.Values.{Location}
use Rattle.c_program.specs.Control.{Round, Spot, Point}
use Rattle.c_program.specs.Faults.{Sort, A_mutex, A_condition, A_key, A_thread}
use Rattle.static_facts.specs.ObjectStates.{ObjectState, Is_unmade, Is_live}
use Rattle.static_facts.specs.Facts.{Facts}
use Rattle.litmus.specs.Pieces.{m, t, x, straight, in_w, in_main, number, return_0, init, lock, unlock, create}
use Rattle.silence_samples.specs.Samples.{static}

-- w: (void)mtx_lock(&m); x = 2; (void)mtx_unlock(&m);
-- main: (void)mtx_init(&m, mtx_plain); (void)thrd_create(&t, w, NULL); (void)mtx_lock(&m); x = 1; (void)mtx_unlock(&m);
abbrev pub locked_writes : Program
locked_writes = straight []
    (in_w 33 (lock m) ∷ in_w 47 (Write (Object x) c_int (number 2)) ∷ in_w 60 (unlock m) ∷ in_w 76 return_0 ∷ [])
    (in_main 24 (init m) ∷ in_main 55 create ∷ in_main 87 (lock m) ∷ in_main 101 (Write (Object x) c_int (number 1)) ∷ in_main 114 (unlock m) ∷ in_main 130 return_0 ∷ [])

-- the actions of w are 0 to 3, and those of main 4 to 9: the creation is 5

-- ---- names and accesses: each call names one whole object, and each write writes one

abbrev pub is_whole : List (Option ℕ) → Bool
is_whole [] = true
is_whole (step ∷ steps) = false

abbrev pub is_object : ℕ → Location → Bool
is_object object location = (location.object == object) && is_whole location.steps

abbrev pub is_named : Act → Location → Bool
is_named (Library (lib.MutexInit (Object n) kind) into) location = is_object n location
is_named (Library (lib.MutexLock (Object n)) into) location = is_object n location
is_named (Library (lib.MutexUnlock (Object n)) into) location = is_object n location
is_named (Library (lib.ThreadCreate (Object n) f e) into) location = is_object n location
is_named _ location = false

abbrev pub is_written : Act → Location → Bool
is_written (Write (Object n) type value) location = is_object n location
is_written _ location = false

-- ---- states: before an action of main, the mutex may be live behind its initialisation, and the thread behind its creation

abbrev pub may_have_begun : Sort → Location → ℕ → Bool
may_have_begun A_mutex location action = is_object m location && nat_lt 4 action
may_have_begun A_thread location action = is_object t location && nat_lt 5 action
may_have_begun A_condition location action = false
may_have_begun A_key location action = false

abbrev pub is_possible : ObjectState → Bool → Bool
is_possible Is_unmade begun = true
is_possible Is_live begun = begun
is_possible _ begun = false

abbrev pub is_initial : List Spot → Bool
is_initial [] = true
is_initial (spot ∷ thread) = false

-- ---- order: with the thread are ordered its own steps, and those of main up to the creation

abbrev pub is_before_thread : Point → Bool
is_before_thread point = not (nat_lt 5 point.spot.action)

abbrev pub are_ordered : List Spot → Point → List Spot → Point → Bool
are_ordered [] p [] q = true
are_ordered [] p (spot ∷ thread) q = is_before_thread p
are_ordered (spot ∷ thread) p [] q = is_before_thread q
are_ordered (spot ∷ thread) p (other ∷ threads) q = true

abbrev pub is_straight : List Round → Bool
is_straight [] = true
is_straight (round ∷ rounds) = false

abbrev pub plain_of : List Spot → Option Location
plain_of [] = None
plain_of (spot ∷ []) = if (spot.action == 5) && is_straight spot.rounds then Some (static t) else None
plain_of (spot ∷ other ∷ thread) = None

abbrev pub locked_facts : Facts
locked_facts = record {
  names = record {
    may_name = λ point argument location. is_named (act_at locked_writes point.spot.action) location && (argument == 0);
    is_exact = λ point argument location. is_named (act_at locked_writes point.spot.action) location && (argument == 0);
  };
  accesses = λ point region manner. is_written (act_at locked_writes point.spot.action) region && (manner.writes && not manner.is_atomic);
  ordered = λ s p t q. are_ordered s p t q;
  thread_may_be = λ thread point object state. is_initial thread && is_possible state (may_have_begun A_thread object point.spot.action);
  plain_object = λ thread. plain_of thread;
  life_may_be = λ thread point sort location state. is_possible state (may_have_begun sort location (if is_initial thread then point.spot.action else 5));
}
