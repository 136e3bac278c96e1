-- A finding of a waiting cycle in a small program: two threads lock two mutexes in opposite order.
use Rattle.std.proofs.Common.{◌≡◌, ◌≢◌, refl, sym, ap, ◌==◌, Bool, true, false, ℕ, ◌<◌, List, [], ◌∷◌, None, inl, inr, arith}
use Rattle.std.specs.Prelude.{pos}
use Rattle.c_program.specs.declared.types.Base.TheVariants.{Thread, Mutex as MutexType}
use Rattle.c_program.specs.declared.expression.Expr.{Constant, Object}
use Rattle.c_program.specs.declared.action.Act.TheVariants.{Library}
use Rattle.c_program.specs.declared.action.LibraryCall.TheVariants.{ThreadCreate, MutexLock}
use Rattle.c_program.specs.declared.statement.Statement.{Statement, Do}
use Rattle.misra_base.specs.declared.guideline.Guideline.TheVariants.{D5_2}
use Rattle.c_program.specs.declared.program.Program.{Program}
use Rattle.c_program.specs.Syntax.{act_at, body_at}
use Rattle.c_program.specs.Types.{plain_type}
use Rattle.c_program.specs.Values.{Static, Location}
use Rattle.c_program.specs.Control.{Control, Run, Move, Spot, Point, entered}
use Rattle.c_program.specs.Faults.{A_mutex}
use Rattle.c_program.specs.Paths.{LeadsTo, initial, by_creation, spots_of}
use Rattle.c_program.proofs.Build.{action, return_0, static_object, argument, function, block2, block3}
use Rattle.c_program.proofs.Members.{to_contains}
use Rattle.path_simulation.specs.Tracks.{at_entry, by_move}
use Rattle.static_facts.specs.Depths.{Does_lock, marked, passes, moves}
use Rattle.guideline_findings.specs.Ownership.{MayOwn}
use Rattle.static_facts.specs.Facts.{Facts}
use Rattle.guideline_findings.specs.Graph.{Of_mutex, wants_mutex, has_mutex, EdgeAt, Edge}
use Rattle.guideline_findings.specs.Text.{place_of}
use Rattle.guideline_findings.specs.Findings.{Finding, own, cycle, Named_location}
use Rattle.misra_base.specs.declared.kind.Kind.TheVariants as kinds
use Rattle.static_facts.specs.Points.{IsReachable}
use Rattle.static_facts.specs.Candidates.{IsCandidate}

abbrev rest : Statement
rest = block2 (Do 2) (Do 3)

-- mtx_t a, b; thrd_t t; int w(void *arg) { mtx_lock(&b); mtx_lock(&a); return 0; }
-- int main(void) { thrd_create(&t, w, NULL); mtx_lock(&a); mtx_lock(&b); return 0; }
abbrev locker : Program
locker = record {
  structures = [];
  objects = static_object (plain_type MutexType) ∷ static_object (plain_type MutexType) ∷ static_object (plain_type Thread) ∷ argument ∷ [];
  functions = function [] (block3 (Do 0) (Do 1) rest) ∷ function (3 ∷ []) (block3 (Do 4) (Do 5) (Do 6)) ∷ [];
  actions = action (Library (ThreadCreate (Object 2) 1 (Constant (pos 0))) None)
      ∷ action (Library (MutexLock (Object 0)) None) ∷ action (Library (MutexLock (Object 1)) None) ∷ return_0
      ∷ action (Library (MutexLock (Object 1)) None) ∷ action (Library (MutexLock (Object 0)) None) ∷ return_0 ∷ [];
  main = 0;
}

abbrev spot : ℕ → Spot
spot number = record { action = number; rounds = [] }

abbrev names_object : ℕ → ℕ → Bool
names_object number object = if_lock (number == 1) (number == 2) (number == 4) (number == 5)
  where
    if_lock : Bool → Bool → Bool → Bool → Bool
    if_lock true second third fourth = object == 0
    if_lock false true third fourth = object == 1
    if_lock false false true fourth = object == 1
    if_lock false false false true = object == 0
    if_lock false false false false = object == 2

abbrev facts : Facts
facts = record {
  names = record { may_name = λ point argument location. names_object point.spot.action location.object; is_exact = λ point argument location. names_object point.spot.action location.object };
  accesses = λ point region manner. false;
  ordered = λ s p t q. false;
  thread_may_be = λ thread point object state. true;
  plain_object = λ thread. None;
  life_may_be = λ thread point sort location state. false;
}

abbrev worker : List Spot
worker = spot 0 ∷ []

abbrev a : Location
a = record { object = 0; steps = [] }

abbrev b : Location
b = record { object = 1; steps = [] }

abbrev move : ℕ → Control → Move
move number left = record { action = number; left = left }

abbrev main_point : Point
main_point = record { string = []; spot = spot 2 }

abbrev worker_point : Point
worker_point = record { string = worker; spot = spot 5 }

leads : LeadsTo locker worker worker 1
unfolding act_at
leads = by_creation [] [] 0 (spot 0) 1 (Object 2) (Constant (pos 0)) None initial (to_contains (spot 0) (spots_of [] (body_at locker 0)) (inl refl)) refl

some_depth : 0 < 1
some_depth = omega arith

-- main owns a before it locks b
main_owns : MayOwn locker facts.names a [] main_point
unfolding act_at
main_owns = (
  1,
  (
    some_depth,
    (
      None,
      record {
        function = 0;
        leads = initial;
        control = Run rest ∷ [];
        move = move 2 (Run (Do 3) ∷ []);
        comes = by_move (Run (Do 1) ∷ Run rest ∷ []) 0 (move 1 (Run rest ∷ [])) (marked 0 None) (marked 1 None)
            (by_move (entered locker 0) 0 (move 0 (Run (Do 1) ∷ Run rest ∷ [])) (marked 0 None) (marked 0 None) (at_entry (marked 0 None) refl) refl (passes 0 None refl refl))
            refl (moves 0 1 None Does_lock refl tt refl refl);
        offers = (0, refl);
        here = refl;
      },
    ),
  ),
)

-- the other thread owns b before it locks a
worker_owns : MayOwn locker facts.names b worker worker_point
unfolding act_at
worker_owns = (
  1,
  (
    some_depth,
    (
      None,
      record {
        function = 1;
        leads = leads;
        control = Run (Do 5) ∷ Run (Do 6) ∷ [];
        move = move 5 (Run (Do 6) ∷ []);
        comes = by_move (entered locker 1) 0 (move 4 (Run (Do 5) ∷ Run (Do 6) ∷ [])) (marked 0 None) (marked 1 None) (at_entry (marked 0 None) refl) refl (moves 0 1 None Does_lock refl tt refl refl);
        offers = (0, refl);
        here = refl;
      },
    ),
  ),
)

main_reachable : IsReachable locker [] main_point
unfolding act_at
main_reachable = record {
  function = 0;
  leads = initial;
  reached = (
    Run rest ∷ [],
    move 2 (Run (Do 3) ∷ []),
    (
      record { control = Run (Do 1) ∷ Run rest ∷ []; state = 0 } ∷ record { control = entered locker 0; state = 0 } ∷ [],
      ((move 1 (Run rest ∷ []), (0, refl), refl, refl), ((move 0 (Run (Do 1) ∷ Run rest ∷ []), (0, refl), refl, refl), (refl, refl))),
    ),
    (0, refl),
    refl,
  );
}

worker_reachable : IsReachable locker worker worker_point
unfolding act_at
worker_reachable = record {
  function = 1;
  leads = leads;
  reached = (
    Run (Do 5) ∷ Run (Do 6) ∷ [],
    move 5 (Run (Do 6) ∷ []),
    (record { control = entered locker 1; state = 0 } ∷ [], ((move 4 (Run (Do 5) ∷ Run (Do 6) ∷ []), (0, refl), refl, refl), (refl, refl))),
    (0, refl),
    refl,
  );
}

no_number : (m n : ℕ) → m < n → m ≡ n → ⊥
no_number m n l e = omega arith

object_in : Location → ℕ
object_in l = l.object

a_differs : a ≢ b
unfolding object_in
a_differs e = no_number 0 1 (omega arith) (ap object_in e)

b_differs : b ≢ a
unfolding object_in
b_differs e = no_number 0 1 (omega arith) (ap object_in (sym e))

b_candidate : IsCandidate locker facts.names main_point 0 A_mutex b
b_candidate = record { named = refl; cell = record { root = Static 1; path = [] }; here = refl; of_sort = refl }

a_candidate : IsCandidate locker facts.names worker_point 0 A_mutex a
a_candidate = record { named = refl; cell = record { root = Static 0; path = [] }; here = refl; of_sort = refl }

forth : EdgeAt locker facts [] main_point b (Of_mutex a) (Of_mutex b)
unfolding act_at
forth = record { reachable = main_reachable; has = has_mutex a main_owns; wants = wants_mutex 0 b refl b_candidate; between = a_differs }

back : Edge locker facts (Of_mutex b) (Of_mutex a)
unfolding act_at
back = record {
  thread = worker;
  point = worker_point;
  object = a;
  is = record { reachable = worker_reachable; has = has_mutex b worker_owns; wants = wants_mutex 0 a refl a_candidate; between = b_differs };
}

pub has_finding : Finding locker facts D5_2 (place_of locker 2) (Named_location b) kinds.Cycle None
has_finding = own _ _ _ _ (cycle [] main_point b (record { from = Of_mutex a; to = Of_mutex b; edge = forth; cycle = record { between = []; back = inr back } }))
