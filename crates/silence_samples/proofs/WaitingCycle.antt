-- Whatever the sound answers, Directive 5.2 has a finding where `main` owns a mutex and joins a thread that locks it.
use Rattle.std.proofs.Common.{◌≢◌, refl, inl, inr, ℕ, ◌<◌, List, [], ◌∷◌, None, arith}
use Rattle.misra_base.specs.declared.guideline.Guideline.TheVariants.{D5_2}
use Rattle.misra_base.specs.declared.kind.Kind.TheVariants as kinds
use Rattle.c_program.specs.declared.expression.Expr.{Object}
use Rattle.c_program.specs.declared.action.LibraryCall.TheVariants as lib
use Rattle.c_program.specs.declared.statement.Statement.{Do}
use Rattle.c_program.specs.Syntax.{act_at, body_at}
use Rattle.c_program.specs.Values.{Static}
use Rattle.c_program.specs.Control.{Control, Run, Move, Spot, Point, entered}
use Rattle.c_program.specs.Faults.{A_mutex, A_thread}
use Rattle.c_program.specs.Requests.{mutex_type, thread_type}
use Rattle.c_program.specs.Paths.{LeadsTo, initial, by_creation, spots_of, IsPoint}
use Rattle.c_program.proofs.Members.{to_contains}
use Rattle.path_simulation.specs.Tracks.{at_entry, by_move}
use Rattle.pointer_targets.specs.Places.{Of_all}
use Rattle.pointer_targets.specs.PointsTo
use Rattle.pointer_targets.specs.Candidates.{MayName}
use Rattle.static_facts.specs.Points.{IsReachable}
use Rattle.static_facts.specs.Candidates.{IsCandidate}
use Rattle.static_facts.specs.Depths.{Does_lock, marked, passes, moves}
use Rattle.static_facts.specs.Facts.{Facts}
use Rattle.static_facts.specs.Analyses.{AreSound}
use Rattle.guideline_findings.specs.Ownership.{MayOwn}
use Rattle.guideline_findings.specs.Graph.{Of_mutex, Of_end, wants_mutex, wants_end, has_mutex, has_end, EdgeAt, Edge}
use Rattle.guideline_findings.specs.Findings.{Finding, own, cycle, Named_location}
use Rattle.litmus.specs.Pieces.{at, m, t, w, main, null}
use Rattle.litmus.specs.Guidelines.{join_of_a_locker}
use Rattle.silence_samples.specs.Samples.{static}

abbrev spot : ℕ → Spot
spot number = record { action = number; rounds = [] }

-- the thread that is made at the creation
abbrev worker : List Spot
worker = spot 4 ∷ []

abbrev move : ℕ → Control → Move
move number left = record { action = number; left = left }

abbrev in_main : ℕ → Point
in_main number = record { string = []; spot = spot number }

abbrev worker_lock : Point
worker_lock = record { string = worker; spot = spot 0 }

leads : LeadsTo join_of_a_locker worker worker w
unfolding act_at
leads = by_creation [] [] main (spot 4) w (Object t) null None initial (to_contains (spot 4) (spots_of [] (body_at join_of_a_locker main)) (inr (inr (inl refl)))) refl

lock_point : IsPoint join_of_a_locker [] (in_main 3)
lock_point = record { function = main; leads = initial; has = to_contains (spot 3) (spots_of [] (body_at join_of_a_locker main)) (inr (inl refl)) }

creation_point : IsPoint join_of_a_locker [] (in_main 4)
creation_point = record { function = main; leads = initial; has = to_contains (spot 4) (spots_of [] (body_at join_of_a_locker main)) (inr (inr (inl refl))) }

join_point : IsPoint join_of_a_locker [] (in_main 5)
join_point = record { function = main; leads = initial; has = to_contains (spot 5) (spots_of [] (body_at join_of_a_locker main)) (inr (inr (inr (inl refl)))) }

worker_point : IsPoint join_of_a_locker worker worker_lock
worker_point = record { function = w; leads = leads; has = to_contains (spot 0) (spots_of [] (body_at join_of_a_locker w)) (inl refl) }

-- ---- what the calls name

lock_names : MayName join_of_a_locker (in_main 3) 0 (static m)
unfolding act_at
lock_names = record {
  place = record { site = Of_all m; path = [] };
  means = record { expression = Object m; is = record { call = lib.MutexLock (Object m); into = None; is_call = refl; has = refl }; names = PointsTo.object [] [] m };
  no_array = record { own = mutex_type; has_type = refl; no_sizes = refl };
  at = refl;
}

other_lock_names : MayName join_of_a_locker worker_lock 0 (static m)
unfolding act_at
other_lock_names = record {
  place = record { site = Of_all m; path = [] };
  means = record { expression = Object m; is = record { call = lib.MutexLock (Object m); into = None; is_call = refl; has = refl }; names = PointsTo.object worker [] m };
  no_array = record { own = mutex_type; has_type = refl; no_sizes = refl };
  at = refl;
}

creation_names : MayName join_of_a_locker (in_main 4) 0 (static t)
unfolding act_at
creation_names = record {
  place = record { site = Of_all t; path = [] };
  means = record { expression = Object t; is = record { call = lib.ThreadCreate (Object t) w null; into = None; is_call = refl; has = refl }; names = PointsTo.object [] [] t };
  no_array = record { own = thread_type; has_type = refl; no_sizes = refl };
  at = refl;
}

join_names : MayName join_of_a_locker (in_main 5) 0 (static t)
unfolding act_at
join_names = record {
  place = record { site = Of_all t; path = [] };
  means = record { expression = Object t; is = record { call = lib.ThreadJoin (Object t) null; into = None; is_call = refl; has = refl }; names = PointsTo.object [] [] t };
  no_array = record { own = thread_type; has_type = refl; no_sizes = refl };
  at = refl;
}

-- ---- the points are reached

abbrev before_lock : Control
before_lock = Run (Do 3) ∷ Run (Do 4) ∷ Run (Do 5) ∷ Run (Do 6) ∷ []

abbrev before_create : Control
before_create = Run (Do 4) ∷ Run (Do 5) ∷ Run (Do 6) ∷ []

abbrev before_join : Control
before_join = Run (Do 5) ∷ Run (Do 6) ∷ []

main_reachable : IsReachable join_of_a_locker [] (in_main 5)
unfolding act_at
main_reachable = record {
  function = main;
  leads = initial;
  reached = (
    before_join,
    move 5 (Run (Do 6) ∷ []),
    (
      record { control = before_create; state = 0 } ∷ record { control = before_lock; state = 0 } ∷ record { control = entered join_of_a_locker main; state = 0 } ∷ [],
      ((move 4 before_join, (0, refl), refl, refl), ((move 3 before_create, (0, refl), refl, refl), ((move 2 before_lock, (0, refl), refl, refl), (refl, refl)))),
    ),
    (0, refl),
    refl,
  );
}

worker_reachable : IsReachable join_of_a_locker worker worker_lock
unfolding act_at
worker_reachable = record { function = w; leads = leads; reached = (entered join_of_a_locker w, move 0 (Run (Do 1) ∷ []), ([], (refl, refl)), (0, refl), refl) }

some_depth : 0 < 1
some_depth = omega arith

some_thread : worker ≢ []
some_thread e = cc

module _ (facts : Facts) (sound : AreSound join_of_a_locker facts) where
  -- main owns the mutex where it joins
  main_owns : MayOwn join_of_a_locker facts.names (static m) [] (in_main 5)
  unfolding act_at
  main_owns = (
    1,
    (
      some_depth,
      (
        None,
        record {
          function = main;
          leads = initial;
          control = before_join;
          move = move 5 (Run (Do 6) ∷ []);
          comes = by_move before_create 0 (move 4 before_join) (marked 1 None) (marked 1 None)
              (by_move before_lock 0 (move 3 before_create) (marked 0 None) (marked 1 None)
              (by_move (entered join_of_a_locker main) 0 (move 2 before_lock) (marked 0 None) (marked 0 None) (at_entry (marked 0 None) refl) refl (passes 0 None refl refl))
              refl (moves 0 1 None Does_lock refl tt (sound.names.may_name [] (in_main 3) 0 (static m) lock_point lock_names) refl))
              refl (passes 1 None refl refl);
          offers = (0, refl);
          here = refl;
        },
      ),
    ),
  )

  mutex_candidate : IsCandidate join_of_a_locker facts.names worker_lock 0 A_mutex (static m)
  mutex_candidate = record { named = sound.names.may_name worker worker_lock 0 (static m) worker_point other_lock_names; cell = record { root = Static m; path = [] }; here = refl; of_sort = refl }

  created : IsCandidate join_of_a_locker facts.names (in_main 4) 0 A_thread (static t)
  created = record { named = sound.names.may_name [] (in_main 4) 0 (static t) creation_point creation_names; cell = record { root = Static t; path = [] }; here = refl; of_sort = refl }

  joined : IsCandidate join_of_a_locker facts.names (in_main 5) 0 A_thread (static t)
  joined = record { named = sound.names.may_name [] (in_main 5) 0 (static t) join_point join_names; cell = record { root = Static t; path = [] }; here = refl; of_sort = refl }

  -- main has the mutex and waits for the end, and the thread has its end and waits for the mutex
  forth : EdgeAt join_of_a_locker facts [] (in_main 5) (static t) (Of_mutex (static m)) (Of_end worker)
  unfolding act_at
  forth = record { reachable = main_reachable; has = has_mutex (static m) main_owns; wants = wants_end (static t) [] (in_main 4) refl joined creation_point refl created; between = tt }

  back : Edge join_of_a_locker facts (Of_end worker) (Of_mutex (static m))
  unfolding act_at
  back = record {
    thread = worker;
    point = worker_lock;
    object = static m;
    is = record { reachable = worker_reachable; has = has_end some_thread; wants = wants_mutex 0 (static m) refl mutex_candidate; between = tt };
  }

  pub has_finding : Finding join_of_a_locker facts D5_2 (at 5 107) (Named_location (static t)) kinds.Cycle None
  unfolding act_at
  has_finding = own _ _ _ _ (cycle [] (in_main 5) (static t) (record { from = Of_mutex (static m); to = Of_end worker; edge = forth; cycle = record { between = []; back = inr back } }))
