-- For each guideline that a run may break, a text.
use Rattle.std.specs.Prelude.{[], ◌∷◌, None}
use Rattle.c_program.specs.declared.types.Base.TheVariants as base
use Rattle.c_program.specs.declared.types.Integer.TheVariants.{Int}
use Rattle.c_program.specs.declared.expression.Expr.{Object}
use Rattle.c_program.specs.declared.action.Local.{Local}
use Rattle.c_program.specs.declared.action.MemoryOrder.TheVariants.{Relaxed}
use Rattle.c_program.specs.declared.action.AtomicOperation.TheVariants.{Load}
use Rattle.c_program.specs.declared.action.LibraryCall.TheVariants as lib
use Rattle.c_program.specs.declared.action.Touched.TheVariants as touched
use Rattle.c_program.specs.declared.action.Act.TheVariants.{Write, Touch, Declare, Library, Turn}
use Rattle.c_program.specs.declared.statement.Statement.{Do}
use Rattle.c_program.specs.declared.program.Program.{Program}
use Rattle.c_program.specs.Syntax.{c_int, Loop}
use Rattle.c_program.specs.Lists.{Block}
use Rattle.c_program.specs.Types.{plain_type}
use Rattle.litmus.specs.Pieces.{at, automatic_object, m, n, c, k, s, x, z, own, main, program_of, straight, in_w, in_main, number, null, return_0, idle, init, lock, unlock, destroy, wait, open_condition, create, join, detach}

-- w: x = 2;    main: (void)thrd_create(&t, w, NULL); x = 1;
abbrev pub two_writes : Program
two_writes = straight [] (in_w 27 (Write (Object x) c_int (number 2)) ∷ in_w 34 return_0 ∷ [])
    (in_main 24 create ∷ in_main 50 (Write (Object x) c_int (number 1)) ∷ in_main 57 return_0 ∷ [])

-- w: (void)mtx_lock(&m);    main: (void)mtx_init(&m, mtx_plain); (void)mtx_lock(&m); (void)thrd_create(&t, w, NULL); (void)thrd_join(t, NULL);
abbrev pub join_of_a_locker : Program
join_of_a_locker = straight [] (in_w 33 (lock m) ∷ in_w 47 return_0 ∷ [])
    (in_main 24 (init m) ∷ in_main 55 (lock m) ∷ in_main 75 create ∷ in_main 107 join ∷ in_main 127 return_0 ∷ [])

-- main: for (;;) { (void)thrd_create(&t, w, NULL); }
abbrev pub creation_in_a_loop : Program
creation_in_a_loop = program_of [] (Block (Do 0 ∷ [])) (Block (Loop (Block (Do 1 ∷ Do 2 ∷ [])) (Block []) ∷ Do 3 ∷ []))
    (in_w 28 return_0 ∷ in_main 18 Turn ∷ in_main 35 create ∷ in_main 63 return_0 ∷ [])

-- main: (void)atomic_load_explicit(&z, memory_order_relaxed);
abbrev pub relaxed_load : Program
relaxed_load = straight [] idle (in_main 24 (Library (lib.Atomic (record {
  operation = Load;
  object = Object z;
  integer = Int;
  expected = null;
  operand = null;
  orders = Relaxed ∷ [];
})) None) ∷ in_main 72 return_0 ∷ [])

-- main: (void)mtx_init(&m, mtx_plain); (void)mtx_timedlock(&m, &s);
abbrev pub timed_lock_of_a_plain_mutex : Program
timed_lock_of_a_plain_mutex = straight [] idle
    (in_main 24 (init m) ∷ in_main 55 (Library (lib.MutexTimedLock (Object m) (Object s)) None) ∷ in_main 78 return_0 ∷ [])

-- main: (void)thrd_create(&t, w, NULL); (void)thrd_detach(t); (void)thrd_detach(t);
abbrev pub two_detaches : Program
two_detaches = straight [] idle (in_main 24 create ∷ in_main 56 detach ∷ in_main 78 detach ∷ in_main 94 return_0 ∷ [])

-- main: m = n;
abbrev pub fresh_mutex : Local
fresh_mutex = record { object = own; path = []; c_type = plain_type base.Mutex }

abbrev pub copied_mutex : Program
copied_mutex = straight (automatic_object [] (at 5 22) (plain_type base.Mutex) main ∷ []) idle
    (in_main 22 (Touch (Object n) (plain_type base.Mutex) (touched.Read fresh_mutex))
    ∷ in_main 18 (Touch (Object m) (plain_type base.Mutex) (touched.Write fresh_mutex)) ∷ in_main 25 return_0 ∷ [])

-- main: mtx_t q;
abbrev pub automatic_mutex : Program
automatic_mutex = straight (automatic_object (113 ∷ []) (at 5 24) (plain_type base.Mutex) main ∷ []) idle (in_main 24 (Declare own) ∷ in_main 27 return_0 ∷ [])

-- main: (void)mtx_lock(&m);
abbrev pub lock_before_init : Program
lock_before_init = straight [] idle (in_main 24 (lock m) ∷ in_main 38 return_0 ∷ [])

-- main: (void)mtx_init(&m, mtx_plain); mtx_destroy(&m); (void)mtx_lock(&m);
abbrev pub lock_after_destroy : Program
lock_after_destroy = straight [] idle (in_main 24 (init m) ∷ in_main 49 (destroy m) ∷ in_main 72 (lock m) ∷ in_main 86 return_0 ∷ [])

-- main: (void)mtx_init(&m, mtx_plain); (void)mtx_lock(&m);
abbrev pub end_as_owner : Program
end_as_owner = straight [] idle (in_main 24 (init m) ∷ in_main 55 (lock m) ∷ in_main 69 return_0 ∷ [])

-- main: (void)mtx_init(&m, mtx_plain); (void)mtx_unlock(&m);
abbrev pub unlock_without_lock : Program
unlock_without_lock = straight [] idle (in_main 24 (init m) ∷ in_main 55 (unlock m) ∷ in_main 71 return_0 ∷ [])

-- main: (void)mtx_init(&m, mtx_plain); (void)mtx_lock(&m); (void)mtx_lock(&m);
abbrev pub two_locks : Program
two_locks = straight [] idle (in_main 24 (init m) ∷ in_main 55 (lock m) ∷ in_main 75 (lock m) ∷ in_main 89 return_0 ∷ [])

-- main: (void)mtx_init(&m, mtx_plain); (void)mtx_init(&n, mtx_plain); (void)cnd_init(&c); (void)mtx_lock(&m); (void)mtx_lock(&n);
--       (void)cnd_wait(&c, &m); (void)cnd_wait(&c, &n);
abbrev pub two_mutexes_for_one_condition : Program
two_mutexes_for_one_condition = straight [] idle (in_main 24 (init m) ∷ in_main 55 (init n) ∷ in_main 86 (open_condition c)
    ∷ in_main 106 (lock m) ∷ in_main 126 (lock n) ∷ in_main 146 (wait c m) ∷ in_main 170 (wait c n) ∷ in_main 188 return_0 ∷ [])

-- main: (void)tss_set(k, NULL);
abbrev pub key_before_creation : Program
key_before_creation = straight [] idle (in_main 24 (Library (lib.KeySet (Object k) null) None) ∷ in_main 42 return_0 ∷ [])
