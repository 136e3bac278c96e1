-- Each access of a request to a mutex, a condition variable or a key is by an argument of the call.
use Rattle.std.proofs.Common.{◌≡◌, refl, Bool, true, false, ◌||◌, ℕ, ℤ, List, [], ◌∷◌, Option, Some, arith}
use Rattle.std.specs.Prelude.{slice_get}
use Rattle.std.specs.List.{list_any, Contains}
use Rattle.c_program.specs.declared.expression.Expr.{Expr}
use Rattle.c_program.specs.declared.action.Local.{Local}
use Rattle.c_program.specs.declared.action.MutexKind.{MutexKind}
use Rattle.c_program.specs.declared.action.LibraryCall.{LibraryCall}
use Rattle.c_program.specs.declared.action.LibraryCall.TheVariants as lib
use Rattle.c_program.specs.declared.action.Act.{Act}
use Rattle.c_program.specs.declared.action.Act.TheVariants as act
use Rattle.c_program.specs.Values.{Cell, Value}
use Rattle.c_program.specs.Evaluation.{Here, place_at}
use Rattle.c_program.specs.Requests.{Request, Creates, Joins, Detaches, Inits, Locks, Tries, Tries_timed, Unlocks, Destroys, Opens, Signals, Waits, Retakes, Closes, Makes_key, Gets_key, Sets_key, Deletes_key}
use Rattle.c_program.specs.Faults.{Sort, A_mutex, A_condition, A_key, A_thread, How, Initialises, Uses, Ends_life, Access, accesses_of}
use Rattle.c_program.specs.Laws.{Names}
use Rattle.static_facts.specs.ObjectStates.{IsNoThread}
use Rattle.static_facts.proofs.Asking.{Leads}
use Rattle.static_facts.proofs.Simulating.{place_typed}
use Rattle.c_program.specs.Counters.{arguments_of}
use Rattle.pointer_targets.specs.LibraryObjects.{type_of_sort, is_of_sort}
use Rattle.static_facts.specs.Candidates.{taken, objects_of}

-- the access is by an argument of the action
pub record IsNamed (here : Here) (action : Act) (how : How) (sort : Sort) (cell : Cell) : Type 0 where
  pub argument : ℕ
  pub has : Contains (objects_of action) (taken argument how sort)
  pub leads : Leads here action sort argument cell

abbrev pub IsNamedAccess : Here → Act → Access → Type 0
IsNamedAccess here action access = IsNoThread access.sort → IsNamed here action access.how access.sort access.cell

abbrev pub EachAccess : (Access → Type 0) → List Access → Type 0
EachAccess P [] = Unit {0}
EachAccess P (x ∷ xs) = P x × EachAccess P xs

-- one that passes a test
pub found_access : (P : Access → Type 0) (test : Access → Bool) (xs : List Access) → EachAccess P xs → list_any test xs ≡ true → (x : Access) × (P x × (test x ≡ true))
found_access P test [] p e = absurd (cc)
found_access P test (x ∷ xs) p e = go (found_access P test xs p.1) (test x) refl e
  where
    go : (list_any test xs ≡ true → (x : Access) × (P x × (test x ≡ true))) → (b : Bool) → test x ≡ b → (b || list_any test xs) ≡ true → (x : Access) × (P x × (test x ≡ true))
    go rest true f e = (x, (p.0, f))
    go rest false f e = rest e

module _ (here : Here) where
  to : (call : LibraryCall) (into : Option Local) (how : How) (sort : Sort) (argument : ℕ) (e : Expr) (c : Cell) → Contains (objects_of (act.Library call into)) (taken argument how sort)
      → slice_get (arguments_of call) argument ≡ Some e → place_at here (type_of_sort sort) e ≡ Some c
      → IsNamed here (act.Library call into) how sort c
  to call into how sort argument e c h s p = record { argument = argument; has = h; leads = record { call = call; into = into; expression = e; is_call = refl; has = s; leads = p } }

  init_named : (action : Act) (m : Cell) (kind : MutexKind) (z : ℤ) → Names here action (Inits m kind z) → IsNamed here action Initialises A_mutex m
  init_named (act.Library (lib.MutexInit e k) into) m kind z n = to (lib.MutexInit e k) into Initialises A_mutex 0 e m (0, omega arith, refl) refl n.0
  init_named _ m kind z n = absurd n

  lock_named : (action : Act) (m : Cell) → Names here action (Locks m) → IsNamed here action Uses A_mutex m
  lock_named (act.Library (lib.MutexLock e) into) m n = to (lib.MutexLock e) into Uses A_mutex 0 e m (0, omega arith, refl) refl n
  lock_named _ m n = absurd n

  try_named : (action : Act) (m : Cell) (z : ℤ) → Names here action (Tries m z) → IsNamed here action Uses A_mutex m
  try_named (act.Library (lib.MutexTryLock e) into) m z n = to (lib.MutexTryLock e) into Uses A_mutex 0 e m (0, omega arith, refl) refl n
  try_named _ m z n = absurd n

  timed_named : (action : Act) (m : Cell) (z : ℤ) → Names here action (Tries_timed m z) → IsNamed here action Uses A_mutex m
  timed_named (act.Library (lib.MutexTimedLock e t) into) m z n = to (lib.MutexTimedLock e t) into Uses A_mutex 0 e m (0, omega arith, refl) refl n
  timed_named _ m z n = absurd n

  unlock_named : (action : Act) (m : Cell) → Names here action (Unlocks m) → IsNamed here action Uses A_mutex m
  unlock_named (act.Library (lib.MutexUnlock e) into) m n = to (lib.MutexUnlock e) into Uses A_mutex 0 e m (0, omega arith, refl) refl n
  unlock_named _ m n = absurd n

  destroy_named : (action : Act) (m : Cell) → Names here action (Destroys m) → IsNamed here action Ends_life A_mutex m
  destroy_named (act.Library (lib.MutexDestroy e) into) m n = to (lib.MutexDestroy e) into Ends_life A_mutex 0 e m (0, omega arith, refl) refl n
  destroy_named _ m n = absurd n

  open_named : (action : Act) (c : Cell) (z : ℤ) → Names here action (Opens c z) → IsNamed here action Initialises A_condition c
  open_named (act.Library (lib.ConditionInit e) into) c z n = to (lib.ConditionInit e) into Initialises A_condition 0 e c (0, omega arith, refl) refl n
  open_named _ c z n = absurd n

  close_named : (action : Act) (c : Cell) → Names here action (Closes c) → IsNamed here action Ends_life A_condition c
  close_named (act.Library (lib.ConditionDestroy e) into) c n = to (lib.ConditionDestroy e) into Ends_life A_condition 0 e c (0, omega arith, refl) refl n
  close_named _ c n = absurd n

  signal_named : (action : Act) (c : Cell) → Names here action (Signals c) → IsNamed here action Uses A_condition c
  signal_named (act.Library (lib.ConditionSignal e) into) c n = to (lib.ConditionSignal e) into Uses A_condition 0 e c (0, omega arith, refl) refl n
  signal_named (act.Library (lib.ConditionBroadcast e) into) c n = to (lib.ConditionBroadcast e) into Uses A_condition 0 e c (0, omega arith, refl) refl n
  signal_named _ c n = absurd n

  wait_named : (action : Act) (c m : Cell) → Names here action (Waits c m) → IsNamed here action Uses A_condition c × IsNamed here action Uses A_mutex m
  wait_named (act.Library (lib.ConditionWait e d) into) c m n = (to (lib.ConditionWait e d) into Uses A_condition 0 e c (0, omega arith, refl) refl n.0, to (lib.ConditionWait e d) into Uses A_mutex 1 d m (1, omega arith, refl) refl n.1)
  wait_named (act.Library (lib.ConditionTimedWait e d t) into) c m n =
      (to (lib.ConditionTimedWait e d t) into Uses A_condition 0 e c (0, omega arith, refl) refl n.0, to (lib.ConditionTimedWait e d t) into Uses A_mutex 1 d m (1, omega arith, refl) refl n.1)
  wait_named _ c m n = absurd n

  make_named : (action : Act) (k : Cell) (z : ℤ) → Names here action (Makes_key k z) → IsNamed here action Initialises A_key k
  make_named (act.Library (lib.KeyCreate e) into) k z n = to (lib.KeyCreate e) into Initialises A_key 0 e k (0, omega arith, refl) refl n
  make_named _ k z n = absurd n

  get_named : (action : Act) (k : Cell) → Names here action (Gets_key k) → IsNamed here action Uses A_key k
  get_named (act.Library (lib.KeyGet e) into) k n = to (lib.KeyGet e) into Uses A_key 0 e k (0, omega arith, refl) refl n
  get_named _ k n = absurd n

  set_named : (action : Act) (k : Cell) (v : Value) → Names here action (Sets_key k v) → IsNamed here action Uses A_key k
  set_named (act.Library (lib.KeySet e d) into) k v n = to (lib.KeySet e d) into Uses A_key 0 e k (0, omega arith, refl) refl n
  set_named _ k v n = absurd n

  delete_named : (action : Act) (k : Cell) → Names here action (Deletes_key k) → IsNamed here action Ends_life A_key k
  delete_named (act.Library (lib.KeyDelete e) into) k n = to (lib.KeyDelete e) into Ends_life A_key 0 e k (0, omega arith, refl) refl n
  delete_named _ k n = absurd n

  -- ---- what is accessed is of the sort of the access

  typed : (action : Act) (how : How) (sort : Sort) (cell : Cell) → IsNamed here action how sort cell → is_of_sort here.program sort cell ≡ true
  typed action how sort cell n = place_typed here (type_of_sort sort) n.leads.expression cell n.leads.leads

  create_typed : (action : Act) (object : Cell) (f : ℕ) (v : Value) (z : ℤ) → Names here action (Creates object f v z) → is_of_sort here.program A_thread object ≡ true
  create_typed (act.Library (lib.ThreadCreate o g e) into) object f v z n = place_typed here (type_of_sort A_thread) o object n.0
  create_typed _ object f v z n = absurd n

  join_typed : (action : Act) (object : Cell) (to : Option Cell) → Names here action (Joins object to) → is_of_sort here.program A_thread object ≡ true
  join_typed (act.Library (lib.ThreadJoin o e) into) object to n = place_typed here (type_of_sort A_thread) o object n
  join_typed _ object to n = absurd n

  detach_typed : (action : Act) (object : Cell) → Names here action (Detaches object) → is_of_sort here.program A_thread object ≡ true
  detach_typed (act.Library (lib.ThreadDetach o) into) object n = place_typed here (type_of_sort A_thread) o object n
  detach_typed _ object n = absurd n

  retake_named : (action : Act) (m : Cell) (z : ℤ) → Names here action (Retakes m z) → ⊥
  retake_named (act.Library (lib.MutexLock e) into) m z n = n
  retake_named _ m z n = n

  pub named_accesses : (action : Act) (request : Request) → Names here action request → EachAccess (IsNamedAccess here action) (accesses_of request)
  named_accesses action (Inits m kind z) n = ((λ t. init_named action m kind z n), tt)
  named_accesses action (Locks m) n = ((λ t. lock_named action m n), tt)
  named_accesses action (Tries m z) n = ((λ t. try_named action m z n), tt)
  named_accesses action (Tries_timed m z) n = ((λ t. timed_named action m z n), tt)
  named_accesses action (Unlocks m) n = ((λ t. unlock_named action m n), tt)
  named_accesses action (Destroys m) n = ((λ t. destroy_named action m n), tt)
  named_accesses action (Opens c z) n = ((λ t. open_named action c z n), tt)
  named_accesses action (Closes c) n = ((λ t. close_named action c n), tt)
  named_accesses action (Signals c) n = ((λ t. signal_named action c n), tt)
  named_accesses action (Waits c m) n = ((λ t. (wait_named action c m n).0), ((λ t. (wait_named action c m n).1), tt))
  named_accesses action (Makes_key k z) n = ((λ t. make_named action k z n), tt)
  named_accesses action (Gets_key k) n = ((λ t. get_named action k n), tt)
  named_accesses action (Sets_key k v) n = ((λ t. set_named action k v n), tt)
  named_accesses action (Deletes_key k) n = ((λ t. delete_named action k n), tt)
  named_accesses action (Retakes m z) n = absurd (retake_named action m z n)
  named_accesses action (Creates object f v z) n = ((λ t. absurd t), tt)
  named_accesses action (Joins object into) n = ((λ t. absurd t), tt)
  named_accesses action (Detaches object) n = ((λ t. absurd t), tt)
  named_accesses action _ n = tt

  abbrev pub IsTypedAccess : Access → Type 0
  IsTypedAccess access = is_of_sort here.program access.sort access.cell ≡ true

  pub typed_accesses : (action : Act) (request : Request) → Names here action request → EachAccess IsTypedAccess (accesses_of request)
  typed_accesses action (Inits m kind z) n = (typed action Initialises A_mutex m (init_named action m kind z n), tt)
  typed_accesses action (Locks m) n = (typed action Uses A_mutex m (lock_named action m n), tt)
  typed_accesses action (Tries m z) n = (typed action Uses A_mutex m (try_named action m z n), tt)
  typed_accesses action (Tries_timed m z) n = (typed action Uses A_mutex m (timed_named action m z n), tt)
  typed_accesses action (Unlocks m) n = (typed action Uses A_mutex m (unlock_named action m n), tt)
  typed_accesses action (Destroys m) n = (typed action Ends_life A_mutex m (destroy_named action m n), tt)
  typed_accesses action (Opens c z) n = (typed action Initialises A_condition c (open_named action c z n), tt)
  typed_accesses action (Closes c) n = (typed action Ends_life A_condition c (close_named action c n), tt)
  typed_accesses action (Signals c) n = (typed action Uses A_condition c (signal_named action c n), tt)
  typed_accesses action (Waits c m) n = (typed action Uses A_condition c (wait_named action c m n).0, (typed action Uses A_mutex m (wait_named action c m n).1, tt))
  typed_accesses action (Makes_key k z) n = (typed action Initialises A_key k (make_named action k z n), tt)
  typed_accesses action (Gets_key k) n = (typed action Uses A_key k (get_named action k n), tt)
  typed_accesses action (Sets_key k v) n = (typed action Uses A_key k (set_named action k v n), tt)
  typed_accesses action (Deletes_key k) n = (typed action Ends_life A_key k (delete_named action k n), tt)
  typed_accesses action (Retakes m z) n = absurd (retake_named action m z n)
  typed_accesses action (Creates object f v z) n = (create_typed action object f v z n, tt)
  typed_accesses action (Joins object into) n = (join_typed action object into n, tt)
  typed_accesses action (Detaches object) n = (detach_typed action object n, tt)
  typed_accesses action _ n = tt

-- both of each
pub both_each : (P Q : Access → Type 0) (xs : List Access) → EachAccess P xs → EachAccess Q xs → EachAccess (λ x. P x × Q x) xs
both_each P Q [] p q = tt
both_each P Q (x ∷ xs) p q = ((p.0, q.0), both_each P Q xs p.1 q.1)
