-- What each action asks of a mutex.
use Rattle.std.proofs.Common.{◌≡◌, ◌⊎◌, inl, inr, refl, sym, subst, ap, ◌∙◌, Bool, true, false, cond, ◌&&◌, ◌==◌, ℕ, ℤ, List, [], ◌∷◌, Option, Some, None, eq-eqb}
use Rattle.std.specs.Prelude.{if◌then◌else◌, slice_get, option_and_then}
use Rattle.c_program.specs.declared.expression.Expr.{Expr}
use Rattle.c_program.specs.declared.action.Local.{Local}
use Rattle.c_program.specs.declared.action.LibraryCall.{LibraryCall}
use Rattle.c_program.specs.declared.action.LibraryCall.TheVariants as lib
use Rattle.c_program.specs.declared.action.Act.{Act}
use Rattle.c_program.specs.declared.action.Act.TheVariants as act
use Rattle.c_program.specs.Types.{is_zero}
use Rattle.c_program.specs.Types.{same_numbers}
use Rattle.c_program.specs.Values.{Root, Static, Of_thread, Of_frame, Cell, Value, Number, Address, same_root, same_cell}
use Rattle.c_program.specs.State.{State, Frame, Mark}
use Rattle.c_program.specs.Evaluation.{Here, eval, place_at, object_at_type, is_true}
use Rattle.c_program.specs.Requests.{mutex_type, Request, Plain, Creates, Joins, Detaches, Inits, Locks, Tries, Tries_timed, Unlocks, Destroys, Opens, Waits, Retakes, Makes_key, Turn, Goes, Enters, Leaves, Exits, Ask, Asked, asked, retakes}
use Rattle.c_program.specs.Effects.{Sync, Takes, Gives, Kills, Resumes, if_done, marks, sync_of, sync_after}
use Rattle.c_program.specs.Counters.{arguments_of}
use Rattle.c_program.specs.Laws.{Names}
use Rattle.c_program.proofs.Asks.{EachAsk, none_each, one_each, with_each, meant_each, so_each}
use Rattle.pointer_targets.specs.LibraryObjects.{is_of_sort}
use Rattle.static_facts.specs.Depths.{Doing, Does_lock, Does_unlock, Does_destroy, Does_try, doing_of}
use Rattle.c_program.specs.Faults.{A_mutex}

-- an argument of the call leads to the mutex
pub record Leads (here : Here) (action : Act) (argument : ℕ) (m : Cell) : Type 0 where
  pub call : LibraryCall
  pub into : Option Local
  pub expression : Expr
  pub is_call : action ≡ act.Library call into
  pub has : slice_get (arguments_of call) argument ≡ Some expression
  pub leads : place_at here mutex_type expression ≡ Some m

abbrev pub IsTryOf : Cell → ℤ → Request → Type 0
IsTryOf m z request = (request ≡ Tries m z) ⊎ (request ≡ Tries_timed m z)

pub record TriesBy (here : Here) (action : Act) (into : Option Local) (ask : Ask) : Type 0 where
  pub m : Cell
  pub z : ℤ
  pub leads : Leads here action 0 m
  pub asks : IsTryOf m z ask.request
  pub stores : ask.stores ≡ []
  pub result : ask.result ≡ Some (Number z)
  pub local : ask.into ≡ into
  pub goes : ask.turn ≡ Goes

pub record AsksBy (here : Here) (action : Act) (request : Cell → Request) (ask : Ask) : Type 0 where
  pub m : Cell
  pub leads : Leads here action 0 m
  pub asks : ask.request ≡ request m
  pub goes : ask.turn ≡ Goes

abbrev pub ByDoing : Here → Act → Doing → Ask → Type 0
ByDoing here action Does_lock ask = AsksBy here action Locks ask
ByDoing here action Does_unlock ask = AsksBy here action Unlocks ask
ByDoing here action Does_destroy ask = AsksBy here action Destroys ask
ByDoing here action (Does_try into) ask = TriesBy here action into ask

same_doing : (a b : Doing) → Some a ≡ Some b → a ≡ b
same_doing a b e = cc

module _ (here : Here) where
  to : (call : LibraryCall) (into : Option Local) (e : Expr) (m : Cell) → slice_get (arguments_of call) 0 ≡ Some e → place_at here mutex_type e ≡ Some m → Leads here (act.Library call into) 0 m
  to call into e m h p = record { call = call; into = into; expression = e; is_call = refl; has = h; leads = p }

  pub doing_asks : (action : Act) (pair : ℕ) (values : List ℤ) (doing : Doing) → doing_of action ≡ Some doing → EachAsk (ByDoing here action doing) (asked here action pair values)
  unfolding EachAsk
  doing_asks (act.Library (lib.MutexLock e) into) pair values doing q = subst (λ d. EachAsk (ByDoing here (act.Library (lib.MutexLock e) into) d) (asked here (act.Library (lib.MutexLock e) into) pair values)) (same_doing _ _ q)
      (none_each P values _ (with_each P _ _ _ (λ m p. record { m = m; leads = to (lib.MutexLock e) into e m refl p; asks = refl; goes = refl })))
    where
      P : Ask → Type 0
      P = ByDoing here (act.Library (lib.MutexLock e) into) Does_lock
  doing_asks (act.Library (lib.MutexUnlock e) into) pair values doing q = subst (λ d. EachAsk (ByDoing here (act.Library (lib.MutexUnlock e) into) d) (asked here (act.Library (lib.MutexUnlock e) into) pair values)) (same_doing _ _ q)
      (none_each P values _ (with_each P _ _ _ (λ m p. record { m = m; leads = to (lib.MutexUnlock e) into e m refl p; asks = refl; goes = refl })))
    where
      P : Ask → Type 0
      P = ByDoing here (act.Library (lib.MutexUnlock e) into) Does_unlock
  doing_asks (act.Library (lib.MutexDestroy e) into) pair values doing q = subst (λ d. EachAsk (ByDoing here (act.Library (lib.MutexDestroy e) into) d) (asked here (act.Library (lib.MutexDestroy e) into) pair values)) (same_doing _ _ q)
      (none_each P values _ (with_each P _ _ _ (λ m p. record { m = m; leads = to (lib.MutexDestroy e) into e m refl p; asks = refl; goes = refl })))
    where
      P : Ask → Type 0
      P = ByDoing here (act.Library (lib.MutexDestroy e) into) Does_destroy
  doing_asks (act.Library (lib.MutexTryLock e) into) pair values doing q = subst (λ d. EachAsk (ByDoing here (act.Library (lib.MutexTryLock e) into) d) (asked here (act.Library (lib.MutexTryLock e) into) pair values)) (same_doing _ _ q)
      (one_each P _ values _ (λ z. with_each P _ _ _ (λ m p. record { m = m; z = z; leads = to (lib.MutexTryLock e) into e m refl p; asks = inl refl; stores = refl; result = refl; local = refl; goes = refl })))
    where
      P : Ask → Type 0
      P = ByDoing here (act.Library (lib.MutexTryLock e) into) (Does_try into)
  doing_asks (act.Library (lib.MutexTimedLock e t) into) pair values doing q = subst (λ d. EachAsk (ByDoing here (act.Library (lib.MutexTimedLock e t) into) d) (asked here (act.Library (lib.MutexTimedLock e t) into) pair values)) (same_doing _ _ q)
      (one_each P _ values _ (λ z. with_each P _ _ _ (λ m p. with_each P _ _ _ (λ time _. meant_each P _ _ _
      (record { m = m; z = z; leads = to (lib.MutexTimedLock e t) into e m refl p; asks = inr refl; stores = refl; result = refl; local = refl; goes = refl })))))
    where
      P : Ask → Type 0
      P = ByDoing here (act.Library (lib.MutexTimedLock e t) into) (Does_try into)
  doing_asks _ pair values doing q = absurd (cc)

-- ---- what asks for nothing that moves a depth, but to begin

abbrev pub is_quiet : Request → Bool
is_quiet (Locks m) = false
is_quiet (Tries m z) = false
is_quiet (Tries_timed m z) = false
is_quiet (Unlocks m) = false
is_quiet (Destroys m) = false
is_quiet (Retakes m z) = false
is_quiet _ = true

abbrev pub is_quiet_sync : Sync → Bool
is_quiet_sync (Takes m) = false
is_quiet_sync (Gives m) = false
is_quiet_sync (Kills m) = false
is_quiet_sync (Resumes m) = false
is_quiet_sync _ = true

lock_does : (here : Here) (action : Act) (m : Cell) → doing_of action ≡ None → Names here action (Locks m) → ⊥
lock_does here (act.Library (lib.MutexLock e) into) m d n = cc
lock_does here _ m d n = n

try_does : (here : Here) (action : Act) (m : Cell) (z : ℤ) → doing_of action ≡ None → Names here action (Tries m z) → ⊥
try_does here (act.Library (lib.MutexTryLock e) into) m z d n = cc
try_does here _ m z d n = n

timed_does : (here : Here) (action : Act) (m : Cell) (z : ℤ) → doing_of action ≡ None → Names here action (Tries_timed m z) → ⊥
timed_does here (act.Library (lib.MutexTimedLock e t) into) m z d n = cc
timed_does here _ m z d n = n

unlock_does : (here : Here) (action : Act) (m : Cell) → doing_of action ≡ None → Names here action (Unlocks m) → ⊥
unlock_does here (act.Library (lib.MutexUnlock e) into) m d n = cc
unlock_does here _ m d n = n

destroy_does : (here : Here) (action : Act) (m : Cell) → doing_of action ≡ None → Names here action (Destroys m) → ⊥
destroy_does here (act.Library (lib.MutexDestroy e) into) m d n = cc
destroy_does here _ m d n = n

retake_named : (here : Here) (action : Act) (m : Cell) (z : ℤ) → Names here action (Retakes m z) → ⊥
retake_named here (act.Library (lib.MutexLock e) into) m z n = n
retake_named here _ m z n = n

pub quiet_by : (here : Here) (action : Act) (request : Request) → doing_of action ≡ None → Names here action request → is_quiet request ≡ true
quiet_by here action (Locks m) d n = absurd (lock_does here action m d n)
quiet_by here action (Tries m z) d n = absurd (try_does here action m z d n)
quiet_by here action (Tries_timed m z) d n = absurd (timed_does here action m z d n)
quiet_by here action (Unlocks m) d n = absurd (unlock_does here action m d n)
quiet_by here action (Destroys m) d n = absurd (destroy_does here action m d n)
quiet_by here action (Retakes m z) d n = absurd (retake_named here action m z n)
quiet_by here action _ d n = refl

done_quiet : (b : Bool) (sync : Sync) → is_quiet_sync sync ≡ true → is_quiet_sync (if_done b sync) ≡ true
done_quiet true sync e = e
done_quiet false sync e = refl

marks_quiet : (held : Option ℕ) (mark : Mark) → is_quiet_sync (marks held mark) ≡ true
marks_quiet None mark = refl
marks_quiet (Some t) mark = refl

quiet_sync : (state : State) (request : Request) → is_quiet request ≡ true → is_quiet_sync (sync_of state request) ≡ true
quiet_sync state (Creates object f v result) e = done_quiet (is_zero result) _ refl
quiet_sync state (Joins object into) e = marks_quiet (state.holds object) _
quiet_sync state (Detaches object) e = marks_quiet (state.holds object) _
quiet_sync state (Inits m kind result) e = done_quiet (is_zero result) _ refl
quiet_sync state (Opens c result) e = done_quiet (is_zero result) _ refl
quiet_sync state (Makes_key k result) e = done_quiet (is_zero result) _ refl
quiet_sync state (Locks m) e = absurd (cc)
quiet_sync state (Tries m z) e = absurd (cc)
quiet_sync state (Tries_timed m z) e = absurd (cc)
quiet_sync state (Unlocks m) e = absurd (cc)
quiet_sync state (Destroys m) e = absurd (cc)
quiet_sync state (Retakes m z) e = absurd (cc)
quiet_sync state _ e = refl

pub quiet_after : (state : State) (frames : List Frame) (turn : Turn) (request : Request) → is_quiet request ≡ true → is_quiet_sync (sync_after frames turn (sync_of state request)) ≡ true
quiet_after state frames Goes request e = quiet_sync state request e
quiet_after state frames (Enters f arguments result) request e = quiet_sync state request e
quiet_after state frames (Exits result) request e = refl
quiet_after state [] (Leaves result) request e = refl
quiet_after state (frame ∷ []) (Leaves result) request e = refl
quiet_after state (frame ∷ caller ∷ frames) (Leaves result) request e = quiet_sync state request e

-- ---- waits

-- the first step of a wait stores nothing
pub record WaitsBy (here : Here) (action : Act) (ask : Ask) : Type 0 where
  pub c : Cell
  pub m : Cell
  pub leads : Leads here action 1 m
  pub asks : ask.request ≡ Waits c m
  pub stores : ask.stores ≡ []
  pub result : ask.result ≡ None
  pub goes : ask.turn ≡ Goes

abbrev pub is_wait : Act → Bool
is_wait (act.Library (lib.ConditionWait e d) into) = true
is_wait (act.Library (lib.ConditionTimedWait e d t) into) = true
is_wait _ = false

pub wait_asks : (here : Here) (action : Act) (pair : ℕ) (values : List ℤ) → is_wait action ≡ true → EachAsk (WaitsBy here action) (asked here action pair values)
unfolding EachAsk
wait_asks here (act.Library (lib.ConditionWait e d) into) pair values w = none_each P values _ (with_each P _ _ _ (λ c _. with_each P _ _ _ (λ m p.
    record { c = c; m = m; leads = record { call = lib.ConditionWait e d; into = into; expression = d; is_call = refl; has = refl; leads = p }; asks = refl; stores = refl; result = refl; goes = refl })))
  where
    P : Ask → Type 0
    P = WaitsBy here (act.Library (lib.ConditionWait e d) into)
wait_asks here (act.Library (lib.ConditionTimedWait e d t) into) pair values w = none_each P values _ (with_each P _ _ _ (λ c _. with_each P _ _ _ (λ m p. with_each P _ _ _ (λ time _. meant_each P _ _ _
    (record { c = c; m = m; leads = record { call = lib.ConditionTimedWait e d t; into = into; expression = d; is_call = refl; has = refl; leads = p }; asks = refl; stores = refl; result = refl; goes = refl })))))
  where
    P : Ask → Type 0
    P = WaitsBy here (act.Library (lib.ConditionTimedWait e d t) into)
wait_asks here _ pair values w = absurd (cc)

pub wait_named : (here : Here) (action : Act) (c m : Cell) → Names here action (Waits c m) → is_wait action ≡ true
wait_named here (act.Library (lib.ConditionWait e d) into) c m n = refl
wait_named here (act.Library (lib.ConditionTimedWait e d t) into) c m n = refl
wait_named here _ c m n = absurd n

-- the second step of a wait
pub record RetakesBy (action : Act) (m : Cell) (ask : Ask) : Type 0 where
  pub z : ℤ
  pub asks : ask.request ≡ Retakes m z
  pub goes : ask.turn ≡ Goes
  pub does : doing_of action ≡ None
  pub waits : is_wait action ≡ true

pub retakes_by : (action : Act) (m : Cell) (values : List ℤ) → EachAsk (RetakesBy action m) (retakes action m values)
unfolding EachAsk
retakes_by (act.Library (lib.ConditionWait e d) into) m values = none_each P values _ (record { z = _; asks = refl; goes = refl; does = refl; waits = refl })
  where
    P : Ask → Type 0
    P = RetakesBy (act.Library (lib.ConditionWait e d) into) m
retakes_by (act.Library (lib.ConditionTimedWait e d t) into) m values = one_each P _ values _ (λ z. record { z = z; asks = refl; goes = refl; does = refl; waits = refl })
  where
    P : Ask → Type 0
    P = RetakesBy (act.Library (lib.ConditionTimedWait e d t) into) m
retakes_by _ m values = tt

-- ---- branches

pub record BranchesBy (here : Here) (e : Expr) (pair : ℕ) : Type 0 where
  pub value : Value
  pub side : Bool
  pub evals : eval here e ≡ Some value
  pub is_side : is_true here value ≡ Some side
  pub goes : (pair == (if side then 0 else 1)) ≡ true

branch_value : (here : Here) (o : Option Value) (side : Bool) → option_and_then (is_true here) o ≡ Some side → (v : Value) × ((o ≡ Some v) × (is_true here v ≡ Some side))
branch_value here None side e = absurd (cc)
branch_value here (Some v) side e = (v, (refl, e))

pub branch_asks : (here : Here) (e : Expr) (into : Option Local) (pair : ℕ) (values : List ℤ) → EachAsk (λ ask. BranchesBy here e pair) (asked here (act.Branch e into) pair values)
unfolding EachAsk
branch_asks here e into pair values = none_each (λ ask. BranchesBy here e pair) values _ (with_each (λ ask. BranchesBy here e pair) _ _ _ (λ side b. so_each (λ ask. BranchesBy here e pair) _ _ (λ g.
    let v = branch_value here (eval here e) side b in record { value = v.0; side = side; evals = v.1.0; is_side = v.1.1; goes = g })))

-- ---- an argument leads to a mutex

pub place_mutex : (here : Here) (e : Expr) (m : Cell) → place_at here mutex_type e ≡ Some m → is_of_sort here.program A_mutex m ≡ true
place_mutex here e m p = go (eval here e) p
  where
    same_place : (a b : Cell) → Some a ≡ Some b → a ≡ b
    same_place a b q = cc

    at : (cell : Cell) (a b : Bool) → (a && b) ≡ (a && b) → cond (a && b) (Some cell) None ≡ Some m → (b ≡ true) × (cell ≡ m)
    at cell true true q r = (refl, same_place cell m r)
    at cell true false q r = absurd (cc)
    at cell false b q r = absurd (cc)

    go : (o : Option Value) → option_and_then (object_at_type here mutex_type) o ≡ Some m → is_of_sort here.program A_mutex m ≡ true
    go None q = absurd (cc)
    go (Some (Number z)) q = absurd (cc)
    go (Some (Address cell)) q = let f = at cell (here.is_alive cell.root) (is_of_sort here.program A_mutex cell) refl q in
        subst (λ (x : Cell). is_of_sort here.program A_mutex x ≡ true) f.1 f.0

pub both_true : (a b : Bool) → a ≡ true → b ≡ true → (a && b) ≡ true
both_true true b e f = f
both_true false b e f = absurd (cc)

numbers_equal : (xs : List ℕ) → same_numbers xs xs ≡ true
numbers_equal [] = refl
numbers_equal (x ∷ xs) = both_true _ _ (eq-eqb x x refl) (numbers_equal xs)

root_equal : (r : Root) → same_root r r ≡ true
root_equal (Static object) = eq-eqb object object refl
root_equal (Of_thread s object) = both_true _ _ (eq-eqb s s refl) (eq-eqb object object refl)
root_equal (Of_frame f object) = both_true _ _ (eq-eqb f f refl) (eq-eqb object object refl)

pub cell_equal : (a b : Cell) → a ≡ b → same_cell a b ≡ true
cell_equal a b e = subst (λ (x : Cell). same_cell a x ≡ true) e (both_true _ _ (root_equal a.root) (numbers_equal a.path))
