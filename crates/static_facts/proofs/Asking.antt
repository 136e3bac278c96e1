-- What a call asks for that begins, joins, detaches or ends an object.
use Rattle.std.proofs.Common.{◌≡◌, refl, subst, Bool, true, false, ℕ, ℤ, List, [], ◌++◌, Option, Some, None}
use Rattle.std.specs.Prelude.{slice_get, is_none}
use Rattle.c_program.specs.declared.expression.Expr.{Expr}
use Rattle.c_program.specs.declared.action.Local.{Local}
use Rattle.c_program.specs.declared.action.LibraryCall.{LibraryCall}
use Rattle.c_program.specs.declared.action.LibraryCall.TheVariants as lib
use Rattle.c_program.specs.declared.action.Act.{Act}
use Rattle.c_program.specs.declared.action.Act.TheVariants as act
use Rattle.c_program.specs.declared.program.Program.{Program}
use Rattle.c_program.specs.Syntax.{parameters_at}
use Rattle.c_program.specs.Types.{is_zero}
use Rattle.c_program.specs.Values.{Cell, Value, Number}
use Rattle.c_program.specs.Evaluation.{Here, eval, place_at}
use Rattle.c_program.specs.State.{State, Frame, Mark, Joined, Detached, top}
use Rattle.c_program.specs.Requests.{Request, Joins, Detaches, Goes, Ask, Asked, asked, Store, result_at}
use Rattle.c_program.specs.Faults.{Sort, A_mutex, A_condition, A_key, A_thread, How, does, accesses_of, is_undefined, may_answer, is_result, result_of}
use Rattle.c_program.specs.Effects.{Sync, Makes, Marks, Starts, Starts_condition, Starts_key, sync_of, if_done, marks, stores_of, put_result, bound_if}
use Rattle.c_program.specs.Counters.{arguments_of}
use Rattle.c_program.proofs.Logic.{or_false}
use Rattle.c_program.proofs.Asks.{EachAsk, none_each, one_each, with_each, meant_each}
use Rattle.c_program.proofs.Onward.{kind_of, Goes_on}
use Rattle.static_facts.proofs.MutexAsks.{is_wait}
use Rattle.static_facts.specs.ObjectStates.{Doing, Begins, Joins_it, Detaches_it, Ends_it, doing_of, result_of_call}
use Rattle.static_facts.specs.Seen.{use_by, when}
use Rattle.pointer_targets.specs.LibraryObjects.{type_of_sort}

-- an argument of the call leads to the object
pub record Leads (here : Here) (action : Act) (sort : Sort) (argument : ℕ) (object : Cell) : Type 0 where
  pub call : LibraryCall
  pub into : Option Local
  pub expression : Expr
  pub is_call : action ≡ act.Library call into
  pub has : slice_get (arguments_of call) argument ≡ Some expression
  pub leads : place_at here (type_of_sort sort) expression ≡ Some object

abbrev pub IsUsed : Sort → Cell → Request → Type 0
IsUsed sort object request = (how : How) × (accesses_of request ≡ does how sort object)

-- a call that begins an object: its result tells whether it does
pub record BeginsBy (here : Here) (action : Act) (sort : Sort) (ask : Ask) : Type 0 where
  pub object : Cell
  pub z : ℤ
  pub leads : Leads here action sort 0 object
  pub used : IsUsed sort object ask.request
  pub sync : Sync
  pub does_so : (state : State) → sync_of state ask.request ≡ if_done (is_zero z) sync
  pub begins : (b : Bool) → use_by sync sort b ≡ when b Begins
  pub answers : (state : State) (thread : ℕ) → may_answer state thread ask.request ≡ is_result z
  pub first : Program → State → List Frame → List Store
  pub stores : (program : Program) (state : State) (thread : ℕ) (frames : List Frame)
      → stores_of program state thread frames ask ask.request ask.turn ≡ first program state frames ++ put_result (top frames) (result_of_call action) (Some (Number z))
  pub goes : ask.turn ≡ Goes

-- a call that joins, detaches or ends one
pub record ChangesBy (here : Here) (action : Act) (sort : Sort) (doing : Doing) (ask : Ask) : Type 0 where
  pub object : Cell
  pub leads : Leads here action sort 0 object
  pub used : IsUsed sort object ask.request
  pub does_so : (program : Program) (state : State) (thread : ℕ) → is_undefined program state thread ask.request ≡ false → (b : Bool) → use_by (sync_of state ask.request) sort b ≡ when b doing
  pub goes : ask.turn ≡ Goes

abbrev pub ByDoing : Here → Act → Sort → Doing → Ask → Type 0
ByDoing here action sort Begins ask = BeginsBy here action sort ask
ByDoing here action sort doing ask = ChangesBy here action sort doing ask

-- ---- a join or a detach that has a meaning marks a thread

marked : (held : Option ℕ) (mark : Mark) (doing : Doing) → is_none held ≡ false → ((t : ℕ) (b : Bool) → use_by (Marks t mark) A_thread b ≡ when b doing)
    → (b : Bool) → use_by (marks held mark) A_thread b ≡ when b doing
marked None mark doing h f b = absurd (cc)
marked (Some t) mark doing h f b = f t b

has_result : (state : State) (held : Option ℕ) → is_none (result_of state held) ≡ false → is_none held ≡ false
has_result state None e = e
has_result state (Some t) e = refl

joins_so : (program : Program) (state : State) (thread : ℕ) (object : Cell) (into : Option Cell) → is_undefined program state thread (Joins object into) ≡ false
    → (b : Bool) → use_by (marks (state.holds object) Joined) A_thread b ≡ when b Joins_it
unfolding is_undefined
joins_so program state thread object None e = marked (state.holds object) Joined Joins_it (or_false _ _ e).0 (λ t b. refl)
joins_so program state thread object (Some cell) e = marked (state.holds object) Joined Joins_it (has_result state (state.holds object) (or_false _ _ e).0) (λ t b. refl)

detaches_so : (program : Program) (state : State) (thread : ℕ) (object : Cell) → is_undefined program state thread (Detaches object) ≡ false
    → (b : Bool) → use_by (marks (state.holds object) Detached) A_thread b ≡ when b Detaches_it
unfolding is_undefined
detaches_so program state thread object e = marked (state.holds object) Detached Detaches_it (or_false _ _ e).0 (λ t b. refl)

-- ---- what is asked for

same_doing : (a b : Doing) → Some a ≡ Some b → a ≡ b
same_doing a b e = cc

module _ (here : Here) where
  to : (call : LibraryCall) (into : Option Local) (sort : Sort) (e : Expr) (c : Cell) → slice_get (arguments_of call) 0 ≡ Some e → place_at here (type_of_sort sort) e ≡ Some c
      → Leads here (act.Library call into) sort 0 c
  to call into sort e c h p = record { call = call; into = into; expression = e; is_call = refl; has = h; leads = p }

  result_each : (P : Ask → Type 0) (object : Cell) (v : Option Value) (f : Option Cell → Asked) → ((into : Option Cell) → EachAsk P (f into)) → EachAsk P (result_at here object v f)
  unfolding EachAsk
  result_each P object None f h = tt
  result_each P object (Some (Number z)) f h = h None
  result_each P object (Some v) f h = with_each P _ _ _ (λ cell _. meant_each P _ _ _ (h (Some cell)))

  pub doing_asks : (sort : Sort) (action : Act) (pair : ℕ) (values : List ℤ) (doing : Doing) → doing_of sort action ≡ Some doing
      → EachAsk (ByDoing here action sort doing) (asked here action pair values)
  unfolding EachAsk may_answer
  doing_asks A_thread (act.Library (lib.ThreadCreate o f e) into) pair values doing q = subst (λ d. EachAsk (ByDoing here (act.Library (lib.ThreadCreate o f e) into) A_thread d) (asked here (act.Library (lib.ThreadCreate o f e) into) pair values)) (same_doing _ _ q)
      (one_each P _ values _ (λ z. with_each P _ _ _ (λ c p. with_each P _ _ _ (λ v _. record { object = c; z = z; leads = to (lib.ThreadCreate o f e) into A_thread o c refl p; used = (_, refl); sync = Makes c f; does_so = λ state. refl; begins = λ b. refl; answers = λ state thread. refl; first = λ program state frames. bound_if (is_zero z) state.called (parameters_at program f) v; stores = λ program state thread frames. refl; goes = refl }))))
    where
      P : Ask → Type 0
      P = ByDoing here (act.Library (lib.ThreadCreate o f e) into) A_thread Begins
  doing_asks A_mutex (act.Library (lib.MutexInit e kind) into) pair values doing q = subst (λ d. EachAsk (ByDoing here (act.Library (lib.MutexInit e kind) into) A_mutex d) (asked here (act.Library (lib.MutexInit e kind) into) pair values)) (same_doing _ _ q)
      (one_each P _ values _ (λ z. with_each P _ _ _ (λ c p. record { object = c; z = z; leads = to (lib.MutexInit e kind) into A_mutex e c refl p; used = (_, refl); sync = Starts c kind; does_so = λ state. refl; begins = λ b. refl; answers = λ state thread. refl; first = λ program state frames. []; stores = λ program state thread frames. refl; goes = refl })))
    where
      P : Ask → Type 0
      P = ByDoing here (act.Library (lib.MutexInit e kind) into) A_mutex Begins
  doing_asks A_condition (act.Library (lib.ConditionInit e) into) pair values doing q = subst (λ d. EachAsk (ByDoing here (act.Library (lib.ConditionInit e) into) A_condition d) (asked here (act.Library (lib.ConditionInit e) into) pair values)) (same_doing _ _ q)
      (one_each P _ values _ (λ z. with_each P _ _ _ (λ c p. record { object = c; z = z; leads = to (lib.ConditionInit e) into A_condition e c refl p; used = (_, refl); sync = Starts_condition c; does_so = λ state. refl; begins = λ b. refl; answers = λ state thread. refl; first = λ program state frames. []; stores = λ program state thread frames. refl; goes = refl })))
    where
      P : Ask → Type 0
      P = ByDoing here (act.Library (lib.ConditionInit e) into) A_condition Begins
  doing_asks A_key (act.Library (lib.KeyCreate e) into) pair values doing q = subst (λ d. EachAsk (ByDoing here (act.Library (lib.KeyCreate e) into) A_key d) (asked here (act.Library (lib.KeyCreate e) into) pair values)) (same_doing _ _ q)
      (one_each P _ values _ (λ z. with_each P _ _ _ (λ c p. record { object = c; z = z; leads = to (lib.KeyCreate e) into A_key e c refl p; used = (_, refl); sync = Starts_key c; does_so = λ state. refl; begins = λ b. refl; answers = λ state thread. refl; first = λ program state frames. []; stores = λ program state thread frames. refl; goes = refl })))
    where
      P : Ask → Type 0
      P = ByDoing here (act.Library (lib.KeyCreate e) into) A_key Begins
  doing_asks A_thread (act.Library (lib.ThreadJoin o e) into) pair values doing q = subst (λ d. EachAsk (ByDoing here (act.Library (lib.ThreadJoin o e) into) A_thread d) (asked here (act.Library (lib.ThreadJoin o e) into) pair values)) (same_doing _ _ q)
      (none_each P values _ (with_each P _ _ _ (λ c p. result_each P c (eval here e) _ (λ r. record { object = c; leads = to (lib.ThreadJoin o e) into A_thread o c refl p; used = (_, refl); does_so = λ program state thread m. joins_so program state thread c r m; goes = refl }))))
    where
      P : Ask → Type 0
      P = ByDoing here (act.Library (lib.ThreadJoin o e) into) A_thread Joins_it
  doing_asks A_thread (act.Library (lib.ThreadDetach o) into) pair values doing q = subst (λ d. EachAsk (ByDoing here (act.Library (lib.ThreadDetach o) into) A_thread d) (asked here (act.Library (lib.ThreadDetach o) into) pair values)) (same_doing _ _ q)
      (none_each P values _ (with_each P _ _ _ (λ c p. record { object = c; leads = to (lib.ThreadDetach o) into A_thread o c refl p; used = (_, refl); does_so = λ program state thread m. detaches_so program state thread c m; goes = refl })))
    where
      P : Ask → Type 0
      P = ByDoing here (act.Library (lib.ThreadDetach o) into) A_thread Detaches_it
  doing_asks A_mutex (act.Library (lib.MutexDestroy e) into) pair values doing q = subst (λ d. EachAsk (ByDoing here (act.Library (lib.MutexDestroy e) into) A_mutex d) (asked here (act.Library (lib.MutexDestroy e) into) pair values)) (same_doing _ _ q)
      (none_each P values _ (with_each P _ _ _ (λ c p. record { object = c; leads = to (lib.MutexDestroy e) into A_mutex e c refl p; used = (_, refl); does_so = λ program state thread m b. refl; goes = refl })))
    where
      P : Ask → Type 0
      P = ByDoing here (act.Library (lib.MutexDestroy e) into) A_mutex Ends_it
  doing_asks A_condition (act.Library (lib.ConditionDestroy e) into) pair values doing q = subst (λ d. EachAsk (ByDoing here (act.Library (lib.ConditionDestroy e) into) A_condition d) (asked here (act.Library (lib.ConditionDestroy e) into) pair values)) (same_doing _ _ q)
      (none_each P values _ (with_each P _ _ _ (λ c p. record { object = c; leads = to (lib.ConditionDestroy e) into A_condition e c refl p; used = (_, refl); does_so = λ program state thread m b. refl; goes = refl })))
    where
      P : Ask → Type 0
      P = ByDoing here (act.Library (lib.ConditionDestroy e) into) A_condition Ends_it
  doing_asks A_key (act.Library (lib.KeyDelete e) into) pair values doing q = subst (λ d. EachAsk (ByDoing here (act.Library (lib.KeyDelete e) into) A_key d) (asked here (act.Library (lib.KeyDelete e) into) pair values)) (same_doing _ _ q)
      (none_each P values _ (with_each P _ _ _ (λ c p. record { object = c; leads = to (lib.KeyDelete e) into A_key e c refl p; used = (_, refl); does_so = λ program state thread m b. refl; goes = refl })))
    where
      P : Ask → Type 0
      P = ByDoing here (act.Library (lib.KeyDelete e) into) A_key Ends_it
  doing_asks _ _ pair values doing q = absurd (cc)

pub doing_goes : (sort : Sort) (action : Act) (doing : Doing) → doing_of sort action ≡ Some doing → kind_of action ≡ Goes_on
doing_goes A_thread (act.Library (lib.ThreadCreate o f e) into) doing d = refl
doing_goes A_thread (act.Library (lib.ThreadJoin o e) into) doing d = refl
doing_goes A_thread (act.Library (lib.ThreadDetach o) into) doing d = refl
doing_goes A_mutex (act.Library (lib.MutexInit e kind) into) doing d = refl
doing_goes A_mutex (act.Library (lib.MutexDestroy e) into) doing d = refl
doing_goes A_condition (act.Library (lib.ConditionInit e) into) doing d = refl
doing_goes A_condition (act.Library (lib.ConditionDestroy e) into) doing d = refl
doing_goes A_key (act.Library (lib.KeyCreate e) into) doing d = refl
doing_goes A_key (act.Library (lib.KeyDelete e) into) doing d = refl
doing_goes _ _ doing d = absurd (cc)

pub wait_does : (sort : Sort) (action : Act) → is_wait action ≡ true → doing_of sort action ≡ None
wait_does A_mutex (act.Library (lib.ConditionWait e d) into) w = refl
wait_does A_condition (act.Library (lib.ConditionWait e d) into) w = refl
wait_does A_key (act.Library (lib.ConditionWait e d) into) w = refl
wait_does A_thread (act.Library (lib.ConditionWait e d) into) w = refl
wait_does A_mutex (act.Library (lib.ConditionTimedWait e d t) into) w = refl
wait_does A_condition (act.Library (lib.ConditionTimedWait e d t) into) w = refl
wait_does A_key (act.Library (lib.ConditionTimedWait e d t) into) w = refl
wait_does A_thread (act.Library (lib.ConditionTimedWait e d t) into) w = refl
wait_does sort _ w = absurd (cc)
