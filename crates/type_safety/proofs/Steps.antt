-- A step of a typed program leaves a state whose values fit.
use Rattle.std.proofs.Common.{◌≡◌, refl, sym, subst, ap, ◌∙◌, Bool, true, false, ◌==◌, ℕ, ℤ, List, [], ◌∷◌, ◌++◌, Option, Some, None, eqb-true}
use Rattle.c_program.specs.declared.types.CType.{CType}
use Rattle.c_program.specs.declared.action.Local.{Local}
use Rattle.c_program.specs.declared.action.Act.{Act}
use Rattle.c_program.specs.declared.action.Act.TheVariants as act
use Rattle.c_program.specs.declared.action.LibraryCall.{LibraryCall}
use Rattle.c_program.specs.declared.action.LibraryCall.TheVariants as lib
use Rattle.c_program.specs.declared.program.Program.{Program}
use Rattle.c_program.specs.Syntax.{c_int, act_at, body_at, parameters_at}
use Rattle.c_program.specs.Types.{is_zero, same_type}
use Rattle.c_program.specs.Values.{Cell, Value, null, same_cell}
use Rattle.c_program.specs.Control.{Control, Run, Behind, Move, move_at, goes_on, returned, entered}
use Rattle.c_program.specs.State.{State, Thread, Stand, Not_made, Running, Ended, Frame, Life, Unmade, Live, Dead, top, frames_of, control_of, here}
use Rattle.c_program.specs.Requests.{Request, Plain, Creates, Joins, Detaches, Inits, Tries, Tries_timed, Opens, Makes_key, Sets_key, Gets_key, Turn, Goes, Enters, Leaves, Exits, Ask, No_meaning, Asks}
use Rattle.c_program.specs.Faults.{result_of, result_of_stand}
use Rattle.c_program.specs.Effects.{Sync, Nothing, Makes, Writes_key, Starts_key, Kills_key, Suspends, Finishes, finishes, Effect, effect_of, sync_of, sync_after, if_done, marks, made_by, own_stand, frames_after, thread_after, put_result, put_back, joined_result, result_in, pointer_in, stores_of, key_after, pointed, after}
use Rattle.c_program.specs.Step.{Choice, asked_by}
use Rattle.c_program.specs.Typing.{kind_of_type, kind_held, into_gets, act_is_typed, answers_int, is_typed}
use Rattle.c_program.specs.Typing.{result_of as result_type}
use Rattle.c_program.specs.WellFormed.{starts_with_timespec}
use Rattle.c_program.proofs.Cells.{and_true}
use Rattle.c_program.proofs.Asks.{EachAsk, from_each}
use Rattle.c_program.proofs.Onward.{Kind, Goes_on, Calls, Returns, Exits_all, kind_of, left_by, left_is, ByKind, action_goes, retakes_goes}
use Rattle.c_program.proofs.Sound.{if_either}
use Rattle.type_safety.specs.Fitting.{IsPointer, IsNumber, MemoryFits}
use Rattle.type_safety.specs.ActionCauses.{ActFails}
use Rattle.type_safety.proofs.Shapes.{from_own}
use Rattle.type_safety.proofs.Acting.{into_fits, into_none}
use Rattle.type_safety.proofs.Judging.{EachStoreFits, IntoGets, RequestFits, TurnFits, AskFits, Judged}
use Rattle.type_safety.proofs.Typed.{action_good, again_good}
use Rattle.type_safety.proofs.States.{appended, put_fits, put_result_fits, bound_fits, bound_if_fits, memory_fits}
use Rattle.type_safety.proofs.Controls.{ControlFits, MoveFits, move_fits, no_frames, last_is_int, returned_fits, body_fits}

-- ---- states whose values fit

abbrev pub KeyFits : Life (ℕ → Value) → Type 0
KeyFits (Live pointers) = (thread : ℕ) → IsPointer (pointers thread)
KeyFits _ = Unit {0}

-- the result of a thread, if it has one
abbrev pub ResultFits : Option Value → Type 0
ResultFits None = Unit {0}
ResultFits (Some v) = IsNumber v

module _ (program : Program) where
  abbrev pub SyncFits : Sync → Type 0
  SyncFits (Makes object function) = answers_int program function ≡ true
  SyncFits (Writes_key k v) = IsPointer v
  SyncFits (Finishes result) = ResultFits result
  SyncFits _ = Unit {0}

  abbrev pub StandFits : Stand → Type 0
  StandFits (Running control frames inside) = (result : CType) × ControlFits program result control frames
  StandFits (Ended result) = ResultFits result
  StandFits Not_made = Unit {0}

  pub record StateFits (state : State) : Type 0 where
    pub memory : MemoryFits program state.memory
    pub keys : (cell : Cell) → KeyFits (state.key cell)
    pub stands : (thread : ℕ) → StandFits (state.thread thread).stand

  -- ---- library objects and threads

  done_fits : (b : Bool) (sync : Sync) → SyncFits sync → SyncFits (if_done b sync)
  done_fits true sync s = s
  done_fits false sync s = tt

  marks_fit : (held : Option ℕ) (mark : _) → SyncFits (marks held mark)
  marks_fit None mark = tt
  marks_fit (Some t) mark = tt

  sync_fits : (state : State) (into : Option Local) (request : Request) → RequestFits program into request → SyncFits (sync_of state request)
  sync_fits state into (Creates object function v result) p = done_fits (is_zero result) _ p.1
  sync_fits state into (Joins object to) p = marks_fit (state.holds object) _
  sync_fits state into (Detaches object) p = marks_fit (state.holds object) _
  sync_fits state into (Inits m kind result) p = done_fits (is_zero result) _ tt
  sync_fits state into (Tries m result) p = done_fits (is_zero result) _ tt
  sync_fits state into (Tries_timed m result) p = done_fits (is_zero result) _ tt
  sync_fits state into (Opens c result) p = done_fits (is_zero result) _ tt
  sync_fits state into (Makes_key k result) p = done_fits (is_zero result) _ tt
  sync_fits state into (Sets_key k v) p = p
  sync_fits state into _ p = tt

  turn_result : (result : CType) (v : Option Value) → same_type c_int result ≡ true → TurnFits program result (Leaves v) → ResultFits v
  turn_result result None e f = tt
  turn_result result (Some v) e f = from_own program c_int result v e f

  exit_result : (result : CType) (v : Option Value) → TurnFits program result (Exits v) → ResultFits v
  exit_result result None f = tt
  exit_result result (Some v) f = f

  after_fits : (result : CType) (left : Control) (frames : List Frame) (turn : Turn) (sync : Sync) → ControlFits program result left frames → TurnFits program result turn → SyncFits sync
      → SyncFits (sync_after frames turn sync)
  after_fits result left frames Goes sync c t s = s
  after_fits result left frames (Enters function arguments into) sync c t s = s
  after_fits result left frames (Exits v) sync c t s = exit_result result v t
  after_fits result left [] (Leaves v) sync c t s = absurd (no_frames program result left c)
  after_fits result left (frame ∷ []) (Leaves v) sync c t s = turn_result result v (last_is_int program result left frame c) t
  after_fits result left (frame ∷ caller ∷ frames) (Leaves v) sync c t s = s

  key_fits : (sync : Sync) (thread : ℕ) (cell : Cell) (life : Life (ℕ → Value)) → SyncFits sync → KeyFits life → KeyFits (key_after sync thread cell life)
  key_fits (Starts_key k) thread cell life s h = if_either KeyFits (same_cell k cell) (Live (λ other. null)) life (λ _. λ t. refl) (λ _. h)
  key_fits (Writes_key k v) thread cell life s h = if_either KeyFits (same_cell k cell) (pointed thread v life) life (λ _. go life h) (λ _. h)
    where
      go : (life : Life (ℕ → Value)) → KeyFits life → KeyFits (pointed thread v life)
      go (Live pointers) h = λ other. if_either IsPointer (other == thread) v (pointers other) (λ _. s) (λ _. h other)
      go Unmade h = tt
      go Dead h = tt
  key_fits (Kills_key k) thread cell life s h = if_either KeyFits (same_cell k cell) Dead life (λ _. tt) (λ _. h)
  key_fits _ thread cell life s h = h

  stand_result : (stand : Stand) → StandFits stand → ResultFits (result_of_stand stand)
  stand_result Not_made f = tt
  stand_result (Running control frames inside) f = tt
  stand_result (Ended result) f = f

  held_result : (state : State) → StateFits state → (held : Option ℕ) → ResultFits (result_of state held)
  held_result state fits None = tt
  held_result state fits (Some thread) = stand_result (state.thread thread).stand (fits.stands thread)

  made_answers : (sync : Sync) (function : ℕ) → SyncFits sync → made_by sync ≡ Some function → answers_int program function ≡ true
  made_answers (Makes object own) function s e = subst (λ n. answers_int program n ≡ true) (same own function e) s
    where
      same : (a b : ℕ) → Some a ≡ Some b → a ≡ b
      same a b e = cc
  made_answers _ function s e = absurd (cc)

  -- a call's local gets the result of its function
  called_gets : (result : CType) (action : Act) (function : ℕ) (into : Option Local) → kind_of action ≡ Calls function into → act_is_typed program result action ≡ true
      → into_gets program into (kind_held (result_type program function)) ≡ true
  called_gets result (act.Call f arguments own) function into e t =
      subst (λ (k : Kind). GetsOf k) e (and_true _ _ t).1
    where
      GetsOf : Kind → Type 0
      GetsOf (Calls g into) = into_gets program into (kind_held (result_type program g)) ≡ true
      GetsOf _ = Unit {0}
  called_gets result (act.Return value) function into e t = absurd (cc)
  called_gets result act.End function into e t = absurd (cc)
  called_gets result (act.Library call own) function into e t = by_call call e
    where
      by_call : (call : LibraryCall) → kind_of (act.Library call own) ≡ Calls function into → into_gets program into (kind_held (result_type program function)) ≡ true
      by_call (lib.ThreadExit x) e = absurd (cc)
      by_call _ e = absurd (cc)
  called_gets result _ function into e t = absurd (cc)

-- ---- what is asked for

from_asks : (F : Type 0) (P : Ask → Type 0) (ask : Ask) → Judged F P (Asks ask) → P ask
unfolding Judged
from_asks F P ask j = j

from_none : (F : Type 0) (P : Ask → Type 0) (request : Request) → Judged F P (No_meaning request) → F
unfolding Judged
from_none F P request j = j

module _ (program : Program) (typed : is_typed program ≡ true) (timed : starts_with_timespec program program.structures ≡ true) (state : State) (fits : StateFits program state)
    (choice : Choice) (move : Move) (control : Control) (frames : List Frame) (inside : Option Cell)
    (stands : (state.thread choice.thread).stand ≡ Running control frames inside) (offers : move_at control choice.pair ≡ Some move) where
  abbrev t : ℕ
  t = choice.thread

  abbrev action : Act
  action = act_at program move.action

  own_fits : StandFits program (Running control frames inside)
  own_fits = subst (StandFits program) stands (fits.stands t)

  abbrev result : CType
  result = own_fits.0

  moved : MoveFits program result frames move
  moved = move_fits program result frames control choice.pair move own_fits.1 offers

  -- inside a wait nothing is evaluated
  abbrev FailsIn : Option Cell → Type 0
  FailsIn None = ActFails (here program state t) action
  FailsIn (Some m) = ⊥

  judged : (w : Option Cell) → Judged (FailsIn w) (AskFits program result) (asked_by program state choice move w)
  judged None = action_good (here program state t) timed fits.memory result action choice.pair choice.values moved.0
  judged (Some m) = again_good (here program state t) timed fits.memory result action m choice.values moved.0

  pub cause : (request : Request) → asked_by program state choice move inside ≡ No_meaning request → (inside ≡ None) × ActFails (here program state t) action
  cause request e = go inside refl (from_none (FailsIn inside) (AskFits program result) request (subst (Judged (FailsIn inside) (AskFits program result)) e (judged inside)))
    where
      go : (w : Option Cell) → inside ≡ w → FailsIn w → (inside ≡ None) × ActFails (here program state t) action
      go None q f = (q, f)
      go (Some m) q f = absurd f

  module _ (ask : Ask) (asks : asked_by program state choice move inside ≡ Asks ask) where
    abbrev E : Effect
    E = effect_of program state choice.thread frames ask

    abbrev later : State
    later = after program state choice.thread move E

    ask_fits : AskFits program result ask
    ask_fits = from_asks (FailsIn inside) (AskFits program result) ask (subst (Judged (FailsIn inside) (AskFits program result)) asks (judged inside))

    by_kind : ByKind (kind_of action) ask
    by_kind = go inside asks
      where
        go : (w : Option Cell) → asked_by program state choice move w ≡ Asks ask → ByKind (kind_of action) ask
        go None e = from_each (ByKind (kind_of action)) ask (subst (EachAsk (ByKind (kind_of action))) e (action_goes (here program state t) action choice.pair choice.values))
        go (Some m) e = from_each (ByKind (kind_of action)) ask (subst (EachAsk (ByKind (kind_of action))) e (retakes_goes action m choice.values))

    -- ---- stores

    given_in : (request : Request) → RequestFits program ask.into request → IntoGets program ask.into (result_in state t request ask.result)
    given_in (Gets_key k) r = go (state.key k) (fits.keys k)
      where
        go : (life : Life (ℕ → Value)) → KeyFits life → IntoGets program ask.into (pointer_in t life)
        go (Live pointers) h = r (pointers t) (h t)
        go Unmade h = into_none program ask.into
        go Dead h = into_none program ask.into
    given_in _ r = ask_fits.given

    others_fit : (request : Request) → RequestFits program ask.into request → EachStoreFits program (ask.stores ++ put_result (top frames) ask.into (result_in state t request ask.result))
    others_fit request r = appended program ask.stores _ ask_fits.stores (put_result_fits program (top frames) ask.into _ (given_in request r))

    own_result_fits : EachStoreFits program (put_result (top frames) ask.into ask.result)
    own_result_fits = put_result_fits program (top frames) ask.into ask.result ask_fits.given

    joined_fits : (object : Cell) (to : Option Cell) (v : Option Value) → RequestFits program ask.into (Joins object to) → ResultFits v → EachStoreFits program (joined_result to v)
    joined_fits object None v r n = tt
    joined_fits object (Some cell) None r n = tt
    joined_fits object (Some cell) (Some v) r n = (r v n, tt)

    back_fits : (fs : List Frame) (v : Option Value) → ControlFits program result move.left fs → TurnFits program result (Leaves v) → EachStoreFits program (put_back fs v)
    back_fits [] v c f = tt
    back_fits (frame ∷ []) v c f = tt
    back_fits (frame ∷ caller ∷ fs) None c f = put_fits program caller.number frame.result None (into_none program frame.result)
    back_fits (frame ∷ caller ∷ fs) (Some v) c f = put_fits program caller.number frame.result (Some v)
        (into_fits program frame.result (kind_of_type result) v (returned_fits program result move.left frame caller fs c).1 f)

    stores_fit : (request : Request) (turn : Turn) → RequestFits program ask.into request → TurnFits program result turn → EachStoreFits program (stores_of program state t frames ask request turn)
    stores_fit (Creates object function v z) turn p q =
        appended program _ _ (bound_if_fits program (is_zero z) state.called (parameters_at program function) v p.0.1 p.0.0) own_result_fits
    stores_fit (Joins object to) turn p q = appended program _ _ (joined_fits object to _ p (held_result program state fits (state.holds object))) own_result_fits
    stores_fit Plain (Enters function arguments into) p q = bound_fits program state.called (parameters_at program function) arguments q
    stores_fit Plain (Leaves v) p q = back_fits frames v moved.1 q
    stores_fit Plain Goes p q = others_fit Plain p
    stores_fit Plain (Exits v) p q = others_fit Plain p
    stores_fit request turn p q = others_fit request p

    step_stores : EachStoreFits program E.stores
    unfolding effect_of
    step_stores = stores_fit ask.request ask.turn ask_fits.request ask_fits.turn

    step_sync : SyncFits program E.sync
    unfolding effect_of
    step_sync = after_fits program result move.left frames ask.turn (sync_of state ask.request) moved.1 ask_fits.turn (sync_fits program state ask.into ask.request ask_fits.request)

    -- ---- how threads stand behind the step

    sync_is : E.sync ≡ sync_after frames ask.turn (sync_of state ask.request)
    unfolding effect_of
    sync_is = refl

    turn_is : E.turn ≡ ask.turn
    unfolding effect_of
    turn_is = refl

    new_stand : ℕ → Stand
    new_stand function = Running (entered program function) (record { number = state.called; result = None } ∷ []) None

    own : Stand
    own = own_stand program move E state.called control frames E.sync

    thread_cases : (P : Stand → Type 0) (made : Option ℕ) (other : ℕ)
        → ((function : ℕ) → made ≡ Some function → P (new_stand function))
        → (other ≡ t → P (own_stand program move E state.called (control_of (state.thread t).stand) (frames_of (state.thread t).stand) E.sync))
        → P (state.thread other).stand
        → P (thread_after program state t move E made other).stand
    unfolding new_stand
    thread_cases P None other n o k = if_either P (other == t) _ _ (λ e. o (eqb-true other t e)) (λ _. k)
    thread_cases P (Some function) other n o k = if_either (λ (thread : Thread). P thread.stand) (other == state.made) _ _ (λ e. n function refl)
        (λ _. if_either P (other == t) _ _ (λ e. o (eqb-true other t e)) (λ _. k))

    stand_cases : (P : Stand → Type 0) (other : ℕ) → ((function : ℕ) → made_by E.sync ≡ Some function → P (new_stand function))
        → P own → P (state.thread other).stand → P (later.thread other).stand
    unfolding after own
    stand_cases P other n o k = thread_cases P (made_by E.sync) other n
        (λ e. subst (λ (s : Stand). P (own_stand program move E state.called (control_of s) (frames_of s) E.sync)) (sym stands) o) k

    own_cases : (P : Stand → Type 0) (sync : Sync) → ((v : Option Value) → sync ≡ Finishes v → P (Ended v)) → ((c m : Cell) → sync ≡ Suspends c m → P (Running control frames (Some m)))
        → (finishes sync ≡ false → P (Running (goes_on program move) (frames_after E.turn state.called frames) None)) → P (own_stand program move E state.called control frames sync)
    own_cases P (Finishes v) f s g = f v refl
    own_cases P (Suspends c m) f s g = s c m refl
    own_cases P _ f s g = g refl

    return_fits : (fs : List Frame) (v : Option Value) → ControlFits program result move.left fs → finishes (sync_after fs (Leaves v) Nothing) ≡ false
        → StandFits program (Running (returned move.left) (frames_after (Leaves v) state.called fs) None)
    return_fits [] v c e = absurd (cc)
    return_fits (frame ∷ []) v c e = absurd (cc)
    return_fits (frame ∷ caller ∷ fs) v c e = let r = returned_fits program result move.left frame caller fs c in (r.0, r.2)

    called_fits : (function : ℕ) (into : Option Local) → kind_of action ≡ Calls function into
        → StandFits program (Running (Run (body_at program function) ∷ Behind move.action ∷ move.left) (record { number = state.called; result = into } ∷ frames) None)
    called_fits function into k = let b = body_fits program typed function in
        (b.0, (b.1, (result, subst (λ kind. into_gets program into kind ≡ true) b.2 (called_gets program result action function into k moved.0), moved.1)))

    run_fits : (kind : Kind) → kind_of action ≡ kind → ByKind kind ask → finishes E.sync ≡ false
        → StandFits program (Running (left_by program move.action kind move.left) (frames_after ask.turn state.called frames) None)
    run_fits Goes_on k b e = subst (λ (turn : Turn). StandFits program (Running move.left (frames_after turn state.called frames) None)) (sym b) (result, moved.1)
    run_fits (Calls function into) k b e =
        subst (λ (turn : Turn). StandFits program (Running (Run (body_at program function) ∷ Behind move.action ∷ move.left) (frames_after turn state.called frames) None)) (sym b.0.1)
        (called_fits function into k)
    run_fits Returns k b e = subst (λ (turn : Turn). StandFits program (Running (returned move.left) (frames_after turn state.called frames) None)) (sym b.0.1)
        (return_fits frames b.0.0 moved.1 (subst (λ (sync : Sync). finishes sync ≡ false)
        (sync_is ∙ ap (λ (turn : Turn). sync_after frames turn (sync_of state ask.request)) b.0.1 ∙ ap (λ (request : Request). sync_after frames (Leaves b.0.0) (sync_of state request)) b.1) e))
    run_fits Exits_all k b e = absurd (let f : true ≡ false = subst (λ (sync : Sync). finishes sync ≡ false)
        (sync_is ∙ ap (λ (turn : Turn). sync_after frames turn (sync_of state ask.request)) b.1) e in cc)

    own_stands : StandFits program own
    unfolding own
    own_stands = own_cases (StandFits program) E.sync (λ v q. subst (SyncFits program) q step_sync) (λ c m q. own_fits)
        (λ q. subst (λ (turn : Turn). StandFits program (Running (goes_on program move) (frames_after turn state.called frames) None)) (sym turn_is)
        (subst (λ (c : Control). StandFits program (Running c (frames_after ask.turn state.called frames) None)) (sym (left_is program move.action action move.left))
        (run_fits (kind_of action) refl by_kind q)))

    new_stands : (function : ℕ) → made_by E.sync ≡ Some function → StandFits program (new_stand function)
    unfolding new_stand
    new_stands function m = let b = body_fits program typed function in (b.0, (b.1, b.3 (made_answers program E.sync function step_sync m)))

    pub fits_later : StateFits program later
    unfolding after
    fits_later = record {
      memory = memory_fits program E.stores state.memory step_stores fits.memory;
      keys = λ cell. key_fits program E.sync t cell (state.key cell) step_sync (fits.keys cell);
      stands = λ other. stand_cases (StandFits program) other new_stands own_stands (fits.stands other);
    }
