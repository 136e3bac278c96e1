-- What a step stores, and what it does to keys and threads, fits points-to.
use Rattle.std.proofs.Common.{◌≡◌, refl, sym, subst, ap, ◌∙◌, Bool, true, false, cond, ◌==◌, ℕ, ◌<◌, ◌≤◌, List, [], ◌∷◌, ◌++◌, Option, Some, None, arith}
use Rattle.c_program.specs.declared.types.Base.{Base}
use Rattle.c_program.specs.declared.types.Base.TheVariants.{Integer, Atomic}
use Rattle.c_program.specs.declared.expression.Expr.{Expr}
use Rattle.c_program.specs.declared.action.Local.{Local}
use Rattle.c_program.specs.declared.action.Act.TheVariants as act
use Rattle.c_program.specs.declared.program.Program.{Program}
use Rattle.c_program.specs.Syntax.{act_at, parameters_at}
use Rattle.c_program.specs.Types.{is_zero}
use Rattle.c_program.specs.Values.{Root, Static, Of_thread, Of_frame, Cell, Value, Number, Address, null, same_cell}
use Rattle.c_program.specs.Control.{Spot}
use Rattle.c_program.specs.State.{State, Stand, Not_made, Running, Ended, Frame, Life, Unmade, Live, Dead, top}
use Rattle.c_program.specs.Requests.{Store, Sets, Copies, Clears, Zeroes, Request, Plain, Creates, Joins, Detaches, Inits, Tries, Tries_timed, Opens, Makes_key, Gets_key, Sets_key, Turn, Goes, Enters, Leaves, Exits, Ask}
use Rattle.c_program.specs.Faults.{result_of, result_of_stand}
use Rattle.c_program.specs.Effects.{Sync, Writes_key, Starts_key, Kills_key, Finishes, sync_of, sync_after, if_done, marks, at_base, put, put_result, put_back, bound, bound_if, joined_result, result_in, pointer_in, stores_of, key_after, pointed, effect_of, enters}
use Rattle.c_program.specs.Laws.{CallsHave}
use Rattle.c_program.specs.Paths.{IsPoint}
use Rattle.c_program.proofs.Cells.{cell_same}
use Rattle.pointer_targets.specs.Places.{Of_string, own_place, below, site_of, place_of}
use Rattle.pointer_targets.specs.PointsTo.{MayPointTo, Holds, Keeps, Results, returned, ended}
use Rattle.pointer_targets.proofs.Values.{IsBelow, OnAddress, OnOption, on_map, option_on_map}
use Rattle.pointer_targets.proofs.Fine.{Points, Copied, StoreFine, EachFine, KeptFine, ResultFine, IntoFine, Given, Passed, BoundFine, RequestFine, Leaving, TurnFine, AskFine}

-- the keys and results of a state
abbrev pub KeyFine : Program → (ℕ → List Spot) → (Root → Type 0) → Cell → Life (ℕ → Value) → Type 0
KeyFine program strings B key (Live pointers) = (thread : ℕ) → OnAddress (KeptFine program strings B key) (pointers thread)
KeyFine program strings B key _ = Unit {0}

abbrev pub StandFine : Program → (ℕ → List Spot) → (Root → Type 0) → Stand → Type 0
StandFine program strings B (Ended result) = OnOption (ResultFine program strings B) result
StandFine program strings B _ = Unit {0}

-- each open call but the last was made by an action of its caller, to whose local its result goes
pub record CallGives (program : Program) (strings : ℕ → List Spot) (frame caller : Frame) (into : Local) : Type 0 where
  pub call : Spot
  pub function : ℕ
  pub arguments : List Expr
  pub above : strings frame.number ≡ call ∷ strings caller.number
  pub is_call : act_at program call.action ≡ act.Call function arguments (Some into)

abbrev pub FramesGive : Program → (ℕ → List Spot) → List Frame → Type 0
FramesGive program strings [] = Unit {0}
FramesGive program strings (frame ∷ []) = Unit {0}
FramesGive program strings (frame ∷ caller ∷ frames) = ((into : Local) → frame.result ≡ Some into → CallGives program strings frame caller into) × FramesGive program strings (caller ∷ frames)

abbrev pub SyncFine : Program → (ℕ → List Spot) → (Root → Type 0) → Sync → Type 0
SyncFine program strings B (Writes_key k v) = OnAddress (KeptFine program strings B k) v
SyncFine program strings B (Finishes result) = OnOption (ResultFine program strings B) result
SyncFine program strings B _ = Unit {0}

pub base_on : (Q : Cell → Type 0) (base : Base) (pointers : List Bool) (v : Value) → OnAddress Q v → OnAddress Q (at_base base pointers v)
base_on Q (Integer t) [] (Number z) p = tt
base_on Q (Integer t) [] (Address cell) p = p
base_on Q (Integer t) (x ∷ xs) v p = p
base_on Q (Atomic t) [] (Number z) p = tt
base_on Q (Atomic t) [] (Address cell) p = p
base_on Q (Atomic t) (x ∷ xs) v p = p
base_on Q _ pointers v p = p

-- ---- what fits goes on fitting where calls are made

module _ (program : Program) (strings later : ℕ → List Spot) (called next : ℕ) (kept : (n : ℕ) → n < called → later n ≡ strings n) (grows : called ≤ next) where
  below_kept : (root : Root) → IsBelow called root → IsBelow next root
  below_kept (Static own) l = tt
  below_kept (Of_thread thread own) l = tt
  below_kept (Of_frame frame own) l = omega arith

  pub place_kept : (cell : Cell) → IsBelow called cell.root → place_of later cell ≡ place_of strings cell
  place_kept cell l = ap (λ s. record { site = s; path = cell.path }) (site_kept cell.root l)
    where
      site_kept : (root : Root) → IsBelow called root → site_of later root ≡ site_of strings root
      site_kept (Static own) l = refl
      site_kept (Of_thread thread own) l = refl
      site_kept (Of_frame frame own) l = ap (λ s. Of_string s own) (kept frame l)

  pub points_kept : (a b : Cell) → Points program strings (IsBelow called) a b → Points program later (IsBelow next) a b
  points_kept a b p = (
    below_kept a.root p.0,
    below_kept b.root p.1,
    subst (λ x. Holds program x (place_of later b)) (sym (place_kept a p.0)) (subst (Holds program (place_of strings a)) (sym (place_kept b p.1)) p.2),
  )

  pub key_points_kept : (a b : Cell) → KeptFine program strings (IsBelow called) a b → KeptFine program later (IsBelow next) a b
  key_points_kept a b p = (
    below_kept a.root p.0,
    below_kept b.root p.1,
    subst (λ x. Keeps program x (place_of later b)) (sym (place_kept a p.0)) (subst (Keeps program (place_of strings a)) (sym (place_kept b p.1)) p.2),
  )

  pub result_kept : (b : Cell) → ResultFine program strings (IsBelow called) b → ResultFine program later (IsBelow next) b
  result_kept b p = (below_kept b.root p.0, subst (Results program) (sym (place_kept b p.0)) p.1)

  copied_kept : (a b : Cell) → Copied program strings (IsBelow called) a b → Copied program later (IsBelow next) a b
  copied_kept a b p = (
    below_kept a.root p.0,
    below_kept b.root p.1,
    λ path target h.
        subst (λ x. Holds program (below path x) target) (sym (place_kept a p.0)) (p.2 path target (subst (λ x. Holds program (below path x) target) (place_kept b p.1) h)),
  )

  store_kept : (store : Store) → StoreFine program strings (IsBelow called) store → StoreFine program later (IsBelow next) store
  store_kept (Sets to v a) f = on_map (Points program strings (IsBelow called) to) (Points program later (IsBelow next) to) (points_kept to) v f
  store_kept (Copies to from) f = copied_kept to from f
  store_kept (Clears object) f = tt
  store_kept (Zeroes object) f = tt

  stores_kept : (stores : List Store) → EachFine program strings (IsBelow called) stores → EachFine program later (IsBelow next) stores
  stores_kept [] f = tt
  stores_kept (store ∷ stores) f = (store_kept store f.0, stores_kept stores f.1)

  pub key_kept : (key : Cell) (life : Life (ℕ → Value)) → KeyFine program strings (IsBelow called) key life → KeyFine program later (IsBelow next) key life
  key_kept key (Live pointers) f = λ t. on_map (KeptFine program strings (IsBelow called) key) (KeptFine program later (IsBelow next) key) (key_points_kept key) (pointers t) (f t)
  key_kept key Unmade f = tt
  key_kept key Dead f = tt

  pub stand_kept : (stand : Stand) → StandFine program strings (IsBelow called) stand → StandFine program later (IsBelow next) stand
  stand_kept (Ended result) f = option_on_map (ResultFine program strings (IsBelow called)) (ResultFine program later (IsBelow next)) result_kept result f
  stand_kept Not_made f = tt
  stand_kept (Running control frames inside) f = tt

  pub sync_kept : (sync : Sync) → SyncFine program strings (IsBelow called) sync → SyncFine program later (IsBelow next) sync
  sync_kept (Writes_key k v) f = on_map (KeptFine program strings (IsBelow called) k) (KeptFine program later (IsBelow next) k) (key_points_kept k) v f
  sync_kept (Finishes result) f = option_on_map (ResultFine program strings (IsBelow called)) (ResultFine program later (IsBelow next)) result_kept result f
  sync_kept _ f = tt

  -- ---- stores

  appended : (xs ys : List Store) → EachFine program later (IsBelow next) xs → EachFine program later (IsBelow next) ys → EachFine program later (IsBelow next) (xs ++ ys)
  appended [] ys a b = b
  appended (x ∷ xs) ys a b = (a.0, appended xs ys a.1 b)

  -- a local of a call that was made
  abbrev ForLocal : ℕ → Local → Cell → Type 0
  ForLocal frame local cell = IsBelow called cell.root × Holds program (own_place (strings frame) local.object local.path) (place_of strings cell)

  put_fine : (frame : ℕ) → frame < called → (into : Option Local) (v : Option Value) → ((local : Local) → into ≡ Some local → OnOption (ForLocal frame local) v) → EachFine program later (IsBelow next) (put frame into v)
  put_fine frame l None v h = tt
  put_fine frame l (Some local) None h = (tt, tt)
  put_fine frame l (Some local) (Some v) h = (
    base_on (Points program later (IsBelow next) (record { root = Of_frame frame local.object; path = local.path })) local.c_type.base local.c_type.pointers v
        (on_map (ForLocal frame local) (Points program later (IsBelow next) (record { root = Of_frame frame local.object; path = local.path }))
        (λ cell p. points_kept (record { root = Of_frame frame local.object; path = local.path }) cell (l, p.0, p.1)) v (h local refl)),
    tt,
  )

  joined_fine : (into : Option Cell) (v : Option Value) → (turn : Turn) (own : Option Local) (string : List Spot) (spot : Spot) (object : Cell) → RequestFine program strings (IsBelow called) string spot own turn (Joins object into)
      → OnOption (ResultFine program strings (IsBelow called)) v → EachFine program later (IsBelow next) (joined_result into v)
  joined_fine None v turn own string spot object r p = tt
  joined_fine (Some cell) None turn own string spot object r p = tt
  joined_fine (Some cell) (Some v) turn own string spot object r p = (
    on_map (ResultFine program strings (IsBelow called)) (Points program later (IsBelow next) cell)
        (λ c q. points_kept cell c (r.0, q.0, r.1 (place_of strings c) q.1)) v p,
    tt,
  )

  -- the parameters of the call that is made
  bound_stores : (string : List Spot) (spot : Spot) → later called ≡ spot ∷ string → called < next → (ps : List ℕ) (vs : List Value) → BoundFine program strings (IsBelow called) string spot ps vs
      → EachFine program later (IsBelow next) (bound called ps vs)
  bound_stores string spot s l [] vs b = tt
  bound_stores string spot s l (p ∷ ps) [] b = tt
  bound_stores string spot s l (p ∷ ps) (v ∷ vs) b = (
    on_map (Passed program strings (IsBelow called) string spot p) (Points program later (IsBelow next) (record { root = Of_frame called p; path = [] }))
        (λ c q. (l, below_kept c.root q.0, subst (λ x. Holds program (own_place x p []) (place_of later c)) (sym s) (subst (Holds program (own_place (spot ∷ string) p [])) (sym (place_kept c q.0)) q.1))) v b.0,
    bound_stores string spot s l ps vs b.1,
  )

  -- ---- of a step

  module _ (thread : List Spot) (spot : Spot) (frames : List Frame) (point : IsPoint program thread (record { string = strings (top frames); spot = spot })) (below_top : top frames < called)
      (below_caller : (frame caller : Frame) (fs : List Frame) → frames ≡ frame ∷ caller ∷ fs → caller.number < called)
      (gives : FramesGive program strings frames) (ask : Ask) (fine : AskFine program strings (IsBelow called) (strings (top frames)) spot ask) where
    abbrev string : List Spot
    string = strings (top frames)

    into_local : (into : Option Local) (local : Local) → into ≡ Some local → (o : Option Value) → OnOption (Given program strings (IsBelow called) string spot into) o → OnOption (ForLocal (top frames) local) o
    into_local into local q o g = option_on_map (Given program strings (IsBelow called) string spot into) (ForLocal (top frames) local) (λ cell p. (p.0, subst (λ i. IntoFine program strings (IsBelow called) string spot i (place_of strings cell)) q p.1)) o g

    result_fine : (o : Option Value) → OnOption (Given program strings (IsBelow called) string spot ask.into) o → EachFine program later (IsBelow next) (put_result (top frames) ask.into o)
    result_fine None g = tt
    result_fine (Some v) g = put_fine (top frames) below_top ask.into (Some v) (λ local q. into_local ask.into local q (Some v) g)

    back_fine : (fs : List Frame) → fs ≡ frames → FramesGive program strings fs → (result : Option Value) → OnOption (Leaving program strings (IsBelow called) string spot) result → EachFine program later (IsBelow next) (put_back fs result)
    back_fine [] q g result p = tt
    back_fine (frame ∷ []) q g result p = tt
    back_fine (frame ∷ caller ∷ fs) q g result p = put_fine caller.number (below_caller frame caller fs (sym q)) frame.result result (λ local r.
        option_on_map (Leaving program strings (IsBelow called) string spot) (ForLocal caller.number local) (λ cell m. (m.0, to_caller local (g.0 local r) cell m)) result p)
      where
        to_caller : (local : Local) → CallGives program strings frame caller local → (cell : Cell) → Leaving program strings (IsBelow called) string spot cell
            → Holds program (own_place (strings caller.number) local.object local.path) (place_of strings cell)
        to_caller local c cell m =
            let s : string ≡ c.call ∷ strings caller.number = ap (λ l. strings (top l)) (sym q) ∙ c.above in
            returned thread (strings caller.number) c.call spot c.function c.arguments local m.1.0 (place_of strings cell)
            (record { point = subst (λ x. IsPoint program thread (record { string = x; spot = spot })) s point; is = m.1.1.0 })
            c.is_call (subst (λ x. MayPointTo program x spot.rounds m.1.0 (place_of strings cell)) s m.1.1.1)

    module _ (state : State) (own : ℕ) (is_called : state.called ≡ called)
        (keys : (key : Cell) → KeyFine program strings (IsBelow called) key (state.key key)) (results : (t : ℕ) → StandFine program strings (IsBelow called) (state.thread t).stand)
        (enters_call : enters ask.turn ≡ true → (later called ≡ spot ∷ string) × (called < next))
        (makes : (object : Cell) (function : ℕ) (v : Value) (result : _) → ask.request ≡ Creates object function v result → ask.turn ≡ Goes → is_zero result ≡ true → (later called ≡ spot ∷ string) × (called < next)) where
      stand_result : (stand : Stand) → StandFine program strings (IsBelow called) stand → OnOption (ResultFine program strings (IsBelow called)) (result_of_stand stand)
      stand_result Not_made f = tt
      stand_result (Running control fs inside) f = tt
      stand_result (Ended result) f = f

      held_result : (held : Option ℕ) → OnOption (ResultFine program strings (IsBelow called)) (result_of state held)
      held_result None = tt
      held_result (Some t) = stand_result (state.thread t).stand (results t)

      held_pointer : (key : Cell) (life : Life (ℕ → Value)) → KeyFine program strings (IsBelow called) key life → OnOption (KeptFine program strings (IsBelow called) key) (pointer_in own life)
      held_pointer key (Live pointers) k = k own
      held_pointer key Unmade k = tt
      held_pointer key Dead k = tt

      result_in_fine : (request : Request) → RequestFine program strings (IsBelow called) string spot ask.into ask.turn request → OnOption (Given program strings (IsBelow called) string spot ask.into) (result_in state own request ask.result)
      result_in_fine (Gets_key k) r = option_on_map (KeptFine program strings (IsBelow called) k) (Given program strings (IsBelow called) string spot ask.into) (λ cell p. (p.1, r (place_of strings cell) p.2)) _ (held_pointer k (state.key k) (keys k))
      result_in_fine _ r = fine.result

      others_fine : (request : Request) → RequestFine program strings (IsBelow called) string spot ask.into ask.turn request → EachFine program later (IsBelow next) (ask.stores ++ put_result (top frames) ask.into (result_in state own request ask.result))
      others_fine request r = appended ask.stores _ (stores_kept ask.stores fine.stores) (result_fine _ (result_in_fine request r))

      bound_if_fine : (b : Bool) (ps : List ℕ) (v : Value) → (b ≡ true → (later called ≡ spot ∷ string) × (called < next)) → BoundFine program strings (IsBelow called) string spot ps (v ∷ []) → EachFine program later (IsBelow next) (bound_if b called ps v)
      bound_if_fine true ps v o b = let m = o refl in bound_stores string spot m.0 m.1 ps (v ∷ []) b
      bound_if_fine false ps v o b = tt

      stores_fine : (request : Request) (turn : Turn) → ask.request ≡ request → ask.turn ≡ turn → RequestFine program strings (IsBelow called) string spot ask.into ask.turn request → TurnFine program strings (IsBelow called) string spot turn
          → EachFine program later (IsBelow next) (stores_of program state own frames ask request turn)
      stores_fine (Creates object function v result) turn q e r t =
          appended _ _ (subst (λ n. EachFine program later (IsBelow next) (bound_if (is_zero result) n (parameters_at program function) v)) (sym is_called)
          (bound_if_fine (is_zero result) (parameters_at program function) v (λ z. makes object function v result q r.0 z) r.1)) (result_fine ask.result fine.result)
      stores_fine (Joins object into) turn q e r t =
          appended _ _ (joined_fine into _ ask.turn ask.into string spot object r (held_result (state.holds object))) (result_fine ask.result fine.result)
      stores_fine Plain (Enters function arguments result) q e r t = let m = enters_call (ap enters e) in
          subst (λ n. EachFine program later (IsBelow next) (bound n (parameters_at program function) arguments)) (sym is_called) (bound_stores string spot m.0 m.1 (parameters_at program function) arguments t.0)
      stores_fine Plain (Leaves result) q e r t = back_fine frames refl gives result t
      stores_fine Plain Goes q e r t = others_fine Plain r
      stores_fine Plain (Exits result) q e r t = others_fine Plain r
      stores_fine request turn q e r t = others_fine request r

      pub step_stores : EachFine program later (IsBelow next) (effect_of program state own frames ask).stores
      unfolding effect_of
      step_stores = stores_fine ask.request ask.turn refl refl fine.request fine.turn

      -- ---- keys and ends

      done_fine : (b : Bool) (sync : Sync) → SyncFine program strings (IsBelow called) sync → SyncFine program strings (IsBelow called) (if_done b sync)
      done_fine true sync s = s
      done_fine false sync s = tt

      marks_fine : (held : Option ℕ) (mark : _) → SyncFine program strings (IsBelow called) (marks held mark)
      marks_fine None mark = tt
      marks_fine (Some t) mark = tt

      sync_fine : (request : Request) → RequestFine program strings (IsBelow called) string spot ask.into ask.turn request → SyncFine program strings (IsBelow called) (sync_of state request)
      sync_fine (Creates object function v result) r = done_fine (is_zero result) _ tt
      sync_fine (Joins object into) r = marks_fine (state.holds object) _
      sync_fine (Detaches object) r = marks_fine (state.holds object) _
      sync_fine (Inits m kind result) r = done_fine (is_zero result) _ tt
      sync_fine (Tries m result) r = done_fine (is_zero result) _ tt
      sync_fine (Tries_timed m result) r = done_fine (is_zero result) _ tt
      sync_fine (Opens c result) r = done_fine (is_zero result) _ tt
      sync_fine (Makes_key k result) r = done_fine (is_zero result) _ tt
      sync_fine (Sets_key k v) r = r
      sync_fine _ r = tt

      -- the first function of a thread ends
      ends : (result : Option Value) → string ≡ thread → OnOption (Leaving program strings (IsBelow called) string spot) result → OnOption (ResultFine program strings (IsBelow called)) result
      ends result q p = option_on_map (Leaving program strings (IsBelow called) string spot) (ResultFine program strings (IsBelow called)) (λ cell m. (
        m.0,
        ended thread spot m.1.0 (place_of strings cell)
            (record { point = subst (λ x. IsPoint program thread (record { string = x; spot = spot })) q point; is = m.1.1.0 })
            (subst (λ x. MayPointTo program x spot.rounds m.1.0 (place_of strings cell)) q m.1.1.1),
      )) result p

      after_fine : (fs : List Frame) (cs : List Spot) → fs ≡ frames → CallsHave strings thread cs fs → (turn : Turn) (sync : Sync) → TurnFine program strings (IsBelow called) string spot turn → SyncFine program strings (IsBelow called) sync → SyncFine program strings (IsBelow called) (sync_after fs turn sync)
      after_fine fs cs q c Goes sync t s = s
      after_fine fs cs q c (Enters function arguments result) sync t s = s
      after_fine fs cs q c (Exits result) sync t s = t
      after_fine [] [] q c (Leaves result) sync t s = absurd c
      after_fine [] (x ∷ cs) q c (Leaves result) sync t s = absurd c
      after_fine (frame ∷ []) [] q c (Leaves result) sync t s = ends result (ap (λ l. strings (top l)) (sym q) ∙ c) t
      after_fine (frame ∷ []) (x ∷ []) q c (Leaves result) sync t s = absurd c.1
      after_fine (frame ∷ []) (x ∷ y ∷ cs) q c (Leaves result) sync t s = absurd c.1
      after_fine (frame ∷ caller ∷ fs) cs q c (Leaves result) sync t s = s

      pub step_sync : (cs : List Spot) → CallsHave strings thread cs frames → SyncFine program later (IsBelow next) (effect_of program state own frames ask).sync
      unfolding effect_of
      step_sync cs c = sync_kept (sync_after frames ask.turn (sync_of state ask.request)) (after_fine frames cs refl c ask.turn (sync_of state ask.request) fine.turn (sync_fine ask.request fine.request))

-- ---- one key

pub key_fine : (program : Program) (strings : ℕ → List Spot) (B : Root → Type 0) (sync : Sync) (thread : ℕ) (cell : Cell) (life : Life (ℕ → Value)) → SyncFine program strings B sync → KeyFine program strings B cell life
    → KeyFine program strings B cell (key_after sync thread cell life)
key_fine program strings B (Starts_key k) thread cell life s h = go (same_cell k cell)
  where
    go : (b : Bool) → KeyFine program strings B cell (cond b (Live (λ other. null)) life)
    go true = λ t. tt
    go false = h
key_fine program strings B (Writes_key k v) thread cell life s h = go (same_cell k cell) refl life h
  where
    one : (pointers : ℕ → Value) → OnAddress (KeptFine program strings B cell) v → ((t : ℕ) → OnAddress (KeptFine program strings B cell) (pointers t)) → (other : ℕ) (b : Bool)
        → OnAddress (KeptFine program strings B cell) (cond b v (pointers other))
    one pointers w p other true = w
    one pointers w p other false = p other

    go : (b : Bool) → same_cell k cell ≡ b → (life : Life (ℕ → Value)) → KeyFine program strings B cell life → KeyFine program strings B cell (cond b (pointed thread v life) life)
    go true e (Live pointers) h = λ other. one pointers (subst (λ c. OnAddress (KeptFine program strings B c) v) (cell_same k cell e) s) h other (other == thread)
    go true e Unmade h = tt
    go true e Dead h = tt
    go false e life h = h
key_fine program strings B (Kills_key k) thread cell life s h = go (same_cell k cell)
  where
    go : (b : Bool) → KeyFine program strings B cell (cond b Dead life)
    go true = tt
    go false = h
key_fine program strings B _ thread cell life s h = h
