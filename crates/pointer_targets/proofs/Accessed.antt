-- What a step accesses of static data cells, its action may touch.
use Rattle.std.proofs.Common.{◌≡◌, refl, sym, subst, ap, ◌∙◌, Bool, true, false, ℕ, zero, suc, ◌<◌, List, [], ◌∷◌, ◌++◌, Option, Some, None}
use Rattle.std.specs.Prelude.{option_map, unwrap_or, slice_get}
use Rattle.c_program.specs.declared.action.Action.{Action}
use Rattle.c_program.specs.declared.action.Local.{Local}
use Rattle.c_program.specs.declared.action.Act.{Act}
use Rattle.c_program.specs.declared.action.Act.TheVariants.{Turn as NoAction}
use Rattle.c_program.specs.declared.program.Program.{Program}
use Rattle.c_program.specs.Syntax.{act_at, parameters_at}
use Rattle.c_program.specs.Types.{is_zero}
use Rattle.c_program.specs.Values.{Root, Static, Of_thread, Of_frame, Cell, Value, Location, location_of, is_static, is_data_cell}
use Rattle.c_program.specs.Control.{Move, Spot, spot_in, string_of}
use Rattle.c_program.specs.State.{State, Stand, Frame, top, frames_of, here}
use Rattle.c_program.specs.Requests.{Load, Store, Sets, Copies, Clears, Zeroes, Request, Plain, Creates, Joins, Turn, Goes, Enters, Leaves, Exits, Ask, Asks}
use Rattle.c_program.specs.Happens.{load_reads, store_writes}
use Rattle.c_program.specs.Faults.{result_of}
use Rattle.c_program.specs.Effects.{Effect, effect_of, put, put_result, put_back, bound, bound_if, joined_result, result_in, stores_of}
use Rattle.c_program.specs.Step.{Choice, asked_by}
use Rattle.c_program.specs.Runs.{IsGoodRun, state_after}
use Rattle.c_program.specs.WellFormed.{IsWellFormed, act_is_known}
use Rattle.c_program.specs.Laws.{IsStepBy}
use Rattle.c_program.proofs.Asks.{EachAsk, from_each}
use Rattle.c_program.proofs.Cells.{cell_same}
use Rattle.pointer_targets.specs.Accesses.{MayTouch}
use Rattle.pointer_targets.specs.Laws.{EachReadIsAllowed, EachWriteIsAllowed, stored_atomically}
use Rattle.pointer_targets.proofs.Values.{IsBelow, below_here}
use Rattle.pointer_targets.proofs.Regions.{reached, within_is}
use Rattle.pointer_targets.proofs.Touching.{Touched, StoreTouched, EachLoad, EachStore, RequestTouched, AskTouched, action_touched, retakes_touched}
use Rattle.pointer_targets.proofs.Holding
use Rattle.pointer_targets.proofs.Holding.{Holding}
use Rattle.pointer_targets.proofs.Opening.{each_member, holding_run}

act_known : (program : Program) → IsWellFormed program → (n : ℕ) → act_is_known program (act_at program n) ≡ true
unfolding act_at
act_known program well n = go (slice_get program.actions n) refl
  where
    go : (o : Option Action) → slice_get program.actions n ≡ o → act_is_known program (unwrap_or (option_map (λ (action : Action). action.act) o) NoAction) ≡ true
    go None q = refl
    go (Some action) q = each_member program.actions n action (λ (x : Action). act_is_known program x.act) well.actions q

-- ---- stores in locals touch nothing static

module _ (program : Program) (strings : ℕ → List Spot) (string : List Spot) (spot : Spot) (action : Act) where
  abbrev S : List Store → Type 0
  S stores = EachStore program strings string spot action stores

  not_static : (frame own : ℕ) (path : List ℕ) → is_static (record { root = Of_frame frame own; path = path }) ≡ true → ⊥
  not_static frame own path s = absurd (cc)

  appended : (xs ys : List Store) → S xs → S ys → S (xs ++ ys)
  appended [] ys a b = b
  appended (x ∷ xs) ys a b = (a.0, appended xs ys a.1 b)

  put_touched : (frame : ℕ) (into : Option Local) (v : Option Value) → S (put frame into v)
  put_touched frame None v = tt
  put_touched frame (Some local) None = ((λ s. not_static frame local.object local.path s), tt)
  put_touched frame (Some local) (Some v) = ((λ s. absurd (not_static frame local.object local.path s)), tt)

  put_result_touched : (frame : ℕ) (into : Option Local) (v : Option Value) → S (put_result frame into v)
  put_result_touched frame into None = tt
  put_result_touched frame into (Some v) = put_touched frame into (Some v)

  bound_touched : (frame : ℕ) (ps : List ℕ) (vs : List Value) → S (bound frame ps vs)
  bound_touched frame [] vs = tt
  bound_touched frame (p ∷ ps) [] = tt
  bound_touched frame (p ∷ ps) (v ∷ vs) = ((λ s. absurd (not_static frame p [] s)), bound_touched frame ps vs)

  bound_if_touched : (b : Bool) (frame : ℕ) (ps : List ℕ) (v : Value) → S (bound_if b frame ps v)
  bound_if_touched true frame ps v = bound_touched frame ps (v ∷ [])
  bound_if_touched false frame ps v = tt

  back_touched : (frames : List Frame) (v : Option Value) → S (put_back frames v)
  back_touched [] v = tt
  back_touched (frame ∷ []) v = tt
  back_touched (frame ∷ caller ∷ frames) v = put_touched caller.number frame.result v

  joined_touched : (object : Cell) (into : Option Cell) (v : Option Value) → RequestTouched program strings string spot action (Joins object into) → S (joined_result into v)
  joined_touched object None v r = tt
  joined_touched object (Some cell) None r = tt
  joined_touched object (Some cell) (Some v) r = ((λ s. r), tt)

  module _ (state : State) (thread : ℕ) (frames : List Frame) (ask : Ask) (a : AskTouched program strings string spot action ask) where
    others : (request : Request) → S (ask.stores ++ put_result (top frames) ask.into (result_in state thread request ask.result))
    others request = appended ask.stores _ a.stores (put_result_touched (top frames) ask.into _)

    stores_touched : (request : Request) (turn : Turn) → RequestTouched program strings string spot action request → S (stores_of program state thread frames ask request turn)
    stores_touched (Creates object function v result) turn r = appended _ _ (bound_if_touched (is_zero result) state.called (parameters_at program function) v) (put_result_touched (top frames) ask.into ask.result)
    stores_touched (Joins object into) turn r = appended _ _ (joined_touched object into (result_of state (state.holds object)) r) (put_result_touched (top frames) ask.into ask.result)
    stores_touched Plain (Enters function arguments result) r = bound_touched state.called (parameters_at program function) arguments
    stores_touched Plain (Leaves result) r = back_touched frames result
    stores_touched Plain Goes r = others Plain
    stores_touched Plain (Exits result) r = others Plain
    stores_touched request turn r = others request

    pub step_stores : S (effect_of program state thread frames ask).stores
    unfolding effect_of
    step_stores = stores_touched ask.request ask.turn a.request

    pub step_loads : EachLoad program strings string spot action (effect_of program state thread frames ask).loads
    unfolding effect_of
    step_loads = a.loads

  same_some : {A : Type 0} (x y : A) → Some x ≡ Some y → x ≡ y
  same_some x y e = cc

  pub load_at : (loads : List Load) → EachLoad program strings string spot action loads → (n : ℕ) (load : Load) → slice_get loads n ≡ Some load → Touched program strings string spot action false load.is_atomic load.from
  load_at [] e n load q = absurd (cc)
  load_at (own ∷ loads) e zero load q = subst (λ (l : Load). Touched program strings string spot action false l.is_atomic l.from) (same_some own load q) e.0
  load_at (own ∷ loads) e (suc n) load q = load_at loads e.1 n load q

  pub store_at : (stores : List Store) → EachStore program strings string spot action stores → (n : ℕ) (store : Store) → slice_get stores n ≡ Some store → StoreTouched program strings string spot action store
  store_at [] e n store q = absurd (cc)
  store_at (own ∷ stores) e zero store q = subst (StoreTouched program strings string spot action) (same_some own store q) e.0
  store_at (own ∷ stores) e (suc n) store q = store_at stores e.1 n store q

  -- ---- regions

  region : (writes atomically : Bool) (from cell : Cell) (inner : List ℕ) (location : Location) → Touched program strings string spot action writes atomically from → from.root ≡ cell.root → inner ++ from.path ≡ cell.path
      → location_of program cell ≡ Some location → is_data_cell program cell ≡ true → MayTouch program string spot action writes atomically location
  region writes atomically from cell inner location t root path l d = record {
    access = t.access;
    number = t.number;
    has = t.has;
    as_write = t.as_write;
    as_atomic = t.as_atomic;
    region = reached program strings string spot t.access from cell inner location t.reaches root path l d;
  }

  pub located_static : (root other : Root) (path inner : List ℕ) (location : Location) → root ≡ other → location_of program (record { root = other; path = path }) ≡ Some location → is_static (record { root = root; path = inner }) ≡ true
  located_static root (Static own) path inner location e l = ap (λ r. is_static (record { root = r; path = inner })) e
  located_static root (Of_thread thread own) path inner location e l = absurd (cc)
  located_static root (Of_frame frame own) path inner location e l = absurd (cc)

  pub read_region : (load : Load) (cell : Cell) (location : Location) → Touched program strings string spot action false load.is_atomic load.from → load_reads cell load ≡ true
      → location_of program cell ≡ Some location → is_data_cell program cell ≡ true → MayTouch program string spot action false load.is_atomic location
  read_region load cell location t w l d = let p = within_is load.from cell w in region false load.is_atomic load.from cell p.0 location t p.1.0 p.1.1 l d

  pub write_region : (store : Store) (cell : Cell) (location : Location) → StoreTouched program strings string spot action store → store_writes cell store ≡ true
      → location_of program cell ≡ Some location → is_data_cell program cell ≡ true → MayTouch program string spot action true (stored_atomically store) location
  write_region (Sets to v a) cell location t w l d = let e : to ≡ cell = cell_same to cell w in
      region true a to cell [] location (t (located_static to.root cell.root cell.path to.path location (ap (λ (c : Cell). c.root) e) l)) (ap (λ (c : Cell). c.root) e) (ap (λ (c : Cell). c.path) e) l d
  write_region (Copies to from) cell location t w l d = let p = within_is to cell w in
      region true false to cell p.0 location (t (located_static to.root cell.root cell.path to.path location p.1.0 l)) p.1.0 p.1.1 l d
  write_region (Clears object) cell location t w l d = let p = within_is object cell w in absurd (t (located_static object.root cell.root cell.path object.path location p.1.0 l))
  write_region (Zeroes object) cell location t w l d = let p = within_is object cell w in absurd (t (located_static object.root cell.root cell.path object.path location p.1.0 l))

-- ---- steps of runs

module _ (program : Program) (well : IsWellFormed program) (run : List Choice) (good : IsGoodRun program run) (choice : Choice) (move : Move) (effect : Effect)
    (step : IsStepBy program (state_after program run) choice move effect) where
  abbrev state : State
  state = state_after program run

  abbrev t : ℕ
  t = choice.thread

  abbrev spot : Spot
  spot = spot_in step.control move.action

  abbrev action : Act
  action = act_at program move.action

  abbrev string : List Spot
  string = state.string (top (frames_of (state.thread t).stand))

  holding : Holding program state
  holding = holding_run program well run good

  string_is : string ≡ string_of step.control ++ (state.thread t).origin
  string_is = ap (λ (s : Stand). state.string (top (frames_of s))) step.stands ∙ Holding.here_string program well run good holding t step.control step.frames step.inside step.stands

  ask_touched : AskTouched program state.string string spot action step.ask
  ask_touched = go step.inside step.asks
    where
      go : (inside : Option Cell) → asked_by program state choice move inside ≡ Asks step.ask → AskTouched program state.string string spot action step.ask
      go None e = from_each (AskTouched program state.string string spot action) step.ask (subst (EachAsk (AskTouched program state.string string spot action)) e
          (action_touched program state.string (IsBelow state.called) (here program state t) refl
          (λ n. below_here state.called (here program state t) n (subst (λ (s : Stand). top (frames_of s) < state.called) (sym step.stands) (Holding.below_top program well run good holding t step.control step.frames step.inside step.stands)))
          spot (Holding.here_constant program well run good holding t step.control step.frames step.inside step.stands) (Holding.here_memory program well run good holding t step.control step.frames step.inside step.stands)
          action (act_known program well move.action) choice.pair choice.values))
      go (Some m) e = from_each (AskTouched program state.string string spot action) step.ask (subst (EachAsk (AskTouched program state.string string spot action)) e
          (retakes_touched program state.string string spot action m choice.values))

  pub stores_are : EachStore program state.string string spot action effect.stores
  stores_are = subst (λ (x : Effect). EachStore program state.string string spot action x.stores) (sym step.gives) (step_stores program state.string string spot action state t step.frames step.ask ask_touched)

  pub loads_are : EachLoad program state.string string spot action effect.loads
  loads_are = subst (λ (x : Effect). EachLoad program state.string string spot action x.loads) (sym step.gives) (step_loads program state.string string spot action state t step.frames step.ask ask_touched)

  pub reads_are : (cell : Cell) (location : Location) → location_of program cell ≡ Some location → is_data_cell program cell ≡ true → (number : ℕ) (load : Load) → slice_get effect.loads number ≡ Some load → load_reads cell load ≡ true
      → MayTouch program (string_of step.control ++ (state.thread t).origin) spot action false load.is_atomic location
  reads_are cell location l d number load q w = subst (λ s. MayTouch program s spot action false load.is_atomic location) string_is
      (read_region program state.string string spot action load cell location (load_at program state.string string spot action effect.loads loads_are number load q) w l d)

  pub writes_are : (cell : Cell) (location : Location) → location_of program cell ≡ Some location → is_data_cell program cell ≡ true → (number : ℕ) (store : Store) → slice_get effect.stores number ≡ Some store → store_writes cell store ≡ true
      → MayTouch program (string_of step.control ++ (state.thread t).origin) spot action true (stored_atomically store) location
  writes_are cell location l d number store q w = subst (λ s. MayTouch program s spot action true (stored_atomically store) location) string_is
      (write_region program state.string string spot action store cell location (store_at program state.string string spot action effect.stores stores_are number store q) w l d)

pub reads_allowed : (program : Program) → IsWellFormed program → EachReadIsAllowed program
reads_allowed program well run good choice move effect step cell location l d number load q w = reads_are program well run good choice move effect step cell location l d number load q w

pub writes_allowed : (program : Program) → IsWellFormed program → EachWriteIsAllowed program
writes_allowed program well run good choice move effect step cell location l d number store q w = writes_are program well run good choice move effect step cell location l d number store q w
