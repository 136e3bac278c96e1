-- Where nothing escapes, no thread comes to an address of another one's objects.
use Rattle.std.proofs.Common.{◌≡◌, refl, sym, subst, ap, ◌∙◌, Bool, true, false, cond, if◌then◌else◌, ◌||◌, ◌==◌, ℕ, ◌<◌, List, [], ◌∷◌, ◌++◌, Option, Some, None, eq-eqb, eqb-true, arith}
use Rattle.std.proofs.lemmas.Grind.{common_steps}
use Rattle.c_program.specs.declared.program.Program.{Program}
use Rattle.c_program.specs.declared.program.Storage.{Storage}
use Rattle.c_program.specs.declared.program.Storage.TheVariants as storage
use Rattle.c_program.specs.Syntax.{act_at, parameters_at}
use Rattle.c_program.specs.Types.{is_zero}
use Rattle.c_program.specs.Values.{Root, Static, Of_thread, Of_frame, Cell, Value, Number, Address}
use Rattle.c_program.specs.Evaluation.{root_in, root_of}
use Rattle.c_program.specs.Control.{Control, Move, Spot, spot_in, string_of}
use Rattle.c_program.specs.State.{State, Thread, Stand, Not_made, Running, Ended, Frame, Life, Live, Unmade, Dead, top, frames_of, here}
use Rattle.c_program.specs.Requests.{Store, Sets, Copies, Clears, Zeroes, Request, Plain, Creates, Joins, Gets_key, Turn, Goes, Enters, Leaves, Exits, Ask, Asks}
use Rattle.c_program.specs.Faults.{result_of, result_of_stand}
use Rattle.c_program.specs.Effects.{Sync, Makes, Effect, effect_of, sync_of, sync_after, if_done, made_by, enters, frames_after, is_among, put_back, put_result, bound, bound_if, result_in, pointer_in, stores_of, after}
use Rattle.c_program.specs.Step.{Choice, asked_by}
use Rattle.c_program.specs.Runs.{IsGoodRun, state_after}
use Rattle.c_program.specs.WellFormed.{IsWellFormed}
use Rattle.c_program.specs.Laws.{IsStepBy}
use Rattle.c_program.proofs.Asks.{EachAsk, from_each}
use Rattle.c_program.proofs.Onward.{Kind, Goes_on, Calls, Returns, Exits_all, kind_of, ByKind}
use Rattle.c_program.proofs.Sound.{by_kind}
use Rattle.pointer_targets.specs.Places.{place_of}
use Rattle.pointer_targets.specs.PointsTo.{Stands, Holds}
use Rattle.pointer_targets.specs.Escapes.{into_thread, NoneEscapes}
use Rattle.pointer_targets.proofs.Values.{IsBelow, OnAddress, OnOption, on_map, option_on_map, below_here}
use Rattle.pointer_targets.proofs.Fine.{Points, StoreFine, EachFine, KeptFine, ResultFine, Given, Passed, BoundFine, Handed, RequestFine, Leaving, TurnFine, AskFine}
use Rattle.pointer_targets.proofs.Asked.{action_fine, retakes_fine}
use Rattle.pointer_targets.proofs.Changes.{KeyFine, StandFine, points_kept}
use Rattle.pointer_targets.proofs.Holding
use Rattle.pointer_targets.proofs.Holding.{Holding}
use Rattle.pointer_targets.proofs.Owned.{Has, Within, Kept, StoreKept, EachKept, same_thread, static_kept, static_result, Fits, MemoryKept, from_part, memory_kept, appended_kept, OfThread, put_kept, put_result_kept, to_own, bound_kept, joined_kept}

-- the thread that gets the new call
abbrev pub newcomer : State → ℕ → Option ℕ → ℕ
newcomer state t None = t
newcomer state t (Some function) = state.made

abbrev pub owner_after : (ℕ → ℕ) → State → ℕ → Sync → ℕ → ℕ
owner_after owner state t sync n = if n == state.called then newcomer state t (made_by sync) else owner n

pub record Isolated (program : Program) (owner : ℕ → ℕ) (state : State) : Type 0 where
  pub frames : (u n : ℕ) → is_among n (frames_of (state.thread u).stand) ≡ true → owner n ≡ u
  pub cells : (cell : Cell) → OnOption (Kept owner cell) (state.memory cell)

zip_on : (P R : Cell → Type 0) (o : Option Value) → OnOption P o → OnOption R o → OnOption (λ c. P c × R c) o
zip_on P R None p r = tt
zip_on P R (Some (Number z)) p r = tt
zip_on P R (Some (Address c)) p r = (p, r)

module _ (program : Program) (well : IsWellFormed program) (sealed : NoneEscapes program) (run : List Choice) (good : IsGoodRun program run) (holding : Holding program (state_after program run))
    (owner : ℕ → ℕ) (isolated : Isolated program owner (state_after program run)) where
  abbrev state : State
  state = state_after program run

  -- an object of a call that was made, static or of the thread
  abbrev pub Q : ℕ → Root → Type 0
  Q t root = IsBelow state.called root × Within owner t root

  module _ (t : ℕ) (control : Control) (frames : List Frame) (inside : Option Cell) (stands : (state.thread t).stand ≡ Running control frames inside) where
    top_own : owner (top frames) ≡ t
    top_own = isolated.frames t (top frames) (subst (λ fs. is_among (top frames) fs ≡ true) (sym (ap frames_of stands))
        (Holding.top_open state.string (state.thread t).origin (string_of control) frames (Holding.calls program well run good holding t control frames inside stands)))

    pub roots_own : (n : ℕ) → Q t (root_of (here program state t) n)
    roots_own n = (below_here state.called (here program state t) n (subst (λ (fs : List Frame). top fs < state.called) (sym (ap frames_of stands)) (Holding.below_top program well run good holding t control frames inside stands)), by_storage _)
      where
        by_storage : (s : Storage) → Within owner t (root_in (here program state t) s n)
        by_storage storage.Static = tt
        by_storage storage.Thread = refl
        by_storage storage.Automatic = ap (λ (s : Stand). owner (top (frames_of s))) stands ∙ top_own

    pub memory_own : (cell : Cell) → Q t cell.root → OnOption (λ to. Q t to.root × Holds program (place_of state.string cell) (place_of state.string to)) (state.memory cell)
    memory_own cell q = option_on_map (λ to. Points program state.string (IsBelow state.called) cell to × Kept owner cell to) (λ to. Q t to.root × Holds program (place_of state.string cell) (place_of state.string to))
        (λ to f. ((f.0.1, from_part program sealed state.string state.called owner cell.root cell.path to t q.1 f), f.0.2)) _
        (zip_on (Points program state.string (IsBelow state.called) cell) (Kept owner cell) (state.memory cell) (holding.cells cell) (isolated.cells cell))

  module _ (choice : Choice) (move : Move) (effect : Effect) (step : IsStepBy program state choice move effect) where
    abbrev t : ℕ
    t = choice.thread

    abbrev frames : List Frame
    frames = step.frames

    abbrev spot : Spot
    spot = spot_in step.control move.action

    abbrev string : List Spot
    string = state.string (top frames)

    abbrev E : Effect
    E = effect_of program state choice.thread step.frames step.ask

    abbrev later : State
    later = after program state choice.thread move E

    abbrev next : ℕ → ℕ
    next = owner_after owner state t E.sync

    frames_are : frames_of (state.thread t).stand ≡ frames
    frames_are = ap frames_of step.stands

    ask_own : AskFine program state.string (Q t) string spot step.ask
    ask_own = subst (λ (fs : List Frame). AskFine program state.string (Q t) (state.string (top fs)) spot step.ask) frames_are (go step.inside step.asks)
      where
        Of : Ask → Type 0
        Of ask = AskFine program state.string (Q t) (state.string (top (frames_of (state.thread t).stand))) spot ask

        go : (inside : Option Cell) → asked_by program state choice move inside ≡ Asks step.ask → Of step.ask
        go None e = from_each Of step.ask (subst (EachAsk Of) e
            (action_fine program state.string (Q t) (here program state t) refl (roots_own t step.control frames step.inside step.stands)
            spot (Holding.here_constant program well run good holding t step.control frames step.inside step.stands) (memory_own t step.control frames step.inside step.stands) (act_at program move.action) choice.pair choice.values
            (subst (λ (fs : List Frame). Stands program (state.string (top fs)) spot (act_at program move.action)) (sym frames_are)
            (Holding.here_stands program well run good holding t step.control frames step.inside step.stands move (choice.pair, step.offers)))))
        go (Some m) e = from_each Of step.ask (subst (EachAsk Of) e
            (retakes_fine program state.string (Q t) (state.string (top (frames_of (state.thread t).stand))) spot (act_at program move.action) m choice.values))

    -- ---- calls that were made keep their threads

    next_same : (n : ℕ) → n < state.called → next n ≡ owner n
    next_same n l = ap (λ b. cond b (newcomer state t (made_by E.sync)) (owner n)) (Holding.lt_differs n state.called l)

    next_new : next state.called ≡ newcomer state t (made_by E.sync)
    next_new = ap (λ b. cond b (newcomer state t (made_by E.sync)) (owner state.called)) (eq-eqb state.called state.called refl)

    within_on : (u : ℕ) (root : Root) → IsBelow state.called root → Within owner u root → Within next u root
    within_on u (Static own) l w = tt
    within_on u (Of_thread thread own) l w = w
    within_on u (Of_frame frame own) l w = next_same frame l ∙ w

    has_back : (u : ℕ) (root : Root) → IsBelow state.called root → Has next u root → Has owner u root
    has_back u (Static own) l h = h
    has_back u (Of_thread thread own) l h = h
    has_back u (Of_frame frame own) l h = sym (next_same frame l) ∙ h

    own_on : (cell : Cell) → Q t cell.root → OfThread next t cell
    own_on cell q = within_on t cell.root q.0 q.1

    to_kept : (to cell : Cell) → Q t to.root → Q t cell.root → Kept next to cell
    to_kept to cell p q u h = subst (λ n. Within next n cell.root) (same_thread owner t u to.root p.1 (has_back u to.root p.0 h)) (own_on cell q)

    store_kept : (store : Store) → StoreFine program state.string (Q t) store → StoreKept next store
    store_kept (Sets to v a) f = on_map (Points program state.string (Q t) to) (Kept next to) (λ cell p. to_kept to cell p.0 p.1) v f
    store_kept (Copies to from) f = to_kept to from f.0 f.1
    store_kept (Clears object) f = tt
    store_kept (Zeroes object) f = tt

    stores_kept : (stores : List Store) → EachFine program state.string (Q t) stores → EachKept next stores
    stores_kept [] f = tt
    stores_kept (store ∷ stores) f = (store_kept store f.0, stores_kept stores f.1)

    own_frame : (n : ℕ) → is_among n frames ≡ true → next n ≡ t
    own_frame n e = next_same n (Holding.below program well run good holding t step.control frames step.inside step.stands n e)
        ∙ isolated.frames t n (subst (λ fs. is_among n fs ≡ true) (sym frames_are) e)

    top_next : next (top frames) ≡ t
    top_next = own_frame (top frames) (Holding.top_open state.string (state.thread t).origin (string_of step.control) frames (Holding.calls program well run good holding t step.control frames step.inside step.stands))

    result_kept : (o : Option Value) → OnOption (OfThread next t) o → EachKept next (put_result (top frames) step.ask.into o)
    result_kept o w = put_result_kept next t (top frames) top_next step.ask.into o w

    asked_result : OnOption (OfThread next t) step.ask.result
    asked_result = option_on_map (Given program state.string (Q t) string spot step.ask.into) (OfThread next t) (λ cell g. own_on cell g.0) step.ask.result ask_own.result

    -- what a key has, and a thread ends with, is static
    pointer_static : (key : Cell) (life : Life (ℕ → Value)) → KeyFine program state.string (IsBelow state.called) key life → OnOption (OfThread next t) (pointer_in t life)
    pointer_static key (Live pointers) k = on_map (KeptFine program state.string (IsBelow state.called) key) (OfThread next t) (λ cell p. static_kept program sealed state.string next t key cell.root cell.path p.2) (pointers t) (k t)
    pointer_static key Unmade k = tt
    pointer_static key Dead k = tt

    held_static : (held : Option ℕ) → OnOption (OfThread next t) (result_of state held)
    held_static None = tt
    held_static (Some u) = by_stand (state.thread u).stand (holding.results u)
      where
        by_stand : (s : Stand) → StandFine program state.string (IsBelow state.called) s → OnOption (OfThread next t) (result_of_stand s)
        by_stand (Ended result) f = option_on_map (ResultFine program state.string (IsBelow state.called)) (OfThread next t) (λ cell p. static_result program sealed state.string next t cell.root cell.path p.1) result f
        by_stand (Running control fs inside) f = tt
        by_stand Not_made f = tt

    result_in_kept : (request : Request) → OnOption (OfThread next t) (result_in state t request step.ask.result)
    result_in_kept (Gets_key k) = pointer_static k (state.key k) (holding.keys k)
    result_in_kept _ = asked_result

    others_kept : (request : Request) → EachKept next (step.ask.stores ++ put_result (top frames) step.ask.into (result_in state t request step.ask.result))
    others_kept request = appended_kept next step.ask.stores _ (stores_kept step.ask.stores ask_own.stores) (result_kept _ (result_in_kept request))

    -- what enters a call makes no thread
    enters_alone : (kind : Kind) → ByKind kind step.ask → enters step.ask.turn ≡ true → made_by E.sync ≡ None
    enters_alone Goes_on b e = absurd (let f : false ≡ true = subst (λ (turn : Turn). enters turn ≡ true) b e in cc)
    enters_alone (Calls function into) b e = ap made_by (Holding.sync_is program well run good holding choice move effect step ∙ ap (λ (turn : Turn). sync_after frames turn (sync_of state step.ask.request)) b.0.1
        ∙ ap (λ (request : Request). sync_after frames (Enters function b.0.0 into) (sync_of state request)) b.1)
    enters_alone Returns b e = absurd (let f : false ≡ true = subst (λ (turn : Turn). enters turn ≡ true) b.0.1 e in cc)
    enters_alone Exits_all b e = absurd (let f : false ≡ true = subst (λ (turn : Turn). enters turn ≡ true) b.1 e in cc)

    enters_own : enters step.ask.turn ≡ true → next state.called ≡ t
    enters_own e = next_new ∙ ap (newcomer state t) (enters_alone (kind_of (act_at program move.action))
        (by_kind program well.counts state (Holding.sound program well run good holding) choice move step.control frames step.inside step.ask step.stands step.offers step.asks) e)

    made_is : (object : Cell) (function : ℕ) (v : Value) (result : _) → step.ask.request ≡ Creates object function v result → step.ask.turn ≡ Goes → is_zero result ≡ true → made_by E.sync ≡ Some function
    made_is object function v result q g z = ap made_by (Holding.sync_is program well run good holding choice move effect step ∙ ap (λ (turn : Turn). sync_after frames turn (sync_of state step.ask.request)) g
        ∙ ap (λ (r : Request). sync_of state r) q ∙ ap (λ b. if_done b (Makes object function)) z)

    handed_static : (v : Value) (u : ℕ) → OnAddress (Handed program state.string (Q t) string spot) v → OnAddress (OfThread next u) v
    handed_static v u h = on_map (Handed program state.string (Q t) string spot) (OfThread next u) (λ cell g. by_root cell.root cell.path g) v h
      where
        by_root : (root : Root) (path : List ℕ) → Handed program state.string (Q t) string spot (record { root = root; path = path }) → Within next u root
        by_root (Static own) path g = tt
        by_root (Of_thread thread own) path g = absurd (sealed _ (into_thread string spot g.0 g.1.0 g.1.1.0 g.1.1.1.0 _ refl g.1.1.1.1.0 g.1.1.1.1.1))
        by_root (Of_frame frame own) path g = absurd (sealed _ (into_thread string spot g.0 g.1.0 g.1.1.0 g.1.1.1.0 _ refl g.1.1.1.1.0 g.1.1.1.1.1))

    bound_own : next state.called ≡ t → (ps : List ℕ) (vs : List Value) → BoundFine program state.string (Q t) string spot ps vs → EachKept next (bound state.called ps vs)
    bound_own w [] vs b = tt
    bound_own w (p ∷ ps) [] b = tt
    bound_own w (p ∷ ps) (v ∷ vs) b = (to_own next t (record { root = Of_frame state.called p; path = [] }) w v (on_map (Passed program state.string (Q t) string spot p) (OfThread next t) (λ cell g. own_on cell g.0) v b.0), bound_own w ps vs b.1)

    bound_if_own : (b : Bool) (ps : List ℕ) (v : Value) → (b ≡ true → next state.called ≡ state.made) → OnAddress (Handed program state.string (Q t) string spot) v → EachKept next (bound_if b state.called ps v)
    bound_if_own true ps v w h = bound_kept next state.made state.called (w refl) ps (v ∷ []) (handed_static v state.made h, tt)
    bound_if_own false ps v w h = tt

    back_own : (fs : List Frame) → fs ≡ frames → (result : Option Value) → OnOption (Leaving program state.string (Q t) string spot) result → EachKept next (put_back fs result)
    back_own [] q result p = tt
    back_own (frame ∷ []) q result p = tt
    back_own (frame ∷ caller ∷ fs) q result p = put_kept next t caller.number (own_frame caller.number (subst (λ (l : List Frame). is_among caller.number l ≡ true) q
        (Holding.or_right _ _ (Holding.or_left _ _ (eq-eqb caller.number caller.number refl))))) frame.result result
        (option_on_map (Leaving program state.string (Q t) string spot) (OfThread next t) (λ cell m. own_on cell m.0) result p)

    into_own : (object : Cell) (into : Option Cell) → RequestFine program state.string (Q t) string spot step.ask.into step.ask.turn (Joins object into) → (cell : Cell) → into ≡ Some cell → Within next t cell.root
    into_own object None r cell q = absurd (cc)
    into_own object (Some own) r cell q = subst (λ (c : Cell). Within next t c.root) (same own cell q) (own_on own r.0)
      where
        same : (a b : Cell) → Some a ≡ Some b → a ≡ b
        same a b e = cc

    all_kept : (request : Request) (turn : Turn) → step.ask.request ≡ request → step.ask.turn ≡ turn → RequestFine program state.string (Q t) string spot step.ask.into step.ask.turn request → TurnFine program state.string (Q t) string spot turn
        → EachKept next (stores_of program state t frames step.ask request turn)
    all_kept (Creates object function v result) turn q e r u = appended_kept next _ _
        (bound_if_own (is_zero result) (parameters_at program function) v (λ z. next_new ∙ ap (newcomer state t) (made_is object function v result q r.0 z)) r.2) (result_kept step.ask.result asked_result)
    all_kept (Joins object into) turn q e r u = appended_kept next _ _ (joined_kept next t into _ (into_own object into r) (held_static (state.holds object))) (result_kept step.ask.result asked_result)
    all_kept Plain (Enters function arguments result) q e r u = bound_own (enters_own (ap enters e)) (parameters_at program function) arguments u.0
    all_kept Plain (Leaves result) q e r u = back_own frames refl result u
    all_kept Plain Goes q e r u = others_kept Plain
    all_kept Plain (Exits result) q e r u = others_kept Plain
    all_kept request turn q e r u = others_kept request

    step_kept : EachKept next E.stores
    unfolding effect_of
    step_kept = all_kept step.ask.request step.ask.turn refl refl ask_own.request ask_own.turn

    -- ---- behind the step

    kept_on : (cell to : Cell) → Points program state.string (IsBelow state.called) cell to → Kept owner cell to → Kept next cell to
    kept_on cell to p k u h = within_on u to.root p.1 (k u (has_back u cell.root p.0 h))

    cells_kept : MemoryKept program sealed later.string later.called next later.memory
    unfolding after
    cells_kept = memory_kept program sealed later.string later.called next E.stores state.memory (Holding.stores_fit program well run good holding choice move effect step) step_kept
        (λ cell. option_on_map (λ to. Points program state.string (IsBelow state.called) cell to × Kept owner cell to) (Fits program sealed later.string later.called next cell)
        (λ to f. (
          points_kept program state.string later.string state.called later.called (Holding.string_stays program well run good holding choice move effect step) (Holding.called_grows program well run good holding choice move effect step) cell to f.0,
          kept_on cell to f.0 f.1,
        )) _
        (zip_on (Points program state.string (IsBelow state.called) cell) (Kept owner cell) (state.memory cell) (holding.cells cell) (isolated.cells cell)))

    After : ℕ → ℕ → Stand → Type 0
    After u n s = is_among n (frames_of s) ≡ true → next n ≡ u

    turned : (turn : Turn) → step.ask.turn ≡ turn → (n : ℕ) → is_among n (frames_after turn state.called frames) ≡ true → next n ≡ t
    turned Goes e n a = own_frame n a
    turned (Exits result) e n a = own_frame n a
    turned (Enters function arguments into) e n a = go (state.called == n) refl
      where
        go : (b : Bool) → (state.called == n) ≡ b → next n ≡ t
        go true q = subst (λ m. next m ≡ t) (eqb-true state.called n q) (enters_own (ap enters e))
        go false q = own_frame n (subst (λ b. (b || is_among n frames) ≡ true) q a)
    turned (Leaves result) e n a = own_frame n (left frames a)
      where
        left : (fs : List Frame) → is_among n (frames_after (Leaves result) state.called fs) ≡ true → is_among n fs ≡ true
        left [] a = a
        left (frame ∷ fs) a = Holding.or_right _ _ a

    frames_after_step : (u n : ℕ) → is_among n (frames_of (later.thread u).stand) ≡ true → next n ≡ u
    unfolding After
    frames_after_step u n = Holding.stand_cases program well run good holding choice move effect step (After u n) u
        (λ function thread q m o. subst (λ (x : Thread). After u n x.stand) (sym q) (λ a. subst (λ k. next k ≡ u) (sym (only n a)) (next_new ∙ ap (newcomer state t) m ∙ sym o)))
        (λ o. Holding.own_cases program well run good holding choice move effect step (After u n) E.sync
        (λ result q a. absurd (cc)) (λ m a. own_frame n a ∙ sym o)
        (λ a. turned step.ask.turn refl n (subst (λ (turn : Turn). is_among n (frames_after turn state.called frames) ≡ true) (Holding.turn_is program well run good holding choice move effect step) a) ∙ sym o))
        (λ a. next_same n ((Holding.sound program well run good holding).below u n a) ∙ isolated.frames u n a)
      where
        only : (n : ℕ) → ((state.called == n) || false) ≡ true → n ≡ state.called
        only n e = grind (arith, common_steps)

    isolated_later : Isolated program next later
    isolated_later = record {
      frames = frames_after_step;
      cells = λ cell. option_on_map (Fits program sealed later.string later.called next cell) (Kept next cell) (λ to f. f.1) _ (cells_kept cell);
    }

    pub isolated_after : Isolated program (owner_after owner state t effect.sync) (after program state choice.thread move effect)
    isolated_after = subst (λ (x : Effect). Isolated program (owner_after owner state t x.sync) (after program state choice.thread move x)) (sym step.gives) isolated_later
