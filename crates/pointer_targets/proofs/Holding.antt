-- In each run each address that is held is one that points-to allows there.
use Rattle.std.proofs.Common.{◌≡◌, refl, sym, subst, ap, ◌∙◌, Bool, true, false, cond, ◌&&◌, ◌||◌, ◌==◌, ℕ, suc, ◌<◌, ◌≤◌, List, [], ◌∷◌, ◌++◌, Option, Some, None, eq-eqb, eqb-true, is_some, arith}
use Rattle.std.proofs.lemmas.Grind.{common_steps}
use Rattle.c_program.specs.declared.action.Local.{Local}
use Rattle.c_program.specs.declared.expression.Expr.{Expr}
use Rattle.c_program.specs.declared.program.Program.{Program}
use Rattle.c_program.specs.Syntax.{act_at}
use Rattle.c_program.specs.Types.{is_zero}
use Rattle.c_program.specs.Values.{Cell, Value}
use Rattle.c_program.specs.Control.{Control, Move, Spot, spot_in, string_of, rounds_of, goes_on}
use Rattle.c_program.specs.State.{State, Thread, Stand, Running, Ended, Frame, top, frames_of, control_of, here, spot_at, string_at, thread_before}
use Rattle.c_program.specs.Requests.{Request, Creates, Turn, Goes, Enters, Leaves, Exits, Ask, Asks}
use Rattle.c_program.specs.Effects.{Sync, Makes, Suspends, Finishes, Effect, effect_of, sync_of, sync_after, if_done, made_by, enters, opens_call, own_stand, frames_after, thread_after, is_among, after}
use Rattle.c_program.specs.Step.{Choice, asked_by}
use Rattle.c_program.specs.Runs.{IsGoodRun, state_after}
use Rattle.c_program.specs.Counters.{is_constant_in, constant_in}
use Rattle.c_program.specs.Evaluation.{eval}
use Rattle.c_program.specs.Paths.{IsPoint, stands_at, Offers}
use Rattle.c_program.specs.WellFormed.{IsWellFormed}
use Rattle.c_program.specs.Laws.{IsStepBy, IsLedTo, CallsHave}
use Rattle.c_program.proofs.Asks.{EachAsk, from_each}
use Rattle.c_program.proofs.Counters.{sound_run}
use Rattle.c_program.proofs.Sound.{Sound, if_either}
use Rattle.c_program.proofs.Locals.{strings_hold}
use Rattle.c_program.proofs.Constants.{constants_hold}
use Rattle.c_program.proofs.Led.{led, path_stands}
use Rattle.c_program.proofs.Standing.{is_point}
use Rattle.pointer_targets.specs.Places.{place_of}
use Rattle.pointer_targets.specs.PointsTo.{Stands, Holds}
use Rattle.pointer_targets.proofs.Values.{IsBelow, OnOption, option_on_map, below_here}
use Rattle.pointer_targets.proofs.Fine.{Points, EachFine, CallsInto, TurnFine, AskFine}
use Rattle.pointer_targets.proofs.Asked.{action_fine, retakes_fine}
use Rattle.pointer_targets.proofs.Stored.{MemoryFine, memory_fine}
use Rattle.pointer_targets.proofs.Changes.{KeyFine, StandFine, SyncFine, CallGives, FramesGive, points_kept, key_kept, stand_kept, step_stores, step_sync, key_fine}

pub record Holding (program : Program) (state : State) : Type 0 where
  pub cells : MemoryFine program state.string (IsBelow state.called) state.memory
  pub keys : (key : Cell) → KeyFine program state.string (IsBelow state.called) key (state.key key)
  pub results : (t : ℕ) → StandFine program state.string (IsBelow state.called) (state.thread t).stand
  pub frames : (t : ℕ) → FramesGive program state.string (frames_of (state.thread t).stand)

-- ---- frames and call strings

pub or_left : (a b : Bool) → a ≡ true → (a || b) ≡ true
or_left true b e = refl
or_left false b e = absurd (cc)

pub or_right : (a b : Bool) → b ≡ true → (a || b) ≡ true
or_right true b e = refl
or_right false b e = e

pub both_true : (a b : Bool) → a ≡ true → b ≡ true → (a && b) ≡ true
both_true true b p q = q
both_true false b p q = absurd (cc)

pub lt_differs : (n m : ℕ) → n < m → (n == m) ≡ false
lt_differs n m l = grind (arith, common_steps)

pub and_off : (a b : Bool) → b ≡ false → (a && b) ≡ false
and_off true b e = e
and_off false b e = refl

pub top_string : (string : ℕ → List Spot) (origin cs : List Spot) (fs : List Frame) → CallsHave string origin cs fs → string (top fs) ≡ cs ++ origin
top_string string origin [] [] c = absurd c
top_string string origin [] (frame ∷ []) c = c
top_string string origin [] (frame ∷ caller ∷ fs) c = absurd c
top_string string origin (spot ∷ cs) [] c = absurd c
top_string string origin (spot ∷ cs) (frame ∷ fs) c = c.0

pub top_open : (string : ℕ → List Spot) (origin cs : List Spot) (fs : List Frame) → CallsHave string origin cs fs → is_among (top fs) fs ≡ true
top_open string origin [] [] c = absurd c
top_open string origin (spot ∷ cs) [] c = absurd c
top_open string origin cs (frame ∷ fs) c = or_left _ _ (eq-eqb frame.number frame.number refl)

frames_kept : (program : Program) (strings later : ℕ → List Spot) (called : ℕ) → ((n : ℕ) → n < called → later n ≡ strings n) → (fs : List Frame) → ((n : ℕ) → is_among n fs ≡ true → n < called)
    → FramesGive program strings fs → FramesGive program later fs
frames_kept program strings later called kept [] b g = tt
frames_kept program strings later called kept (frame ∷ []) b g = tt
frames_kept program strings later called kept (frame ∷ caller ∷ fs) b g = (
  λ into q. let c = g.0 into q in record {
    call = c.call;
    function = c.function;
    arguments = c.arguments;
    above = kept frame.number (b frame.number (or_left _ _ (eq-eqb frame.number frame.number refl))) ∙ c.above
        ∙ ap (λ l. c.call ∷ l) (sym (kept caller.number (b caller.number (or_right _ _ (or_left _ _ (eq-eqb caller.number caller.number refl))))));
    is_call = c.is_call;
  },
  frames_kept program strings later called kept (caller ∷ fs) (λ n e. b n (or_right _ _ e)) g.1,
)

-- ---- one step of a run

module _ (program : Program) (well : IsWellFormed program) (run : List Choice) (good : IsGoodRun program run) (holding : Holding program (state_after program run)) where
  abbrev state : State
  state = state_after program run

  pub sound : Sound program state
  sound = sound_run program well.counts run good

  module _ (t : ℕ) (control : Control) (frames : List Frame) (inside : Option Cell) (stands : (state.thread t).stand ≡ Running control frames inside) where
    abbrev origin : List Spot
    origin = (state.thread t).origin

    pub frames_own : frames_of (state.thread t).stand ≡ frames
    frames_own = ap frames_of stands

    pub calls : CallsHave state.string origin (string_of control) frames
    calls = strings_hold program well.counts run good t control frames inside stands

    pub below : (n : ℕ) → is_among n frames ≡ true → n < state.called
    below n e = sound.below t n (subst (λ fs. is_among n fs ≡ true) (sym frames_own) e)

    pub below_top : top frames < state.called
    below_top = below (top frames) (top_open state.string origin (string_of control) frames calls)

    pub here_string : state.string (top frames) ≡ string_of control ++ origin
    here_string = top_string state.string origin (string_of control) frames calls

    pub here_point : (move : Move) → Offers control move → IsPoint program origin (record { string = state.string (top frames); spot = spot_in control move.action })
    here_point move offers = subst (λ l. IsPoint program origin (record { string = l; spot = spot_in control move.action })) (sym here_string) point
      where
        lead : IsLedTo program origin control
        lead = led program well run good t control frames inside stands

        point : IsPoint program origin (stands_at origin control move)
        point = is_point program well origin lead.function control move lead.leads (path_stands program well origin lead.function (record { control = control; state = 0 }) lead.comes.0 lead.comes.1) offers

    pub here_stands : (move : Move) → Offers control move → Stands program (state.string (top frames)) (spot_in control move.action) (act_at program move.action)
    here_stands move offers = record { thread = origin; point = here_point move offers; is = refl }

    pub here_constant : (i : Expr) → is_constant_in (rounds_of control) i ≡ true → eval (here program state t) i ≡ constant_in program (rounds_of control) i
    here_constant i c = constants_hold program well.counts run good t control frames inside stands i c

    pub here_memory : (cell : Cell) → IsBelow state.called cell.root → OnOption (λ to. IsBelow state.called to.root × Holds program (place_of state.string cell) (place_of state.string to)) (state.memory cell)
    here_memory cell l = option_on_map (Points program state.string (IsBelow state.called) cell) (λ to. IsBelow state.called to.root × Holds program (place_of state.string cell) (place_of state.string to)) (λ to p. (p.1, p.2)) _ (holding.cells cell)

  -- ---- a step that has a meaning

  module _ (choice : Choice) (move : Move) (effect : Effect) (step : IsStepBy program state choice move effect) where
    abbrev t : ℕ
    t = choice.thread

    abbrev frames : List Frame
    frames = step.frames

    abbrev spot : Spot
    spot = spot_in step.control move.action

    abbrev E : Effect
    E = effect_of program state choice.thread step.frames step.ask

    abbrev later : State
    later = after program state choice.thread move E

    pub frames_are : frames_of (state.thread t).stand ≡ frames
    frames_are = ap frames_of step.stands

    pub offers : Offers step.control move
    offers = (choice.pair, step.offers)

    pub point : IsPoint program (state.thread t).origin (record { string = state.string (top frames); spot = spot })
    point = here_point t step.control frames step.inside step.stands move offers

    -- what it asks for
    pub ask_fine : AskFine program state.string (IsBelow state.called) (state.string (top frames)) spot step.ask
    ask_fine = subst (λ (fs : List Frame). AskFine program state.string (IsBelow state.called) (state.string (top fs)) spot step.ask) frames_are (go step.inside step.asks)
      where
        Fits : Ask → Type 0
        Fits ask = AskFine program state.string (IsBelow state.called) (state.string (top (frames_of (state.thread t).stand))) spot ask

        go : (inside : Option Cell) → asked_by program state choice move inside ≡ Asks step.ask → Fits step.ask
        go None e = from_each Fits step.ask (subst (EachAsk Fits) e
            (action_fine program state.string (IsBelow state.called) (here program state t) refl (λ n. below_here state.called (here program state t) n (subst (λ (fs : List Frame). top fs < state.called) (sym frames_are) (below_top t step.control frames step.inside step.stands)))
            spot (here_constant t step.control frames step.inside step.stands) (here_memory t step.control frames step.inside step.stands) (act_at program move.action) choice.pair choice.values
            (subst (λ (fs : List Frame). Stands program (state.string (top fs)) spot (act_at program move.action)) (sym frames_are) (here_stands t step.control frames step.inside step.stands move offers))))
        go (Some m) e = from_each Fits step.ask (subst (EachAsk Fits) e
            (retakes_fine program state.string (IsBelow state.called) (state.string (top (frames_of (state.thread t).stand))) spot (act_at program move.action) m choice.values))

    -- ---- call strings

    pub called_grows : state.called ≤ later.called
    unfolding after
    called_grows = if_either (λ (n : ℕ). state.called ≤ n) (opens_call E) _ _ (λ e. omega arith) (λ e. omega arith)

    pub called_opens : opens_call E ≡ true → state.called < later.called
    unfolding after
    called_opens o = let q : later.called ≡ suc state.called = ap (λ b. cond b (suc state.called) state.called) o in omega arith

    pub string_stays : (n : ℕ) → n < state.called → later.string n ≡ state.string n
    unfolding after
    string_stays n l = ap (λ b. cond b (spot_at (state.thread t) move ∷ string_at (state.thread t)) (state.string n)) (and_off (opens_call E) (n == state.called) (lt_differs n state.called l))

    pub string_opens : opens_call E ≡ true → later.string state.called ≡ spot ∷ state.string (top frames)
    unfolding after
    string_opens o = ap (λ b. cond b (spot_at (state.thread t) move ∷ string_at (state.thread t)) (state.string state.called)) (both_true (opens_call E) _ o (eq-eqb state.called state.called refl))
        ∙ ap (λ (s : Stand). spot_in (control_of s) move.action ∷ (string_of (control_of s) ++ (state.thread t).origin)) step.stands
        ∙ ap (λ l. spot ∷ l) (sym (here_string t step.control frames step.inside step.stands))

    pub turn_is : E.turn ≡ step.ask.turn
    unfolding effect_of
    turn_is = refl

    pub sync_is : E.sync ≡ sync_after frames step.ask.turn (sync_of state step.ask.request)
    unfolding effect_of
    sync_is = refl

    pub enters_call : enters step.ask.turn ≡ true → (later.string state.called ≡ spot ∷ state.string (top frames)) × (state.called < later.called)
    enters_call e = let o = or_left (enters E.turn) (is_some (made_by E.sync)) (ap enters turn_is ∙ e) in (string_opens o, called_opens o)

    pub makes : (object : Cell) (function : ℕ) (v : Value) (result : _) → step.ask.request ≡ Creates object function v result → step.ask.turn ≡ Goes → is_zero result ≡ true
        → (later.string state.called ≡ spot ∷ state.string (top frames)) × (state.called < later.called)
    makes object function v result q g z =
        let m : made_by E.sync ≡ Some function = ap made_by (sync_is ∙ ap (λ (turn : Turn). sync_after frames turn (sync_of state step.ask.request)) g
        ∙ ap (λ (r : Request). sync_of state r) q ∙ ap (λ b. if_done b (Makes object function)) z) in
        let o = or_right (enters E.turn) (is_some (made_by E.sync)) (ap is_some m) in (string_opens o, called_opens o)

    pub gives : FramesGive program state.string frames
    gives = subst (FramesGive program state.string) frames_are (holding.frames t)

    pub below_caller : (frame caller : Frame) (fs : List Frame) → frames ≡ frame ∷ caller ∷ fs → caller.number < state.called
    below_caller frame caller fs q = below t step.control frames step.inside step.stands caller.number
        (subst (λ (l : List Frame). is_among caller.number l ≡ true) (sym q) (or_right _ _ (or_left _ _ (eq-eqb caller.number caller.number refl))))

    pub sync_fits : SyncFine program later.string (IsBelow later.called) E.sync
    sync_fits = step_sync program state.string later.string state.called later.called string_stays called_grows (state.thread t).origin spot frames point (below_top t step.control frames step.inside step.stands) below_caller gives step.ask ask_fine
        state t refl holding.keys holding.results enters_call makes (string_of step.control) (calls t step.control frames step.inside step.stands)

    pub stores_fit : EachFine program later.string (IsBelow later.called) E.stores
    stores_fit = step_stores program state.string later.string state.called later.called string_stays called_grows (state.thread t).origin spot frames point (below_top t step.control frames step.inside step.stands) below_caller gives step.ask ask_fine
        state t refl holding.keys holding.results enters_call makes

    pub cells_later : MemoryFine program later.string (IsBelow later.called) later.memory
    unfolding after
    cells_later = memory_fine program later.string (IsBelow later.called) E.stores state.memory stores_fit
        (λ cell. option_on_map (Points program state.string (IsBelow state.called) cell) (Points program later.string (IsBelow later.called) cell) (points_kept program state.string later.string state.called later.called string_stays called_grows cell) _ (holding.cells cell))

    keys_later : (key : Cell) → KeyFine program later.string (IsBelow later.called) key (later.key key)
    unfolding after
    keys_later key = key_fine program later.string (IsBelow later.called) E.sync t key (state.key key) sync_fits
        (key_kept program state.string later.string state.called later.called string_stays called_grows key (state.key key) (holding.keys key))

    -- ---- how threads stand behind the step

    thread_cases {ℓ} : (P : Stand → Type ℓ) (made : Option ℕ) (other : ℕ)
        → ((function : ℕ) (thread : Thread) → thread ≡ thread_before program function state.called (spot_at (state.thread t) move ∷ string_at (state.thread t)) → made ≡ Some function → other ≡ state.made → P thread.stand)
        → (other ≡ t → P (own_stand program move E state.called (control_of (state.thread t).stand) (frames_of (state.thread t).stand) E.sync))
        → P (state.thread other).stand
        → P (thread_after program state t move E made other).stand
    thread_cases P None other n o k = if_either P (other == t) _ _ (λ e. o (eqb-true other t e)) (λ e. k)
    thread_cases P (Some function) other n o k = if_either (λ (thread : Thread). P thread.stand) (other == state.made) _ _ (λ e. n function _ refl refl (eqb-true other state.made e))
        (λ _. if_either P (other == t) _ _ (λ e. o (eqb-true other t e)) (λ e. k))

    pub stand_cases {ℓ} : (P : Stand → Type ℓ) (other : ℕ)
        → ((function : ℕ) (thread : Thread) → thread ≡ thread_before program function state.called (spot_at (state.thread t) move ∷ string_at (state.thread t)) → made_by E.sync ≡ Some function → other ≡ state.made → P thread.stand)
        → (other ≡ t → P (own_stand program move E state.called step.control frames E.sync)) → P (state.thread other).stand → P (later.thread other).stand
    unfolding after
    stand_cases P other n o k = thread_cases P (made_by E.sync) other n
        (λ e. subst (λ (s : Stand). P (own_stand program move E state.called (control_of s) (frames_of s) E.sync)) (sym step.stands) (o e)) k

    pub own_cases {ℓ} : (P : Stand → Type ℓ) (sync : Sync) → ((result : Option Value) → sync ≡ Finishes result → P (Ended result)) → ((m : Cell) → P (Running step.control frames (Some m)))
        → P (Running (goes_on program move) (frames_after E.turn state.called frames) None) → P (own_stand program move E state.called step.control frames sync)
    own_cases P (Finishes result) f s g = f result refl
    own_cases P (Suspends c m) f s g = s m
    own_cases P _ f s g = g

    pub results_later : (u : ℕ) → StandFine program later.string (IsBelow later.called) (later.thread u).stand
    results_later u = stand_cases (StandFine program later.string (IsBelow later.called)) u
        (λ function thread q m o. subst (λ (x : Thread). StandFine program later.string (IsBelow later.called) x.stand) (sym q) tt)
        (λ o. own_cases (StandFine program later.string (IsBelow later.called)) E.sync (λ result q. subst (SyncFine program later.string (IsBelow later.called)) q sync_fits) (λ m. tt) tt)
        (stand_kept program state.string later.string state.called later.called string_stays called_grows (state.thread u).stand (holding.results u))

    Give : Stand → Type 0
    Give s = FramesGive program later.string (frames_of s)

    frames_stay : FramesGive program later.string frames
    frames_stay = frames_kept program state.string later.string state.called string_stays frames (below t step.control frames step.inside step.stands) gives

    -- the call that is made
    entered_gives : (function : ℕ) (arguments : List Value) (into : Option Local) → step.ask.turn ≡ Enters function arguments into → (fs : List Frame) → fs ≡ frames → FramesGive program later.string fs
        → FramesGive program later.string (record { number = state.called; result = into } ∷ fs)
    entered_gives function arguments into e [] q g = tt
    entered_gives function arguments into e (caller ∷ fs) q g = (λ local r. by_call local r ((subst (TurnFine program state.string (IsBelow state.called) (state.string (top frames)) spot) e ask_fine.turn).1 local r), g)
      where
        by_call : (local : Local) → into ≡ Some local → CallsInto program state.string (IsBelow state.called) (state.string (top frames)) spot local
            → CallGives program later.string (record { number = state.called; result = into }) caller local
        by_call local r c = record {
          call = spot;
          function = c.0;
          arguments = c.1.0;
          above = (enters_call (ap enters e)).0 ∙ ap (λ l. spot ∷ l) (sym (string_stays (top frames) (below_top t step.control frames step.inside step.stands)) ∙ ap (λ (l : List Frame). later.string (top l)) (sym q));
          is_call = c.1.1;
        }

    left_gives : (fs : List Frame) (result : Option Value) → FramesGive program later.string fs → FramesGive program later.string (frames_after (Leaves result) state.called fs)
    left_gives [] result g = g
    left_gives (frame ∷ []) result g = tt
    left_gives (frame ∷ caller ∷ fs) result g = g.1

    turned_gives : (turn : Turn) → step.ask.turn ≡ turn → FramesGive program later.string (frames_after turn state.called frames)
    turned_gives Goes e = frames_stay
    turned_gives (Exits result) e = frames_stay
    turned_gives (Enters function arguments into) e = entered_gives function arguments into e frames refl frames_stay
    turned_gives (Leaves result) e = left_gives frames result frames_stay

    others_give : (u : ℕ) → Give (state.thread u).stand
    unfolding Give
    others_give u = frames_kept program state.string later.string state.called string_stays (frames_of (state.thread u).stand) (sound.below u) (holding.frames u)

    frames_later : (u : ℕ) → Give (later.thread u).stand
    unfolding Give
    frames_later u = stand_cases Give u
        (λ function thread q m o. subst (λ (x : Thread). Give x.stand) (sym q) tt)
        (λ o. own_cases Give E.sync (λ result q. tt) (λ m. frames_stay) (subst (λ (turn : Turn). FramesGive program later.string (frames_after turn state.called frames)) (sym turn_is) (turned_gives step.ask.turn refl)))
        (others_give u)

    pub holding_later : Holding program later
    unfolding Give
    holding_later = record { cells = cells_later; keys = keys_later; results = results_later; frames = frames_later }

    pub holding_after : Holding program (after program state choice.thread move effect)
    holding_after = subst (λ (x : Effect). Holding program (after program state choice.thread move x)) (sym step.gives) holding_later
