-- An outcome that a path does not forget is still that of the local.
use Rattle.std.proofs.Common.{◌≡◌, ◌⊎◌, inl, inr, refl, sym, subst, ap, ◌∙◌, Bool, true, false, cond, ◌&&◌, ◌||◌, ◌==◌, ℕ, suc, ◌<◌, List, [], ◌∷◌, ◌++◌, length, Option, Some, None, eq-eqb, arith}
use Rattle.std.proofs.lemmas.Grind.{common_steps}
use Rattle.c_program.specs.declared.action.Local.{Local}
use Rattle.c_program.specs.declared.action.Act.{Act}
use Rattle.c_program.specs.declared.action.Act.TheVariants as act
use Rattle.c_program.specs.declared.action.LibraryCall.TheVariants as lib
use Rattle.c_program.specs.declared.program.Program.{Program}
use Rattle.c_program.specs.Syntax.{act_at, body_at}
use Rattle.c_program.specs.Values.{Cell, Value}
use Rattle.c_program.specs.Control.{Control, Run, In_first, In_second, Before_turn, In_turn, In_switch, Behind, Move, Spot, Point, spot_in, goes_on, returned, string_of}
use Rattle.c_program.specs.State.{State, Stand, Running, Frame, top, frames_of, here}
use Rattle.c_program.specs.Requests.{Request, Plain, Turn, Goes, Enters, Leaves, Exits, Ask, Asks, asked}
use Rattle.c_program.specs.Effects.{Sync, Effect, effect_of, sync_of, sync_after, frames_after, is_among, after}
use Rattle.c_program.specs.Step.{Choice, asked_by}
use Rattle.c_program.specs.Runs.{state_after}
use Rattle.c_program.specs.Counters.{IsUnaddressed, is_into, writes_local, stores_local}
use Rattle.c_program.specs.WellFormed.{IsWellFormed, is_leave}
use Rattle.c_program.specs.Paths.{Stands, stands_at}
use Rattle.c_program.proofs.Logic.{or_false}
use Rattle.c_program.proofs.Asks.{EachAsk, from_each}
use Rattle.c_program.proofs.Far.{AskFar, local_cell_of, action_far, retakes_far, and_first, and_off}
use Rattle.c_program.proofs.Held.{BackMissed, step_stores, none_written}
use Rattle.c_program.proofs.Stays.{memory}
use Rattle.c_program.proofs.Onward.{Kind, Goes_on, Calls, Returns, Exits_all, kind_of, left_by, left_is, ByKind, action_goes, retakes_goes}
use Rattle.c_program.proofs.Turns.{Fits, marks_of}
use Rattle.c_program.proofs.Rounds.{Distinct, differs, fits_aligned, top_among}
use Rattle.c_program.proofs.Counters.{sound_run}
use Rattle.c_program.proofs.Sound.{Sound, StandFits}
use Rattle.path_simulation.specs.Simulates.{LastStep, GoesOn}
use Rattle.path_simulation.proofs.Plain.{string_left}
use Rattle.static_facts.specs.Outcomes.{Remembered, forgets}
use Rattle.static_facts.specs.Owning.{behind_call, HasFrame, HasOutcome}
use Rattle.static_facts.proofs.Owner.{or_left, or_right}

gt_differs : (n m : ℕ) → n < m → (m == n) ≡ false
gt_differs n m l = grind (arith, common_steps)

-- ---- frames

pub frame_among : (h i : ℕ) (string : List Spot) (frames : List Frame) (f : ℕ) → HasFrame h i string frames f → is_among f frames ≡ true
frame_among h i string [] f k = absurd k
frame_among h i string (frame ∷ frames) f (inl k) = or_left _ _ (eq-eqb frame.number f k.1)
frame_among h i string (frame ∷ frames) f (inr k) = or_right _ _ (frame_among h i (behind_call string) frames f k.1.1)

returned_string : (left : Control) → string_of (returned left) ≡ behind_call (string_of left)
returned_string [] = refl
returned_string (Run s ∷ rest) = returned_string rest
returned_string (In_first a b ∷ rest) = returned_string rest
returned_string (In_second a b ∷ rest) = returned_string rest
returned_string (Before_turn c body turn ∷ rest) = returned_string rest
returned_string (In_turn c body turn ∷ rest) = returned_string rest
returned_string (In_switch ∷ rest) = returned_string rest
returned_string (Behind call ∷ rest) = refl

behind_append : (xs ys : List Spot) → (xs ≡ [] → ⊥) → behind_call (xs ++ ys) ≡ behind_call xs ++ ys
behind_append [] ys n = absurd (n refl)
behind_append (x ∷ xs) ys n = refl

-- where a caller has a frame, a call is open
has_call : (program : Program) (control : Control) (frame caller : Frame) (frames : List Frame) → Fits program control (frame ∷ caller ∷ frames) → string_of control ≡ [] → ⊥
has_call program [] frame caller frames f e = f
has_call program (Run s ∷ rest) frame caller frames f e = has_call program rest frame caller frames f.1 e
has_call program (In_first a b ∷ rest) frame caller frames f e = has_call program rest frame caller frames f.1 e
has_call program (In_second a b ∷ rest) frame caller frames f e = has_call program rest frame caller frames f.1 e
has_call program (Before_turn c body turn ∷ rest) frame caller frames f e = has_call program rest frame caller frames f.1 e
has_call program (In_turn c body turn ∷ rest) frame caller frames f e = has_call program rest frame caller frames f.1 e
has_call program (In_switch ∷ rest) frame caller frames f e = has_call program rest frame caller frames f e
has_call program (Behind call ∷ rest) frame caller frames f e = cc

-- ---- actions

call_writes : (action : Act) (i function : ℕ) (into : Option Local) → kind_of action ≡ Calls function into → writes_local i action ≡ is_into i into
call_writes (act.Call own arguments result) i function into e = ap (is_into i) (same e)
  where
    same : Calls own result ≡ Calls function into → result ≡ into
    same e = cc
call_writes (act.Library (lib.ThreadExit x) result) i function into e = absurd (cc)
call_writes _ i function into e = absurd (cc)

return_leaves : (action : Act) → kind_of action ≡ Returns → is_leave action ≡ true
return_leaves (act.Return result) e = refl
return_leaves act.End e = refl
return_leaves (act.Library (lib.ThreadExit x) result) e = absurd (cc)
return_leaves _ e = absurd (cc)

and_true_false : (a b : Bool) → (a && b) ≡ false → a ≡ true → b ≡ false
and_true_false true b e f = e
and_true_false false b e f = absurd (cc)

-- what an action does not write by name, it does not store there
not_stored : (i : ℕ) (action : Act) (b : Bool) → (writes_local i action && b) ≡ false → (stores_local i action && b) ≡ false
not_stored i (act.Call function arguments into) b e = refl
not_stored i _ b e = e

true_false {ℓ} : {C : Type ℓ} (b : Bool) → b ≡ true → b ≡ false → C
true_false b e f = absurd (let g : true ≡ false = sym e ∙ f in cc)

module _ (program : Program) (well : IsWellFormed program) (choice : Choice) (run : List Choice) (step : LastStep program choice run) where
  abbrev t : ℕ
  t = choice.thread

  abbrev state : State
  state = state_after program run

  abbrev action : Act
  action = act_at program step.move.action

  abbrev frames : List Frame
  frames = step.by.frames

  abbrev control : Control
  control = step.by.control

  abbrev ask : Ask
  ask = step.by.ask

  abbrev origin : List Spot
  origin = (state.thread t).origin

  abbrev string : List Spot
  string = string_of control ++ origin

  abbrev point : Point
  point = stands_at origin control step.move

  pub sound : Sound program state
  sound = sound_run program well.counts run step.good

  pub frames_own : frames_of (state.thread t).stand ≡ frames
  frames_own = ap frames_of step.by.stands

  pub once : Distinct frames
  once = subst Distinct frames_own (sound.once t)

  pub fits : Fits program control frames
  fits = subst (StandFits program) step.by.stands (sound.fits t)

  below : (n : ℕ) → is_among n frames ≡ true → n < state.called
  below n e = sound.below t n (subst (λ fs. is_among n fs ≡ true) (sym frames_own) e)

  pub top_is_among : is_among (top frames) frames ≡ true
  top_is_among = top_among (marks_of control) frames (fits_aligned program control frames fits)

  pub by_kind : ByKind (kind_of action) ask
  by_kind = go step.by.inside step.by.asks
    where
      go : (inside : Option Cell) → asked_by program state choice step.move inside ≡ Asks ask → ByKind (kind_of action) ask
      go None e = from_each (ByKind (kind_of action)) ask (subst (EachAsk (ByKind (kind_of action))) e (action_goes (here program state t) action choice.pair choice.values))
      go (Some m) e = from_each (ByKind (kind_of action)) ask (subst (EachAsk (ByKind (kind_of action))) e (retakes_goes action m choice.values))

  ask_far : (f i : ℕ) → IsUnaddressed program i → (writes_local i action && (top frames == f)) ≡ false → AskFar f i (top frames) ask
  ask_far f i u w = subst (λ fs. AskFar f i (top fs) ask) frames_own (go step.by.inside step.by.asks)
    where
      w' : (stores_local i action && (top (frames_of (state.thread t).stand) == f)) ≡ false
      w' = not_stored i action _ (subst (λ fs. (writes_local i action && (top fs == f)) ≡ false) (sym frames_own) w)

      go : (inside : Option Cell) → asked_by program state choice step.move inside ≡ Asks ask → AskFar f i (top (frames_of (state.thread t).stand)) ask
      go None e = from_each (AskFar f i (top (frames_of (state.thread t).stand))) ask (subst (EachAsk (AskFar f i (top (frames_of (state.thread t).stand)))) e
          (action_far f i (here program state t) (sound.held i u).memory action choice.pair choice.values (u.actions step.move.action) w'))
      go (Some m) e = from_each (AskFar f i (top (frames_of (state.thread t).stand))) ask (subst (EachAsk (AskFar f i (top (frames_of (state.thread t).stand)))) e
          (retakes_far f i (top (frames_of (state.thread t).stand)) action m choice.values w'))

  pub unwritten : (f i : ℕ) → IsUnaddressed program i → (writes_local i action && (top frames == f)) ≡ false → f < state.called → BackMissed f i frames
      → (after program state t step.move step.effect).memory (local_cell_of f i) ≡ state.memory (local_cell_of f i)
  unwritten f i u w l b = subst (λ (x : Effect). (after program state t step.move x).memory (local_cell_of f i) ≡ state.memory (local_cell_of f i)) (sym step.by.gives)
      (memory program state t step.move (effect_of program state t frames ask) (local_cell_of f i)
      (none_written f i (effect_of program state t frames ask).stores (step_stores program state t frames ask f i (sound.held i u) (ask_far f i u w) (gt_differs f state.called l) (λ result leaves. b))))

  pub sync_is : step.effect.sync ≡ sync_after frames ask.turn (sync_of state ask.request)
  unfolding effect_of
  sync_is = ap (λ (x : Effect). x.sync) step.by.gives

  pub turn_is : step.effect.turn ≡ ask.turn
  unfolding effect_of
  turn_is = ap (λ (x : Effect). x.turn) step.by.gives

  -- ---- a local of an open call

  module _ (h i f : ℕ) where
    -- the step writes it, or leaves its call
    Written : Type 0
    Written = ((length string == h) && (writes_local i action || is_leave action)) ≡ false

    -- at the top, it is not written
    top_kept : Written → length string ≡ h → (writes_local i action ≡ false) × (is_leave action ≡ false)
    unfolding Written
    top_kept w e = or_false _ _ (and_true_false _ _ w (eq-eqb (length string) h e))

    lower : (frame : Frame) (fs : List Frame) → Distinct (frame ∷ fs) → is_among f fs ≡ true → (frame.number == f) ≡ false
    lower frame fs d a = differs frame.number f fs d.0 a

    written_off : (fs : List Frame) → Distinct fs → Written → HasFrame h i string fs f → (writes_local i action && (top fs == f)) ≡ false
    written_off [] d w k = absurd k
    written_off (frame ∷ fs) d w (inl k) = and_first _ _ (top_kept w k.0).0
    written_off (frame ∷ fs) d w (inr k) = and_off _ _ (lower frame fs d (frame_among h i (behind_call string) fs f k.1.1))

    back_missed : (fs : List Frame) → Distinct fs → HasFrame h i string fs f → BackMissed f i fs
    back_missed [] d k = tt
    back_missed (frame ∷ []) d k = tt
    back_missed (frame ∷ caller ∷ fs) d (inl k) = and_off _ _ (subst (λ n. (caller.number == n) ≡ false) k.1 (or_false _ _ d.0).0)
    back_missed (frame ∷ caller ∷ fs) d (inr k) = k.1.0

    -- ---- where its call stands behind the step

    under_call : (own : ℕ) (into : Option Local) (spot : Spot) (fs : List Frame) → Distinct fs → writes_local i action ≡ is_into i into → Written → HasFrame h i string fs f
        → HasFrame h i (spot ∷ string) (record { number = own; result = into } ∷ fs) f
    under_call own into spot [] d e w k = absurd k
    under_call own into spot (frame ∷ fs) d e w (inl k) = inr (let s = k.0 in omega arith, (and_first _ _ (sym e ∙ (top_kept w k.0).0), inl k))
    under_call own into spot (frame ∷ fs) d e w (inr k) = inr (let l = k.0 in omega arith, (and_off _ _ (lower frame fs d (frame_among h i (behind_call string) fs f k.1.1)), inr k))

    back_in : (frame caller : Frame) (fs : List Frame) → is_leave action ≡ true → Written → HasFrame h i string (frame ∷ caller ∷ fs) f → HasFrame h i (behind_call string) (caller ∷ fs) f
    back_in frame caller fs e w (inl k) = absurd (true_false _ e (top_kept w k.0).1)
    back_in frame caller fs e w (inr k) = k.1.1

    module _ (function : ℕ) (stands : Stands program function control) (goes : GoesOn step.effect.sync) where
      pub left_string : string_of step.move.left ≡ string_of control
      left_string = string_left program function control step.move stands (choice.pair, step.by.offers)

      pub goes_by : GoesOn (sync_after frames ask.turn (sync_of state ask.request))
      goes_by = subst GoesOn sync_is goes

      by_return : (fs : List Frame) (turn : Turn) (result : Option Value) → Fits program control fs → turn ≡ Leaves result → GoesOn (sync_after fs turn (sync_of state ask.request)) → is_leave action ≡ true
          → Written → HasFrame h i string fs f → HasFrame h i (string_of (returned step.move.left) ++ origin) (frames_after turn state.called fs) f
      by_return [] turn result fit e g l w k = absurd k
      by_return (frame ∷ []) turn result fit e g l w k = absurd (subst (λ (x : Turn). GoesOn (sync_after (frame ∷ []) x (sync_of state ask.request))) e g)
      by_return (frame ∷ caller ∷ fs) turn result fit e g l w k =
          subst (λ (x : Turn). HasFrame h i (string_of (returned step.move.left) ++ origin) (frames_after x state.called (frame ∷ caller ∷ fs)) f) (sym e)
          (subst (λ (s : List Spot). HasFrame h i s (caller ∷ fs) f) string_is (back_in frame caller fs l w k))
        where
          string_is : behind_call string ≡ string_of (returned step.move.left) ++ origin
          string_is = behind_append (string_of control) origin (has_call program control frame caller fs fit)
              ∙ ap (λ (s : List Spot). s ++ origin) (sym (returned_string step.move.left ∙ ap behind_call left_string))

      stands_by : (kind : Kind) → kind_of action ≡ kind → ByKind kind ask → Written → HasFrame h i string frames f
          → HasFrame h i (string_of (left_by program step.move.action kind step.move.left) ++ origin) (frames_after ask.turn state.called frames) f
      stands_by Goes_on q b w k = subst (λ (x : Turn). HasFrame h i (string_of step.move.left ++ origin) (frames_after x state.called frames) f) (sym b)
          (subst (λ (s : List Spot). HasFrame h i (s ++ origin) frames f) (sym left_string) k)
      stands_by (Calls callee into) q b w k =
          subst (λ (x : Turn). HasFrame h i (spot_in step.move.left step.move.action ∷ (string_of step.move.left ++ origin)) (frames_after x state.called frames) f) (sym b.0.1)
          (subst (λ (s : List Spot). HasFrame h i (spot_in step.move.left step.move.action ∷ (s ++ origin)) (record { number = state.called; result = into } ∷ frames) f) (sym left_string)
          (under_call state.called into (spot_in step.move.left step.move.action) frames once (call_writes action i callee into q) w k))
      stands_by Returns q b w k = by_return frames ask.turn b.0.0 fits b.0.1 goes_by (return_leaves action q) w k
      stands_by Exits_all q b w k = absurd (subst (λ (x : Turn). GoesOn (sync_after frames x (sync_of state ask.request))) b.1 goes_by)

      frame_later : Written → HasFrame h i string frames f → HasFrame h i (string_of (goes_on program step.move) ++ origin) (frames_after step.effect.turn state.called frames) f
      frame_later w k = subst (λ (x : Turn). HasFrame h i (string_of (goes_on program step.move) ++ origin) (frames_after x state.called frames) f) (sym turn_is)
          (subst (λ (c : Control). HasFrame h i (string_of c ++ origin) (frames_after ask.turn state.called frames) f) (sym (left_is program step.move.action action step.move.left))
          (stands_by (kind_of action) refl by_kind w k))

  pub outcome_later : (function : ℕ) → Stands program function control → GoesOn step.effect.sync → (r : Remembered) → forgets point action r ≡ false → HasOutcome program state.memory string frames r
      → HasOutcome program (after program state t step.move step.effect).memory (string_of (goes_on program step.move) ++ origin) (frames_after step.effect.turn state.called frames) r
  unfolding Written
  outcome_later function stands goes r w o = record {
    call = o.call;
    number = o.number;
    frame = frame_later r.height r.local o.call function stands goes w o.frame;
    holds = unwritten o.call r.local o.unaddressed (written_off r.height r.local o.call frames once w o.frame) (below o.call (frame_among r.height r.local string frames o.call o.frame))
        (back_missed r.height r.local o.call frames once o.frame) ∙ o.holds;
    is_answer = o.is_answer;
    is_so = o.is_so;
    automatic = o.automatic;
    unaddressed = o.unaddressed;
  }
