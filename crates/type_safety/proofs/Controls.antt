-- What a thread has left to do is typed: each action for its function, and each call's result for the local that gets it.
use Rattle.std.proofs.Common.{◌≡◌, refl, Bool, true, false, ℕ, nat_lt, List, [], ◌∷◌, ◌++◌, Option, Some, None}
use Rattle.std.specs.Prelude.{slice_get, option_map, unwrap_or}
use Rattle.std.specs.List.{list_all}
use Rattle.c_program.specs.declared.types.CType.{CType}
use Rattle.c_program.specs.declared.types.Base.TheVariants.{Void}
use Rattle.c_program.specs.declared.statement.Condition.{Condition, Test, And', Or', Row_of-Condition, more_of-Condition, end_of-Condition}
use Rattle.c_program.specs.declared.statement.Statement.{Statement, Do, Block', Switch', Break, Continue, Row_of-Statement, end_of-Statement, more_of-Statement}
use Rattle.c_program.specs.declared.program.Function.{Function}
use Rattle.c_program.specs.declared.program.Program.{Program}
use Rattle.c_program.specs.Syntax.{Not, After, If, Loop, Counted, c_int, act_at, body_at, function_at}
use Rattle.c_program.specs.Types.{same_type, plain_type}
use Rattle.c_program.specs.Control.{Run, In_first, In_second, Before_turn, In_turn, In_switch, Behind, Control, Move, Ways, run_all, clauses, if_all, if_any, enter, enter_all, decide, decide_and, decide_or, ways, moves, move_at, returned}
use Rattle.c_program.specs.State.{Frame}
use Rattle.c_program.specs.Paths.{actions_of, actions_of_all, actions_of_condition, actions_of_conditions}
use Rattle.c_program.specs.Typing.{kind_of_type, kind_held, result_of, into_gets, act_is_typed, function_is_typed, is_typed, answers_int}
use Rattle.c_program.proofs.Cells.{and_true}
use Rattle.c_program.proofs.Members.{Each, each_left, each_right, each_append, each_in, in_got}
use Rattle.c_program.proofs.Sound.{if_either}

-- ---- lists of tests

pub each_true : {A : Type 0} (test : A → Bool) (xs : List A) → list_all test xs ≡ true → Each (λ x. test x ≡ true) xs
each_true test [] e = tt
each_true test (x ∷ xs) e = let p = and_true _ _ e in (p.0, each_true test xs p.1)

pub all_got : {A : Type 0} (test : A → Bool) (xs : List A) (n : ℕ) (x : A) → list_all test xs ≡ true → slice_get xs n ≡ Some x → test x ≡ true
all_got test xs n x e g = each_in (λ y. test y ≡ true) x xs (each_true test xs e) (in_got x xs n g)

module _ (program : Program) where
  -- the action is typed in a function with this result
  abbrev pub ActionFits : CType → ℕ → Type 0
  ActionFits result action = act_is_typed program result (act_at program action) ≡ true

  abbrev pub StatementFits : CType → Statement → Type 0
  StatementFits result s = Each (ActionFits result) (actions_of s)

  abbrev pub AllFit : {n : _} → CType → Row_of-Statement n → Type 0
  AllFit result all = Each (ActionFits result) (actions_of_all all)

  abbrev pub ConditionFits : CType → Condition → Type 0
  ConditionFits result c = Each (ActionFits result) (actions_of_condition c)

  abbrev pub ConditionsFit : {n : _} → CType → Row_of-Condition n → Type 0
  ConditionsFit result all = Each (ActionFits result) (actions_of_conditions all)

  -- the first function of a thread has an int
  abbrev pub ControlFits : CType → Control → List Frame → Type 0
  ControlFits result [] [] = ⊥
  ControlFits result [] (frame ∷ []) = same_type c_int result ≡ true
  ControlFits result [] (frame ∷ caller ∷ frames) = ⊥
  ControlFits result (Run s ∷ rest) frames = StatementFits result s × ControlFits result rest frames
  ControlFits result (In_first a b ∷ rest) frames = (StatementFits result a × StatementFits result b) × ControlFits result rest frames
  ControlFits result (In_second a b ∷ rest) frames = (StatementFits result a × StatementFits result b) × ControlFits result rest frames
  ControlFits result (Before_turn counter body turn ∷ rest) frames = StatementFits result (Counted counter body) × ControlFits result rest frames
  ControlFits result (In_turn counter body turn ∷ rest) frames = StatementFits result (Counted counter body) × ControlFits result rest frames
  ControlFits result (In_switch ∷ rest) frames = ControlFits result rest frames
  ControlFits result (Behind call ∷ rest) [] = ⊥
  ControlFits result (Behind call ∷ rest) (frame ∷ frames) = (caller : CType) × (into_gets program frame.result (kind_of_type result) ≡ true) × ControlFits caller rest frames

  abbrev pub MoveFits : CType → List Frame → Move → Type 0
  MoveFits result frames move = ActionFits result move.action × ControlFits result move.left frames

  record EachWay (result : CType) (frames : List Frame) (w : Ways) : Type 0 where
    here : Each (MoveFits result frames) w.here
    out : Each (MoveFits result frames) w.out
    again : Each (MoveFits result frames) w.again

  module _ (result : CType) (frames : List Frame) where
    -- a block's statements come before what follows it
    run_all_fits : {n : _} (all : Row_of-Statement n) (rest : Control) → AllFit result all → ControlFits result rest frames → ControlFits result (run_all all rest) frames
    run_all_fits end_of-Statement rest c f = f
    run_all_fits (more_of-Statement s all) rest c f = (each_left (ActionFits result) (actions_of s) (actions_of_all all) c, run_all_fits all rest (each_right (ActionFits result) (actions_of s) (actions_of_all all) c) f)

    clauses_fit : {n : _} (action : ℕ) (all : Row_of-Statement n) (rest : Control) → ActionFits result action → AllFit result all → ControlFits result rest frames
        → Each (MoveFits result frames) (clauses action all rest)
    clauses_fit action end_of-Statement rest a c f = tt
    clauses_fit action (more_of-Statement s all) rest a c f =
        ((a, (each_left (ActionFits result) (actions_of s) (actions_of_all all) c, f)), clauses_fit action all rest a (each_right (ActionFits result) (actions_of s) (actions_of_all all) c) f)

    if_fits : (c : Condition) (s t : Statement) → ConditionFits result c → StatementFits result s → StatementFits result t → StatementFits result (If c s t)
    if_fits c s t k a b = each_append (ActionFits result) (actions_of_condition c) (actions_of s ++ actions_of t) k (each_append (ActionFits result) (actions_of s) (actions_of t) a b)

    if_all_fits : {n : _} (all : Row_of-Condition n) (s t : Statement) → ConditionsFit result all → StatementFits result s → StatementFits result t → StatementFits result (if_all all s t)
    if_all_fits end_of-Condition s t k a b = a
    if_all_fits (more_of-Condition c all) s t k a b = if_fits c (if_all all s t) t (each_left (ActionFits result) (actions_of_condition c) (actions_of_conditions all) k)
        (if_all_fits all s t (each_right (ActionFits result) (actions_of_condition c) (actions_of_conditions all) k) a b) b

    if_any_fits : {n : _} (all : Row_of-Condition n) (s t : Statement) → ConditionsFit result all → StatementFits result s → StatementFits result t → StatementFits result (if_any all s t)
    if_any_fits end_of-Condition s t k a b = b
    if_any_fits (more_of-Condition c all) s t k a b = if_fits c s (if_any all s t) (each_left (ActionFits result) (actions_of_condition c) (actions_of_conditions all) k) a
        (if_any_fits all s t (each_right (ActionFits result) (actions_of_condition c) (actions_of_conditions all) k) a b)

    mutual
      enter_fits : (s : Statement) (rest : Control) (w : Ways) → StatementFits result s → ControlFits result rest frames → EachWay result frames w → Each (MoveFits result frames) (enter s rest w)
      enter_fits (Do action) rest w c f e = ((c.0, f), tt)
      enter_fits (Block' shape all) rest w c f e = enter_all_fits all rest w c f e
      enter_fits (If c a b) rest w k f e =
          let both = each_right (ActionFits result) (actions_of_condition c) (actions_of a ++ actions_of b) k in
          decide_fits c a b rest w (each_left (ActionFits result) (actions_of_condition c) (actions_of a ++ actions_of b) k)
          (each_left (ActionFits result) (actions_of a) (actions_of b) both) (each_right (ActionFits result) (actions_of a) (actions_of b) both) f e
      enter_fits (Loop a b) rest w c f e =
          let x = each_left (ActionFits result) (actions_of a) (actions_of b) c in let y = each_right (ActionFits result) (actions_of a) (actions_of b) c in
          let second = enter_fits b (In_second a b ∷ rest) (record { here = []; out = w.here; again = [] }) y ((x, y), f) (record { here = tt; out = e.here; again = tt }) in
          enter_fits a (In_first a b ∷ rest) _ x ((x, y), f) (record { here = second; out = e.here; again = second })
      enter_fits (Counted counter body) rest w c f e = ((c.0, (c, f)), tt)
      enter_fits (Switch' action shape all) rest w c f e = clauses_fit action all rest c.0 c.1 f
      enter_fits Break rest w c f e = e.out
      enter_fits Continue rest w c f e = e.again

      enter_all_fits : {n : _} (all : Row_of-Statement n) (rest : Control) (w : Ways) → AllFit result all → ControlFits result rest frames → EachWay result frames w
          → Each (MoveFits result frames) (enter_all all rest w)
      enter_all_fits end_of-Statement rest w c f e = e.here
      enter_all_fits (more_of-Statement s all) rest w c f e =
          let x = each_left (ActionFits result) (actions_of s) (actions_of_all all) c in let y = each_right (ActionFits result) (actions_of s) (actions_of_all all) c in
          enter_fits s (run_all all rest) (record { here = enter_all all rest w; out = w.out; again = w.again }) x (run_all_fits all rest y f)
          (record { here = enter_all_fits all rest w y f e; out = e.out; again = e.again })

      decide_fits : (c : Condition) (s t : Statement) (rest : Control) (w : Ways) → ConditionFits result c → StatementFits result s → StatementFits result t → ControlFits result rest frames
          → EachWay result frames w → Each (MoveFits result frames) (decide c s t rest w)
      decide_fits (Test action) s t rest w c a b f e = ((c.0, (a, f)), ((c.0, (b, f)), tt))
      decide_fits (Not c) s t rest w k a b f e = decide_fits c t s rest w k b a f e
      decide_fits (And' shape all) s t rest w k a b f e = and_fits all s t rest w k a b f e
      decide_fits (Or' shape all) s t rest w k a b f e = or_fits all s t rest w k a b f e
      decide_fits (After before c) s t rest w k a b f e =
          let x = each_left (ActionFits result) (actions_of before) (actions_of_condition c) k in let y = each_right (ActionFits result) (actions_of before) (actions_of_condition c) k in
          enter_fits before (Run (If c s t) ∷ rest) _ x (if_fits c s t y a b, f) (record { here = decide_fits c s t rest w y a b f e; out = e.out; again = e.again })

      and_fits : {n : _} (all : Row_of-Condition n) (s t : Statement) (rest : Control) (w : Ways) → ConditionsFit result all → StatementFits result s → StatementFits result t
          → ControlFits result rest frames → EachWay result frames w → Each (MoveFits result frames) (decide_and all s t rest w)
      and_fits end_of-Condition s t rest w k a b f e = tt
      and_fits (more_of-Condition c all) s t rest w k a b f e = decide_fits c (if_all all s t) t rest w (each_left (ActionFits result) (actions_of_condition c) (actions_of_conditions all) k)
          (if_all_fits all s t (each_right (ActionFits result) (actions_of_condition c) (actions_of_conditions all) k) a b) b f e

      or_fits : {n : _} (all : Row_of-Condition n) (s t : Statement) (rest : Control) (w : Ways) → ConditionsFit result all → StatementFits result s → StatementFits result t
          → ControlFits result rest frames → EachWay result frames w → Each (MoveFits result frames) (decide_or all s t rest w)
      or_fits end_of-Condition s t rest w k a b f e = tt
      or_fits (more_of-Condition c all) s t rest w k a b f e = decide_fits c s (if_any all s t) rest w (each_left (ActionFits result) (actions_of_condition c) (actions_of_conditions all) k)
          a (if_any_fits all s t (each_right (ActionFits result) (actions_of_condition c) (actions_of_conditions all) k) a b) f e

    -- the moves of what is left
    ways_fit : (control : Control) → ControlFits result control frames → EachWay result frames (ways control)
    ways_fit [] f = record { here = tt; out = tt; again = tt }
    ways_fit (Run s ∷ rest) f = let below = ways_fit rest f.1 in record { here = enter_fits s rest (ways rest) f.0 f.1 below; out = below.out; again = below.again }
    ways_fit (In_first a b ∷ rest) f = let below = ways_fit rest f.1 in
        let next = enter_fits b (In_second a b ∷ rest) _ f.0.1 f (record {
          here = enter_fits a (In_first a b ∷ rest) (record { here = []; out = (ways rest).here; again = [] }) f.0.0 f (record { here = tt; out = below.here; again = tt });
          out = below.here;
          again = tt;
        }) in record { here = next; out = below.here; again = next }
    ways_fit (In_second a b ∷ rest) f = let below = ways_fit rest f.1 in
        record { here = enter_fits (Loop a b) rest (ways rest) (each_append (ActionFits result) (actions_of a) (actions_of b) f.0.0 f.0.1) f.1 below; out = below.here; again = tt }
    ways_fit (Before_turn counter body turn ∷ rest) f = record {
      here = (
        (
          f.0.1.0,
          if_either (λ (c : Control). ControlFits result c frames) (nat_lt turn counter.turns) (Run body ∷ In_turn counter body turn ∷ rest) rest
              (λ _. (f.0.1.1.1, (f.0, f.1))) (λ _. f.1),
        ),
        tt,
      );
      out = tt;
      again = tt;
    }
    ways_fit (In_turn counter body turn ∷ rest) f = record { here = ((f.0.1.1.0, f), tt); out = tt; again = ((f.0.1.1.0, f), tt) }
    ways_fit (In_switch ∷ rest) f = let below = ways_fit rest f in record { here = below.here; out = below.here; again = below.again }
    ways_fit (Behind call ∷ rest) f = record { here = tt; out = tt; again = tt }

    pub move_fits : (control : Control) (pair : ℕ) (move : Move) → ControlFits result control frames → move_at control pair ≡ Some move → MoveFits result frames move
    move_fits control pair move f o = each_in (MoveFits result frames) move (moves control) (ways_fit control f).here (in_got move (moves control) pair o)

  -- ---- the ends of functions

  pub no_frames : (result : CType) (control : Control) → ControlFits result control [] → ⊥
  no_frames result [] f = f
  no_frames result (Run s ∷ rest) f = no_frames result rest f.1
  no_frames result (In_first a b ∷ rest) f = no_frames result rest f.1
  no_frames result (In_second a b ∷ rest) f = no_frames result rest f.1
  no_frames result (Before_turn counter body turn ∷ rest) f = no_frames result rest f.1
  no_frames result (In_turn counter body turn ∷ rest) f = no_frames result rest f.1
  no_frames result (In_switch ∷ rest) f = no_frames result rest f
  no_frames result (Behind call ∷ rest) f = f

  -- the last function of a thread has an int
  pub last_is_int : (result : CType) (control : Control) (frame : Frame) → ControlFits result control (frame ∷ []) → same_type c_int result ≡ true
  last_is_int result [] frame f = f
  last_is_int result (Run s ∷ rest) frame f = last_is_int result rest frame f.1
  last_is_int result (In_first a b ∷ rest) frame f = last_is_int result rest frame f.1
  last_is_int result (In_second a b ∷ rest) frame f = last_is_int result rest frame f.1
  last_is_int result (Before_turn counter body turn ∷ rest) frame f = last_is_int result rest frame f.1
  last_is_int result (In_turn counter body turn ∷ rest) frame f = last_is_int result rest frame f.1
  last_is_int result (In_switch ∷ rest) frame f = last_is_int result rest frame f
  last_is_int result (Behind call ∷ rest) frame f = absurd (no_frames f.0 rest f.2)

  -- the local of the caller gets the result
  pub returned_fits : (result : CType) (left : Control) (frame caller : Frame) (frames : List Frame) → ControlFits result left (frame ∷ caller ∷ frames)
      → (own : CType) × (into_gets program frame.result (kind_of_type result) ≡ true) × ControlFits own (returned left) (caller ∷ frames)
  returned_fits result [] frame caller frames f = absurd f
  returned_fits result (Run s ∷ rest) frame caller frames f = returned_fits result rest frame caller frames f.1
  returned_fits result (In_first a b ∷ rest) frame caller frames f = returned_fits result rest frame caller frames f.1
  returned_fits result (In_second a b ∷ rest) frame caller frames f = returned_fits result rest frame caller frames f.1
  returned_fits result (Before_turn c body turn ∷ rest) frame caller frames f = returned_fits result rest frame caller frames f.1
  returned_fits result (In_turn c body turn ∷ rest) frame caller frames f = returned_fits result rest frame caller frames f.1
  returned_fits result (In_switch ∷ rest) frame caller frames f = returned_fits result rest frame caller frames f
  returned_fits result (Behind call ∷ rest) frame caller frames f = f

  -- ---- the functions of a typed program

  -- a function's body is typed for its result
  pub body_fits : is_typed program ≡ true → (function : ℕ) → (result : CType) × StatementFits result (body_at program function) × (kind_held (result_of program function) ≡ kind_of_type result)
      × (answers_int program function ≡ true → same_type c_int result ≡ true)
  body_fits typed function = go (function_at program function) refl
    where
      go : (o : Option Function) → slice_get program.functions function ≡ o
          → (result : CType) × StatementFits result (unwrap_or (option_map (λ (f : Function). f.body) o) Break)
          × (kind_held (option_map (λ (f : Function). f.result) o) ≡ kind_of_type result)
          × (unwrap_or (option_map (same_type c_int) (option_map (λ (f : Function). f.result) o)) false ≡ true → same_type c_int result ≡ true)
      go None e = (plain_type Void, tt, refl, λ f. absurd (cc))
      go (Some f) e = let p = and_true _ _ typed in let own = all_got (function_is_typed program) program.functions function f p.1 e in
          (f.result, each_true (λ n. act_is_typed program f.result (act_at program n)) (actions_of f.body) (and_true _ _ own).1, refl, λ g. g)
