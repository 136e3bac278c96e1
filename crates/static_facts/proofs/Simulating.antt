-- What the initial thread has done with an object is a state that a path brings to its point.
use Rattle.std.proofs.Common.{◌≡◌, ◌⊎◌, inl, inr, refl, sym, subst, ap, ◌∙◌, Bool, true, false, cond, ◌&&◌, ◌||◌, ◌==◌, ℕ, ◌<◌, List, [], ◌∷◌, ◌++◌, Option, Some, None, eqb-true, eq-eqb, arith}
use Rattle.std.proofs.lemmas.Grind.{common_steps}
use Rattle.std.specs.Prelude.{option_map, unwrap_or, option_and_then}
use Rattle.std.specs.List.{list_any}
use Rattle.c_program.specs.declared.types.CType.{CType}
use Rattle.c_program.specs.declared.expression.Expr.{Expr}
use Rattle.c_program.specs.declared.action.Act.{Act}
use Rattle.c_program.specs.declared.program.Program.{Program}
use Rattle.c_program.specs.Syntax.{act_at}
use Rattle.c_program.specs.Types.{is_zero, same_type}
use Rattle.c_program.specs.Values.{Cell, Value, Number, Address, Location, location_of, same_cell, type_of_cell}
use Rattle.c_program.specs.Control.{Spot, Point}
use Rattle.c_program.specs.Evaluation.{Here, eval, place_at, object_at_type}
use Rattle.c_program.specs.State.{State, Stand, Running, here, opening, top, spot_at, string_at, thread_before}
use Rattle.c_program.specs.Requests.{Request, Turn, Goes, Asks, asked}
use Rattle.c_program.specs.Faults.{Sort, A_mutex, A_condition, A_key, A_thread, Access, is_result}
use Rattle.c_program.specs.Effects.{Sync, Suspends, Resumes, Effect, made_by, thread_after, moved_thread, effect_of, put_result, sync_of, sync_after, if_done, after}
use Rattle.c_program.specs.Step.{Choice, asked_by}
use Rattle.c_program.specs.Runs.{state_after}
use Rattle.c_program.specs.Breaks.{request_in}
use Rattle.c_program.specs.WellFormed.{IsWellFormed}
use Rattle.c_program.specs.Paths.{Stands, stands_at}
use Rattle.c_program.specs.Laws.{accesses_object}
use Rattle.c_program.proofs.Asks.{EachAsk, from_each}
use Rattle.c_program.proofs.Cells.{cell_same}
use Rattle.c_program.proofs.Named.{named}
use Rattle.c_program.proofs.Stays.{others, origins}
use Rattle.path_simulation.specs.Simulates.{LastStep, GoesOn, Simulates, EachIsFollowed, origin_in}
use Rattle.path_simulation.proofs.Simulated.{simulated}
use Rattle.pointer_targets.specs.Names.{Names, MayName, IsExact}
use Rattle.static_facts.specs.Outcomes.{Remembered, kept_behind, follows_outcome, remembered_by}
use Rattle.static_facts.specs.Owning.{OutcomeAt, OutcomeIn}
use Rattle.static_facts.proofs.Later.{lt_differs, thread_made}
use Rattle.static_facts.proofs.MutexAsks.{RetakesBy, retakes_by, cell_equal}
use Rattle.static_facts.proofs.OtherThreads.{kept_outcome}
use Rattle.static_facts.proofs.Remembering.{sync_is}
use Rattle.static_facts.specs.ObjectStates.{ObjectState, Is_unmade, Is_live, Doing, Begins, Joins_it, Detaches_it, Ends_it, doing_of, result_of_call, changed, changed_by}
use Rattle.static_facts.specs.ObjectPaths.{Mark, Follows_none, At, IsNoStart, ObjectStep, follows_none, passes, moves, leaves, succeeds, fails, may_succeed, may_fail, elsewhere, Starts, states}
use Rattle.static_facts.specs.Seen.{when, use_by, use_with, seen}
use Rattle.static_facts.specs.Following.{AgreesAt, Agrees}
use Rattle.static_facts.proofs.Asking.{Leads, IsUsed, BeginsBy, ChangesBy, ByDoing, doing_asks, doing_goes, wait_does}
use Rattle.static_facts.proofs.Quiet.{IsQuiet, quiet_by, wait_quiet, quiet_after}
use Rattle.static_facts.proofs.Remembered.{Behind, behind_in, kept, so_remembered, follows, wait_follows}
use Rattle.static_facts.proofs.Waiting.{waits_in}
use Rattle.static_facts.proofs.Does.{seen_own, seen_other}
use Rattle.pointer_targets.specs.LibraryObjects.{type_of_sort, is_of_sort, LeadsToObject}
use Rattle.pointer_targets.proofs.Told.{Told}

decide : (b : Bool) → (b ≡ true) ⊎ (b ≡ true → ⊥)
decide true = inl refl
decide false = inr (λ e. cc)

or_none : (b : Bool) → (b || false) ≡ b
or_none true = refl
or_none false = refl

pub place_typed : (here : Here) (t : CType) (e : Expr) (m : Cell) → place_at here t e ≡ Some m → unwrap_or (option_map (same_type t) (type_of_cell here.program m)) false ≡ true
place_typed here t e m p = go (eval here e) p
  where
    typed : Cell → Bool
    typed cell = unwrap_or (option_map (same_type t) (type_of_cell here.program cell)) false

    same_place : (a b : Cell) → Some a ≡ Some b → a ≡ b
    same_place a b q = cc

    at : (cell : Cell) (a b : Bool) → cond (a && b) (Some cell) None ≡ Some m → (b ≡ true) × (cell ≡ m)
    at cell true true r = (refl, same_place cell m r)
    at cell true false r = absurd (cc)
    at cell false b r = absurd (cc)

    go : (o : Option Value) → option_and_then (object_at_type here t) o ≡ Some m → unwrap_or (option_map (same_type t) (type_of_cell here.program m)) false ≡ true
    go None q = absurd (cc)
    go (Some (Number z)) q = absurd (cc)
    go (Some (Address cell)) q = let f = at cell (here.is_alive cell.root) (unwrap_or (option_map (same_type t) (type_of_cell here.program cell)) false) q in
        subst (λ (x : Cell). unwrap_or (option_map (same_type t) (type_of_cell here.program x)) false ≡ true) f.1 f.0

module _ (program : Program) (well : IsWellFormed program) (names : Names) (premises : Told program names) (sort : Sort) (c : Cell) (location : Location)
    (located : location_of program c ≡ Some location) (of_sort : is_of_sort program sort c ≡ true) where
  opens : (mark : Mark) × (Starts [] mark × Agrees program sort c 0 [] mark)
  unfolding state_after opening seen
  opens = (At Is_unmade None, (inl (refl, refl), record { initial = refl; has = refl; remembers = tt }))

  module _ (choice : Choice) (run : List Choice) (step : LastStep program choice run) where
    abbrev t : ℕ
    t = choice.thread

    abbrev state : State
    state = state_after program run

    abbrev later : State
    later = after program state t step.move step.effect

    abbrev action : Act
    action = act_at program step.move.action

    abbrev origin : List Spot
    origin = origin_in program run t

    abbrev point : Point
    point = stands_at origin step.by.control step.move

    abbrev now : Here
    now = here program state t

    abbrev use_now : Option Doing
    use_now = use_with step.effect sort c

    abbrev seen_before : ObjectState
    seen_before = seen program sort c run

    some_made : (n m : ℕ) → n < m → (m == 0) ≡ false
    some_made n m l = grind (arith, common_steps)

    fresh : (function : ℕ) → made_by step.effect.sync ≡ Some function
        → (mark : Mark) × (Starts (origin_in program (choice ∷ run) state.made) mark × Agrees program sort c state.made (choice ∷ run) mark)
    unfolding after
    fresh function e = (Follows_none, (inr ((λ q. nonempty (sym origin_is ∙ q)), refl), some_made t state.made (thread_made program well choice run step)))
      where
        nonempty : spot_at (state.thread t) step.move ∷ string_at (state.thread t) ≡ [] → ⊥
        nonempty q = cc

        origin_is : origin_in program (choice ∷ run) state.made ≡ spot_at (state.thread t) step.move ∷ string_at (state.thread t)
        origin_is = ap (λ (s : State). (s.thread state.made).origin) step.leads
            ∙ ap (λ (o : Option ℕ). (thread_after program state t step.move step.effect o state.made).origin) e
            ∙ ap (λ b. (cond b (thread_before program function state.called (spot_at (state.thread t) step.move ∷ string_at (state.thread t)))
            (moved_thread program state t step.move step.effect state.made)).origin) (eq-eqb state.made state.made refl)

    apart_zero : (thread : ℕ) → (thread == t) ≡ false → thread ≡ 0 → (t == 0) ≡ false
    apart_zero thread o z = go (t == 0) refl
      where
        go : (b : Bool) → (t == 0) ≡ b → (t == 0) ≡ false
        go false e = e
        go true e = absurd (let f : (thread == t) ≡ true = eq-eqb thread t (z ∙ sym (eqb-true t 0 e)) in cc)

    others_agree : (thread : ℕ) → (thread == t) ≡ false → thread < state.made → (mark : Mark) → Agrees program sort c thread run mark → Agrees program sort c thread (choice ∷ run) mark
    others_agree thread o l Follows_none a = a
    others_agree thread o l (At s outcome) a = record {
      initial = a.initial;
      has = a.has ∙ sym (seen_other program sort c choice run step (apart_zero thread o a.initial));
      remembers = subst (λ (s : State). OutcomeIn program s.memory (s.thread thread).origin (s.thread thread).stand outcome) (sym step.leads)
          (subst (λ (l : List Spot). OutcomeIn program later.memory l (later.thread thread).stand outcome) (sym (origins program state t step.move step.effect thread (lt_differs thread state.made l)))
          (subst (λ (s : Stand). OutcomeIn program later.memory (state.thread thread).origin s outcome) (sym (others program state t step.move step.effect thread o (lt_differs thread state.made l)))
          (kept_outcome program well choice run step thread o (state.thread thread).origin (state.thread thread).stand refl outcome a.remembers)));
    }

    kept_by : use_now ≡ None → t ≡ 0 → seen_before ≡ seen program sort c (choice ∷ run)
    kept_by u z = sym (seen_own program sort c choice run step z ∙ ap (λ x. changed_by x seen_before) u)

    waits : (d m : Cell) → step.effect.sync ≡ Suspends d m → (mark : Mark) → Agrees program sort c t run mark → Agrees program sort c t (choice ∷ run) mark
    waits d m e Follows_none a = a
    waits d m e (At s outcome) a = record {
      initial = a.initial;
      has = a.has ∙ kept_by (ap (λ (y : Sync). use_by y sort (accesses_object step.effect c)) e ∙ wait_quiet sort d m (accesses_object step.effect c)) a.initial;
      remembers = waits_in program well choice run step d m e outcome a.remembers;
    }

    -- ---- a step of the initial thread

    module _ (goes : GoesOn step.effect.sync) (function : ℕ) (stands : Stands program function step.by.control) (s : ObjectState) (o : Option Remembered)
        (a : AgreesAt program sort c t run s o) where
      abbrev Goal : Type 0
      Goal = (behind : Mark) × (ObjectStep program names sort location point choice.pair (At s o) behind × Agrees program sort c t (choice ∷ run) behind)

      abbrev kept_now : Option Remembered
      kept_now = kept_behind point action o

      outcome_before : OutcomeAt program state.memory point.string step.by.frames o
      outcome_before = subst (λ (x : Stand). OutcomeIn program state.memory origin x o) step.by.stands a.remembers

      agrees : (new : ObjectState) (out : Option Remembered) → new ≡ changed_by use_now seen_before → Behind program well choice run step goes out → AgreesAt program sort c t (choice ∷ run) new out
      agrees new out e k = record {
        initial = a.initial;
        has = e ∙ sym (seen_own program sort c choice run step a.initial);
        remembers = behind_in program well choice run step goes out k;
      }

      keeps : Behind program well choice run step goes kept_now
      keeps = kept program well choice run step goes function stands o outcome_before

      -- where the step does this with the object
      done : (u : Option Doing) → use_now ≡ u → changed_by u s ≡ changed_by use_now seen_before
      done u e = ap (λ (x : Option Doing). changed_by x s) (sym e) ∙ ap (λ (x : ObjectState). changed_by use_now x) a.has

      passed : doing_of sort action ≡ None → follows_outcome point action o choice.pair ≡ true → use_now ≡ None → Goal
      passed d f u = (At s kept_now, (passes s o d f, agrees s kept_now (done None u) keeps))

      leads_here : (argument : ℕ) (m : Cell) → step.by.inside ≡ None → Leads now action sort argument m → LeadsToObject program (type_of_sort sort) run t point argument m
      leads_here argument m e l = record {
        control = step.by.control;
        frames = step.by.frames;
        move = step.move;
        call = l.call;
        into = l.into;
        expression = l.expression;
        stands = step.by.stands ∙ ap (λ (o : Option Cell). Running step.by.control step.by.frames o) e;
        offers = (choice.pair, step.by.offers);
        here_is = refl;
        is_call = l.is_call;
        has = l.has;
        leads = l.leads;
      }

      may_name_here : (m : Cell) → step.by.inside ≡ None → Leads now action sort 0 m → same_cell m c ≡ true → MayName names point 0 location
      may_name_here m e l q = premises.may_name run t point sort 0 m location step.good (leads_here 0 m e l) (ap (location_of program) (cell_same m c q) ∙ located)

      not_exact : (m : Cell) → step.by.inside ≡ None → Leads now action sort 0 m → same_cell m c ≡ false → IsExact names point 0 location → ⊥
      not_exact m e l q x = let p = premises.exact run t point sort 0 m location step.good (leads_here 0 m e l) x in
          let r = premises.one_cell sort m c location (place_typed now (type_of_sort sort) l.expression m l.leads) of_sort p located in
          let f : same_cell m c ≡ true = cell_equal m c r in cc

      accessed : (m : Cell) → IsUsed sort m step.by.ask.request → accesses_object step.effect c ≡ same_cell m c
      unfolding effect_of
      accessed m u = ap (λ (x : Effect). accesses_object x c) step.by.gives ∙ ap (λ (xs : List Access). list_any (λ access. same_cell access.cell c) xs) u.1 ∙ or_none (same_cell m c)

      used : (m : Cell) (doing : Doing) → IsUsed sort m step.by.ask.request → ((b : Bool) → use_by step.effect.sync sort b ≡ when b doing) → use_now ≡ when (same_cell m c) doing
      used m doing u q = q (accesses_object step.effect c) ∙ ap (λ b. when b doing) (accessed m u)

      sync_goes : step.by.ask.turn ≡ Goes → step.effect.sync ≡ sync_of state step.by.ask.request
      sync_goes g = sync_is program well choice run step ∙ ap (λ (x : Turn). sync_after step.by.frames x (sync_of state step.by.ask.request)) g

      -- ---- a join, a detach or an end

      changes : (doing : Doing) → step.by.inside ≡ None → doing_of sort action ≡ Some doing → IsNoStart doing → ChangesBy now action sort doing step.by.ask → Goal
      changes doing e d n k = go (same_cell k.object c) refl
        where
          use_is : use_now ≡ when (same_cell k.object c) doing
          use_is = used k.object doing k.used (λ b. ap (λ (y : Sync). use_by y sort b) (sync_goes k.goes) ∙ k.does_so program state t step.by.meant b)

          go : (b : Bool) → same_cell k.object c ≡ b → Goal
          go true q = (
            At (changed doing s) kept_now,
            (
              moves s o doing d n (may_name_here k.object e k.leads q),
              agrees (changed doing s) kept_now (done (Some doing) (use_is ∙ ap (λ b. when b doing) q)) keeps,
            ),
          )
          go false q = (
            At s kept_now,
            (
              leaves s o doing d n (not_exact k.object e k.leads q),
              agrees s kept_now (done None (use_is ∙ ap (λ b. when b doing) q)) keeps,
            ),
          )

      -- ---- a call that begins an object

      module _ (outside : step.by.inside ≡ None) (does_begin : doing_of sort action ≡ Some Begins) (k : BeginsBy now action sort step.by.ask) where
        use_is : use_now ≡ use_by (if_done (is_zero k.z) k.sync) sort (same_cell k.object c)
        use_is = ap (λ (y : Sync). use_by y sort (accesses_object step.effect c)) (sync_goes k.goes ∙ k.does_so state)
            ∙ ap (λ b. use_by (if_done (is_zero k.z) k.sync) sort b) (accessed k.object k.used)

        answers : is_result k.z ≡ true
        answers = sym (k.answers state t) ∙ step.by.answers

        stored : step.effect.stores ≡ k.first program state step.by.frames ++ put_result (top step.by.frames) (result_of_call action) (Some (Number k.z))
        unfolding effect_of
        stored = ap (λ (x : Effect). x.stores) step.by.gives ∙ k.stores program state t step.by.frames

        remembered : (b : Bool) → is_zero k.z ≡ b → Behind program well choice run step goes (remembered_by program point (result_of_call action) b)
        remembered = so_remembered program well choice run step goes function stands (result_of_call action) k.z answers (doing_goes sort action Begins does_begin) k.goes
            (k.first program state step.by.frames) stored

        no_use : (b : Bool) → use_by (if_done false k.sync) sort b ≡ None
        no_use b = go sort
          where
            go : (r : Sort) → use_by (if_done false k.sync) r b ≡ None
            go A_mutex = refl
            go A_condition = refl
            go A_key = refl
            go A_thread = refl

        begun : is_zero k.z ≡ true → same_cell k.object c ≡ true → use_now ≡ Some Begins
        begun e q = use_is ∙ ap (λ x. use_by (if_done x k.sync) sort (same_cell k.object c)) e ∙ k.begins (same_cell k.object c) ∙ ap (λ b. when b Begins) q

        not_begun : is_zero k.z ≡ false → use_now ≡ None
        not_begun e = use_is ∙ ap (λ x. use_by (if_done x k.sync) sort (same_cell k.object c)) e ∙ no_use (same_cell k.object c)

        begun_elsewhere : same_cell k.object c ≡ false → use_now ≡ None
        begun_elsewhere q = use_is ∙ go (is_zero k.z)
          where
            go : (b : Bool) → use_by (if_done b k.sync) sort (same_cell k.object c) ≡ None
            go true = k.begins (same_cell k.object c) ∙ ap (λ b. when b Begins) q
            go false = no_use (same_cell k.object c)

        exactly : IsExact names point 0 location → same_cell k.object c ≡ true → (b : Bool) → is_zero k.z ≡ b → Goal
        exactly x q true e = (
          At Is_live (remembered_by program point (result_of_call action) true),
          (
            succeeds s o does_begin x,
            agrees Is_live (remembered_by program point (result_of_call action) true) (done (Some Begins) (begun e q)) (remembered true e),
          ),
        )
        exactly x q false e = (
          At s (remembered_by program point (result_of_call action) false),
          (
            fails s o does_begin x,
            agrees s (remembered_by program point (result_of_call action) false) (done None (not_begun e)) (remembered false e),
          ),
        )

        maybe : (IsExact names point 0 location → ⊥) → MayName names point 0 location → same_cell k.object c ≡ true → (b : Bool) → is_zero k.z ≡ b → Goal
        maybe x y q true e = (At Is_live None, (may_succeed s o does_begin x y, agrees Is_live None (done (Some Begins) (begun e q)) tt))
        maybe x y q false e = (At s None, (may_fail s o does_begin x y, agrees s None (done None (not_begun e)) tt))

        not_this : same_cell k.object c ≡ false → Goal
        not_this q = elim (decide (names.may_name point 0 location)) [
          | inl y ↦ (At s None, (may_fail s o does_begin (not_exact k.object outside k.leads q) y, agrees s None (done None (begun_elsewhere q)) tt))
          | inr n ↦ (At s kept_now, (elsewhere s o does_begin n, agrees s kept_now (done None (begun_elsewhere q)) keeps))
        ]

        begins : Goal
        begins = go (same_cell k.object c) refl
          where
            go : (q : Bool) → same_cell k.object c ≡ q → Goal
            go true q = elim (decide (names.is_exact point 0 location)) [
              | inl x ↦ exactly x q (is_zero k.z) refl
              | inr x ↦ maybe x (may_name_here k.object outside k.leads q) q (is_zero k.z) refl
            ]
            go false q = not_this q

      -- ---- all cases

      quiet_use : IsQuiet sort (sync_of state step.by.ask.request) → use_now ≡ None
      quiet_use q = ap (λ (y : Sync). use_by y sort (accesses_object step.effect c)) (sync_is program well choice run step)
          ∙ quiet_after sort step.by.frames step.by.ask.turn (sync_of state step.by.ask.request) q (accesses_object step.effect c)

      quiet : asked now action choice.pair choice.values ≡ Asks step.by.ask → step.by.inside ≡ None → doing_of sort action ≡ None → Goal
      quiet w e d = passed d (follows program well choice run step o outcome_before w) (quiet_use (quiet_by now action state sort step.by.ask.request d
          (named now action choice.pair choice.values step.by.ask.request (ap request_in w))))

      retaken : (m : Cell) → step.by.inside ≡ Some m → RetakesBy action m step.by.ask → Goal
      retaken m e r = passed (wait_does sort action r.waits) (wait_follows point choice.pair o action r.waits) (quiet_use (go sort))
        where
          again : (r' : Sort) (b : Bool) → use_by (Resumes m) r' b ≡ None
          again A_mutex b = refl
          again A_condition b = refl
          again A_key b = refl
          again A_thread b = refl

          go : (r' : Sort) → IsQuiet r' (sync_of state step.by.ask.request)
          go r' = subst (λ (q : Request). IsQuiet r' (sync_of state q)) (sym r.asks) (again r')

      outside_case : asked now action choice.pair choice.values ≡ Asks step.by.ask → step.by.inside ≡ None → (found : Option Doing) → doing_of sort action ≡ found → Goal
      outside_case w e None d = quiet w e d
      outside_case w e (Some doing) d = go doing d (from_each (ByDoing now action sort doing) step.by.ask
          (subst (EachAsk (ByDoing now action sort doing)) w (doing_asks now sort action choice.pair choice.values doing d)))
        where
          go : (doing : Doing) → doing_of sort action ≡ Some doing → ByDoing now action sort doing step.by.ask → Goal
          go Begins d b = begins e d b
          go Joins_it d b = changes Joins_it e d tt b
          go Detaches_it d b = changes Detaches_it e d tt b
          go Ends_it d b = changes Ends_it e d tt b

      goes_case : (inside : Option Cell) → step.by.inside ≡ inside → asked_by program state choice step.move inside ≡ Asks step.by.ask → Goal
      goes_case None e w = outside_case w e (doing_of sort action) refl
      goes_case (Some m) e w = retaken m e (from_each (RetakesBy action m) step.by.ask (subst (EachAsk (RetakesBy action m)) w (retakes_by action m choice.values)))

    moves_on : GoesOn step.effect.sync → (function : ℕ) → Stands program function step.by.control → (mark : Mark) → Agrees program sort c t run mark
        → (behind : Mark) × (ObjectStep program names sort location (stands_at (origin_in program run t) step.by.control step.move) choice.pair mark behind × Agrees program sort c t (choice ∷ run) behind)
    moves_on goes function stands Follows_none a = (Follows_none, (follows_none, a))
    moves_on goes function stands (At s o) a = goes_case goes function stands s o a step.by.inside refl step.by.asks

  simulates : Simulates program (states program names sort location) (Agrees program sort c)
  simulates = record {
    opens = opens;
    fresh = fresh;
    waits = λ choice run step d m e. waits choice run step d m e;
    moves = moves_on;
    others = others_agree;
  }

  pub followed : EachIsFollowed program (states program names sort location) (Agrees program sort c)
  followed = simulated program well (states program names sort location) (Agrees program sort c) simulates
