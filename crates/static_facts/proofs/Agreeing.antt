-- The depth in which a thread owns a mutex is one that a path brings to its point.
use Rattle.std.proofs.Common.{◌≡◌, ◌≢◌, ◌⊎◌, inl, inr, refl, sym, subst, ap, ◌∙◌, Bool, true, false, cond, not, ◌&&◌, ◌||◌, ◌==◌, ℕ, suc, ◌+◌, ◌-◌, ◌<◌, min, ℤ, List, [], ◌∷◌, ◌++◌, length, Option, Some, None, eqb-true, eq-eqb, arith}
use Rattle.std.proofs.lemmas.Grind.{common_steps}
use Rattle.std.specs.Prelude.{if◌then◌else◌}
use Rattle.c_program.specs.declared.action.MutexKind.{MutexKind}
use Rattle.c_program.specs.declared.action.Local.{Local}
use Rattle.c_program.specs.declared.action.Act.{Act}
use Rattle.c_program.specs.declared.action.Act.TheVariants as act
use Rattle.c_program.specs.declared.expression.Expr.{Expr}
use Rattle.c_program.specs.declared.program.Program.{Program}
use Rattle.c_program.specs.Syntax.{act_at}
use Rattle.c_program.specs.Types.{is_zero, converted}
use Rattle.c_program.specs.declared.program.Storage.{Storage}
use Rattle.c_program.specs.Evaluation.{root_in, root_of}
use Rattle.c_program.specs.Values.{Cell, Value, Number, Of_frame, Location, location_of, same_cell}
use Rattle.c_program.specs.Control.{Control, Move, Spot, Point, goes_on, string_of}
use Rattle.c_program.specs.State.{State, Stand, Not_made, Running, Ended, Frame, Life, Unmade, Live, Dead, Mutex, depth_of, inside_of, frames_of, top, here}
use Rattle.c_program.specs.Requests.{Request, Locks, Tries, Tries_timed, Unlocks, Destroys, Retakes, Waits, Turn, Goes, Ask, Asks, asked, Store, mutex_type}
use Rattle.c_program.specs.Faults.{is_live, is_result, may_answer, A_mutex}
use Rattle.c_program.specs.Effects.{Sync, Starts, Takes, Gives, Suspends, Resumes, Kills, Finishes, Effect, Use, Keeps, Begins, Takes_it, Gives_it, Dies, use_if, use_of, own_stand, frames_after, is_among, put_result, stores_of, effect_of, memory_after, sync_of, sync_after, if_done, after}
use Rattle.c_program.specs.Step.{Choice, asked_by}
use Rattle.c_program.specs.Runs.{state_after}
use Rattle.c_program.specs.Breaks.{request_in}
use Rattle.c_program.specs.WellFormed.{IsWellFormed}
use Rattle.c_program.specs.Paths.{Stands, stands_at}
use Rattle.c_program.specs.Laws.{Finds, depth_after}
use Rattle.c_program.proofs.Asks.{EachAsk, from_each}
use Rattle.c_program.proofs.Cells.{cell_same, and_true}
use Rattle.c_program.proofs.Named.{named}
use Rattle.c_program.proofs.Finds.{finds}
use Rattle.c_program.proofs.Far.{local_cell_of}
use Rattle.c_program.proofs.Onward.{Kind, left_by, left_is}
use Rattle.c_program.proofs.Stays.{others}
use Rattle.path_simulation.proofs.Plain.{string_left}
use Rattle.path_simulation.specs.Tracks.{Track}
use Rattle.path_simulation.specs.Simulates.{LastStep, GoesOn, Simulates, EachIsFollowed, origin_in}
use Rattle.pointer_targets.specs.Names.{Names, MayName, IsExact}
use Rattle.pointer_targets.proofs.Told.{Told}
use Rattle.pointer_targets.specs.LibraryObjects.{LeadsToObject, is_of_sort}
use Rattle.static_facts.specs.Outcomes.{Remembered, Test, kept_behind, forgets, follows_outcome, remembered_by, is_int_local, test_of, is_tested_side, decided, is_side}
use Rattle.static_facts.specs.Depths.{Mark, marked, one_more, Doing, Does_lock, Does_unlock, Does_destroy, Does_try, doing_of, DepthMoves, IsNoTry, DepthStep, passes, moves, leaves, succeeds, fails, may_succeed, may_fail, elsewhere, depths}
use Rattle.static_facts.specs.Owning.{level_of, depth_with_wait, HasFrame, HasOutcome, OutcomeAt, OutcomeIn, AgreesIn, Agrees}
use Rattle.static_facts.proofs.Tests.{test_decides}
use Rattle.static_facts.proofs.Later.{own_later, own_origin, lt_differs, thread_made}
use Rattle.static_facts.proofs.Owner.{Owns, Owner, owner_in, depth_stays, depth_own}
use Rattle.static_facts.proofs.MutexAsks.{Leads, IsTryOf, TriesBy, AsksBy, ByDoing, doing_asks, is_quiet, is_quiet_sync, quiet_by, quiet_after, WaitsBy, RetakesBy, retakes_by, is_wait, BranchesBy, branch_asks, place_mutex, cell_equal}
use Rattle.static_facts.proofs.Remembering.{outcome_later, by_kind, sync_is, turn_is, frames_own, top_is_among}
use Rattle.static_facts.proofs.Locals.{int_local, put_holds, doing_goes}

decide : (b : Bool) → (b ≡ true) ⊎ (b ≡ true → ⊥)
decide true = inl refl
decide false = inr (λ e. cc)

-- ---- depths, cut at 8

cut_same : (a b : ℕ) → a ≡ b → min a 8 ≡ min b 8
cut_same a b e = ap (λ n. min n 8) e

cut_more : (a b d : ℕ) → a ≡ min b 8 → d ≡ suc b → min d 8 ≡ one_more a
cut_more a b d e f = grind (arith, common_steps)

cut_less : (a b d : ℕ) → a ≡ min b 8 → d ≡ b - 1 → (min d 8 ≡ a - 1) ⊎ ((a ≡ 8) × (min d 8 ≡ 8))
cut_less a b d e f = grind (arith, common_steps)

dead_depth : (thread : ℕ) (life : Life Mutex) → is_live life ≡ false → depth_of thread life ≡ 0
dead_depth thread (Live mutex) e = absurd (cc)
dead_depth thread Unmade e = refl
dead_depth thread Dead e = refl

-- what is quiet leaves the depth
quiet_depth : (state : State) (t : ℕ) (c : Cell) (sync : Sync) → is_quiet_sync sync ≡ true → GoesOn sync → Finds state t sync
    → depth_after (use_of sync c) (depth_of t (state.mutex c)) ≡ depth_of t (state.mutex c)
quiet_depth state t c (Starts m kind) q g f = go (same_cell m c) refl
  where
    go : (b : Bool) → same_cell m c ≡ b → depth_after (use_if b (Begins kind)) (depth_of t (state.mutex c)) ≡ depth_of t (state.mutex c)
    go true e = sym (dead_depth t (state.mutex c) (subst (λ (x : Cell). is_live (state.mutex x) ≡ false) (cell_same m c e) f))
    go false e = refl
quiet_depth state t c (Takes m) q g f = absurd (cc)
quiet_depth state t c (Gives m) q g f = absurd (cc)
quiet_depth state t c (Resumes m) q g f = absurd (cc)
quiet_depth state t c (Kills m) q g f = absurd (cc)
quiet_depth state t c (Suspends d m) q g f = absurd g
quiet_depth state t c (Finishes result) q g f = absurd g
quiet_depth state t c _ q g f = refl

goes_stand : (program : Program) (move : Move) (effect : Effect) (called : ℕ) (control : Control) (frames : List Frame) (sync : Sync) → GoesOn sync
    → own_stand program move effect called control frames sync ≡ Running (goes_on program move) (frames_after effect.turn called frames) None
goes_stand program move effect called control frames (Suspends c m) g = absurd g
goes_stand program move effect called control frames (Finishes result) g = absurd g
goes_stand program move effect called control frames _ g = refl

pub none_in : (program : Program) (memory : Cell → Option Value) (origin : List Spot) (stand : Stand) → OutcomeIn program memory origin stand None
none_in program memory origin Not_made = tt
none_in program memory origin (Running control frames inside) = tt
none_in program memory origin (Ended result) = tt

-- ---- a step of the thread that goes on

module _ (program : Program) (well : IsWellFormed program) (names : Names) (premises : Told program names) (c : Cell) (location : Location)
    (located : location_of program c ≡ Some location) (of_sort : is_of_sort program A_mutex c ≡ true)
    (choice : Choice) (run : List Choice) (step : LastStep program choice run) where
  abbrev t : ℕ
  t = choice.thread

  abbrev state : State
  state = state_after program run

  abbrev later : State
  later = after program state t step.move step.effect

  abbrev action : Act
  action = act_at program step.move.action

  abbrev origin : List Spot
  origin = origin_in program run t

  abbrev point : Point
  point = stands_at origin step.by.control step.move

  owner : (thread : ℕ) → Owns state c thread → Owner state c thread
  owner = owner_in program well c run step.good

  own_depth : ℕ
  own_depth = depth_of t (state.mutex c)

  level_before : level_of c (inside_of (state.thread t).stand) ≡ level_of c step.by.inside
  level_before = ap (λ (s : Stand). level_of c (inside_of s)) step.by.stands

  module _ (goes : GoesOn step.effect.sync) where
    stand_later : (later.thread t).stand ≡ Running (goes_on program step.move) (frames_after step.effect.turn state.called step.by.frames) None
    stand_later = own_later program well choice run step ∙ goes_stand program step.move step.effect state.called step.by.control step.by.frames step.effect.sync goes

    depth_later : depth_with_wait c later t ≡ depth_after (use_of step.effect.sync c) (depth_of t (state.mutex c))
    depth_later = ap (λ (s : Stand). depth_of t (later.mutex c) + level_of c (inside_of s)) stand_later ∙ plus_none _ ∙ depth_own program well c choice run step owner
      where
        plus_none : (n : ℕ) → n + 0 ≡ n
        plus_none n = omega arith

    abbrev Behind : Option Remembered → Type 0
    Behind o = OutcomeAt program later.memory (string_of (goes_on program step.move) ++ origin) (frames_after step.effect.turn state.called step.by.frames) o

    -- a mark behind the step
    agrees_later : (mark : Mark) → mark.depth ≡ min (depth_after (use_of step.effect.sync c) (depth_of t (state.mutex c))) 8 → Behind mark.outcome → Agrees program c t (choice ∷ run) mark
    agrees_later mark d o = subst (λ (s : State). AgreesIn program c s t mark) (sym step.leads) (record {
      depth = d ∙ cut_same _ _ (sym depth_later);
      outcome = subst (λ (l : List Spot). OutcomeIn program later.memory l (later.thread t).stand mark.outcome) (sym (own_origin program well choice run step))
          (subst (λ (s : Stand). OutcomeIn program later.memory origin s mark.outcome) (sym stand_later) o);
    })

    module _ (function : ℕ) (stands : Stands program function step.by.control) where
      kept : (o : Option Remembered) → OutcomeAt program state.memory point.string step.by.frames o → Behind (kept_behind point action o)
      kept None k = tt
      kept (Some r) k = go (forgets point action r) refl
        where
          go : (b : Bool) → forgets point action r ≡ b → Behind (cond b None (Some r))
          go true e = tt
          go false e = outcome_later program well choice run step function stands goes r e k

      -- ---- the cases

      module _ (mark : Mark) (agrees : AgreesIn program c state t mark) where
        abbrev pub Goal : Type 0
        Goal = (behind : Mark) × (DepthStep program names location point choice.pair mark behind × Agrees program c t (choice ∷ run) behind)

        abbrev moved_depth : ℕ
        moved_depth = depth_after (use_of step.effect.sync c) (depth_of t (state.mutex c))

        outcome_before : OutcomeAt program state.memory point.string step.by.frames mark.outcome
        outcome_before = subst (λ (s : Stand). OutcomeIn program state.memory origin s mark.outcome) step.by.stands agrees.outcome

        depth_before : (inside : Option Cell) → step.by.inside ≡ inside → mark.depth ≡ min (depth_of t (state.mutex c) + level_of c inside) 8
        depth_before inside e = agrees.depth ∙ ap (λ n. min (depth_of t (state.mutex c) + n) 8) (level_before ∙ ap (level_of c) e)

        plus_none : (n : ℕ) → min (n + 0) 8 ≡ min n 8
        plus_none n = ap (λ k. min k 8) (omega arith)

        depth_outside : step.by.inside ≡ None → mark.depth ≡ min (depth_of t (state.mutex c)) 8
        depth_outside e = depth_before None e ∙ plus_none _

        -- the path's step leaves the depth, and the run's does too
        passed : doing_of action ≡ None → follows_outcome point action mark.outcome choice.pair ≡ true → mark.depth ≡ min moved_depth 8 → Goal
        passed d f e = (
          marked mark.depth (kept_behind point action mark.outcome),
          (passes mark.depth mark.outcome d f, agrees_later (marked mark.depth (kept_behind point action mark.outcome)) e (kept mark.outcome outcome_before)),
        )

        leads_here : (argument : ℕ) (m : Cell) → step.by.inside ≡ None → Leads (here program state t) action argument m → LeadsToObject program mutex_type run t point argument m
        leads_here argument m e l = record {
          control = step.by.control;
          frames = step.by.frames;
          move = step.move;
          call = l.call;
          into = l.into;
          expression = l.expression;
          stands = step.by.stands ∙ ap (λ (o : Option Cell). Running step.by.control step.by.frames o) e;
          offers = (choice.pair, step.by.offers);
          here_is = refl;
          is_call = l.is_call;
          has = l.has;
          leads = l.leads;
        }

        may_name_here : (m : Cell) → step.by.inside ≡ None → Leads (here program state t) action 0 m → same_cell m c ≡ true → MayName names point 0 location
        may_name_here m e l s = premises.may_name run t point A_mutex 0 m location step.good (leads_here 0 m e l) (ap (location_of program) (cell_same m c s) ∙ located)

        not_exact : (m : Cell) → step.by.inside ≡ None → Leads (here program state t) action 0 m → same_cell m c ≡ false → IsExact names point 0 location → ⊥
        not_exact m e l s x = let p = premises.exact run t point A_mutex 0 m location step.good (leads_here 0 m e l) x in
            let q = premises.one_cell A_mutex m c location (place_mutex (here program state t) l.expression m l.leads) of_sort p located in
            let r : same_cell m c ≡ true = cell_equal m c q in cc

        -- a lock, an unlock or a destruction
        called : (doing : Doing) (m : Cell) → step.by.inside ≡ None → doing_of action ≡ Some doing → IsNoTry doing → Leads (here program state t) action 0 m
            → (same_cell m c ≡ true → DepthMoves doing mark.depth (min moved_depth 8)) → (same_cell m c ≡ false → moved_depth ≡ depth_of t (state.mutex c)) → Goal
        called doing m e d n l h k = go (same_cell m c) refl
          where
            go : (b : Bool) → same_cell m c ≡ b → (behind : Mark) × (DepthStep program names location point choice.pair mark behind × Agrees program c t (choice ∷ run) behind)
            go true s = (
              marked (min moved_depth 8) (kept_behind point action mark.outcome),
              (
                moves mark.depth (min moved_depth 8) mark.outcome doing d n (may_name_here m e l s) (h s),
                agrees_later (marked (min moved_depth 8) (kept_behind point action mark.outcome)) refl (kept mark.outcome outcome_before),
              ),
            )
            go false s = (
              marked mark.depth (kept_behind point action mark.outcome),
              (
                leaves mark.depth mark.outcome doing d n (not_exact m e l s),
                agrees_later (marked mark.depth (kept_behind point action mark.outcome)) (depth_outside e ∙ cut_same _ _ (sym (k s))) (kept mark.outcome outcome_before),
              ),
            )

        used : (sync : Sync) → step.effect.sync ≡ sync → moved_depth ≡ depth_after (use_of sync c) (depth_of t (state.mutex c))
        used sync e = ap (λ (x : Sync). depth_after (use_of x c) (depth_of t (state.mutex c))) e

        taken_if : (m : Cell) (b : Bool) → step.effect.sync ≡ Takes m → same_cell m c ≡ b → moved_depth ≡ depth_after (use_if b Takes_it) (depth_of t (state.mutex c))
        taken_if m b e s = used (Takes m) e ∙ ap (λ x. depth_after (use_if x Takes_it) (depth_of t (state.mutex c))) s

        given_if : (m : Cell) (b : Bool) → step.effect.sync ≡ Gives m → same_cell m c ≡ b → moved_depth ≡ depth_after (use_if b Gives_it) (depth_of t (state.mutex c))
        given_if m b e s = used (Gives m) e ∙ ap (λ x. depth_after (use_if x Gives_it) (depth_of t (state.mutex c))) s

        killed_if : (m : Cell) (b : Bool) → step.effect.sync ≡ Kills m → same_cell m c ≡ b → moved_depth ≡ depth_after (use_if b Dies) (depth_of t (state.mutex c))
        killed_if m b e s = used (Kills m) e ∙ ap (λ x. depth_after (use_if x Dies) (depth_of t (state.mutex c))) s

        sync_by : (request : Request) → step.by.ask.turn ≡ Goes → step.by.ask.request ≡ request → step.effect.sync ≡ sync_of state request
        sync_by request g e = sync_is program well choice run step ∙ ap (λ (x : Turn). sync_after step.by.frames x (sync_of state step.by.ask.request)) g
            ∙ ap (λ (r : Request). sync_of state r) e

        locked : (e : step.by.inside ≡ None) → doing_of action ≡ Some Does_lock → AsksBy (here program state t) action Locks step.by.ask → Goal
        locked e d a = let y = sync_by (Locks a.m) a.goes a.asks in
            called Does_lock a.m e d tt a.leads (λ s. cut_more mark.depth (depth_of t (state.mutex c)) moved_depth (depth_outside e) (taken_if a.m true y s)) (λ s. taken_if a.m false y s)

        unlocked : (e : step.by.inside ≡ None) → doing_of action ≡ Some Does_unlock → AsksBy (here program state t) action Unlocks step.by.ask → Goal
        unlocked e d a = let y = sync_by (Unlocks a.m) a.goes a.asks in
            called Does_unlock a.m e d tt a.leads (λ s. cut_less mark.depth (depth_of t (state.mutex c)) moved_depth (depth_outside e) (given_if a.m true y s)) (λ s. given_if a.m false y s)

        destroyed : (e : step.by.inside ≡ None) → doing_of action ≡ Some Does_destroy → AsksBy (here program state t) action Destroys step.by.ask → Goal
        destroyed e d a = let y = sync_by (Destroys a.m) a.goes a.asks in
            called Does_destroy a.m e d tt a.leads (λ s. cut_same _ _ (killed_if a.m true y s)) (λ s. killed_if a.m false y s)

        -- ---- try calls

        module _ (into : Option Local) (outside : step.by.inside ≡ None) (does : doing_of action ≡ Some (Does_try into)) (tries : TriesBy (here program state t) action into step.by.ask) where
          abbrev succeeded : Bool
          succeeded = is_zero tries.z

          sync_tried : step.effect.sync ≡ if_done succeeded (Takes tries.m)
          sync_tried = go tries.asks
            where
              go : IsTryOf tries.m tries.z step.by.ask.request → step.effect.sync ≡ if_done (is_zero tries.z) (Takes tries.m)
              go (inl e) = sync_by (Tries tries.m tries.z) tries.goes e
              go (inr e) = sync_by (Tries_timed tries.m tries.z) tries.goes e

          is_answer : is_result tries.z ≡ true
          unfolding may_answer
          is_answer = go tries.asks
            where
              go : IsTryOf tries.m tries.z step.by.ask.request → is_result tries.z ≡ true
              go (inl e) = (and_true _ _ (subst (λ (r : Request). may_answer state t r ≡ true) e step.by.answers)).0
              go (inr e) = (and_true _ _ (subst (λ (r : Request). may_answer state t r ≡ true) e step.by.answers)).0

          tried_if : (b s : Bool) → is_zero tries.z ≡ b → same_cell tries.m c ≡ s → moved_depth ≡ depth_after (use_of (if_done b (Takes tries.m)) c) (depth_of t (state.mutex c))
          tried_if b s e f = used _ sync_tried ∙ ap (λ x. depth_after (use_of (if_done x (Takes tries.m)) c) (depth_of t (state.mutex c))) e

          taken_here : is_zero tries.z ≡ true → same_cell tries.m c ≡ true → moved_depth ≡ suc (depth_of t (state.mutex c))
          taken_here e f = tried_if true true e f ∙ ap (λ x. depth_after (use_if x Takes_it) (depth_of t (state.mutex c))) f

          not_taken : is_zero tries.z ≡ false → moved_depth ≡ depth_of t (state.mutex c)
          not_taken e = used _ sync_tried ∙ ap (λ x. depth_after (use_of (if_done x (Takes tries.m)) c) (depth_of t (state.mutex c))) e

          elsewhere_taken : same_cell tries.m c ≡ false → moved_depth ≡ depth_of t (state.mutex c)
          elsewhere_taken f = used _ sync_tried ∙ go (is_zero tries.z)
            where
              go : (b : Bool) → depth_after (use_of (if_done b (Takes tries.m)) c) (depth_of t (state.mutex c)) ≡ depth_of t (state.mutex c)
              go true = ap (λ x. depth_after (use_if x Takes_it) (depth_of t (state.mutex c))) f
              go false = refl

          -- the local has the result
          stored : step.effect.stores ≡ put_result (top step.by.frames) into (Some (Number tries.z))
          unfolding effect_of
          stored = ap (λ (x : Effect). x.stores) step.by.gives ∙ go tries.asks
            where
              end : (ask_stores : List Store) (o : Option Value) (l : Option Local) → ask_stores ≡ [] → o ≡ Some (Number tries.z) → l ≡ into
                  → ask_stores ++ put_result (top step.by.frames) l o ≡ put_result (top step.by.frames) into (Some (Number tries.z))
              end ask_stores o l a b d = ap (λ (s : List Store). s ++ put_result (top step.by.frames) l o) a ∙ ap (λ (v : Option Value). put_result (top step.by.frames) l v) b
                  ∙ ap (λ (x : Option Local). put_result (top step.by.frames) x (Some (Number tries.z))) d

              go : IsTryOf tries.m tries.z step.by.ask.request → stores_of program state t step.by.frames step.by.ask step.by.ask.request step.by.ask.turn ≡ put_result (top step.by.frames) into (Some (Number tries.z))
              go (inl e) = ap (λ (r : Request). stores_of program state t step.by.frames step.by.ask r step.by.ask.turn) e ∙ end _ _ _ tries.stores tries.result tries.local
              go (inr e) = ap (λ (r : Request). stores_of program state t step.by.frames step.by.ask r step.by.ask.turn) e ∙ end _ _ _ tries.stores tries.result tries.local

          -- the string and the frames stay
          string_stays : string_of (goes_on program step.move) ++ origin ≡ point.string
          string_stays = ap (λ (s : Control). string_of s ++ origin) (left_is program step.move.action action step.move.left
              ∙ ap (λ (kind : Kind). left_by program step.move.action kind step.move.left) (doing_goes action (Does_try into) does))
              ∙ ap (λ (s : List Spot). s ++ origin) (string_left program function step.by.control step.move stands (choice.pair, step.by.offers))

          frames_stay : frames_after step.effect.turn state.called step.by.frames ≡ step.by.frames
          frames_stay = ap (λ (x : Turn). frames_after x state.called step.by.frames) (turn_is program well choice run step ∙ tries.goes)

          at_top : (i : ℕ) (fs : List Frame) → is_among (top fs) fs ≡ true → HasFrame (length point.string) i point.string fs (top fs)
          at_top i [] e = absurd (cc)
          at_top i (frame ∷ fs) e = inl (refl, refl)

          outcome_of : (local : Local) → into ≡ Some local → is_int_local program local ≡ true → Behind (Some (record { height = length point.string; local = local.object; succeeded = succeeded }))
          unfolding after
          outcome_of local i e = let n = int_local program local e in record {
            call = top step.by.frames;
            number = tries.z;
            frame = subst (λ (fs : List Frame). HasFrame (length point.string) local.object (string_of (goes_on program step.move) ++ origin) fs (top step.by.frames)) (sym frames_stay)
                (subst (λ (s : List Spot). HasFrame (length point.string) local.object s step.by.frames (top step.by.frames)) (sym string_stays)
                (at_top local.object step.by.frames (top_is_among program well choice run step)));
            holds = ap (λ (s : List Store). memory_after s state.memory (local_cell_of (top step.by.frames) local.object)) (stored ∙ ap (λ (l : Option Local). put_result (top step.by.frames) l (Some (Number tries.z))) i)
                ∙ put_holds local (top step.by.frames) tries.z state.memory n is_answer;
            is_answer = is_answer;
            is_so = refl;
            automatic = n.automatic;
            unaddressed = n.unaddressed;
          }

          remembered : (l : Option Local) → into ≡ l → Behind (remembered_by program point l succeeded)
          remembered None i = tt
          remembered (Some local) i = go (is_int_local program local) refl
            where
              go : (b : Bool) → is_int_local program local ≡ b
                  → Behind (cond b (Some (record { height = length point.string; local = local.object; succeeded = succeeded })) None)
              go true e = outcome_of local i e
              go false e = tt

          so_remembered : (b : Bool) → succeeded ≡ b → Behind (remembered_by program point into b)
          so_remembered b e = subst (λ x. Behind (remembered_by program point into x)) e (remembered into refl)

          exactly : IsExact names point 0 location → same_cell tries.m c ≡ true → (b : Bool) → succeeded ≡ b → Goal
          exactly x s true e = (
            marked (one_more mark.depth) (remembered_by program point into true),
            (
              succeeds mark.depth mark.outcome into does x,
              agrees_later (marked (one_more mark.depth) (remembered_by program point into true))
                  (sym (cut_more mark.depth (depth_of t (state.mutex c)) moved_depth (depth_outside outside) (taken_here e s))) (so_remembered true e),
            ),
          )
          exactly x s false e = (
            marked mark.depth (remembered_by program point into false),
            (
              fails mark.depth mark.outcome into does x,
              agrees_later (marked mark.depth (remembered_by program point into false)) (depth_outside outside ∙ cut_same _ _ (sym (not_taken e))) (so_remembered false e),
            ),
          )

          maybe : (IsExact names point 0 location → ⊥) → MayName names point 0 location → same_cell tries.m c ≡ true → (b : Bool) → succeeded ≡ b → Goal
          maybe x y s true e = (
            marked (one_more mark.depth) None,
            (
              may_succeed mark.depth mark.outcome into does x y,
              agrees_later (marked (one_more mark.depth) None)
                  (sym (cut_more mark.depth (depth_of t (state.mutex c)) moved_depth (depth_outside outside) (taken_here e s))) tt,
            ),
          )
          maybe x y s false e = (
            marked mark.depth None,
            (
              may_fail mark.depth mark.outcome into does x y,
              agrees_later (marked mark.depth None) (depth_outside outside ∙ cut_same _ _ (sym (not_taken e))) tt,
            ),
          )

          not_this : same_cell tries.m c ≡ false → Goal
          not_this s = elim (decide (names.may_name point 0 location)) [
            | inl y ↦ (
              marked mark.depth None,
              (
                may_fail mark.depth mark.outcome into does (not_exact tries.m outside tries.leads s) y,
                agrees_later (marked mark.depth None) (depth_outside outside ∙ cut_same _ _ (sym (elsewhere_taken s))) tt,
              ),
            )
            | inr n ↦ (
              marked mark.depth (kept_behind point action mark.outcome),
              (
                elsewhere mark.depth mark.outcome into does n,
                agrees_later (marked mark.depth (kept_behind point action mark.outcome)) (depth_outside outside ∙ cut_same _ _ (sym (elsewhere_taken s))) (kept mark.outcome outcome_before),
              ),
            )
          ]

          tried : Goal
          tried = go (same_cell tries.m c) refl
            where
              go : (s : Bool) → same_cell tries.m c ≡ s → Goal
              go true s = elim (decide (names.is_exact point 0 location)) [
                | inl x ↦ exactly x s (is_zero tries.z) refl
                | inr x ↦ maybe x (may_name_here tries.m outside tries.leads s) s (is_zero tries.z) refl
              ]
              go false s = not_this s

        -- ---- the second step of a wait, and what moves no depth

        wait_follows : (a : Act) → is_wait a ≡ true → follows_outcome point a mark.outcome choice.pair ≡ true
        wait_follows (act.Branch e into) w = absurd (cc)
        wait_follows a w = refl

        plus_level : (b : Bool) → depth_after (use_if b Takes_it) (depth_of t (state.mutex c)) ≡ depth_of t (state.mutex c) + (cond b 1 0)
        plus_level true = omega arith
        plus_level false = omega arith

        retaken : (m : Cell) → step.by.inside ≡ Some m → RetakesBy action m step.by.ask → Goal
        retaken m e r = passed r.does (wait_follows action r.waits) (depth_before (Some m) e ∙ cut_same _ _ (sym (used (Resumes m) (sync_by (Retakes m r.z) r.goes r.asks) ∙ plus_level (same_cell m c))))

        -- ---- a branch

        here_top : (here program state t).frame ≡ top step.by.frames
        here_top = ap top (frames_own program well choice run step)

        top_call : (h i f : ℕ) (string : List Spot) (fs : List Frame) → HasFrame h i string fs f → (length string == h) ≡ true → f ≡ top fs
        top_call h i f string [] k e = absurd k
        top_call h i f string (frame ∷ fs) (inl k) e = sym k.1
        top_call h i f string (frame ∷ fs) (inr k) e = absurd (let q : length string ≡ h = eqb-true (length string) h e in let l : h < length string = k.0 in omega arith)

        local_holds : (r : Remembered) → (o : HasOutcome program state.memory point.string step.by.frames r) → (length point.string == r.height) ≡ true
            → (here program state t).memory (record { root = root_of (here program state t) r.local; path = [] }) ≡ Some (Number o.number)
        local_holds r o e = ap (λ (s : Storage). state.memory (record { root = root_in (here program state t) s r.local; path = [] })) o.automatic
            ∙ ap (λ n. state.memory (record { root = Of_frame n r.local; path = [] })) (here_top ∙ sym (top_call r.height r.local o.call point.string step.by.frames o.frame e)) ∙ o.holds

        side_taken : (r : Remembered) → (o : HasOutcome program state.memory point.string step.by.frames r) → (length point.string == r.height) ≡ true → (e : Expr) → BranchesBy (here program state t) e choice.pair
            → (found : Option Test) → test_of e ≡ found → is_tested_side found r choice.pair ≡ true
        side_taken r o h e b None f = refl
        side_taken r o h e b (Some x) f = at_local (x.local == r.local) refl
          where
            at_side : (s : Option Bool) → x.local ≡ r.local → decided x r.succeeded ≡ s → is_side s choice.pair ≡ true
            at_side None l d = refl
            at_side (Some side) l d = subst (λ y. (choice.pair == cond y 0 1) ≡ true)
                (test_decides (here program state t) r.local o.number o.is_answer (local_holds r o h) e x f l side (ap (decided x) o.is_so ∙ d) b.value b.evals b.side b.is_side) b.goes

            at_local : (y : Bool) → (x.local == r.local) ≡ y → cond y (is_side (decided x r.succeeded) choice.pair) true ≡ true
            at_local true l = at_side (decided x r.succeeded) (eqb-true x.local r.local l) refl
            at_local false l = refl

        branch_follows : (e : Expr) (into : Option Local) → action ≡ act.Branch e into → asked (here program state t) action choice.pair choice.values ≡ Asks step.by.ask
            → (o : Option Remembered) → OutcomeAt program state.memory point.string step.by.frames o → follows_outcome point (act.Branch e into) o choice.pair ≡ true
        branch_follows e into q a None k = refl
        branch_follows e into q a (Some r) k = go (length point.string == r.height) refl
          where
            branches : BranchesBy (here program state t) e choice.pair
            branches = from_each (λ ask. BranchesBy (here program state t) e choice.pair) step.by.ask
                (subst (EachAsk (λ ask. BranchesBy (here program state t) e choice.pair)) (ap (λ (x : Act). asked (here program state t) x choice.pair choice.values) (sym q) ∙ a)
                (branch_asks (here program state t) e into choice.pair choice.values))

            go : (b : Bool) → (length point.string == r.height) ≡ b → cond b (is_tested_side (test_of e) r choice.pair) true ≡ true
            go true h = side_taken r k h e branches (test_of e) refl
            go false h = refl

        follows : asked (here program state t) action choice.pair choice.values ≡ Asks step.by.ask → follows_outcome point action mark.outcome choice.pair ≡ true
        follows a = go action refl
          where
            go : (x : Act) → action ≡ x → follows_outcome point x mark.outcome choice.pair ≡ true
            go (act.Branch e into) q = branch_follows e into q a mark.outcome outcome_before
            go x q = refl

        quiet : asked (here program state t) action choice.pair choice.values ≡ Asks step.by.ask → step.by.inside ≡ None → doing_of action ≡ None → Goal
        quiet a e d = passed d (follows a) (depth_outside e ∙ cut_same _ _ (sym (quiet_depth state t c step.effect.sync quiet_now goes (finds program state choice step.move step.effect step.by))))
          where
            quiet_now : is_quiet_sync step.effect.sync ≡ true
            quiet_now = subst (λ (y : Sync). is_quiet_sync y ≡ true) (sym (sync_is program well choice run step))
                (quiet_after state step.by.frames step.by.ask.turn step.by.ask.request
                (quiet_by (here program state t) action step.by.ask.request d (named (here program state t) action choice.pair choice.values step.by.ask.request (ap request_in a))))

        -- ---- all cases

        outside_case : asked (here program state t) action choice.pair choice.values ≡ Asks step.by.ask → step.by.inside ≡ None → (found : Option Doing) → doing_of action ≡ found → Goal
        outside_case a e None d = quiet a e d
        outside_case a e (Some doing) d = go doing d (from_each (ByDoing (here program state t) action doing) step.by.ask
            (subst (EachAsk (ByDoing (here program state t) action doing)) a (doing_asks (here program state t) action choice.pair choice.values doing d)))
          where
            go : (doing : Doing) → doing_of action ≡ Some doing → ByDoing (here program state t) action doing step.by.ask → Goal
            go Does_lock d b = locked e d b
            go Does_unlock d b = unlocked e d b
            go Does_destroy d b = destroyed e d b
            go (Does_try into) d b = tried into e d b

        pub goes_case : (inside : Option Cell) → step.by.inside ≡ inside → asked_by program state choice step.move inside ≡ Asks step.by.ask → Goal
        goes_case None e a = outside_case a e (doing_of action) refl
        goes_case (Some m) e a = retaken m e (from_each (RetakesBy action m) step.by.ask (subst (EachAsk (RetakesBy action m)) a (retakes_by action m choice.values)))
