-- Each running thread has of a static mutex a depth that is possible at its point.
use Rattle.std.proofs.Common.{◌≡◌, refl, sym, subst, ap, ◌∙◌, Bool, true, false, cond, ◌&&◌, ◌==◌, ℕ, suc, ◌+◌, ◌-◌, ◌<◌, min, List, [], ◌∷◌, ◌++◌, Option, Some, None, eqb-true, eq-eqb, arith}
use Rattle.std.proofs.lemmas.Grind.{common_steps}
use Rattle.c_program.specs.declared.action.Act.{Act}
use Rattle.c_program.specs.declared.program.Program.{Program}
use Rattle.c_program.specs.Syntax.{act_at}
use Rattle.c_program.specs.Values.{Cell, Value, Location, location_of, same_cell}
use Rattle.c_program.specs.Control.{Control, Spot, string_of}
use Rattle.c_program.specs.State.{State, Mark as Mark_of, Stand, Not_made, Running, Ended, Frame, opening, depth_of, inside_of, frames_of, top, here}
use Rattle.c_program.specs.Types.{is_zero}
use Rattle.c_program.specs.Requests.{Request, Creates, Joins, Detaches, Inits, Tries, Tries_timed, Opens, Makes_key, Retakes, Waits, Turn, Goes, Enters, Leaves, Exits, Ask, Asks, Store, asked}
use Rattle.c_program.specs.Effects.{Sync, Suspends, Resumes, Finishes, Takes, Effect, Use, Gives_it, use_if, use_of, made_by, is_among, effect_of, stores_of, put_result, memory_after, sync_of, sync_after, if_done, marks, own_stand, after}
use Rattle.c_program.specs.Step.{Choice, asked_by}
use Rattle.c_program.specs.Runs.{state_after}
use Rattle.c_program.specs.Breaks.{request_in}
use Rattle.c_program.specs.Counters.{IsUnaddressed, writes_local}
use Rattle.c_program.specs.WellFormed.{IsWellFormed}
use Rattle.c_program.specs.Paths.{Stands, stands_at}
use Rattle.c_program.specs.Laws.{Finds, depth_after, Names as RequestNames}
use Rattle.c_program.proofs.Asks.{EachAsk, from_each}
use Rattle.c_program.proofs.Cells.{cell_same}
use Rattle.c_program.proofs.Far.{local_cell_of, and_off}
use Rattle.c_program.proofs.Finds.{finds}
use Rattle.c_program.proofs.Held.{BackMissed}
use Rattle.c_program.proofs.Named.{named}
use Rattle.c_program.proofs.Stays.{others, origins}
use Rattle.path_simulation.specs.Simulates.{LastStep, GoesOn, Simulates, EachIsFollowed, origin_in}
use Rattle.path_simulation.proofs.Simulated.{simulated}
use Rattle.pointer_targets.specs.Names.{Names}
use Rattle.pointer_targets.proofs.Told.{Told}
use Rattle.pointer_targets.specs.LibraryObjects.{is_of_sort}
use Rattle.static_facts.specs.Outcomes.{Remembered}
use Rattle.static_facts.specs.Depths.{Mark, marked, DepthStep, depths}
use Rattle.static_facts.specs.Owning.{level_of, depth_with_wait, HasFrame, HasOutcome, OutcomeAt, OutcomeIn, AgreesIn, Agrees}
use Rattle.static_facts.proofs.Later.{own_later, own_origin, lt_differs, thread_made, new_stand}
use Rattle.static_facts.proofs.Owner.{Owns, Owner, owner_in, depth_stays, depth_own, or_left, or_right}
use Rattle.static_facts.proofs.MutexAsks.{WaitsBy, wait_asks, wait_named, RetakesBy, retakes_by}
use Rattle.static_facts.proofs.Remembering.{unwritten, top_is_among, sound, frames_own, sync_is, frame_among}
use Rattle.static_facts.proofs.OtherThreads.{kept_outcome}
use Rattle.static_facts.proofs.Agreeing.{goes_case, none_in}
use Rattle.c_program.specs.Faults.{A_mutex}

gt_differs : (n m : ℕ) → n < m → (m == n) ≡ false
gt_differs n m l = grind (arith, common_steps)

-- ---- which request suspends

done_suspends : (b : Bool) (sync : Sync) (d m : Cell) → (sync ≡ Suspends d m → ⊥) → if_done b sync ≡ Suspends d m → ⊥
done_suspends true sync d m n e = n e
done_suspends false sync d m n e = cc

marks_suspends : (held : Option ℕ) (mark : Mark_of) (d m : Cell) → marks held mark ≡ Suspends d m → ⊥
marks_suspends None mark d m e = cc
marks_suspends (Some t) mark d m e = cc

suspends_of : (state : State) (request : Request) (d m : Cell) → sync_of state request ≡ Suspends d m → request ≡ Waits d m
suspends_of state (Waits c k) d m e = same c k e
  where
    same : (c k : Cell) → Suspends c k ≡ Suspends d m → Waits c k ≡ Waits d m
    same c k e = cc
suspends_of state (Creates object f v result) d m e = absurd (done_suspends (is_zero result) _ d m (λ q. cc) e)
suspends_of state (Joins object into) d m e = absurd (marks_suspends (state.holds object) _ d m e)
suspends_of state (Detaches object) d m e = absurd (marks_suspends (state.holds object) _ d m e)
suspends_of state (Inits k kind result) d m e = absurd (done_suspends (is_zero result) _ d m (λ q. cc) e)
suspends_of state (Tries k result) d m e = absurd (done_suspends (is_zero result) _ d m (λ q. cc) e)
suspends_of state (Tries_timed k result) d m e = absurd (done_suspends (is_zero result) _ d m (λ q. cc) e)
suspends_of state (Opens c result) d m e = absurd (done_suspends (is_zero result) _ d m (λ q. cc) e)
suspends_of state (Makes_key k result) d m e = absurd (done_suspends (is_zero result) _ d m (λ q. cc) e)
suspends_of state _ d m e = absurd (cc)

suspends_by : (state : State) (frames : List Frame) (turn : Turn) (request : Request) (d m : Cell) → sync_after frames turn (sync_of state request) ≡ Suspends d m → request ≡ Waits d m
suspends_by state frames Goes request d m e = suspends_of state request d m e
suspends_by state frames (Enters f arguments result) request d m e = suspends_of state request d m e
suspends_by state frames (Exits result) request d m e = absurd (cc)
suspends_by state [] (Leaves result) request d m e = absurd (cc)
suspends_by state (frame ∷ []) (Leaves result) request d m e = absurd (cc)
suspends_by state (frame ∷ caller ∷ frames) (Leaves result) request d m e = suspends_of state request d m e

-- ---- the relation

module _ (program : Program) (well : IsWellFormed program) (names : Names) (premises : Told program names) (c : Cell) (location : Location)
    (located : location_of program c ≡ Some location) (of_sort : is_of_sort program A_mutex c ≡ true) where
  opens : (mark : Mark) × ((mark ≡ marked 0 None) × Agrees program c 0 [] mark)
  unfolding state_after opening
  opens = (marked 0 None, (refl, record { depth = refl; outcome = tt }))

  module _ (choice : Choice) (run : List Choice) (step : LastStep program choice run) where
    abbrev t : ℕ
    t = choice.thread

    abbrev state : State
    state = state_after program run

    abbrev later : State
    later = after program state t step.move step.effect

    owner : (thread : ℕ) → Owns state c thread → Owner state c thread
    owner = owner_in program well c run step.good

    free_new : depth_of state.made (state.mutex c) ≡ 0
    free_new = go (depth_of state.made (state.mutex c) == 0) refl
      where
        go : (b : Bool) → (depth_of state.made (state.mutex c) == 0) ≡ b → depth_of state.made (state.mutex c) ≡ 0
        go true e = eqb-true _ 0 e
        go false e = absurd (let l : state.made < state.made = (owner state.made e).made in omega arith)

    new_depth : depth_of state.made (later.mutex c) ≡ 0
    new_depth = depth_stays program well c choice run step owner state.made (gt_differs t state.made (thread_made program well choice run step)) ∙ free_new

    fresh : (function : ℕ) → made_by step.effect.sync ≡ Some function → (mark : Mark) × ((mark ≡ marked 0 None) × Agrees program c state.made (choice ∷ run) mark)
    fresh function e = (
      marked 0 None,
      (
        refl,
        subst (λ (s : State). AgreesIn program c s state.made (marked 0 None)) (sym step.leads) (record {
          depth = sym (ap (λ (s : Stand). min (depth_of state.made (later.mutex c) + level_of c (inside_of s)) 8) (new_stand program well choice run step function e)
              ∙ ap (λ n. min (n + 0) 8) new_depth);
          outcome = none_in program later.memory (later.thread state.made).origin (later.thread state.made).stand;
        }),
      ),
    )

    others_agree : (thread : ℕ) → (thread == t) ≡ false → thread < state.made → (mark : Mark) → Agrees program c thread run mark → Agrees program c thread (choice ∷ run) mark
    others_agree thread o l mark a = subst (λ (s : State). AgreesIn program c s thread mark) (sym step.leads) (record {
      depth = a.depth ∙ ap (λ n. min n 8) (sym (ap (λ (s : Stand). depth_of thread (later.mutex c) + level_of c (inside_of s)) stand_same
          ∙ ap (λ n. n + level_of c (inside_of (state.thread thread).stand)) (depth_stays program well c choice run step owner thread o)));
      outcome = subst (λ (l : List Spot). OutcomeIn program later.memory l (later.thread thread).stand mark.outcome) (sym (origins program state t step.move step.effect thread (lt_differs thread state.made l)))
          (subst (λ (s : Stand). OutcomeIn program later.memory (state.thread thread).origin s mark.outcome) (sym stand_same)
          (kept_outcome program well choice run step thread o (state.thread thread).origin (state.thread thread).stand refl mark.outcome a.outcome));
    })
      where
        stand_same : (later.thread thread).stand ≡ (state.thread thread).stand
        stand_same = others program state t step.move step.effect thread o (lt_differs thread state.made l)

    -- ---- the first step of a wait

    module _ (d m : Cell) (sync : step.effect.sync ≡ Suspends d m) where
      outside : step.by.inside ≡ None
      outside = go step.by.inside step.by.asks
        where
          unlike : (x : Cell) → Resumes x ≡ Suspends d m → ⊥
          unlike x e = cc

          go : (inside : Option Cell) → asked_by program state choice step.move inside ≡ Asks step.by.ask → inside ≡ None
          go None a = refl
          go (Some x) a = let r = from_each (RetakesBy (act_at program step.move.action) x) step.by.ask
              (subst (EachAsk (RetakesBy (act_at program step.move.action) x)) a (retakes_by (act_at program step.move.action) x choice.values)) in
              absurd (unlike x (sym (sync_is program well choice run step ∙ ap (λ (y : Turn). sync_after step.by.frames y (sync_of state step.by.ask.request)) r.goes
              ∙ ap (λ (q : Request). sync_of state q) r.asks) ∙ sync))

      asks_here : asked (here program state t) (act_at program step.move.action) choice.pair choice.values ≡ Asks step.by.ask
      asks_here = subst (λ (inside : Option Cell). asked_by program state choice step.move inside ≡ Asks step.by.ask) outside step.by.asks

      is_waiting : step.by.ask.request ≡ Waits d m
      is_waiting = suspends_by state step.by.frames step.by.ask.turn step.by.ask.request d m (sym (sync_is program well choice run step) ∙ sync)

      waits_by : WaitsBy (here program state t) (act_at program step.move.action) step.by.ask
      waits_by = from_each (WaitsBy (here program state t) (act_at program step.move.action)) step.by.ask
          (subst (EachAsk (WaitsBy (here program state t) (act_at program step.move.action))) asks_here
          (wait_asks (here program state t) (act_at program step.move.action) choice.pair choice.values
          (wait_named (here program state t) (act_at program step.move.action) d m
          (subst (λ (q : Request). RequestNames (here program state t) (act_at program step.move.action) q) is_waiting
          (named (here program state t) (act_at program step.move.action) choice.pair choice.values step.by.ask.request (ap request_in asks_here))))))

      no_stores : step.effect.stores ≡ []
      unfolding effect_of
      no_stores = ap (λ (x : Effect). x.stores) step.by.gives ∙ ap (λ (q : Request). stores_of program state t step.by.frames step.by.ask q step.by.ask.turn) is_waiting
          ∙ ap (λ (s : List Store). s ++ put_result (top step.by.frames) step.by.ask.into step.by.ask.result) waits_by.stores
          ∙ ap (λ (o : Option Value). put_result (top step.by.frames) step.by.ask.into o) waits_by.result

      memory_stays : (cell : Cell) → later.memory cell ≡ state.memory cell
      unfolding after
      memory_stays cell = ap (λ (s : List Store). memory_after s state.memory cell) no_stores

      stand_later : (later.thread t).stand ≡ Running step.by.control step.by.frames (Some m)
      stand_later = own_later program well choice run step ∙ ap (λ (y : Sync). own_stand program step.move step.effect state.called step.by.control step.by.frames y) sync

      suspended : depth_with_wait c later t ≡ depth_of t (state.mutex c)
      suspended = ap (λ (s : Stand). depth_of t (later.mutex c) + level_of c (inside_of s)) stand_later
          ∙ ap (λ n. n + cond (same_cell m c) 1 0) (depth_own program well c choice run step owner ∙ ap (λ (y : Sync). depth_after (use_of y c) (depth_of t (state.mutex c))) sync)
          ∙ go (same_cell m c) refl
        where
          found : (depth_of t (state.mutex m) == 0) ≡ false
          found = (subst (Finds state t) sync (finds program state choice step.move step.effect step.by)).1

          back : (n : ℕ) → (n == 0) ≡ false → (n - 1) + 1 ≡ n
          back n e = grind (arith, common_steps)

          plus_none : (n : ℕ) → n + 0 ≡ n
          plus_none n = omega arith

          go : (b : Bool) → same_cell m c ≡ b → depth_after (use_if b Gives_it) (depth_of t (state.mutex c)) + cond b 1 0 ≡ depth_of t (state.mutex c)
          go true e = back _ (subst (λ (x : Cell). (depth_of t (state.mutex x) == 0) ≡ false) (cell_same m c e) found)
          go false e = plus_none _

      kept_waiting : (origin : List Spot) (o : Option Remembered) → OutcomeAt program state.memory (string_of step.by.control ++ origin) step.by.frames o
          → OutcomeAt program later.memory (string_of step.by.control ++ origin) step.by.frames o
      kept_waiting origin None k = tt
      kept_waiting origin (Some r) k = record {
        call = k.call;
        number = k.number;
        frame = k.frame;
        holds = memory_stays _ ∙ k.holds;
        is_answer = k.is_answer;
        is_so = k.is_so;
        automatic = k.automatic;
        unaddressed = k.unaddressed;
      }

      waits : (mark : Mark) → Agrees program c t run mark → Agrees program c t (choice ∷ run) mark
      waits mark a = subst (λ (s : State). AgreesIn program c s t mark) (sym step.leads) (record {
        depth = a.depth ∙ ap (λ n. min n 8) (ap (λ (s : Stand). depth_of t (state.mutex c) + level_of c (inside_of s)) step.by.stands
            ∙ ap (λ (o : Option Cell). depth_of t (state.mutex c) + level_of c o) outside ∙ plus_none _ ∙ sym suspended);
        outcome = subst (λ (l : List Spot). OutcomeIn program later.memory l (later.thread t).stand mark.outcome) (sym (own_origin program well choice run step))
            (subst (λ (s : Stand). OutcomeIn program later.memory (state.thread t).origin s mark.outcome) (sym stand_later)
            (kept_waiting (state.thread t).origin mark.outcome (subst (λ (s : Stand). OutcomeIn program state.memory (state.thread t).origin s mark.outcome) step.by.stands a.outcome)));
      })
        where
          plus_none : (n : ℕ) → n + 0 ≡ n
          plus_none n = omega arith

    moves_on : GoesOn step.effect.sync → (function : ℕ) → Stands program function step.by.control → (mark : Mark) → Agrees program c t run mark
        → (behind : Mark) × (DepthStep program names location (stands_at (origin_in program run t) step.by.control step.move) choice.pair mark behind × Agrees program c t (choice ∷ run) behind)
    moves_on goes function stands mark a = goes_case program well names premises c location located of_sort choice run step goes function stands mark a step.by.inside refl step.by.asks

  pub simulates : Simulates program (depths program names location) (Agrees program c)
  simulates = record {
    opens = opens;
    fresh = fresh;
    waits = waits;
    moves = moves_on;
    others = others_agree;
  }

  pub followed : EachIsFollowed program (depths program names location) (Agrees program c)
  followed = simulated program well (depths program names location) (Agrees program c) simulates
