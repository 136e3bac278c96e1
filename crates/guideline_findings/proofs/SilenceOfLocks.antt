-- Where Rules 22.16 and 22.18 have no finding, no run breaks them.
use Rattle.std.proofs.Common.{◌≡◌, ◌≢◌, ◌⊎◌, inl, inr, refl, sym, subst, ap, ◌∙◌, Bool, true, false, cond, not, ◌&&◌, ◌==◌, ℕ, ℤ, zero, suc, ◌<◌, ◌+◌, min, List, [], ◌∷◌, ◌++◌, length, Option, Some, None, eqb-true, arith}
use Rattle.std.proofs.lemmas.Grind.{common_steps}
use Rattle.misra_base.specs.declared.guideline.Guideline.TheVariants.{R22_16, R22_18}
use Rattle.c_program.specs.declared.action.LibraryCall.TheVariants as lib
use Rattle.c_program.specs.declared.action.Act.{Act}
use Rattle.c_program.specs.declared.action.Act.TheVariants as act
use Rattle.c_program.specs.declared.program.Program.{Program}
use Rattle.c_program.specs.Syntax.{act_at}
use Rattle.c_program.specs.Values.{Cell, Value, Location, location_of}
use Rattle.c_program.specs.Control.{Control, Run, In_first, In_second, Before_turn, In_turn, In_switch, Behind, Move, Spot, Point, string_of}
use Rattle.c_program.specs.Types.{is_zero}
use Rattle.c_program.specs.State.{State, Mark, Stand, Running, Frame, Life, Unmade, Live, Dead, Mutex, depth_of, here}
use Rattle.c_program.specs.Requests.{Request, Plain, Creates, Joins, Detaches, Inits, Locks, Tries, Tries_timed, Opens, Makes_key, Unlocks, Waits, Destroys, Retakes, Turn, Goes, Enters, Leaves, Exits, Ask, Asks}
use Rattle.c_program.specs.Faults.{locked, is_recursive, is_broken, if_any, A_mutex}
use Rattle.c_program.specs.Effects.{Sync, Makes, Marks, Finishes, finishes, if_done, marks, sync_of, sync_after}
use Rattle.c_program.specs.Step.{Choice, asked_by}
use Rattle.c_program.specs.Runs.{IsGoodRun, IsRun, state_after, Moment, moment_at}
use Rattle.c_program.specs.Breaks.{Breaks, request_by}
use Rattle.c_program.specs.WellFormed.{IsWellFormed}
use Rattle.c_program.specs.Paths.{Offers, stands_at, IsReached}
use Rattle.c_program.specs.Laws.{IsRequestBy, NamesAt}
use Rattle.c_program.proofs.Asking.{by_a_move}
use Rattle.c_program.proofs.Cells.{and_true}
use Rattle.c_program.proofs.Logic.{not_true}
use Rattle.c_program.proofs.Onward.{Kind, Goes_on, Calls, Returns, Exits_all, kind_of, ByKind}
use Rattle.c_program.proofs.Turns.{Fits}
use Rattle.path_simulation.specs.Simulates.{LastStep}
use Rattle.path_simulation.proofs.Plain.{is_reached}
use Rattle.pointer_targets.specs.Names.{Names}
use Rattle.pointer_targets.proofs.Told.{Told, ObjectsAreStatic}
use Rattle.pointer_targets.specs.LibraryObjects.{is_of_sort, IsObjectAt}
use Rattle.static_facts.specs.Depths.{MayHold, depths, marked}
use Rattle.static_facts.specs.Owning.{level_of, depth_with_wait}
use Rattle.guideline_findings.specs.Ownership.{MayOwn, IsLockedAgain, MayBePlain, IsDestroyedOwned, IsKeptAtEnd, EndsAt, locks}
use Rattle.path_simulation.specs.Tracks.{IsPossible}
use Rattle.static_facts.proofs.MutexAsks.{Leads, place_mutex}
use Rattle.static_facts.proofs.Begun.{Begun, begun}
use Rattle.static_facts.proofs.Moments.{IsMoment, step_of, last_is, last_by}
use Rattle.static_facts.proofs.Possible.{possible, possible_with_wait}
use Rattle.static_facts.proofs.Remembering.{by_kind, sync_is, fits}
use Rattle.guideline_findings.proofs.SilenceOfUnlocks.{Nowhere, Stands_before, stands_before, lock_leads, timed_leads, destroy_leads}
use Rattle.static_facts.specs.Points.{IsReachable}
use Rattle.static_facts.specs.Outcomes.{Remembered}

some_depth : (d : ℕ) → (d == 0) ≡ false → 0 < min d 8
some_depth d e = grind (arith, common_steps)

not_zero : (d : ℕ) → 0 < d → (d == 0) ≡ false
not_zero d l = grind (arith, common_steps)

-- what is owned is live
live_of : (t : ℕ) (life : Life Mutex) → (depth_of t life == 0) ≡ false → (mutex : Mutex) × (life ≡ Live mutex)
live_of t (Live mutex) e = (mutex, refl)
live_of t Unmade e = absurd (cc)
live_of t Dead e = absurd (cc)

plain_of : (life : Life Mutex) (mutex : Mutex) → life ≡ Live mutex → is_recursive life ≡ false → mutex.kind.is_recursive ≡ false
plain_of life mutex e f = subst (λ (l : Life Mutex). is_recursive l ≡ false) e f

-- where a depth is possible, a path comes
pub held_reachable : (program : Program) (names : Names) (mutex : Location) (thread : List Spot) (point : Point) (outcome : Option Remembered) {depth : ℕ}
    → IsPossible program (depths program names mutex) thread point (marked depth outcome) → IsReachable program thread point
held_reachable program names mutex thread point outcome h = record { function = h.function; leads = h.leads; reached = is_reached program (depths program names mutex) thread point (marked _ outcome) h }

module _ (program : Program) (well : IsWellFormed program) (names : Names) (premises : Told program names) (static : ObjectsAreStatic program) where
  -- ---- the initialisation of a mutex

  module _ (m : Cell) (mutex : Mutex) (b : Begun program m mutex.kind) where
    begun_origin : List Spot
    begun_origin = ((state_after program b.run).thread b.thread).origin

    begun_mutex : is_of_sort program A_mutex m ≡ true
    begun_mutex = place_mutex (here program (state_after program b.run) b.thread) b.leads.expression m b.leads.leads

    pub begun_location : (location : Location) × (location_of program m ≡ Some location)
    begun_location = static b.run b.thread b.point A_mutex 0 m b.good b.leads

    pub begun_at : IsObjectAt program A_mutex m begun_location.0
    begun_at = record { here = begun_location.1; of_sort = begun_mutex }

    may_be_plain : (location : Location) → location_of program m ≡ Some location → mutex.kind.is_recursive ≡ false → MayBePlain program names location
    unfolding begun_origin
    may_be_plain location l p = record {
      thread = ((state_after program b.run).thread b.thread).origin;
      point = b.point;
      reachable = subst (IsReachable program ((state_after program b.run).thread b.thread).origin) b.leads.here_is (held_reachable program names location _ _ held.0 held.1);
      expression = b.expression;
      kind = mutex.kind;
      into = b.into;
      is_init = b.is_init;
      candidate = record { named = premises.may_name b.run b.thread b.point A_mutex 0 m location b.good b.leads l; cell = m; here = l; of_sort = begun_mutex };
      is_plain = p;
    }
      where
        held : MayHold program names location ((state_after program b.run).thread b.thread).origin (stands_at ((state_after program b.run).thread b.thread).origin b.leads.control b.leads.move)
            (min (depth_of b.thread ((state_after program b.run).mutex m)) 8)
        held = possible program well names premises m location (record { here = l; of_sort = begun_mutex }) b.run b.good b.thread b.leads.control b.leads.frames None b.leads.move b.leads.stands b.leads.offers tt

  -- ---- Rule 22.18

  module _ (run : List Choice) (good : IsGoodRun program run) (choice : Choice) where
    abbrev state : State
    state = state_after program run

    abbrev thread : List Spot
    thread = ((state_after program run).thread choice.thread).origin

    again : Nowhere (IsLockedAgain program names) → (m : Cell) (control : Control) (frames : List Frame) (move : Move)
        → (state.thread choice.thread).stand ≡ Running control frames None → Offers control move
        → (locks (act_at program move.action) ≡ Some 0) × Leads (here program state choice.thread) (act_at program move.action) 0 m
        → (depth_of choice.thread (state.mutex m) == 0) ≡ false → is_recursive (state.mutex m) ≡ false → ⊥
    again none m control frames move s o l z p =
        let b = stands_before program well names premises static run good choice 0 m control frames move s o l.1 in
        let live = live_of choice.thread (state.mutex m) z in
        none thread (stands_at thread control move) b.location (record {
          argument = 0;
          locks_it = l.0;
          candidate = b.candidate;
          may_own = (min (depth_of choice.thread (state.mutex m)) 8, (some_depth _ z, b.depth));
          may_be_plain = may_be_plain m live.0 (begun program well run good m live.0 live.1) b.location b.here_is (plain_of (state.mutex m) live.0 live.1 p);
        })

    both : (a b : Bool) → (not a && not b) ≡ true → (a ≡ false) × (b ≡ false)
    both a b e = let p = and_true (not a) (not b) e in (not_true a p.0, not_true b p.1)

    locked_again : Nowhere (IsLockedAgain program names) → (request : Request) → IsRequestBy program state choice request
        → if_any (λ m. not (depth_of choice.thread (state.mutex m) == 0) && not (is_recursive (state.mutex m))) (locked request) ≡ true → ⊥
    locked_again none (Locks m) w z = go w.inside w.stands w.names
      where
        go : (inside : Option Cell) → (state.thread choice.thread).stand ≡ Running w.control w.frames inside → NamesAt (here program state choice.thread) (act_at program w.move.action) inside (Locks m) → ⊥
        go None s n = let p = both _ _ z in again none m w.control w.frames w.move s (choice.pair, w.offers) (lock_leads (here program state choice.thread) (act_at program w.move.action) m n) p.0 p.1
        go (Some x) s n = let e = n.1 in cc
    locked_again none (Tries_timed m r) w z = go w.inside w.stands w.names
      where
        go : (inside : Option Cell) → (state.thread choice.thread).stand ≡ Running w.control w.frames inside → NamesAt (here program state choice.thread) (act_at program w.move.action) inside (Tries_timed m r) → ⊥
        go None s n = let p = both _ _ z in again none m w.control w.frames w.move s (choice.pair, w.offers) (timed_leads (here program state choice.thread) (act_at program w.move.action) m r n) p.0 p.1
        go (Some x) s n = let e = n.1 in cc
    locked_again none _ w z = cc

    -- ---- Rule 22.16

    owned_at_destruction : Nowhere (IsDestroyedOwned program names) → (m : Cell) → IsRequestBy program state choice (Destroys m) → 0 < depth_of choice.thread (state.mutex m) → ⊥
    owned_at_destruction none m w z = go w.inside w.stands w.names
      where
        go : (inside : Option Cell) → (state.thread choice.thread).stand ≡ Running w.control w.frames inside → NamesAt (here program state choice.thread) (act_at program w.move.action) inside (Destroys m) → ⊥
        go None s n = let l = destroy_leads (here program state choice.thread) (act_at program w.move.action) m n in
            let b = stands_before program well names premises static run good choice 0 m w.control w.frames w.move s (choice.pair, w.offers) l.1 in
            none thread (stands_at thread w.control w.move) b.location (record {
              argument = 0;
              destroys_it = l.0;
              candidate = b.candidate;
              may_own = (min (depth_of choice.thread (state.mutex m)) 8, (some_depth _ (not_zero _ z), b.depth));
            })
        go (Some x) s n = let e = n.1 in cc

  pub silent_18 : Nowhere (IsLockedAgain program names) → (run : List Choice) → IsRun program run → Breaks R22_18 program run → ⊥
  silent_18 none [] r b = b
  silent_18 none (choice ∷ run) r b = locked_again run r.0 choice none b.0 (by_a_move program (state_after program run) choice b.0 b.1) b.2

  -- ---- the end of a thread

  no_frames : (control : Control) → Fits program control [] → ⊥
  no_frames [] f = f
  no_frames (Run s ∷ rest) f = no_frames rest f.1
  no_frames (In_first a b ∷ rest) f = no_frames rest f.1
  no_frames (In_second a b ∷ rest) f = no_frames rest f.1
  no_frames (Before_turn c body turn ∷ rest) f = no_frames rest f.1
  no_frames (In_turn c body turn ∷ rest) f = no_frames rest f.1
  no_frames (In_switch ∷ rest) f = no_frames rest f
  no_frames (Behind call ∷ rest) f = f

  -- the bottom of a call string
  no_call : (control : Control) (frame : Frame) → Fits program control (frame ∷ []) → string_of control ≡ []
  no_call [] frame f = refl
  no_call (Run s ∷ rest) frame f = no_call rest frame f.1
  no_call (In_first a b ∷ rest) frame f = no_call rest frame f.1
  no_call (In_second a b ∷ rest) frame f = no_call rest frame f.1
  no_call (Before_turn c body turn ∷ rest) frame f = no_call rest frame f.1
  no_call (In_turn c body turn ∷ rest) frame f = no_call rest frame f.1
  no_call (In_switch ∷ rest) frame f = no_call rest frame f
  no_call (Behind call ∷ rest) frame f = absurd (no_frames rest f.1)

  done_goes : (b : Bool) (sync : Sync) → finishes sync ≡ false → finishes (if_done b sync) ≡ false
  done_goes true sync e = e
  done_goes false sync e = refl

  marks_goes : (held : Option ℕ) (mark : Mark) → finishes (marks held mark) ≡ false
  marks_goes None mark = refl
  marks_goes (Some t) mark = refl

  never_finishes : (now : State) (request : Request) → finishes (sync_of now request) ≡ false
  never_finishes now (Creates object f v result) = done_goes (is_zero result) _ refl
  never_finishes now (Joins object into) = marks_goes (now.holds object) _
  never_finishes now (Detaches object) = marks_goes (now.holds object) _
  never_finishes now (Inits m kind result) = done_goes (is_zero result) _ refl
  never_finishes now (Tries m result) = done_goes (is_zero result) _ refl
  never_finishes now (Tries_timed m result) = done_goes (is_zero result) _ refl
  never_finishes now (Opens c result) = done_goes (is_zero result) _ refl
  never_finishes now (Makes_key k result) = done_goes (is_zero result) _ refl
  never_finishes now _ = refl

  true_false {ℓ} : {C : Type ℓ} (b : Bool) → b ≡ true → b ≡ false → C
  true_false b e f = absurd (let g : true ≡ false = sym e ∙ f in cc)

  module _ (choice : Choice) (run : List Choice) (step : LastStep program choice run) (ends : finishes step.effect.sync ≡ true) where
    abbrev start : State
    start = state_after program run

    abbrev origin : List Spot
    origin = (start.thread choice.thread).origin

    abbrev action : Act
    action = act_at program step.move.action

    abbrev point : Point
    point = stands_at origin step.by.control step.move

    ends_by : finishes (sync_after step.by.frames step.by.ask.turn (sync_of start step.by.ask.request)) ≡ true
    ends_by = subst (λ (y : Sync). finishes y ≡ true) (sync_is program well choice run step) ends

    ends_return : (a : Act) → kind_of a ≡ Returns → point.string ≡ origin → EndsAt origin point a
    ends_return (act.Return value) e s = s
    ends_return act.End e s = s
    ends_return (act.Library (lib.ThreadExit x) into) e s = tt
    ends_return _ e s = absurd (cc)

    ends_exit : (a : Act) → kind_of a ≡ Exits_all → EndsAt origin point a
    ends_exit (act.Library (lib.ThreadExit x) into) e = tt
    ends_exit (act.Return value) e = absurd (cc)
    ends_exit act.End e = absurd (cc)
    ends_exit _ e = absurd (cc)

    by_turn : (turn : Turn) → step.by.ask.turn ≡ turn → finishes (sync_after step.by.frames turn (sync_of start step.by.ask.request)) ≡ true
    by_turn turn e = subst (λ (x : Turn). finishes (sync_after step.by.frames x (sync_of start step.by.ask.request)) ≡ true) e ends_by

    at_bottom : (frames : List Frame) (result : Option Value) → Fits program step.by.control frames → finishes (sync_after frames (Leaves result) (sync_of start step.by.ask.request)) ≡ true → point.string ≡ origin
    at_bottom [] result f e = absurd (no_frames step.by.control f)
    at_bottom (frame ∷ []) result f e = ap (λ (s : List Spot). s ++ origin) (no_call step.by.control frame f)
    at_bottom (frame ∷ caller ∷ frames) result f e = true_false _ e (never_finishes start step.by.ask.request)

    ends_at_kind : (kind : Kind) → kind_of action ≡ kind → ByKind kind step.by.ask → EndsAt origin point action
    ends_at_kind Goes_on k b = true_false _ (by_turn Goes b) (never_finishes start step.by.ask.request)
    ends_at_kind (Calls function into) k b = true_false _ (by_turn _ b.0.1) (never_finishes start step.by.ask.request)
    ends_at_kind Returns k b = ends_return action k (at_bottom step.by.frames b.0.0 (fits program well choice run step) (by_turn _ b.0.1))
    ends_at_kind Exits_all k b = ends_exit action k

    ends_at : EndsAt origin point action
    ends_at = ends_at_kind (kind_of action) refl (by_kind program well choice run step)

    more : (a b : ℕ) → 0 < a → 0 < min (a + b) 8
    more a b l = grind (arith, common_steps)

    kept_at_end : Nowhere (IsKeptAtEnd program names) → (m : Cell) → 0 < depth_of choice.thread (start.mutex m) → ⊥
    kept_at_end none m z =
        let live = live_of choice.thread (start.mutex m) (not_zero _ z) in
        let b = begun program well run step.good m live.0 live.1 in
        let at = begun_at m live.0 b in
        none origin point (begun_location m live.0 b).0 (record {
          ends = ends_at;
          of_mutex = record { cell = m; here = at.here; of_sort = at.of_sort };
          may_own = (
            min (depth_with_wait m start choice.thread) 8,
            (
              more _ _ z,
              possible_with_wait program well names premises m (begun_location m live.0 b).0 at run step.good choice.thread step.by.control step.by.frames step.by.inside step.move step.by.stands (choice.pair, step.by.offers),
            ),
          );
        })

  at_end : Nowhere (IsKeptAtEnd program names) → (last : Moment) → IsMoment program last → finishes last.effect.sync ≡ true → (m : Cell)
      → 0 < depth_of last.choice.thread ((state_after program last.earlier).mutex m) → ⊥
  at_end none last s e m z = kept_at_end last.choice last.earlier (step_of program last s) e none m z

  pub silent_16 : Nowhere (IsKeptAtEnd program names) → Nowhere (IsDestroyedOwned program names) → (run : List Choice) → IsRun program run → Breaks R22_16 program run → ⊥
  silent_16 none_kept none_owned [] r b = b
  silent_16 none_kept none_owned (choice ∷ run) r (inl b) = owned_at_destruction run r.0 choice none_owned b.0 (by_a_move program (state_after program run) choice (Destroys b.0) b.1) b.2
  silent_16 none_kept none_owned (choice ∷ run) r (inr b) = let record { 0 = last; 1 = m; 2 = at; 3 = e; 4 = z } = b in
      let by = last_by program choice run last r.0 at in
      at_end none_kept last (last_is program choice run last r.0 at) e m
      (subst (λ (x : Choice). 0 < depth_of x.thread ((state_after program last.earlier).mutex m)) (sym by.0)
      (subst (λ (r : List Choice). 0 < depth_of choice.thread ((state_after program r).mutex m)) (sym by.1) z))
