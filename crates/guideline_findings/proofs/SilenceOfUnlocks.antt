-- Where a rule has no finding, no run breaks it.
use Rattle.std.proofs.Common.{◌≡◌, ◌⊎◌, inl, inr, refl, sym, subst, ap, ◌∙◌, Bool, true, false, cond, not, ◌&&◌, ◌==◌, ℕ, ℤ, zero, suc, ◌<◌, ◌+◌, min, List, [], ◌∷◌, ◌++◌, Option, Some, None, eqb-true, arith}
use Rattle.std.proofs.lemmas.Grind.{common_steps}
use Rattle.std.specs.Prelude.{slice_get}
use Rattle.misra_base.specs.declared.guideline.Guideline.TheVariants.{R22_16, R22_17, R22_18}
use Rattle.c_program.specs.declared.expression.Expr.{Expr}
use Rattle.c_program.specs.declared.action.LibraryCall.TheVariants as lib
use Rattle.c_program.specs.declared.action.Act.{Act}
use Rattle.c_program.specs.declared.action.Act.TheVariants as act
use Rattle.c_program.specs.declared.program.Program.{Program}
use Rattle.c_program.specs.Syntax.{act_at}
use Rattle.c_program.specs.Values.{Cell, Location, location_of}
use Rattle.c_program.specs.Control.{Control, Move, Spot, Point}
use Rattle.c_program.specs.Evaluation.{Here}
use Rattle.c_program.specs.State.{State, Stand, Running, Frame, Life, Unmade, Live, Dead, Mutex, depth_of, here}
use Rattle.c_program.specs.Requests.{Request, Locks, Tries_timed, Unlocks, Waits, Destroys, Retakes, mutex_type}
use Rattle.c_program.specs.Faults.{given_up, locked, is_recursive, is_broken, if_any, A_mutex}
use Rattle.c_program.specs.Step.{Choice}
use Rattle.c_program.specs.Runs.{IsGoodRun, IsRun, state_after}
use Rattle.c_program.specs.Breaks.{Breaks, request_by}
use Rattle.c_program.specs.WellFormed.{IsWellFormed}
use Rattle.c_program.specs.Paths.{Offers, stands_at}
use Rattle.c_program.specs.Laws.{Names as RequestNames, IsRequestBy, NamesAt}
use Rattle.c_program.proofs.Asking.{by_a_move}
use Rattle.c_program.proofs.Cells.{and_true}
use Rattle.pointer_targets.specs.Names.{Names}
use Rattle.pointer_targets.proofs.Told.{Told, ObjectsAreStatic}
use Rattle.pointer_targets.specs.LibraryObjects.{LeadsToObject, is_of_sort}
use Rattle.static_facts.specs.Depths.{MayHold}
use Rattle.guideline_findings.specs.Ownership.{MayOwn, gives_up, locks, destroys, IsUnlockedUnowned, IsLockedAgain, MayBePlain, IsDestroyedOwned, IsKeptAtEnd}
use Rattle.static_facts.specs.OwnerLaws.{EachDepthIsPossible}
use Rattle.static_facts.proofs.MutexAsks.{Leads, place_mutex}
use Rattle.static_facts.proofs.Possible.{possible}
use Rattle.static_facts.specs.Candidates.{IsCandidate}

-- no point and no location has the finding
abbrev pub Nowhere : (List Spot → Point → Location → Type 0) → Type 0
Nowhere Finding = (thread : List Spot) (point : Point) (location : Location) → Finding thread point location → ⊥

-- ---- which request gives up or takes a mutex

module _ (here : Here) where
  unlock_leads : (action : Act) (m : Cell) → RequestNames here action (Unlocks m) → (gives_up action ≡ Some 0) × Leads here action 0 m
  unlock_leads (act.Library (lib.MutexUnlock e) into) m n = (refl, record { call = lib.MutexUnlock e; into = into; expression = e; is_call = refl; has = refl; leads = n })
  unlock_leads _ m n = absurd n

  wait_leads : (action : Act) (c m : Cell) → RequestNames here action (Waits c m) → (gives_up action ≡ Some 1) × Leads here action 1 m
  wait_leads (act.Library (lib.ConditionWait e d) into) c m n = (refl, record { call = lib.ConditionWait e d; into = into; expression = d; is_call = refl; has = refl; leads = n.1 })
  wait_leads (act.Library (lib.ConditionTimedWait e d t) into) c m n = (refl, record { call = lib.ConditionTimedWait e d t; into = into; expression = d; is_call = refl; has = refl; leads = n.1 })
  wait_leads _ c m n = absurd n

  pub lock_leads : (action : Act) (m : Cell) → RequestNames here action (Locks m) → (locks action ≡ Some 0) × Leads here action 0 m
  lock_leads (act.Library (lib.MutexLock e) into) m n = (refl, record { call = lib.MutexLock e; into = into; expression = e; is_call = refl; has = refl; leads = n })
  lock_leads _ m n = absurd n

  pub timed_leads : (action : Act) (m : Cell) (z : ℤ) → RequestNames here action (Tries_timed m z) → (locks action ≡ Some 0) × Leads here action 0 m
  timed_leads (act.Library (lib.MutexTimedLock e t) into) m z n = (refl, record { call = lib.MutexTimedLock e t; into = into; expression = e; is_call = refl; has = refl; leads = n })
  timed_leads _ m z n = absurd n

  pub destroy_leads : (action : Act) (m : Cell) → RequestNames here action (Destroys m) → (destroys action ≡ Some 0) × Leads here action 0 m
  destroy_leads (act.Library (lib.MutexDestroy e) into) m n = (refl, record { call = lib.MutexDestroy e; into = into; expression = e; is_call = refl; has = refl; leads = n })
  destroy_leads _ m n = absurd n

-- ---- a thread stands before a call whose argument leads to a mutex

module _ (program : Program) (well : IsWellFormed program) (names : Names) (premises : Told program names) (static : ObjectsAreStatic program) where
  pub record Stands_before (run : List Choice) (choice : Choice) (argument : ℕ) (m : Cell) (point : Point) : Type 0 where
    pub leads : LeadsToObject program mutex_type run choice.thread point argument m
    pub location : Location
    pub candidate : IsCandidate program names point argument A_mutex location
    pub depth : MayHold program names location ((state_after program run).thread choice.thread).origin point (min (depth_of choice.thread ((state_after program run).mutex m)) 8)
    pub here_is : location_of program m ≡ Some location

  pub stands_before : (run : List Choice) → IsGoodRun program run → (choice : Choice) (argument : ℕ) (m : Cell) (control : Control) (frames : List Frame) (move : Move)
      → ((state_after program run).thread choice.thread).stand ≡ Running control frames None → Offers control move
      → Leads (here program (state_after program run) choice.thread) (act_at program move.action) argument m
      → Stands_before run choice argument m (stands_at ((state_after program run).thread choice.thread).origin control move)
  stands_before run good choice argument m control frames move s o l = record {
    leads = leads;
    location = found.0;
    candidate = record { named = premises.may_name run choice.thread point A_mutex argument m found.0 good leads found.1; cell = m; here = found.1; of_sort = of_sort };
    depth = possible program well names premises m found.0 (record { here = found.1; of_sort = of_sort }) run good choice.thread control frames None move s o tt;
    here_is = found.1;
  }
    where
      point : Point
      point = stands_at ((state_after program run).thread choice.thread).origin control move

      leads : LeadsToObject program mutex_type run choice.thread point argument m
      leads = record { control = control; frames = frames; move = move; call = l.call; into = l.into; expression = l.expression; stands = s; offers = o; here_is = refl; is_call = l.is_call; has = l.has; leads = l.leads }

      found : (location : Location) × (location_of program m ≡ Some location)
      found = static run choice.thread point A_mutex argument m good leads

      of_sort : is_of_sort program A_mutex m ≡ true
      of_sort = place_mutex (here program (state_after program run) choice.thread) l.expression m l.leads

  -- ---- Rule 22.17

  module _ (run : List Choice) (good : IsGoodRun program run) (choice : Choice) where
    abbrev state : State
    state = state_after program run

    abbrev thread : List Spot
    thread = ((state_after program run).thread choice.thread).origin

    zero_depth : (d : ℕ) → (d == 0) ≡ true → min d 8 ≡ 0
    zero_depth d e = ap (λ n. min n 8) (eqb-true d 0 e)

    some_depth : (d : ℕ) → (d == 0) ≡ false → 0 < min d 8
    some_depth d e = grind (arith, common_steps)

    given : Nowhere (IsUnlockedUnowned program names) → (argument : ℕ) (m : Cell) (control : Control) (frames : List Frame) (move : Move)
        → (state.thread choice.thread).stand ≡ Running control frames None → Offers control move
        → (gives_up (act_at program move.action) ≡ Some argument) × Leads (here program state choice.thread) (act_at program move.action) argument m
        → (depth_of choice.thread (state.mutex m) == 0) ≡ true → ⊥
    given none argument m control frames move s o l z = let b = stands_before run good choice argument m control frames move s o l.1 in
        none thread (stands_at thread control move) b.location (record {
          argument = argument;
          gives = l.0;
          candidate = b.candidate;
          may_be_free = subst (λ d. MayHold program names b.location thread (stands_at thread control move) d) (zero_depth (depth_of choice.thread (state.mutex m)) z) b.depth;
        })

    unowned : Nowhere (IsUnlockedUnowned program names) → (request : Request) → IsRequestBy program state choice request
        → if_any (λ m. depth_of choice.thread (state.mutex m) == 0) (given_up request) ≡ true → ⊥
    unowned none (Unlocks m) w z = go w.inside w.stands w.names
      where
        go : (inside : Option Cell) → (state.thread choice.thread).stand ≡ Running w.control w.frames inside → NamesAt (here program state choice.thread) (act_at program w.move.action) inside (Unlocks m) → ⊥
        go None s n = given none 0 m w.control w.frames w.move s (choice.pair, w.offers) (unlock_leads (here program state choice.thread) (act_at program w.move.action) m n) z
        go (Some x) s n = let e = n.1 in cc
    unowned none (Waits c m) w z = go w.inside w.stands w.names
      where
        go : (inside : Option Cell) → (state.thread choice.thread).stand ≡ Running w.control w.frames inside → NamesAt (here program state choice.thread) (act_at program w.move.action) inside (Waits c m) → ⊥
        go None s n = given none 1 m w.control w.frames w.move s (choice.pair, w.offers) (wait_leads (here program state choice.thread) (act_at program w.move.action) c m n) z
        go (Some x) s n = let e = n.1 in cc
    unowned none _ w z = cc

  pub silent_17 : Nowhere (IsUnlockedUnowned program names) → (run : List Choice) → IsRun program run → Breaks R22_17 program run → ⊥
  silent_17 none [] r b = b
  silent_17 none (choice ∷ run) r b = unowned run r.0 choice none b.0 (by_a_move program (state_after program run) choice b.0 b.1) b.2
