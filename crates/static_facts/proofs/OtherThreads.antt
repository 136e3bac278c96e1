-- A step leaves the remembered outcomes of other threads.
use Rattle.std.proofs.Common.{◌≡◌, refl, sym, subst, ap, ◌∙◌, Bool, true, false, cond, ◌&&◌, ◌==◌, ℕ, suc, ◌+◌, ◌-◌, ◌<◌, min, List, [], ◌∷◌, ◌++◌, Option, Some, None, eqb-true, eq-eqb, arith}
use Rattle.std.proofs.lemmas.Grind.{common_steps}
use Rattle.c_program.specs.declared.action.Act.{Act}
use Rattle.c_program.specs.declared.program.Program.{Program}
use Rattle.c_program.specs.Syntax.{act_at}
use Rattle.c_program.specs.Values.{Cell, Value, Location, location_of, same_cell}
use Rattle.c_program.specs.Control.{Control, Spot, string_of}
use Rattle.c_program.specs.State.{State, Stand, Not_made, Running, Ended, Frame, opening, depth_of, inside_of, frames_of, top, here}
use Rattle.c_program.specs.Requests.{Request, Retakes, Waits, Turn, Goes, Ask, Asks, Store, asked}
use Rattle.c_program.specs.Effects.{Sync, Suspends, Resumes, Finishes, Takes, Effect, Use, Gives_it, use_if, use_of, made_by, is_among, effect_of, stores_of, put_result, memory_after, sync_of, sync_after, own_stand, after}
use Rattle.c_program.specs.Step.{Choice, asked_by}
use Rattle.c_program.specs.Runs.{state_after}
use Rattle.c_program.specs.Breaks.{request_in}
use Rattle.c_program.specs.Counters.{IsUnaddressed, writes_local}
use Rattle.c_program.specs.WellFormed.{IsWellFormed}
use Rattle.c_program.specs.Paths.{Stands}
use Rattle.c_program.specs.Laws.{Finds, depth_after, Names as RequestNames}
use Rattle.c_program.proofs.Asks.{EachAsk, from_each}
use Rattle.c_program.proofs.Cells.{cell_same}
use Rattle.c_program.proofs.Far.{local_cell_of, and_off}
use Rattle.c_program.proofs.Finds.{finds}
use Rattle.c_program.proofs.Held.{BackMissed}
use Rattle.c_program.proofs.Named.{named}
use Rattle.c_program.proofs.Stays.{others, origins}
use Rattle.path_simulation.specs.Simulates.{LastStep, GoesOn, Simulates, EachIsFollowed, origin_in}
use Rattle.path_simulation.proofs.Simulated.{simulated}
use Rattle.static_facts.specs.Outcomes.{Remembered}
use Rattle.static_facts.specs.Depths.{Mark, marked, DepthStep, depths}
use Rattle.static_facts.specs.Owning.{level_of, depth_with_wait, HasFrame, HasOutcome, OutcomeAt, OutcomeIn, AgreesIn, Agrees}
use Rattle.static_facts.proofs.Later.{own_later, own_origin, lt_differs, thread_made, new_stand}
use Rattle.static_facts.proofs.Owner.{Owns, Owner, owner_in, depth_stays, depth_own, or_left, or_right}
use Rattle.static_facts.proofs.MutexAsks.{WaitsBy, wait_asks, wait_named, RetakesBy, retakes_by}
use Rattle.static_facts.proofs.Remembering.{unwritten, top_is_among, sound, frames_own, sync_is, frame_among}

-- ---- a step leaves the outcomes of other threads

module _ (program : Program) (well : IsWellFormed program) (choice : Choice) (run : List Choice) (step : LastStep program choice run) (thread : ℕ) (other : (thread == choice.thread) ≡ false) where
  abbrev t : ℕ
  t = choice.thread

  abbrev state : State
  state = state_after program run

  abbrev later : State
  later = after program state t step.move step.effect

  abbrev action : Act
  action = act_at program step.move.action

  abbrev frames : List Frame
  frames = step.by.frames

  module _ (f : ℕ) (theirs : is_among f (frames_of (state.thread thread).stand) ≡ true) where
    elsewhere : (n : ℕ) → is_among n frames ≡ true → (n == f) ≡ false
    elsewhere n e = go (n == f) refl
      where
        go : (b : Bool) → (n == f) ≡ b → b ≡ false
        go false q = refl
        go true q = absurd (let s : thread ≡ t = (sound program well choice run step).apart thread t f theirs
            (subst (λ (fs : List Frame). is_among f fs ≡ true) (sym (frames_own program well choice run step)) (subst (λ m. is_among m frames ≡ true) (eqb-true n f q) e)) in
            let r : true ≡ false = sym (eq-eqb thread t s) ∙ other in cc)

    back_other : (i : ℕ) (fs : List Frame) → ((n : ℕ) → is_among n fs ≡ true → (n == f) ≡ false) → BackMissed f i fs
    back_other i [] h = tt
    back_other i (frame ∷ []) h = tt
    back_other i (frame ∷ caller ∷ fs) h = and_off _ (caller.number == f) (h caller.number (or_right _ _ (or_left _ _ (eq-eqb caller.number caller.number refl))))

    kept_memory : (i : ℕ) → IsUnaddressed program i → later.memory (local_cell_of f i) ≡ state.memory (local_cell_of f i)
    kept_memory i u = unwritten program well choice run step f i u (and_off (writes_local i action) (top frames == f) (elsewhere (top frames) (top_is_among program well choice run step)))
        ((sound program well choice run step).below thread f theirs) (back_other i frames elsewhere)

  pub kept_outcome : (origin : List Spot) (stand : Stand) → (state.thread thread).stand ≡ stand → (o : Option Remembered) → OutcomeIn program state.memory origin stand o → OutcomeIn program later.memory origin stand o
  kept_outcome origin Not_made e o k = tt
  kept_outcome origin (Ended result) e o k = tt
  kept_outcome origin (Running control fs inside) e None k = tt
  kept_outcome origin (Running control fs inside) e (Some r) k = record {
    call = k.call;
    number = k.number;
    frame = k.frame;
    holds = kept_memory k.call (subst (λ (s : Stand). is_among k.call (frames_of s) ≡ true) (sym e) (frame_among r.height r.local (string_of control ++ origin) fs k.call k.frame)) r.local k.unaddressed ∙ k.holds;
    is_answer = k.is_answer;
    is_so = k.is_so;
    automatic = k.automatic;
    unaddressed = k.unaddressed;
  }
