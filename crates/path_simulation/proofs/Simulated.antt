-- What is followed along paths, with a relation to the run, holds of each thread in each run.
use Rattle.std.proofs.Common.{◌≡◌, ◌⊎◌, inl, inr, refl, sym, subst, ap, ◌∙◌, Bool, true, false, cond, ℕ, ◌<◌, ◌≤◌, ◌==◌, List, [], ◌∷◌, ◌++◌, Option, Some, None, eqb-true, arith}
use Rattle.c_program.specs.declared.program.Program.{Program}
use Rattle.c_program.specs.Control.{Spot, Point, goes_on, string_of, spot_in}
use Rattle.c_program.specs.State.{State, Thread, Stand, Not_made, Running, Ended, opening, thread_before, no_thread, control_of, frames_of, string_at, spot_at}
use Rattle.c_program.specs.Effects.{Sync, Suspends, Finishes, Effect, made_by, own_stand, thread_after, moved_thread, after}
use Rattle.c_program.specs.Step.{Choice, Outcome, No_step, Undefined, Does, outcome, advanced}
use Rattle.c_program.specs.Runs.{IsGoodRun, HasMeaning, state_after, outcome_of}
use Rattle.c_program.specs.Paths.{LeadsTo, initial, by_creation, at_entry as text_entry, by_move as text_move, stands_at}
use Rattle.c_program.specs.WellFormed.{IsWellFormed}
use Rattle.c_program.proofs.Inversion.{by_an_ask}
use Rattle.c_program.proofs.Named.{named}
use Rattle.c_program.proofs.Standing.{is_point}
use Rattle.c_program.proofs.Counters.{sound_run}
use Rattle.c_program.proofs.Sound.{if_either}
use Rattle.path_simulation.specs.Tracks.{Track, at_entry, by_move}
use Rattle.path_simulation.specs.Simulates.{LastStep, GoesOn, origin_in, Follows, Simulates, EachIsFollowed}
use Rattle.path_simulation.proofs.Creations.{creation}

-- the last step of a good run
pub last_step : (program : Program) (choice : Choice) (run : List Choice) → IsGoodRun program (choice ∷ run) → LastStep program choice run
unfolding state_after outcome_of
last_step program choice run good = go (outcome program (state_after program run) choice) refl good.1
  where
    go : (found : Outcome) → outcome program (state_after program run) choice ≡ found → HasMeaning found → LastStep program choice run
    go No_step e m = absurd m
    go Undefined e m = absurd m
    go (Does move effect) e m = record {
      good = good.0;
      move = move;
      effect = effect;
      by = by_an_ask program (state_after program run) choice move effect e;
      leads = ap (advanced program (state_after program run) choice.thread) e;
    }

split : (a b : ℕ) → (a < b) ⊎ (b ≤ a)
split a b = grind arith

module _ {A : Type 0} (program : Program) (well : IsWellFormed program) (track : Track A) (Agrees : ℕ → List Choice → A → Type 0) (sim : Simulates program track Agrees) where
  Kept : ℕ → List Choice → Stand → List Spot → Type 0
  Kept thread run (Running control frames inside) origin = Follows program track origin control (Agrees thread run)
  Kept thread run _ origin = Unit {0}

  KeptIn : ℕ → List Choice → State → Type 0
  KeptIn thread run state = Kept thread run (state.thread thread).stand (state.thread thread).origin

  module _ (choice : Choice) (run : List Choice) (step : LastStep program choice run) (kept : (thread : ℕ) → KeptIn thread run (state_after program run)) where
    abbrev t : ℕ
    t = choice.thread

    abbrev state : State
    state = state_after program run

    abbrev effect : Effect
    effect = step.effect

    abbrev later : List Choice
    later = choice ∷ run

    abbrev origin : List Spot
    origin = (state.thread t).origin

    before : Follows program track origin step.by.control (Agrees t run)
    unfolding KeptIn Kept
    before = subst (λ (s : Stand). Kept t run s (state.thread t).origin) step.by.stands (kept t)

    own : Stand
    own = own_stand program step.move effect state.called step.by.control step.by.frames effect.sync

    stays : (sync : Sync) → effect.sync ≡ sync → Kept t later (own_stand program step.move effect state.called step.by.control step.by.frames sync) origin
    unfolding KeptIn Kept
    stays (Finishes result) e = tt
    stays (Suspends c m) e = record {
      function = before.function;
      leads = before.leads;
      stands = before.stands;
      state = before.state;
      comes = before.comes;
      fulfils = sim.waits choice run step c m e before.state before.fulfils;
    }
    stays sync e = goes (subst GoesOn (sym e) tt)
      where
        goes : GoesOn effect.sync → Follows program track origin (goes_on program step.move) (Agrees t later)
        goes g = let m = sim.moves choice run step g before.function before.stands before.state before.fulfils in record {
          function = before.function;
          leads = before.leads;
          stands = text_move step.by.control step.move before.stands (choice.pair, step.by.offers);
          state = m.0;
          comes = by_move step.by.control choice.pair step.move before.state m.0 before.comes step.by.offers m.1.0;
          fulfils = m.1.1;
        }

    -- the point of the step
    point : Point
    point = stands_at origin step.by.control step.move

    is_spot : spot_at (state.thread t) step.move ≡ point.spot
    unfolding point
    is_spot = ap (λ (s : Stand). spot_in (control_of s) step.move.action) step.by.stands

    is_string : string_at (state.thread t) ≡ point.string
    unfolding point
    is_string = ap (λ (s : Stand). string_of (control_of s) ++ (state.thread t).origin) step.by.stands

    leads_to : (function : ℕ) → made_by effect.sync ≡ Some function → LeadsTo program (point.spot ∷ point.string) (point.spot ∷ point.string) function
    unfolding point
    leads_to function e = let p = is_point program well origin before.function step.by.control step.move before.leads before.stands (choice.pair, step.by.offers) in
        let c = creation named program state choice step.move effect step.by function e in
        by_creation point.string origin p.function point.spot function c.object c.argument c.into p.leads p.has c.is

    -- a thread that is made stands at its entry
    made : (function : ℕ) → made_by effect.sync ≡ Some function → (new : ℕ) → new ≡ state.made
        → (after program state t step.move effect).thread new ≡ thread_before program function state.called (spot_at (state.thread t) step.move ∷ string_at (state.thread t))
        → KeptIn new later (after program state t step.move effect)
    unfolding KeptIn Kept
    made function e new n is = subst (λ (x : Thread). Kept new later x.stand x.origin) (sym is) (record {
      function = function;
      leads = subst (λ (l : List Spot). LeadsTo program l l function) (sym origin_is) (leads_to function e);
      stands = text_entry;
      state = f.0;
      comes = at_entry f.0 (subst (λ (l : List Spot). track.start l f.0) same f.1.0);
      fulfils = subst (λ (k : ℕ). Agrees k later f.0) (sym n) f.1.1;
    })
      where
        new_origin : List Spot
        new_origin = spot_at (state.thread t) step.move ∷ string_at (state.thread t)

        f : (s : A) × (track.start (origin_in program later state.made) s × Agrees state.made later s)
        f = sim.fresh choice run step function e

        same : origin_in program later state.made ≡ spot_at (state.thread t) step.move ∷ string_at (state.thread t)
        same = subst (λ (k : ℕ). origin_in program later k ≡ spot_at (state.thread t) step.move ∷ string_at (state.thread t)) n
            (ap (λ (s : State). (s.thread new).origin) step.leads ∙ ap (λ (x : Thread). x.origin) is)

        origin_is : spot_at (state.thread t) step.move ∷ string_at (state.thread t) ≡ point.spot ∷ point.string
        origin_is = ap (λ (s : Spot). s ∷ string_at (state.thread t)) is_spot ∙ ap (λ (l : List Spot). point.spot ∷ l) is_string

    -- another thread
    older : (other : ℕ) → (other == t) ≡ false → Kept other later (state.thread other).stand (state.thread other).origin
    unfolding KeptIn Kept
    older other o = go (state.thread other).stand refl (kept other)
      where
        go : (s : Stand) → (state.thread other).stand ≡ s → Kept other run s (state.thread other).origin → Kept other later s (state.thread other).origin
        go Not_made e k = tt
        go (Ended result) e k = tt
        go (Running control frames inside) e k = record {
          function = k.function;
          leads = k.leads;
          stands = k.stands;
          state = k.state;
          comes = k.comes;
          fulfils = sim.others choice run step other o there k.state k.fulfils;
        }
          where
            there : other < state.made
            there = elim (split other state.made) [
              | inl l ↦ l
              | inr l ↦ absurd (let f : Not_made ≡ Running control frames inside = sym ((sound_run program well.counts run step.good).fresh other l) ∙ e in cc)
            ]

    moved : (other : ℕ) → Kept other later (moved_thread program state t step.move effect other).stand (state.thread other).origin
    unfolding KeptIn Kept
    moved other = if_either (λ (s : Stand). Kept other later s (state.thread other).origin) (other == t) _ _
        (λ e. let s : other ≡ t = eqb-true other t e in
        subst (λ (k : ℕ). Kept k later (own_stand program step.move effect state.called (control_of (state.thread t).stand) (frames_of (state.thread t).stand) effect.sync) (state.thread k).origin) (sym s)
        (subst (λ (x : Stand). Kept t later (own_stand program step.move effect state.called (control_of x) (frames_of x) effect.sync) (state.thread t).origin) (sym step.by.stands) (stays effect.sync refl)))
        (λ e. older other e)

    abbrev Fine : ℕ → Thread → Type 0
    Fine other x = Kept other later x.stand x.origin

    is_after : (other : ℕ) (m : Option ℕ) → made_by effect.sync ≡ m → (after program state t step.move effect).thread other ≡ thread_after program state t step.move effect m other
    unfolding after
    is_after other m e = ap (λ (o : Option ℕ). thread_after program state t step.move effect o other) e

    abbrev newcomer : ℕ → Thread
    newcomer function = thread_before program function state.called (spot_at (state.thread t) step.move ∷ string_at (state.thread t))

    which : (other function : ℕ) (b : Bool) → (other == state.made) ≡ b
        → thread_after program state t step.move effect (Some function) other ≡ cond b (newcomer function) (moved_thread program state t step.move effect other)
    which other function b e = ap (λ c. cond c (newcomer function) (moved_thread program state t step.move effect other)) e

    one_step : (other : ℕ) → KeptIn other later (after program state t step.move effect)
    unfolding KeptIn
    one_step other = go (made_by effect.sync) refl
      where
        new : (function : ℕ) → made_by effect.sync ≡ Some function → (b : Bool) → (other == state.made) ≡ b → Fine other ((after program state t step.move effect).thread other)
        new function e true b = made function e other (eqb-true other state.made b) (is_after other (Some function) e ∙ which other function true b)
        new function e false b = subst (Fine other) (sym (is_after other (Some function) e ∙ which other function false b)) (moved other)

        go : (m : Option ℕ) → made_by effect.sync ≡ m → Fine other ((after program state t step.move effect).thread other)
        go None e = subst (Fine other) (sym (is_after other None e)) (moved other)
        go (Some function) e = new function e (other == state.made) refl

  opened : (thread : ℕ) → KeptIn thread [] (opening program)
  unfolding opening KeptIn Kept
  opened thread = if_either (λ (x : Thread). Kept thread [] x.stand x.origin) (thread == 0) (thread_before program program.main 0 []) no_thread
      (λ e. record {
        function = program.main;
        leads = initial;
        stands = text_entry;
        state = sim.opens.0;
        comes = at_entry sim.opens.0 sim.opens.1.0;
        fulfils = subst (λ (k : ℕ). Agrees k [] sim.opens.0) (sym (eqb-true thread 0 e)) sim.opens.1.1;
      })
      (λ e. tt)

  first : (thread : ℕ) → KeptIn thread [] (state_after program [])
  unfolding state_after
  first thread = opened thread

  in_runs : (run : List Choice) → IsGoodRun program run → (thread : ℕ) → KeptIn thread run (state_after program run)
  in_runs [] good thread = first thread
  in_runs (choice ∷ run) good thread = let step = last_step program choice run good in
      subst (λ (s : State). KeptIn thread (choice ∷ run) s) (sym step.leads) (one_step choice run step (in_runs run good.0) thread)

  pub simulated : EachIsFollowed program track Agrees
  unfolding KeptIn Kept
  simulated run good thread control frames inside stands = subst (λ (s : Stand). Kept thread run s ((state_after program run).thread thread).origin) stands (in_runs run good thread)
