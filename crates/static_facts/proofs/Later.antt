-- How the thread of a step stands behind it.
use Rattle.std.proofs.Common.{◌≡◌, ◌⊎◌, inl, inr, refl, sym, subst, ap, ◌∙◌, Bool, true, false, cond, ◌==◌, ℕ, suc, ◌<◌, ◌≤◌, List, [], ◌∷◌, Option, Some, None, is_some, eq-eqb, arith}
use Rattle.std.proofs.lemmas.Grind.{common_steps}
use Rattle.c_program.specs.declared.program.Program.{Program}
use Rattle.c_program.specs.Control.{Control, Spot, entered}
use Rattle.c_program.specs.State.{State, Thread, Stand, Not_made, Running, Frame, control_of, frames_of, thread_before, spot_at, string_at}
use Rattle.c_program.specs.Effects.{own_stand, made_by, thread_after, moved_thread, after}
use Rattle.c_program.specs.Step.{Choice}
use Rattle.c_program.specs.Runs.{state_after}
use Rattle.c_program.specs.WellFormed.{IsWellFormed}
use Rattle.c_program.proofs.Counters.{sound_run}
use Rattle.c_program.proofs.Stays.{origins}
use Rattle.path_simulation.specs.Simulates.{LastStep}

pub lt_differs : (n m : ℕ) → n < m → (n == m) ≡ false
lt_differs n m l = grind (arith, common_steps)

split : (a b : ℕ) → (a < b) ⊎ (b ≤ a)
split a b = grind arith

module _ (program : Program) (well : IsWellFormed program) (choice : Choice) (run : List Choice) (step : LastStep program choice run) where
  abbrev t : ℕ
  t = choice.thread

  abbrev state : State
  state = state_after program run

  abbrev later : State
  later = after program state t step.move step.effect

  pub made_grows : state.made ≤ later.made
  unfolding after
  made_grows = go (is_some (made_by step.effect.sync))
    where
      go : (b : Bool) → state.made ≤ cond b (suc state.made) state.made
      go true = omega arith
      go false = omega arith

  running : Not_made ≡ Running step.by.control step.by.frames step.by.inside → ⊥
  running e = cc

  pub thread_made : t < state.made
  thread_made = elim (split t state.made) [
    | inl l ↦ l
    | inr l ↦ absurd (running (sym ((sound_run program well.counts run step.good).fresh t l) ∙ step.by.stands))
  ]

  moved_own : (moved_thread program state t step.move step.effect t).stand ≡ own_stand program step.move step.effect state.called step.by.control step.by.frames step.effect.sync
  moved_own = ap (λ b. cond b (own_stand program step.move step.effect state.called (control_of (state.thread t).stand) (frames_of (state.thread t).stand) step.effect.sync) (state.thread t).stand) (eq-eqb t t refl)
      ∙ ap (λ (s : Stand). own_stand program step.move step.effect state.called (control_of s) (frames_of s) step.effect.sync) step.by.stands

  not_new : (made : Option ℕ) → thread_after program state t step.move step.effect made t ≡ moved_thread program state t step.move step.effect t
  not_new None = refl
  not_new (Some function) = ap (λ b. cond b (thread_before program function state.called (spot_at (state.thread t) step.move ∷ string_at (state.thread t))) (moved_thread program state t step.move step.effect t)) (lt_differs t state.made thread_made)

  pub own_later : (later.thread t).stand ≡ own_stand program step.move step.effect state.called step.by.control step.by.frames step.effect.sync
  unfolding after
  own_later = ap (λ (x : Thread). x.stand) (not_new (made_by step.effect.sync)) ∙ moved_own

  pub own_origin : (later.thread t).origin ≡ (state.thread t).origin
  own_origin = origins program state t step.move step.effect t (lt_differs t state.made thread_made)

  pub new_stand : (function : ℕ) → made_by step.effect.sync ≡ Some function
      → (later.thread state.made).stand ≡ Running (entered program function) (record { number = state.called; result = None } ∷ []) None
  unfolding after
  new_stand function e = ap (λ (o : Option ℕ). (thread_after program state t step.move step.effect o state.made).stand) e
      ∙ ap (λ b. (cond b (thread_before program function state.called (spot_at (state.thread t) step.move ∷ string_at (state.thread t))) (moved_thread program state t step.move step.effect state.made)).stand)
      (eq-eqb state.made state.made refl)
