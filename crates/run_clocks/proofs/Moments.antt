-- Happens before and races over the moments of a program are those over its steps.
use Rattle.std.proofs.Common.{◌≡◌, refl, sym, ap, ◌∙◌, false, not, ◌||◌, ℕ, ◌<◌, ◌↔◌, List, Option, Some, None, arith}
use Rattle.c_program.specs.declared.program.Program.{Program}
use Rattle.c_program.specs.Values.{Cell}
use Rattle.c_program.specs.Step.{Choice}
use Rattle.c_program.specs.Runs.{Moment, moment_at, Pair}
use Rattle.c_program.specs.Happens.{reads, writes, reads_atomically, writes_atomically, accesses, is_atomic_at, StaysBetween}
use Rattle.c_program.specs.Happens as meaning
use Rattle.c_program.specs.Breaks as broken
use Rattle.vector_clocks.specs.Steps as steps
use Rattle.vector_clocks.specs.Steps.{Step, Run}
use Rattle.vector_clocks.specs.Happens.{Leads, in_thread, by_creation, by_join, by_mutex, by_atomic, Before, directly, through, Conflict}
use Rattle.vector_clocks.proofs.Order.{forward}
use Rattle.run_clocks.specs.Moments.{step_of, step_at, run_of, HasMoments}
use Rattle.run_clocks.proofs.Accessing.{reads_if, writes_if, write_is, access_is, plain_is, not_both}

module _ (program : Program) (choices : List Choice) where
  abbrev run : Run Cell
  run = run_of program choices

  -- the step at a moment
  pub is_step : (i : ℕ) (moment : Moment) → moment_at program choices i ≡ Some moment → run i ≡ step_of program moment
  is_step i moment e = ap (λ m. step_at program m) e

  writes_step : (moment : Moment) (cell : Cell) → steps.writes (step_of program moment) cell ≡ writes moment.effect cell
  writes_step moment cell = write_is (writes moment.effect cell) (writes_atomically moment.effect cell) (writes_if moment.effect cell)

  stays : (i j : ℕ) (cell : Cell) → StaysBetween program choices i j cell → (k : ℕ) → i < k → k < j → steps.writes (run k) cell ≡ false
  stays i j cell s k a b = by_moment (moment_at program choices k) refl
    where
      by_moment : (m : Option Moment) → moment_at program choices k ≡ m → steps.writes (step_at program m) cell ≡ false
      by_moment None e = refl
      by_moment (Some moment) e = writes_step moment cell ∙ s k moment a b e

  stayed : (i j : ℕ) (cell : Cell) → ((k : ℕ) → i < k → k < j → steps.writes (run k) cell ≡ false) → StaysBetween program choices i j cell
  stayed i j cell s k moment a b e = sym (writes_step moment cell) ∙ ap (λ (step : Step Cell). steps.writes step cell) (sym (is_step k moment e)) ∙ s k a b

  pub before_steps : {i j : ℕ} → meaning.Before program choices i j → Before (run_of program choices) i j
  before_steps (meaning.in_thread i j p h) = directly i j p.earlier (in_thread i j
      (ap (λ (s : Step Cell). s.thread) (is_step i p.first p.at_first) ∙ h ∙ sym (ap (λ (s : Step Cell). s.thread) (is_step j p.second p.at_second))))
  before_steps (meaning.by_creation i j p h) = directly i j p.earlier (by_creation i j
      (ap (λ (s : Step Cell). s.makes) (is_step i p.first p.at_first) ∙ h ∙ sym (ap (λ (s : Step Cell). Some s.thread) (is_step j p.second p.at_second))))
  before_steps (meaning.by_join i j p h) = directly i j p.earlier (by_join i j
      (ap (λ (s : Step Cell). s.joins) (is_step j p.second p.at_second) ∙ h ∙ sym (ap (λ (s : Step Cell). Some s.thread) (is_step i p.first p.at_first))))
  before_steps (meaning.by_mutex i j p m g t) = directly i j p.earlier (by_mutex i j m
      (ap (λ (s : Step Cell). s.releases m) (is_step i p.first p.at_first) ∙ g)
      (ap (λ (s : Step Cell). s.takes m) (is_step j p.second p.at_second) ∙ t))
  before_steps (meaning.by_atomic i j p cell w r s) = directly i j p.earlier (by_atomic i j cell
      (ap (λ (s : Step Cell). s.writes_atomically cell) (is_step i p.first p.at_first) ∙ w)
      (ap (λ (s : Step Cell). s.reads_atomically cell) (is_step j p.second p.at_second) ∙ r) (stays i j cell s))
  before_steps (meaning.through i j k a b) = through i j k (before_steps a) (before_steps b)

  module _ (n : ℕ) (whole : HasMoments program choices n) where
    pair : (i j : ℕ) → i < j → j < n → Pair program choices i j
    pair i j l m = let first = whole i (omega arith) in let second = whole j m in
        record { first = first.0; second = second.0; earlier = l; at_first = first.1; at_second = second.1 }

    lead : {i j : ℕ} → i < j → j < n → Leads (run_of program choices) i j → meaning.Before program choices i j
    unfolding pair
    lead l m (in_thread i j e) = let p = pair i j l m in meaning.in_thread i j p
        (sym (ap (λ (s : Step Cell). s.thread) (is_step i p.first p.at_first)) ∙ e ∙ ap (λ (s : Step Cell). s.thread) (is_step j p.second p.at_second))
    lead l m (by_creation i j e) = let p = pair i j l m in meaning.by_creation i j p
        (sym (ap (λ (s : Step Cell). s.makes) (is_step i p.first p.at_first)) ∙ e ∙ ap (λ (s : Step Cell). Some s.thread) (is_step j p.second p.at_second))
    lead l m (by_join i j e) = let p = pair i j l m in meaning.by_join i j p
        (sym (ap (λ (s : Step Cell). s.joins) (is_step j p.second p.at_second)) ∙ e ∙ ap (λ (s : Step Cell). Some s.thread) (is_step i p.first p.at_first))
    lead l m (by_mutex i j mutex g t) = let p = pair i j l m in meaning.by_mutex i j p mutex
        (sym (ap (λ (s : Step Cell). s.releases mutex) (is_step i p.first p.at_first)) ∙ g)
        (sym (ap (λ (s : Step Cell). s.takes mutex) (is_step j p.second p.at_second)) ∙ t)
    lead l m (by_atomic i j cell w r s) = let p = pair i j l m in meaning.by_atomic i j p cell
        (sym (ap (λ (s : Step Cell). s.writes_atomically cell) (is_step i p.first p.at_first)) ∙ w)
        (sym (ap (λ (s : Step Cell). s.reads_atomically cell) (is_step j p.second p.at_second)) ∙ r) (stayed i j cell s)

    pub before_moments : {i j : ℕ} → j < n → Before (run_of program choices) i j → meaning.Before program choices i j
    before_moments m (directly i j l e) = lead l m e
    before_moments m (through i j k a b) = let l : j < k = forward run b in meaning.through i j k (before_moments (omega arith) a) (before_moments m b)

  pub conflicts : (first second : Moment) (cell : Cell) → Conflict (step_of program first) (step_of program second) cell ↔ broken.Conflict first.effect second.effect cell
  conflicts first second cell = (
    λ c. (sym (accessed first) ∙ c.0, sym (accessed second) ∙ c.1, sym (written first second) ∙ c.2, (not_both _ _).0 (sym (plain first second) ∙ c.3)),
    λ c. (accessed first ∙ c.0, accessed second ∙ c.1, written first second ∙ c.2, plain first second ∙ (not_both _ _).1 c.3),
  )
    where
      accessed : (m : Moment) → steps.accesses (step_of program m) cell ≡ accesses m.effect cell
      accessed m = access_is (reads m.effect cell) (reads_atomically m.effect cell) (writes m.effect cell) (writes_atomically m.effect cell) (reads_if m.effect cell) (writes_if m.effect cell)

      written : (a b : Moment) → (steps.writes (step_of program a) cell || steps.writes (step_of program b) cell) ≡ (writes a.effect cell || writes b.effect cell)
      written a b = ap (λ t. t || steps.writes (step_of program b) cell) (writes_step a cell) ∙ ap (λ t. writes a.effect cell || t) (writes_step b cell)

      plain_at : (m : Moment) → steps.accesses_plainly (step_of program m) cell ≡ not (is_atomic_at m.effect cell)
      plain_at m = plain_is (reads m.effect cell) (reads_atomically m.effect cell) (writes m.effect cell) (writes_atomically m.effect cell)

      plain : (a b : Moment) → (steps.accesses_plainly (step_of program a) cell || steps.accesses_plainly (step_of program b) cell) ≡ (not (is_atomic_at a.effect cell) || not (is_atomic_at b.effect cell))
      plain a b = ap (λ t. t || steps.accesses_plainly (step_of program b) cell) (plain_at a) ∙ ap (λ t. not (is_atomic_at a.effect cell) || t) (plain_at b)
