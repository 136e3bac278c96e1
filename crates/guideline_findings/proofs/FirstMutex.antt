-- The first mutex of a condition variable is one of a wait whose arguments may name both.
use Rattle.std.proofs.Common.{◌≡◌, refl, sym, subst, ap, ◌∙◌, true, ℕ, List, [], ◌∷◌, Option, Some, None}
use Rattle.c_program.specs.declared.program.Program.{Program}
use Rattle.c_program.specs.Syntax.{act_at}
use Rattle.c_program.specs.Values.{Cell, same_cell}
use Rattle.c_program.specs.Control.{Spot, Point}
use Rattle.c_program.specs.State.{State, Life, Unmade, Live, Dead, opening, here}
use Rattle.c_program.specs.Requests.{Waits}
use Rattle.c_program.specs.Faults.{A_mutex, A_condition}
use Rattle.c_program.specs.Effects.{Sync, Suspends, Starts_condition, Kills_condition, condition_after, first_kept, after}
use Rattle.c_program.specs.Step.{Choice}
use Rattle.c_program.specs.Runs.{IsGoodRun, state_after}
use Rattle.c_program.specs.WellFormed.{IsWellFormed}
use Rattle.c_program.specs.Paths.{stands_at}
use Rattle.c_program.proofs.Cells.{cell_same}
use Rattle.c_program.proofs.Logic.{if_cases}
use Rattle.path_simulation.specs.Simulates.{LastStep}
use Rattle.path_simulation.proofs.Simulated.{last_step}
use Rattle.static_facts.proofs.Remembering.{sync_is}
use Rattle.static_facts.specs.Facts.{Facts}
use Rattle.guideline_findings.specs.Mutexes.{is_wait}
use Rattle.guideline_findings.proofs.Given.{Premises}
use Rattle.static_facts.proofs.Reaching.{reachable}
use Rattle.guideline_findings.proofs.Candidate.{Located, located_at}
use Rattle.guideline_findings.proofs.Asked.{wait_leads, suspends_by}
use Rattle.guideline_findings.proofs.Suspended.{outside}
use Rattle.static_facts.specs.Points.{IsReachable}

pub record FirstWait (program : Program) (facts : Facts) (c m : Cell) : Type 0 where
  pub thread : List Spot
  pub point : Point
  pub reachable : IsReachable program thread point
  pub waits : is_wait (act_at program point.spot.action) ≡ true
  pub condition : Located program facts point 0 A_condition c
  pub mutex : Located program facts point 1 A_mutex m

module _ (program : Program) (well : IsWellFormed program) (facts : Facts) (premises : Premises program facts) where
  module _ (choice : Choice) (run : List Choice) (step : LastStep program choice run) where
    abbrev t : ℕ
    t = choice.thread

    abbrev state : State
    state = state_after program run

    now : (c m : Cell) → step.effect.sync ≡ Suspends c m → FirstWait program facts c m
    now c m e =
        let q = suspends_by state step.by.frames step.by.ask.turn step.by.ask.request c m (sym (sync_is program well choice run step) ∙ e) in
        let o = outside program choice run step (Waits c m) q (λ x z f. cc) in
        let w = wait_leads (here program state t) (act_at program step.move.action) c m o.1 in record {
          thread = (state.thread t).origin;
          point = stands_at (state.thread t).origin step.by.control step.move;
          reachable = reachable program well run step.good t step.by.control step.by.frames None step.move o.0 (choice.pair, step.by.offers);
          waits = w.is;
          condition = located_at program facts premises run step.good t step.by.control step.by.frames step.move 0 A_condition c o.0 (choice.pair, step.by.offers) w.condition;
          mutex = located_at program facts premises run step.good t step.by.control step.by.frames step.move 1 A_mutex m o.0 (choice.pair, step.by.offers) w.mutex;
        }

    abbrev Before : Cell → Cell → Type 0
    Before c m = state.condition c ≡ Live (Some m) → FirstWait program facts c m

    kept : (c d k m : Cell) → Before c m → step.effect.sync ≡ Suspends d k → same_cell d c ≡ true → (life : Life (Option Cell)) → state.condition c ≡ life → first_kept k life ≡ Live (Some m) → FirstWait program facts c m
    kept c d k m before e s (Live None) l h = subst (λ (x : Cell). FirstWait program facts x m) (cell_same d c s) (now d m (e ∙ ap (Suspends d) (same h)))
      where
        same : Live (Some k) ≡ Live (Some m) → k ≡ m
        same q = cc
    kept c d k m before e s (Live (Some x)) l h = before (l ∙ h)
    kept c d k m before e s Unmade l h = absurd (cc)
    kept c d k m before e s Dead l h = absurd (cc)

    by_sync : (c m : Cell) → Before c m → (sync : Sync) → step.effect.sync ≡ sync → condition_after sync c (state.condition c) ≡ Live (Some m) → FirstWait program facts c m
    by_sync c m before (Suspends d k) e h = if_cases (same_cell d c) _ _ _ h (λ s q. kept c d k m before e s (state.condition c) refl q) (λ _ q. before q)
    by_sync c m before (Starts_condition d) e h = if_cases (same_cell d c) _ _ _ h (λ s q. absurd (none q)) (λ _ q. before q)
      where
        none : Live None ≡ Live (Some m) → ⊥
        none q = cc
    by_sync c m before (Kills_condition d) e h = if_cases (same_cell d c) _ _ _ h (λ s q. absurd (none q)) (λ _ q. before q)
      where
        none : Dead ≡ Live (Some m) → ⊥
        none q = cc
    by_sync c m before sync e h = before h

    first_step : (c m : Cell) → Before c m → (after program state t step.move step.effect).condition c ≡ Live (Some m) → FirstWait program facts c m
    unfolding after
    first_step c m before h = by_sync c m before step.effect.sync refl h

  pub first_wait : (run : List Choice) → IsGoodRun program run → (c m : Cell) → (state_after program run).condition c ≡ Live (Some m) → FirstWait program facts c m
  unfolding state_after opening
  first_wait [] good c m h = absurd (cc)
  first_wait (choice ∷ run) good c m h = let step = last_step program choice run good in
      first_step choice run step c m (λ k. first_wait run good.0 c m k) (ap (λ (s : State). s.condition c) (sym step.leads) ∙ h)
