-- The steps of a run by their positions.
use Rattle.std.proofs.Common.{◌≡◌, refl, sym, subst, ap, ◌∙◌, Bool, true, false, cond, ℕ, ◌<◌, ◌==◌, List, [], ◌∷◌, length, arith, eqb-true, eq-eqb, Option, Some, None}
use Rattle.std.proofs.lemmas.Grind.{common_steps}
use Rattle.c_program.specs.declared.program.Program.{Program}
use Rattle.c_program.specs.Control.{Move}
use Rattle.c_program.specs.Effects.{Effect, after}
use Rattle.c_program.specs.Step.{Choice, Outcome, No_step, Undefined, Does, outcome, advanced}
use Rattle.c_program.specs.Runs.{IsGoodRun, HasMeaning, state_after, outcome_of, Moment, moment_of, moment_at, Pair}
use Rattle.c_program.specs.Happens.{Before, in_thread, by_creation, by_join, by_mutex, by_atomic, through}
use Rattle.c_program.specs.Laws.{IsStepBy}
use Rattle.c_program.proofs.Inversion.{by_an_ask}
use Rattle.c_program.proofs.Logic.{if_cases}
use Rattle.path_simulation.specs.Simulates.{LastStep}

-- a moment is a step
pub record IsMoment (program : Program) (m : Moment) : Type 0 where
  pub good : IsGoodRun program m.earlier
  pub by : IsStepBy program (state_after program m.earlier) m.choice m.move m.effect
  pub leads : state_after program (m.choice ∷ m.earlier) ≡ after program (state_after program m.earlier) m.choice.thread m.move m.effect

abbrev pub step_of : (program : Program) (m : Moment) → IsMoment program m → LastStep program m.choice m.earlier
step_of program m s = record { good = s.good; move = m.move; effect = m.effect; by = s.by; leads = s.leads }

-- the moment of the last choice
is_moment : (program : Program) (choice : Choice) (run : List Choice) (m : Moment) → IsGoodRun program run → moment_of choice run (outcome_of program choice run) ≡ Some m → IsMoment program m
unfolding outcome_of state_after
is_moment program choice run m good e = go (outcome program (state_after program run) choice) refl e
  where
    same : (a b : Moment) → Some a ≡ Some b → a ≡ b
    same a b q = cc

    go : (found : Outcome) → outcome program (state_after program run) choice ≡ found → moment_of choice run found ≡ Some m → IsMoment program m
    go No_step o q = absurd (cc)
    go Undefined o q = absurd (cc)
    go (Does move effect) o q = subst (IsMoment program) (same (record { choice = choice; earlier = run; move = move; effect = effect }) m q) (record {
      good = good;
      by = by_an_ask program (state_after program run) choice move effect o;
      leads = ap (advanced program (state_after program run) choice.thread) o;
    })

pub moment_is : (program : Program) (run : List Choice) (i : ℕ) (m : Moment) → IsGoodRun program run → moment_at program run i ≡ Some m → IsMoment program m
moment_is program [] i m good e = absurd (cc)
moment_is program (choice ∷ run) i m good e = if_cases (i == length run) _ _ _ e
    (λ _ f. is_moment program choice run m good.0 f)
    (λ _ f. moment_is program run i m good.0 f)

-- the last moment, where the earlier steps have a meaning
pub last_moment : (program : Program) (choice : Choice) (run : List Choice) (m : Moment) → IsGoodRun program run → moment_at program (choice ∷ run) (length run) ≡ Some m
    → moment_of choice run (outcome_of program choice run) ≡ Some m
last_moment program choice run m good e = if_cases (length run == length run) _ _ _ e (λ _ f. f) (λ o _. absurd (let q : (length run == length run) ≡ true = eq-eqb (length run) (length run) refl in cc))

pub last_is : (program : Program) (choice : Choice) (run : List Choice) (m : Moment) → IsGoodRun program run → moment_at program (choice ∷ run) (length run) ≡ Some m → IsMoment program m
last_is program choice run m good e = is_moment program choice run m good (last_moment program choice run m good e)

made_by_choice : (choice : Choice) (run : List Choice) (found : Outcome) (m : Moment) → moment_of choice run found ≡ Some m → (m.choice ≡ choice) × (m.earlier ≡ run)
made_by_choice choice run No_step m e = absurd (cc)
made_by_choice choice run Undefined m e = absurd (cc)
made_by_choice choice run (Does move effect) m e = (ap (λ (x : Moment). x.choice) (sym (same e)), ap (λ (x : Moment). x.earlier) (sym (same e)))
  where
    same : Some (record { choice = choice; earlier = run; move = move; effect = effect }) ≡ Some m → record { choice = choice; earlier = run; move = move; effect = effect } ≡ m
    same q = cc

pub last_by : (program : Program) (choice : Choice) (run : List Choice) (m : Moment) → IsGoodRun program run → moment_at program (choice ∷ run) (length run) ≡ Some m
    → (m.choice ≡ choice) × (m.earlier ≡ run)
last_by program choice run m good e = made_by_choice choice run (outcome_of program choice run) m (last_moment program choice run m good e)

-- ---- positions

pub at_within : (program : Program) (run : List Choice) (i : ℕ) (m : Moment) → moment_at program run i ≡ Some m → i < length run
at_within program [] i m e = absurd (cc)
at_within program (choice ∷ run) i m e = if_cases (i == length run) _ _ _ e
    (λ same _. let s : i ≡ length run = eqb-true i (length run) same in omega arith)
    (λ _ f. let w : i < length run = at_within program run i m f in omega arith)

pub other_place : (i n : ℕ) → i < n → (i == n) ≡ false
other_place i n l = grind (arith, common_steps)

pub at_longer : (program : Program) (choice : Choice) (run : List Choice) (i : ℕ) (m : Moment) → moment_at program run i ≡ Some m → moment_at program (choice ∷ run) i ≡ Some m
at_longer program choice run i m e = ap (λ b. cond b (moment_of choice run (outcome_of program choice run)) (moment_at program run i)) (other_place i (length run) (at_within program run i m e)) ∙ e

pub at_shorter : (program : Program) (choice : Choice) (run : List Choice) (i : ℕ) (m : Moment) → i < length run → moment_at program (choice ∷ run) i ≡ Some m → moment_at program run i ≡ Some m
at_shorter program choice run i m l e = ap (λ b. cond b (moment_of choice run (outcome_of program choice run)) (moment_at program run i)) (sym (other_place i (length run) l)) ∙ e

pub at_last : (program : Program) (choice : Choice) (run : List Choice) → moment_at program (choice ∷ run) (length run) ≡ moment_of choice run (outcome_of program choice run)
at_last program choice run = ap (λ b. cond b (moment_of choice run (outcome_of program choice run)) (moment_at program run (length run))) (eq-eqb (length run) (length run) refl)

-- the last step of a good run, with its position
pub record GoodLast (program : Program) (choice : Choice) (run : List Choice) : Type 0 where
  pub move : Move
  pub effect : Effect
  pub at : moment_at program (choice ∷ run) (length run) ≡ Some (record { choice = choice; earlier = run; move = move; effect = effect })
  pub is : IsMoment program (record { choice = choice; earlier = run; move = move; effect = effect })

pub good_last : (program : Program) (choice : Choice) (run : List Choice) → IsGoodRun program (choice ∷ run) → GoodLast program choice run
unfolding outcome_of
good_last program choice run good = go (outcome program (state_after program run) choice) refl good.1
  where
    go : (found : Outcome) → outcome program (state_after program run) choice ≡ found → HasMeaning found → GoodLast program choice run
    go No_step o m = absurd m
    go Undefined o m = absurd m
    go (Does move effect) o m = record {
      move = move;
      effect = effect;
      at = at_last program choice run ∙ ap (moment_of choice run) o;
      is = is_moment program choice run (record { choice = choice; earlier = run; move = move; effect = effect }) good.0 (ap (moment_of choice run) o);
    }

-- what happens before in a run does so in each longer one
pub pair_longer : (program : Program) (choice : Choice) (run : List Choice) (i j : ℕ) → Pair program run i j → Pair program (choice ∷ run) i j
pair_longer program choice run i j p = record {
  first = p.first;
  second = p.second;
  earlier = p.earlier;
  at_first = at_longer program choice run i p.first p.at_first;
  at_second = at_longer program choice run j p.second p.at_second;
}

pub longer : (program : Program) (choice : Choice) (run : List Choice) {i j : ℕ} → Before program run i j → Before program (choice ∷ run) i j
unfolding pair_longer
longer program choice run (in_thread i j p e) = in_thread i j (pair_longer program choice run i j p) e
longer program choice run (by_creation i j p e) = by_creation i j (pair_longer program choice run i j p) e
longer program choice run (by_join i j p e) = by_join i j (pair_longer program choice run i j p) e
longer program choice run (by_mutex i j p m r t) = by_mutex i j (pair_longer program choice run i j p) m r t
longer program choice run (by_atomic i j p cell w r s) = by_atomic i j (pair_longer program choice run i j p) cell w r
    (λ k m l n e. s k m l n (at_shorter program choice run k m (let b : j < length run = at_within program run j p.second p.at_second in omega arith) e))
longer program choice run (through i j k a b) = through i j k (longer program choice run a) (longer program choice run b)
