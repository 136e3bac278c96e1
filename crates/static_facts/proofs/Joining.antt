-- What the initial thread has done, by the steps that did it.
use Rattle.std.proofs.Common.{◌≡◌, ◌⊎◌, inl, inr, refl, sym, ap, ◌∙◌, Bool, true, false, ℕ, ◌==◌, List, [], ◌∷◌, length, Option, Some, None, eqb-true, eq-eqb}
use Rattle.c_program.specs.declared.program.Program.{Program}
use Rattle.c_program.specs.Values.{Cell}
use Rattle.c_program.specs.Faults.{Sort}
use Rattle.c_program.specs.Step.{Choice}
use Rattle.c_program.specs.Runs.{IsGoodRun, Moment, moment_at}
use Rattle.path_simulation.specs.Simulates.{LastStep}
use Rattle.static_facts.proofs.Moments.{step_of, at_longer, GoodLast, good_last}
use Rattle.static_facts.specs.ObjectStates.{ObjectState, Is_unmade, Is_live, Is_joined, Is_detached, Is_dead, Doing, Begins, Joins_it, Detaches_it, Ends_it, changed_by, if_live}
use Rattle.static_facts.specs.Seen.{use_with, seen}
use Rattle.static_facts.proofs.Positions.{last_of, at_cases}
use Rattle.static_facts.proofs.Does.{seen_own, seen_other}

live_unmade : (s new : ObjectState) → (new ≡ Is_unmade → ⊥) → if_live s new ≡ Is_unmade → s ≡ Is_unmade
live_unmade Is_live new n e = absurd (n e)
live_unmade Is_unmade new n e = refl
live_unmade Is_joined new n e = e
live_unmade Is_detached new n e = e
live_unmade Is_dead new n e = e

live_joined : (s new : ObjectState) → (new ≡ Is_joined → ⊥) → if_live s new ≡ Is_joined → s ≡ Is_joined
live_joined Is_live new n e = absurd (n e)
live_joined Is_unmade new n e = e
live_joined Is_joined new n e = refl
live_joined Is_detached new n e = e
live_joined Is_dead new n e = e

-- what is unmade was not begun
pub stays_unmade : (u : Option Doing) (s : ObjectState) → changed_by u s ≡ Is_unmade → (u ≡ Some Begins → ⊥) × (s ≡ Is_unmade)
stays_unmade None s e = ((λ q. cc), e)
stays_unmade (Some Begins) s e = absurd (cc)
stays_unmade (Some Joins_it) s e = ((λ q. cc), live_unmade s Is_joined (λ q. cc) e)
stays_unmade (Some Detaches_it) s e = ((λ q. cc), live_unmade s Is_detached (λ q. cc) e)
stays_unmade (Some Ends_it) s e = absurd (cc)

-- what is joined is joined now or was
now_joined : (u : Option Doing) (s : ObjectState) → changed_by u s ≡ Is_joined → (u ≡ Some Joins_it) ⊎ (s ≡ Is_joined)
now_joined None s e = inr e
now_joined (Some Begins) s e = absurd (cc)
now_joined (Some Joins_it) s e = inl refl
now_joined (Some Detaches_it) s e = inr (live_joined s Is_detached (λ q. cc) e)
now_joined (Some Ends_it) s e = absurd (cc)

module _ (program : Program) (sort : Sort) (object : Cell) where
  pub not_yet : (run : List Choice) → IsGoodRun program run → (i : ℕ) (m : Moment) → seen program sort object run ≡ Is_unmade → moment_at program run i ≡ Some m → m.choice.thread ≡ 0
      → use_with m.effect sort object ≡ Some Begins → ⊥
  not_yet [] r i m z a t u = cc
  not_yet (choice ∷ run) r i m z a t u = go (λ y f. not_yet run r.0 i m y f t u) (choice.thread == 0) refl
    where
      last : GoodLast program choice run
      last = good_last program choice run r

      step : LastStep program choice run
      step = step_of program (last_of program choice run last) last.is

      is_last : last_of program choice run last ≡ m → (choice.thread ≡ 0) × (use_with last.effect sort object ≡ Some Begins)
      is_last e = (ap (λ (x : Moment). x.choice.thread) e ∙ t, ap (λ (x : Moment). use_with x.effect sort object) e ∙ u)

      go : (seen program sort object run ≡ Is_unmade → moment_at program run i ≡ Some m → ⊥) → (b : Bool) → (choice.thread == 0) ≡ b → ⊥
      go before true e = let n = stays_unmade (use_with last.effect sort object) (seen program sort object run) (sym (seen_own program sort object choice run step (eqb-true choice.thread 0 e)) ∙ z) in
          elim (at_cases program choice run last i m a) [
            | inl q ↦ n.0 (is_last q.1).1
            | inr f ↦ before n.1 f
          ]
      go before false e = elim (at_cases program choice run last i m a) [
        | inl q ↦ let h : (choice.thread == 0) ≡ true = eq-eqb choice.thread 0 (is_last q.1).0 in cc
        | inr f ↦ before (sym (seen_other program sort object choice run step e) ∙ z) f
      ]

  -- a step of the initial thread that joins
  pub record Joining (run : List Choice) : Type 0 where
    pub position : ℕ
    pub moment : Moment
    pub at : moment_at program run position ≡ Some moment
    pub initial : moment.choice.thread ≡ 0
    pub joins : use_with moment.effect sort object ≡ Some Joins_it

  longer : (choice : Choice) (run : List Choice) → Joining run → Joining (choice ∷ run)
  longer choice run j = record { position = j.position; moment = j.moment; at = at_longer program choice run j.position j.moment j.at; initial = j.initial; joins = j.joins }

  pub joined : (run : List Choice) → IsGoodRun program run → seen program sort object run ≡ Is_joined → Joining run
  unfolding seen
  joined [] r z = absurd (cc)
  joined (choice ∷ run) r z = go (joined run r.0) (choice.thread == 0) refl
    where
      last : GoodLast program choice run
      last = good_last program choice run r

      step : LastStep program choice run
      step = step_of program (last_of program choice run last) last.is

      go : (seen program sort object run ≡ Is_joined → Joining run) → (b : Bool) → (choice.thread == 0) ≡ b → Joining (choice ∷ run)
      go before true e = elim (now_joined (use_with last.effect sort object) (seen program sort object run) (sym (seen_own program sort object choice run step (eqb-true choice.thread 0 e)) ∙ z)) [
        | inl u ↦ record { position = length run; moment = last_of program choice run last; at = last.at; initial = eqb-true choice.thread 0 e; joins = u }
        | inr s ↦ longer choice run (before s)
      ]
      go before false e = longer choice run (before (sym (seen_other program sort object choice run step e) ∙ z))
