-- What a step does, and what the initial thread has done behind it.
use Rattle.std.proofs.Common.{◌≡◌, sym, ap, ◌∙◌, false, cond, ◌||◌, ◌==◌, List, ◌∷◌}
use Rattle.c_program.specs.declared.program.Program.{Program}
use Rattle.c_program.specs.Values.{Cell}
use Rattle.c_program.specs.Control.{Move}
use Rattle.c_program.specs.State.{State}
use Rattle.c_program.specs.Faults.{Sort, is_undefined, may_answer}
use Rattle.c_program.specs.Effects.{Effect, lacks_result, effect_of}
use Rattle.c_program.specs.Step.{Choice, Outcome, No_step, Undefined, Does, outcome, outcome_stand, outcome_moved, outcome_asked}
use Rattle.c_program.specs.Runs.{state_after, outcome_of}
use Rattle.c_program.specs.Laws.{IsStepBy}
use Rattle.c_program.proofs.Logic.{no_or}
use Rattle.path_simulation.specs.Simulates.{LastStep}
use Rattle.static_facts.specs.ObjectStates.{changed_by}
use Rattle.static_facts.specs.Seen.{use_with, seen, seen_after}

-- a step that is by an ask is the outcome of its choice
pub is_outcome : (program : Program) (state : State) (choice : Choice) (move : Move) (effect : Effect) → IsStepBy program state choice move effect
    → outcome program state choice ≡ Does move effect
unfolding outcome
is_outcome program state choice move effect s =
    ap (λ b. cond b No_step (outcome_stand program state choice (state.thread choice.thread).stand)) s.goes
    ∙ ap (outcome_stand program state choice) s.stands
    ∙ ap (outcome_moved program state choice s.frames s.inside) s.offers
    ∙ ap (outcome_asked program state choice move s.frames) s.asks
    ∙ ap (λ b. cond b (cond (is_undefined program state choice.thread s.ask.request || lacks_result s.frames s.ask.turn) Undefined done) No_step) s.may
    ∙ ap (λ b. cond b Undefined done) (no_or _ _ s.meant s.returns)
    ∙ ap (λ b. cond b (Does move (effect_of program state choice.thread s.frames s.ask)) No_step) s.answers
    ∙ ap (Does move) (sym s.gives)
  where
    done : Outcome
    done = cond (may_answer state choice.thread s.ask.request) (Does move (effect_of program state choice.thread s.frames s.ask)) No_step

module _ (program : Program) (sort : Sort) (object : Cell) (choice : Choice) (run : List Choice) (step : LastStep program choice run) where
  seen_step : seen program sort object (choice ∷ run)
      ≡ cond (choice.thread == 0) (changed_by (use_with step.effect sort object) (seen program sort object run)) (seen program sort object run)
  unfolding seen outcome_of
  seen_step = ap (λ (o : Outcome). seen_after o choice.thread sort object (seen program sort object run)) (is_outcome program (state_after program run) choice step.move step.effect step.by)

  pub seen_own : choice.thread ≡ 0 → seen program sort object (choice ∷ run) ≡ changed_by (use_with step.effect sort object) (seen program sort object run)
  seen_own z = seen_step ∙ ap (λ n. cond (n == 0) (changed_by (use_with step.effect sort object) (seen program sort object run)) (seen program sort object run)) z

  pub seen_other : (choice.thread == 0) ≡ false → seen program sort object (choice ∷ run) ≡ seen program sort object run
  seen_other z = seen_step ∙ ap (λ b. cond b (changed_by (use_with step.effect sort object) (seen program sort object run)) (seen program sort object run)) z
