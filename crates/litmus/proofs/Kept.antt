-- A step that has a meaning breaks no guideline that ends the run.
use Rattle.std.proofs.Common.{◌≡◌, refl, sym, subst, ap, ◌∙◌, true, false, ℕ, List, [], ◌∷◌, Some}
use Rattle.std.specs.List.{list_any}
use Rattle.misra_base.specs.declared.guideline.Guideline.{Guideline}
use Rattle.misra_base.specs.declared.guideline.Guideline.TheVariants.{R21_25, R22_11, R22_12, R22_13, R22_14, R22_15, R22_17, R22_18, R22_20}
use Rattle.c_program.specs.declared.program.Program.{Program}
use Rattle.c_program.specs.Control.{Move}
use Rattle.c_program.specs.State.{State}
use Rattle.c_program.specs.Requests.{Request}
use Rattle.c_program.specs.Faults.{is_broken, is_undefined, has_no_thread, ending_guidelines}
use Rattle.c_program.specs.Effects.{Effect}
use Rattle.c_program.specs.Step.{Choice, Outcome, Does, No_step, Undefined, outcome}
use Rattle.c_program.specs.Runs.{HasMeaning, IsGoodRun, state_after, outcome_of}
use Rattle.c_program.specs.Breaks.{BreaksBy, request_by, request_stand, request_moved, request_in}
use Rattle.c_program.specs.Laws.{IsStepBy}
use Rattle.c_program.proofs.Logic.{or_false}
use Rattle.c_program.proofs.Inversion.{by_an_ask}
use Rattle.litmus.specs.Statements.{KeepsTo}

-- what a step with a meaning asks for
pub asked_for : (program : Program) (state : State) (choice : Choice) (move : Move) (effect : Effect) (step : IsStepBy program state choice move effect)
    → request_by program state choice ≡ Some step.ask.request
asked_for program state choice move effect step =
    ap (λ stand. request_stand program state choice stand) step.stands ∙ ap (λ found. request_moved program state choice step.inside found) step.offers ∙ ap request_in step.asks

-- none of a list of guidelines is broken
abbrev NoneBroken : Program → State → ℕ → Request → List Guideline → Type 0
NoneBroken program state thread request [] = Unit {0}
NoneBroken program state thread request (g ∷ gs) = (is_broken program state thread request g ≡ false) × NoneBroken program state thread request gs

none_broken : (program : Program) (state : State) (thread : ℕ) (request : Request) (gs : List Guideline)
    → list_any (is_broken program state thread request) gs ≡ false → NoneBroken program state thread request gs
none_broken program state thread request [] e = tt
none_broken program state thread request (g ∷ gs) e = let p = or_false _ _ e in (p.0, none_broken program state thread request gs p.1)

pub meant : (program : Program) (state : State) (thread : ℕ) (request : Request) → is_undefined program state thread request ≡ false → NoneBroken program state thread request ending_guidelines
unfolding is_undefined
meant program state thread request e = none_broken program state thread request ending_guidelines (or_false (has_no_thread state request) _ e).1

-- a break of a guideline that ends the run, by what the last choice asks for
abbrev pub Broken : Guideline → Program → Choice → List Choice → Type 0
Broken g program choice run = (request : Request) × (request_by program (state_after program run) choice ≡ Some request) × (is_broken program (state_after program run) choice.thread request g ≡ true)

module _ (g : Guideline)
    (as_request : (program : Program) (choice : Choice) (run : List Choice) → BreaksBy g program choice run → Broken g program choice run)
    (is_meant : (program : Program) (state : State) (thread : ℕ) (request : Request) → is_undefined program state thread request ≡ false → is_broken program state thread request g ≡ false) where
  step_keeps : (program : Program) (choice : Choice) (run : List Choice) (o : Outcome) → outcome program (state_after program run) choice ≡ o → HasMeaning o
      → Broken g program choice run → ⊥
  step_keeps program choice run No_step e h b = h
  step_keeps program choice run Undefined e h b = h
  step_keeps program choice run (Does move effect) e h b =
      let step = by_an_ask program (state_after program run) choice move effect e in
      let same : Some step.ask.request ≡ Some b.0 = sym (asked_for program (state_after program run) choice move effect step) ∙ b.1 in
      let own : step.ask.request ≡ b.0 = cc in
      let f : false ≡ true = sym (is_meant program (state_after program run) choice.thread b.0 (subst (λ r. is_undefined program (state_after program run) choice.thread r ≡ false) own step.meant)) ∙ b.2 in cc

  pub keeps : (program : Program) (run : List Choice) → IsGoodRun program run → KeepsTo g program run
  unfolding outcome_of
  keeps program [] r = tt
  keeps program (choice ∷ run) r = (λ b. step_keeps program choice run (outcome program (state_after program run) choice) refl r.1 (as_request program choice run b), keeps program run r.0)

pub keeps_11 : (program : Program) (run : List Choice) → IsGoodRun program run → KeepsTo R22_11 program run
keeps_11 = keeps R22_11 (λ program choice run b. b) (λ program state thread request e. (meant program state thread request e).1.0)

pub keeps_21_25 : (program : Program) (run : List Choice) → IsGoodRun program run → KeepsTo R21_25 program run
keeps_21_25 = keeps R21_25 (λ program choice run b. b) (λ program state thread request e. (meant program state thread request e).0)

pub keeps_12 : (program : Program) (run : List Choice) → IsGoodRun program run → KeepsTo R22_12 program run
keeps_12 = keeps R22_12 (λ program choice run b. b) (λ program state thread request e. (meant program state thread request e).1.1.0)

pub keeps_13 : (program : Program) (run : List Choice) → IsGoodRun program run → KeepsTo R22_13 program run
keeps_13 = keeps R22_13 (λ program choice run b. b) (λ program state thread request e. (meant program state thread request e).1.1.1.0)

pub keeps_14 : (program : Program) (run : List Choice) → IsGoodRun program run → KeepsTo R22_14 program run
keeps_14 = keeps R22_14 (λ program choice run b. b) (λ program state thread request e. (meant program state thread request e).1.1.1.1.0)

pub keeps_15 : (program : Program) (run : List Choice) → IsGoodRun program run → KeepsTo R22_15 program run
keeps_15 = keeps R22_15 (λ program choice run b. b) (λ program state thread request e. (meant program state thread request e).1.1.1.1.1.0)

pub keeps_17 : (program : Program) (run : List Choice) → IsGoodRun program run → KeepsTo R22_17 program run
keeps_17 = keeps R22_17 (λ program choice run b. b) (λ program state thread request e. (meant program state thread request e).1.1.1.1.1.1.0)

pub keeps_18 : (program : Program) (run : List Choice) → IsGoodRun program run → KeepsTo R22_18 program run
keeps_18 = keeps R22_18 (λ program choice run b. b) (λ program state thread request e. (meant program state thread request e).1.1.1.1.1.1.1.0)

pub keeps_20 : (program : Program) (run : List Choice) → IsGoodRun program run → KeepsTo R22_20 program run
keeps_20 = keeps R22_20 (λ program choice run b. b) (λ program state thread request e. (meant program state thread request e).1.1.1.1.1.1.1.1.0)
