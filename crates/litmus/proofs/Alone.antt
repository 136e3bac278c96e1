-- Steps of one thread alone are no data race.
use Rattle.std.proofs.Common.{◌≡◌, sym, ◌∙◌, Bool, true, ◌&&◌, ◌==◌, ℕ, List, [], ◌∷◌, length, Some, eqb-true}
use Rattle.misra_base.specs.declared.guideline.Guideline.TheVariants.{D5_1}
use Rattle.c_program.specs.declared.program.Program.{Program}
use Rattle.c_program.specs.Step.{Choice, Outcome, Does, No_step, Undefined}
use Rattle.c_program.specs.Runs.{Moment, moment_of, moment_at, outcome_of}
use Rattle.c_program.specs.Breaks.{Breaks}
use Rattle.c_program.proofs.Cells.{and_true}
use Rattle.c_program.proofs.Logic.{if_cases}

abbrev pub all_by : ℕ → List Choice → Bool
all_by thread [] = true
all_by thread (choice ∷ run) = (choice.thread == thread) && all_by thread run

same : (a b : Moment) → Some a ≡ Some b → a ≡ b
same a b e = cc

its_choice : (choice : Choice) (run : List Choice) (o : Outcome) (moment : Moment) → moment_of choice run o ≡ Some moment → moment.choice ≡ choice
its_choice choice run No_step moment e = absurd (cc)
its_choice choice run Undefined moment e = absurd (cc)
its_choice choice run (Does move effect) moment e = cc

pub of_thread : (program : Program) (thread : ℕ) (run : List Choice) (i : ℕ) (moment : Moment) → all_by thread run ≡ true → moment_at program run i ≡ Some moment → moment.choice.thread ≡ thread
of_thread program thread [] i moment a e = absurd (cc)
of_thread program thread (choice ∷ run) i moment a e = let p = and_true _ _ a in if_cases (i == length run) _ _ _ e
    (λ _ f. let own : moment.choice ≡ choice = its_choice choice run (outcome_of program choice run) moment f in let t : choice.thread ≡ thread = eqb-true choice.thread thread p.0 in cc)
    (λ _ f. of_thread program thread run i moment p.1 f)

pub keeps_apart : (program : Program) (thread : ℕ) (choice : Choice) (run : List Choice) → all_by thread (choice ∷ run) ≡ true → Breaks D5_1 program (choice ∷ run) → ⊥
keeps_apart program thread choice run a (last, e, r) =
    r.4 (of_thread program thread (choice ∷ run) r.0 r.1 a r.3 ∙ sym (of_thread program thread (choice ∷ run) (length run) last a e))
