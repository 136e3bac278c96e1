-- What is said of the programs and their runs.
use Rattle.std.specs.Prelude.{List, [], ◌∷◌}
use Rattle.misra_base.specs.declared.guideline.Guideline.{Guideline}
use Rattle.c_program.specs.declared.program.Program.{Program}
use Rattle.c_program.specs.Step.{Choice}
use Rattle.c_program.specs.Runs.{IsRun}
use Rattle.c_program.specs.Breaks.{Breaks}
use Rattle.c_program.specs.WellFormed.{IsWellFormed}

-- no step of the run breaks the guideline
abbrev pub KeepsTo : Guideline → Program → List Choice → Type 0
KeepsTo guideline program [] = Unit {0}
KeepsTo guideline program (choice ∷ run) = (Breaks guideline program (choice ∷ run) → ⊥) × KeepsTo guideline program run

-- a run of a program as a text gives it, whose last step breaks the guideline, and no step before does
pub record BreaksAtLast (guideline : Guideline) (program : Program) (choice : Choice) (run : List Choice) : Type 0 where
  pub is_well_formed : IsWellFormed program
  pub is_run : IsRun program (choice ∷ run)
  pub breaks : Breaks guideline program (choice ∷ run)
  pub not_before : KeepsTo guideline program run

-- the same of a schedule, whose last choice stands first
abbrev pub EndsIn : Guideline → Program → List Choice → Type 0
EndsIn guideline program [] = ⊥
EndsIn guideline program (choice ∷ run) = BreaksAtLast guideline program choice run
