-- All guidelines at once.
use Rattle.std.proofs.Common.{◌≡◌, List, [], ◌∷◌}
use Rattle.misra_base.specs.declared.guideline.Guideline.{Guideline}
use Rattle.misra_base.specs.declared.guideline.Guideline.TheVariants.{D5_1, D5_2, D5_3, R15_4, R15_5, R17_7, R17_8, R21_25, R21_26, R22_11, R22_12, R22_13, R22_14, R22_15, R22_16, R22_17, R22_18, R22_19, R22_20}
use Rattle.c_program.specs.declared.program.Program.{Program}
use Rattle.c_program.specs.Step.{Choice}
use Rattle.c_program.specs.Breaks.{Breaks}
use Rattle.c_program.specs.WellFormed.{IsWellFormed}
use Rattle.static_facts.specs.Facts.{Facts}
use Rattle.static_facts.specs.Analyses.{AreSound}
use Rattle.guideline_findings.specs.Silence.{IsSilent}
use Rattle.guideline_findings.proofs.SilenceOfOwners.{silent_ends as silent_thread_ends, silent_unlocks, silent_locks}
use Rattle.guideline_findings.proofs.SilenceOfThreads.{silent_creations, silent_releases, silent_lives, silent_ends, silent_keys}
use Rattle.guideline_findings.proofs.Given.{given}
use Rattle.guideline_findings.proofs.TextSilence.{silent_orders, silent_touches, silent_objects}
use Rattle.guideline_findings.proofs.RaceSilence.{silent_races}
use Rattle.guideline_findings.proofs.CycleSilence.{silent_waits}
use Rattle.guideline_findings.proofs.TimedSilence.{silent_timed}
use Rattle.guideline_findings.proofs.ConditionSilence.{silent_conditions}

module _ (program : Program) (well : IsWellFormed program) (facts : Facts) (sound : AreSound program facts) where
  -- the companions are judged in the text, and no run breaks them
  r15_4 : (run : List Choice) → Breaks R15_4 program run → ⊥
  r15_4 [] b = b
  r15_4 (choice ∷ run) b = b

  r15_5 : (run : List Choice) → Breaks R15_5 program run → ⊥
  r15_5 [] b = b
  r15_5 (choice ∷ run) b = b

  r17_7 : (run : List Choice) → Breaks R17_7 program run → ⊥
  r17_7 [] b = b
  r17_7 (choice ∷ run) b = b

  r17_8 : (run : List Choice) → Breaks R17_8 program run → ⊥
  r17_8 [] b = b
  r17_8 (choice ∷ run) b = b

  pub silent : (guideline : Guideline) → IsSilent program facts guideline
  silent D5_1 = silent_races program well facts sound
  silent D5_2 = silent_waits program well facts (given program well facts sound.names)
  silent D5_3 = silent_creations program well facts
  silent R15_4 = λ clean run r b. r15_4 run b
  silent R15_5 = λ clean run r b. r15_5 run b
  silent R17_7 = λ clean run r b. r17_7 run b
  silent R17_8 = λ clean run r b. r17_8 run b
  silent R21_25 = silent_orders program facts
  silent R21_26 = silent_timed program well facts (given program well facts sound.names)
  silent R22_11 = silent_releases program well facts sound
  silent R22_12 = silent_touches program facts
  silent R22_13 = silent_objects program well facts
  silent R22_14 = silent_lives program well facts sound
  silent R22_15 = silent_ends program well facts sound
  silent R22_16 = silent_thread_ends program well facts sound.names
  silent R22_17 = silent_unlocks program well facts sound.names
  silent R22_18 = silent_locks program well facts sound.names
  silent R22_19 = silent_conditions program well facts (given program well facts sound.names)
  silent R22_20 = silent_keys program well facts sound
