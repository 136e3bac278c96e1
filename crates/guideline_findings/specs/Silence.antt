-- When a guideline is silent: it has no finding, and no run breaks it.
use Rattle.std.specs.Prelude.{◌≡◌, true, List}
use Rattle.misra_base.specs.declared.guideline.Guideline.{Guideline}
use Rattle.misra_base.specs.declared.place.Place.{Place}
use Rattle.c_program.specs.declared.program.Program.{Program}
use Rattle.c_program.specs.Step.{Choice}
use Rattle.c_program.specs.Runs.{IsRun}
use Rattle.c_program.specs.Breaks.{Breaks}
use Rattle.static_facts.specs.Facts.{Facts}
use Rattle.guideline_findings.specs.Findings.{IsFoundInText, is_semantic, IsClean}

-- where the guideline has no finding, no run breaks it, at no step, the last undefined one included
abbrev pub IsSilent : Program → Facts → Guideline → Type 0
IsSilent program facts guideline = IsClean program facts guideline → (run : List Choice) → IsRun program run → Breaks guideline program run → ⊥

-- Rules 21.25, 22.12 and 22.13 have no finding: no weak order, no touch, and no library object but static ones
abbrev pub HasCleanText : Program → Facts → Type 0
HasCleanText program facts = (place : Place) → IsFoundInText program facts place → ⊥

-- where a rule of the text has a finding, no semantic guideline is clean
abbrev pub SemanticNeedsCleanText : Program → Facts → Type 0
SemanticNeedsCleanText program facts = (guideline : Guideline) → is_semantic guideline ≡ true → IsClean program facts guideline → HasCleanText program facts
