-- What the other parts give where the text is clean: each argument names what it leads to, and that is static.
use Rattle.c_program.specs.declared.program.Program.{Program}
use Rattle.c_program.specs.WellFormed.{IsWellFormed}
use Rattle.pointer_targets.specs.Candidates.{NamesAreSound}
use Rattle.pointer_targets.proofs.Told.{Told, told, ObjectsAreStatic, are_static}
use Rattle.static_facts.specs.Facts.{Facts}
use Rattle.guideline_findings.specs.Silence.{HasCleanText}
use Rattle.guideline_findings.proofs.CleanText.{no_local_library}

pub record Premises (program : Program) (facts : Facts) : Type 0 where
  pub names : Told program facts.names
  pub static : ObjectsAreStatic program

-- with a finding in the text no semantic guideline is silent, so nothing is needed there
abbrev pub Given : Program → Facts → Type 0
Given program facts = HasCleanText program facts → Premises program facts

pub given : (program : Program) → IsWellFormed program → (facts : Facts) → NamesAreSound program facts.names → Given program facts
given program well facts sound clean = record { names = told program well facts.names sound; static = are_static program well (no_local_library program facts well clean) }
