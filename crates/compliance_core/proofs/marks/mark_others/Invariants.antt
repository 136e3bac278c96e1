use Rattle.std.proofs.Common.{◌≡◌, ℕ, ◌<◌, false, get_or}
use Rattle.misra_base.specs.declared.finding.Finding.{Finding}
use Rattle.compliance_core.specs.Marks.{is_other}
use Rattle.compliance_core.proofs.marks.mark_others.Given as goal

abbrev pub invariant-loop-i : goal.invariant-loop-i
invariant-loop-i l = (j : ℕ) (f : Finding) → j < l.i → get_or l.marks j false ≡ is_other l.guideline (get_or l.findings j f)
