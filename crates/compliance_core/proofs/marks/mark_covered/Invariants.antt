use Rattle.std.proofs.Common.{◌≡◌, ℕ, ◌<◌, ◌≤◌, ◌||◌, false, get_or}
use Rattle.misra_base.specs.declared.finding.Finding.{Finding}
use Rattle.compliance_core.specs.Covers.{does_cover}
use Rattle.compliance_core.proofs.marks.mark_covered.Given as goal

abbrev pub invariant-loop-i : goal.invariant-loop-i
invariant-loop-i l =
    record {
      before : (j : ℕ) (f : Finding) → j < l.i → get_or l.marks j false ≡ (get_or l.initial.marks j false || does_cover l.plan l.deviation (get_or l.findings j f));
      behind : (j : ℕ) → l.i ≤ j → get_or l.marks j false ≡ get_or l.initial.marks j false;
    }
