-- Findings that are marked: those of other guidelines, and those that some deviation covers.
use Rattle.std.specs.Prelude.{◌≡◌, ℕ, ◌<◌, Bool, false, not, ◌&&◌, ◌||◌, List, length, slice_index_or}
use Rattle.misra_base.specs.Guidelines.{same_guideline}
use Rattle.misra_base.specs.declared.guideline.Guideline.{Guideline}
use Rattle.misra_base.specs.declared.finding.Finding.{Finding}
use Rattle.misra_base.specs.declared.deviation.Deviation.{Deviation}
use Rattle.misra_base.specs.declared.category.Plan.{Plan}
use Rattle.compliance_core.specs.Categories.{is_mandatory, revised_category}
use Rattle.compliance_core.specs.Covers.{is_approved, is_deviated}

-- the deviation is approved, and from this guideline, which may be deviated from
abbrev pub can_cover : Plan → Deviation → Guideline → Bool
can_cover plan d g = is_approved d.status && same_guideline d.guideline g && not (is_mandatory (revised_category plan d.guideline))

abbrev pub is_other : Guideline → Finding → Bool
is_other g f = not (same_guideline f.guideline g)

-- each mark says whether its finding is of another guideline or covered
abbrev pub IsSettled : Plan → List Deviation → Guideline → List Finding → List Bool → Type 0
IsSettled plan deviations g findings marks =
    (i : ℕ) (f : Finding) → i < length findings
    → slice_index_or marks i false ≡ (is_other g (slice_index_or findings i f) || is_deviated plan deviations (slice_index_or findings i f))
