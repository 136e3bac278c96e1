-- What holds of covers, summaries and plans.
use Rattle.std.specs.Prelude.{◌≡◌, ℕ, ◌+◌, ◌&&◌, Bool, true, false, not, List, length, Ok}
use Rattle.std.specs.List.{list_all, sum_by}
use Rattle.misra_base.specs.Guidelines.{same_guideline}
use Rattle.misra_base.specs.declared.guideline.Guideline.{Guideline}
use Rattle.misra_base.specs.declared.finding.Finding.{Finding}
use Rattle.misra_base.specs.declared.deviation.Deviation.{Deviation}
use Rattle.misra_base.specs.declared.deviation.FirstDeviation.{FirstDeviation}
use Rattle.misra_base.specs.declared.category.Category.{Category}
use Rattle.misra_base.specs.declared.category.Category.TheVariants.{Mandatory}
use Rattle.misra_base.specs.Deviations.{with_text_form}
use Rattle.misra_base.specs.declared.category.Plan.{Plan}
use Rattle.misra_base.specs.declared.summary.SummaryRow.{SummaryRow}
use Rattle.compliance_core.specs.Categories.{is_allowed, is_mandatory, misra_category, revised_category}
use Rattle.compliance_core.specs.Covers.{does_cover, is_approved, stands_for}
use Rattle.compliance_core.specs.Levels.{count_against, summary_row, summary_of}
use Rattle.compliance_core.specs.Plans.{Entry, plan_of}

abbrev pub findings_in : SummaryRow → ℕ
findings_in row = row.uncovered + row.deviated

-- a row has each finding of its guideline
abbrev pub RowsHaveAll : Type 0
RowsHaveAll = (plan : Plan) (deviations : List Deviation) (findings : List Finding) (g : Guideline)
    → findings_in (summary_row plan deviations findings g) ≡ count_against g findings

-- all rows together have each finding once
abbrev pub SummaryHasAll : Type 0
SummaryHasAll = (plan : Plan) (deviations : List Deviation) (findings : List Finding)
    → sum_by findings_in (summary_of plan deviations findings) ≡ length findings

-- no deviation covers a finding of a guideline that the plan makes Mandatory
abbrev pub MandatoryStands : Type 0
MandatoryStands = (plan : Plan) (d : Deviation) (f : Finding) → is_mandatory (revised_category plan f.guideline) ≡ true → does_cover plan d f ≡ false

-- when a deviation without a form covers a finding
abbrev pub first_covers : Plan → FirstDeviation → Finding → Bool
first_covers plan d f =
    is_approved d.status && same_guideline d.guideline f.guideline && not (is_mandatory (revised_category plan d.guideline))
    && stands_for d.function f.function && stands_for d.object f.object

-- a deviation of the time before forms covers what it covered then
abbrev pub FirstCoversStay : Type 0
FirstCoversStay = (plan : Plan) (d : FirstDeviation) (f : Finding) → does_cover plan (with_text_form d) f ≡ first_covers plan d f

-- each entry of a plan that is read is allowed
abbrev pub PlansAreAllowed : Type 0
PlansAreAllowed = (text : List ℕ) (entries : List Entry) → plan_of text ≡ Ok entries → list_all (λ e. is_allowed e.0 e.1) entries ≡ true

-- no category but Mandatory is allowed for a guideline that MISRA makes Mandatory
abbrev pub MandatoryIsKept : Type 0
MandatoryIsKept = (g : Guideline) (category : Category) → misra_category g ≡ Mandatory → is_allowed g category ≡ true → category ≡ Mandatory
