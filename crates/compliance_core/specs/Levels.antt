-- Levels of compliance, the guideline compliance summary and the claim, after MISRA Compliance:2020.
use Rattle.std.specs.Prelude.{ℕ, Bool, true, false, not, ◌&&◌, ◌==◌, if◌then◌else◌, List, map, count_by, Option}
use Rattle.std.specs.List.{find}
use Rattle.std.specs.Option.{option_map}
use Rattle.misra_base.specs.Guidelines.{same_guideline, all_guidelines}
use Rattle.misra_base.specs.declared.finding.Finding.{Finding}
use Rattle.misra_base.specs.declared.deviation.Deviation.{Deviation}
use Rattle.misra_base.specs.declared.guideline.Guideline.{Guideline}
use Rattle.misra_base.specs.declared.category.Plan.{Plan}
use Rattle.misra_base.specs.declared.summary.SummaryRow.{SummaryRow}
use Rattle.misra_base.specs.declared.category.Category.{Category}
use Rattle.misra_base.specs.declared.category.Category.TheVariants as categories
use Rattle.misra_base.specs.declared.summary.Level.{Level}
use Rattle.misra_base.specs.declared.summary.Level.TheVariants as levels
use Rattle.compliance_core.specs.Categories.{revised_category}
use Rattle.compliance_core.specs.Covers.{is_deviated}

-- how many findings the guideline has
abbrev pub count_against : Guideline → List Finding → ℕ
count_against g findings = count_by (λ f. same_guideline f.guideline g) findings

-- the findings of the guideline that some deviation covers, and those that none covers
unfoldable pub deviated_of : Plan → List Deviation → List Finding → Guideline → ℕ
deviated_of plan deviations findings g = count_by (λ f. same_guideline f.guideline g && is_deviated plan deviations f) findings

unfoldable pub uncovered_of : Plan → List Deviation → List Finding → Guideline → ℕ
uncovered_of plan deviations findings g = count_by (λ f. same_guideline f.guideline g && not (is_deviated plan deviations f)) findings

abbrev pub by_counts : ℕ → ℕ → Level
by_counts uncovered deviated =
    if uncovered == 0 then if deviated == 0 then levels.Compliant else levels.Deviations else levels.Violations

abbrev pub level_of : Category → ℕ → ℕ → Level
level_of categories.Disapplied uncovered deviated = levels.Disapplied
level_of _ uncovered deviated = by_counts uncovered deviated

abbrev pub row_for : Guideline → Category → ℕ → ℕ → SummaryRow
row_for g category uncovered deviated =
    record { guideline = g; category = category; level = level_of category uncovered deviated; uncovered = uncovered; deviated = deviated }

unfoldable pub summary_row : Plan → List Deviation → List Finding → Guideline → SummaryRow
summary_row plan deviations findings g =
    row_for g (revised_category plan g) (uncovered_of plan deviations findings g) (deviated_of plan deviations findings g)

abbrev pub summary_of : Plan → List Deviation → List Finding → List SummaryRow
summary_of plan deviations findings = map (summary_row plan deviations findings) all_guidelines

-- violations of a Mandatory or Required guideline stand against the claim
abbrev pub is_violated : Level → Bool
is_violated levels.Violations = true
is_violated _ = false

abbrev pub binds : Category → Bool
binds categories.Mandatory = true
binds categories.Required = true
binds _ = false

abbrev pub fails_claim : SummaryRow → Bool
fails_claim row = is_violated row.level && binds row.category

abbrev pub claim_of : List SummaryRow → Option Guideline
claim_of rows = option_map (λ row. row.guideline) (find fails_claim rows)
