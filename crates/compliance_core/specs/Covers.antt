-- When a deviation covers a finding, after MISRA Compliance:2020, "Deviations": it is approved, it is from the finding's guideline,
-- and that one is not mandatory. Which findings it is for, its function and object say.
use Rattle.std.specs.Prelude.{ℕ, Bool, true, false, not, ◌&&◌, ◌||◌, List, codes}
use Rattle.std.specs.List.{list_any}
use Rattle.std.specs.Str.{bytes_eq}
use Rattle.misra_base.specs.Guidelines.{same_guideline}
use Rattle.misra_base.specs.declared.finding.Finding.{Finding}
use Rattle.misra_base.specs.declared.deviation.Deviation.{Deviation}
use Rattle.misra_base.specs.declared.deviation.Form.{Form}
use Rattle.misra_base.specs.declared.deviation.Form.TheVariants.{Text, Pattern}
use Rattle.misra_base.specs.declared.deviation.Status.{Status}
use Rattle.misra_base.specs.declared.deviation.Status.TheVariants.{Approved}
use Rattle.misra_base.specs.declared.category.Plan.{Plan}
use Rattle.compliance_core.specs.Categories.{is_mandatory, revised_category}
use Rattle.compliance_core.specs.Patterns.{is_filled}

abbrev pub is_approved : Status → Bool
is_approved Approved = true
is_approved _ = false

-- the words of a deviation stand for a name if they are `*` or the name
abbrev pub stands_for : List ℕ → List ℕ → Bool
stands_for words name = bytes_eq words (codes "*") || bytes_eq words name

-- the object of a deviation that is a pattern stands besides for each object that it becomes by numbers in brackets
abbrev pub stands_as : Form → List ℕ → List ℕ → Bool
stands_as Text words object = stands_for words object
stands_as Pattern words object = stands_for words object || is_filled words object

abbrev pub does_cover : Plan → Deviation → Finding → Bool
does_cover plan d f =
    is_approved d.status && same_guideline d.guideline f.guideline && not (is_mandatory (revised_category plan d.guideline))
    && stands_for d.function f.function && stands_as d.form d.object f.object

-- some deviation covers the finding
abbrev pub is_deviated : Plan → List Deviation → Finding → Bool
is_deviated plan deviations f = list_any (λ d. does_cover plan d f) deviations
