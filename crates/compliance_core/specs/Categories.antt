-- Categories of guidelines and what a guideline re-categorisation plan may change, after MISRA Compliance:2020.
use Rattle.std.specs.Prelude.{Bool, true, false, map, unwrap_or, slice_get}
use Rattle.std.specs.List.{slice_set}
use Rattle.misra_base.specs.Guidelines.{guideline_number, all_guidelines}
use Rattle.misra_base.specs.declared.guideline.Guideline.{Guideline}
use Rattle.misra_base.specs.declared.guideline.Guideline.TheVariants as guidelines
use Rattle.misra_base.specs.declared.category.Category.{Category}
use Rattle.misra_base.specs.declared.category.Category.TheVariants.{Mandatory, Required, Advisory}
use Rattle.misra_base.specs.declared.category.Plan.{Plan}

abbrev pub misra_category : Guideline → Category
misra_category guidelines.R22_12 = Mandatory
misra_category guidelines.R22_14 = Mandatory
misra_category guidelines.R22_20 = Mandatory
misra_category guidelines.R15_4 = Advisory
misra_category guidelines.R15_5 = Advisory
misra_category guidelines.R17_8 = Advisory
misra_category _ = Required

abbrev pub is_mandatory : Category → Bool
is_mandatory Mandatory = true
is_mandatory _ = false

-- a Mandatory guideline stays so, a Required one may become Mandatory, an Advisory one anything
abbrev pub may_become : Category → Category → Bool
may_become Mandatory category = is_mandatory category
may_become Required Mandatory = true
may_become Required Required = true
may_become Required _ = false
may_become _ category = true

abbrev pub is_allowed : Guideline → Category → Bool
is_allowed guideline category = may_become (misra_category guideline) category

-- the category that the plan gives the guideline
abbrev pub revised_category : Plan → Guideline → Category
revised_category plan guideline = unwrap_or (slice_get plan.categories (guideline_number guideline)) (misra_category guideline)

abbrev pub plan_with : Guideline → Category → Plan → Plan
plan_with guideline category plan = record plan { categories = slice_set plan.categories (guideline_number guideline) category }

-- the plan that changes no category
abbrev pub misra_plan : Plan
misra_plan = record { categories = map misra_category all_guidelines }
