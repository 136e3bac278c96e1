-- The entries of a plan: what stands against them, and the plan that they make.
use Rattle.std.specs.Prelude.{Bool, true, false, not, ◌&&◌, List, [], ◌∷◌, map, fold, Option}
use Rattle.std.specs.Cmp.Lexicographic.{pointwise}
use Rattle.std.specs.List.{find, list_any}
use Rattle.std.specs.Option.{option_and_then, option_map, option_map_or}
use Rattle.misra_base.specs.Guidelines.{all_guidelines, same_guideline}
use Rattle.misra_base.specs.declared.guideline.Guideline.{Guideline}
use Rattle.misra_base.specs.declared.deviation.Deviation.{Deviation}
use Rattle.misra_base.specs.declared.category.Category.{Category}
use Rattle.misra_base.specs.declared.category.Category.TheVariants as categories
use Rattle.misra_base.specs.declared.category.Plan.{Plan}
use Rattle.compliance_core.specs.Categories.{plan_with}
use Rattle.desk_core.specs.declared.stop.DeskStop.{DeskStop}
use Rattle.desk_core.specs.Refusals.{approved_against, first_refusal, lowered}

abbrev pub Entry : Type 0
Entry = Guideline × Category

-- the category that an entry gives the guideline, if there is one
abbrev pub category_in : Guideline → List Entry → Option Category
category_in g entries = option_map (λ e. e.1) (find (λ e. same_guideline e.0 g) entries)

-- refusals 9 and 10 of the guideline's entry
abbrev pub entry_refused : List Entry → List Deviation → Guideline → Option DeskStop
entry_refused entries deviations g =
    option_and_then (λ c. first_refusal (lowered g c ∷ approved_against g c deviations ∷ [])) (category_in g entries)

-- refusals 9 and 10 of the entries, guideline by guideline
unfoldable pub entries_refused : List Entry → List Deviation → List (Option DeskStop)
entries_refused entries deviations = map (entry_refused entries deviations) all_guidelines

abbrev pub with_entry : List Entry → Plan → Guideline → Plan
with_entry entries plan g = option_map_or (λ c. plan_with g c plan) (category_in g entries) plan

-- the plan with all entries
unfoldable pub with_all_entries : List Entry → Plan → Plan
with_all_entries entries plan = fold (with_entry entries) plan all_guidelines

-- whether no guideline has two entries
abbrev pub are_single : List Entry → Bool
are_single [] = true
are_single (e ∷ entries) = not (list_any (λ other. same_guideline other.0 e.0) entries) && are_single entries

abbrev pub same_category : Category → Category → Bool
same_category categories.Mandatory categories.Mandatory = true
same_category categories.Required categories.Required = true
same_category categories.Advisory categories.Advisory = true
same_category categories.Disapplied categories.Disapplied = true
same_category _ _ = false

abbrev pub same_entry : Entry → Entry → Bool
same_entry a b = same_guideline a.0 b.0 && same_category a.1 b.1

abbrev pub same_entries : List Entry → List Entry → Bool
same_entries = pointwise same_entry
