-- The codings of the parts of rows are exact.
use Rattle.std.proofs.Common.{◌≡◌, eqb, Some, refl}
use Rattle.std.specs.List.{find}
use Rattle.misra_base.specs.Guidelines.{all_guidelines, guideline_number}
use Rattle.misra_base.specs.declared.category.Category.{Category}
use Rattle.misra_base.specs.declared.category.Category.TheVariants as categories
use Rattle.misra_base.specs.declared.deviation.Form.{Form}
use Rattle.misra_base.specs.declared.deviation.Form.TheVariants as forms
use Rattle.misra_base.specs.declared.deviation.Status.{Status}
use Rattle.misra_base.specs.declared.deviation.Status.TheVariants as statuses
use Rattle.misra_base.specs.declared.guideline.Guideline.{Guideline}
use Rattle.misra_base.specs.declared.guideline.Guideline.TheVariants as guidelines
use Rattle.misra_base.specs.declared.kind.Kind.{Kind}
use Rattle.misra_base.specs.declared.kind.Kind.TheVariants as kinds
use Rattle.desk_coding.specs.Variants.{category_list, category_number, form_list, form_number, kind_list, kind_number, status_list, status_number}
use Rattle.desk_coding.specs.Parts.{guideline, category, status, form, kind, optional_text, names, entry, entries, place, place_parts, place_of, optional_place, finding, finding_parts, finding_of, findings, life, deviation, deviation_parts, deviation_of, permit, permit_parts, permit_of, plan, categories_of, plan_of}
use Rattle.desk_coding.proofs.Exactness.{Exact, exact_number32, exact_text, exact_both, exact_fields, exact_variant, exact_optional, exact_listed, exact_exactly}

found_guideline : (x : Guideline) → find (λ y. eqb (guideline_number y) (guideline_number x)) all_guidelines ≡ Some x
found_guideline guidelines.D5_1 = refl
found_guideline guidelines.D5_2 = refl
found_guideline guidelines.D5_3 = refl
found_guideline guidelines.R15_4 = refl
found_guideline guidelines.R15_5 = refl
found_guideline guidelines.R17_7 = refl
found_guideline guidelines.R17_8 = refl
found_guideline guidelines.R21_25 = refl
found_guideline guidelines.R21_26 = refl
found_guideline guidelines.R22_11 = refl
found_guideline guidelines.R22_12 = refl
found_guideline guidelines.R22_13 = refl
found_guideline guidelines.R22_14 = refl
found_guideline guidelines.R22_15 = refl
found_guideline guidelines.R22_16 = refl
found_guideline guidelines.R22_17 = refl
found_guideline guidelines.R22_18 = refl
found_guideline guidelines.R22_19 = refl
found_guideline guidelines.R22_20 = refl

pub exact_guideline : Exact guideline
unfolding guideline
exact_guideline = exact_variant guideline_number all_guidelines found_guideline

found_category : (x : Category) → find (λ y. eqb (category_number y) (category_number x)) category_list ≡ Some x
found_category categories.Mandatory = refl
found_category categories.Required = refl
found_category categories.Advisory = refl
found_category categories.Disapplied = refl

pub exact_category : Exact category
unfolding category
exact_category = exact_variant category_number category_list found_category

found_status : (x : Status) → find (λ y. eqb (status_number y) (status_number x)) status_list ≡ Some x
found_status statuses.Raised = refl
found_status statuses.Approved = refl
found_status statuses.Rejected = refl
found_status statuses.Withdrawn = refl

pub exact_status : Exact status
unfolding status
exact_status = exact_variant status_number status_list found_status

found_form : (x : Form) → find (λ y. eqb (form_number y) (form_number x)) form_list ≡ Some x
found_form forms.Text = refl
found_form forms.Pattern = refl

pub exact_form : Exact form
unfolding form
exact_form = exact_variant form_number form_list found_form

found_kind : (x : Kind) → find (λ y. eqb (kind_number y) (kind_number x)) kind_list ≡ Some x
found_kind kinds.Race = refl
found_kind kinds.Cycle = refl
found_kind kinds.Outside = refl
found_kind kinds.Repeated = refl
found_kind kinds.Break = refl
found_kind kinds.Return = refl
found_kind kinds.Unused = refl
found_kind kinds.Parameter = refl
found_kind kinds.Order = refl
found_kind kinds.Kind = refl
found_kind kinds.Again = refl
found_kind kinds.Access = refl
found_kind kinds.Automatic = refl
found_kind kinds.Thread = refl
found_kind kinds.Before = refl
found_kind kinds.Second = refl
found_kind kinds.Dead = refl
found_kind kinds.Busy = refl
found_kind kinds.End = refl
found_kind kinds.Destroyed = refl
found_kind kinds.Unlock = refl
found_kind kinds.Wait = refl
found_kind kinds.Dependent = refl

pub exact_kind : Exact kind
unfolding kind
exact_kind = exact_variant kind_number kind_list found_kind

pub exact_optional_text : Exact optional_text
unfolding optional_text
exact_optional_text = exact_optional exact_text

pub exact_names : Exact names
unfolding names
exact_names = exact_listed exact_text

pub exact_entry : Exact entry
unfolding entry
exact_entry = exact_both exact_guideline exact_category

pub exact_entries : Exact entries
unfolding entries
exact_entries = exact_listed exact_entry

pub exact_place : Exact place
unfolding place
exact_place = exact_fields place_parts place_of (λ x. refl) (λ p. refl) (exact_both exact_number32 exact_number32)

pub exact_optional_place : Exact optional_place
unfolding optional_place
exact_optional_place = exact_optional exact_place

pub exact_finding : Exact finding
unfolding finding
exact_finding = exact_fields finding_parts finding_of (λ x. refl) (λ p. refl) (exact_both exact_guideline (exact_both exact_place (exact_both exact_optional_place (exact_both exact_text (exact_both exact_text exact_kind)))))

pub exact_findings : Exact findings
unfolding findings
exact_findings = exact_listed exact_finding

pub exact_life : Exact life
unfolding life
exact_life = exact_both exact_text (exact_both exact_optional_text (exact_both exact_status (exact_both exact_optional_text exact_form)))

pub exact_deviation : Exact deviation
unfolding deviation
exact_deviation = exact_fields deviation_parts deviation_of (λ x. refl) (λ p. refl) (exact_both exact_number32 (exact_both exact_guideline (exact_both exact_text (exact_both exact_text (exact_both exact_text exact_life)))))

pub exact_permit : Exact permit
unfolding permit
exact_permit = exact_fields permit_parts permit_of (λ x. refl) (λ p. refl) (exact_both exact_text (exact_both exact_guideline (exact_both exact_text exact_text)))

pub exact_plan : Exact plan
unfolding plan
exact_plan = exact_fields categories_of plan_of (λ x. refl) (λ p. refl) (exact_exactly 19 exact_category)
