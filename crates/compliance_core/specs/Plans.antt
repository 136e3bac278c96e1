-- Guideline re-categorisation plans of MISRA Compliance:2020 as TOML documents. A document is its members by the order of bytes of
-- their keys, so the first member at fault is the first one by that order.
use Rattle.std.specs.Prelude.{ℕ, List, [], ◌∷◌, Option, Some, None, Result, Ok, Err, find, if◌then◌else◌, codes}
use Rattle.std.specs.Cmp.Lexicographic.{slice_cmp}
use Rattle.std.specs.Ordering.{match_ordering, nat_cmp}
use Rattle.std.specs.Str.{bytes_eq}
use Rattle.toml.specs.Data.{Data, string, table, Members, no_members, member}
use Rattle.toml.specs.Parse.{parse_document}
use Rattle.misra_base.specs.Guidelines.{all_guidelines, guideline_text}
use Rattle.misra_base.specs.Words.{category_word}
use Rattle.misra_base.specs.declared.guideline.Guideline.{Guideline}
use Rattle.misra_base.specs.declared.category.Category.{Category}
use Rattle.misra_base.specs.declared.category.Category.TheVariants.{Mandatory, Required, Advisory, Disapplied}
use Rattle.compliance_core.specs.declared.plan.PlanStop.{PlanStop}
use Rattle.compliance_core.specs.declared.plan.PlanStop.TheVariants as stops
use Rattle.compliance_core.specs.Categories.{is_allowed}

-- an entry of a plan, or why the plan is refused
abbrev pub Entry : Type 0
Entry = Guideline × Category

-- the guideline that is written so
unfoldable pub guideline_named : List ℕ → Option Guideline
guideline_named name = find (λ g. bytes_eq (guideline_text g) name) all_guidelines

-- the category with the word, letter by letter
unfoldable pub category_named : List ℕ → Option Category
category_named word = find (λ c. bytes_eq (category_word c) word) (Mandatory ∷ Required ∷ Advisory ∷ Disapplied ∷ [])

-- the category that a value is, which only a text can be
abbrev pub category_of : Data → Option Category
category_of (string word) = category_named word
category_of _ = None

-- at one key an unknown guideline is the first fault, then a value that is no category word, then a category that is not allowed
abbrev pub entry_for : List ℕ → Option Guideline → Option Category → Result Entry PlanStop
entry_for key None category = Err (stops.UnknownGuideline key)
entry_for key (Some g) None = Err (stops.Form key)
entry_for key (Some g) (Some category) = if is_allowed g category then Ok (g, category) else Err (stops.Lowered g)

abbrev pub entry_of : List ℕ → Data → Result Entry PlanStop
entry_of key value = entry_for key (guideline_named key) (category_of value)

abbrev pub with_first : Result Entry PlanStop → Result (List Entry) PlanStop → Result (List Entry) PlanStop
with_first (Err stop) entries = Err stop
with_first (Ok entry) (Err stop) = Err stop
with_first (Ok entry) (Ok entries) = Ok (entry ∷ entries)

-- the entries of a table, or the first one at fault
abbrev pub entries_of : Members → Result (List Entry) PlanStop
entries_of no_members = Ok []
entries_of (member key value rest) = with_first (entry_of key value) (entries_of rest)

abbrev pub first_key : Members → Option (List ℕ)
first_key no_members = None
first_key (member key value rest) = Some key

-- the table that the value of `categories` is, where no other root key follows
abbrev pub table_alone : Data → Option (List ℕ) → Result Members PlanStop
table_alone (table entries) None = Ok entries
table_alone (table entries) (Some key) = Err (stops.Form key)
table_alone _ next = Err (stops.Form (codes "categories"))

-- the table of the one root key `categories`: another root key, a missing `categories` and one that is no table are faults
abbrev pub root_table : Members → Result Members PlanStop
root_table no_members = Err (stops.Form (codes "categories"))
root_table (member key value rest) =
    match_ordering (slice_cmp nat_cmp key (codes "categories"))
    (Err (stops.Form key))
    (table_alone value (first_key rest))
    (Err (stops.Form (codes "categories")))

abbrev pub entries_in : Result Members PlanStop → Result (List Entry) PlanStop
entries_in (Ok entries) = entries_of entries
entries_in (Err stop) = Err stop

-- root keys are tried before entries
abbrev pub plan_in : Option Members → Result (List Entry) PlanStop
plan_in None = Err stops.Text
plan_in (Some members) = entries_in (root_table members)

-- the entries of the plan that a text is, or its first fault
abbrev pub plan_of : List ℕ → Result (List Entry) PlanStop
plan_of text = plan_in (parse_document text)
