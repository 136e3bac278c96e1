-- Mandatory guidelines stand, in covers and in plans.
use Rattle.std.proofs.Common.{◌≡◌, ◌∙◌, ℕ, Bool, true, false, cond, not, ◌&&◌, List, [], ◌∷◌, Option, Some, None, Result, Ok, Err, refl, sym, ap, subst, get_or}
use Rattle.std.proofs.lemmas.Bool.{and_from, eqb-true}
use Rattle.std.specs.List.{list_all}
use Rattle.toml.specs.Data.{Members, no_members, member}
use Rattle.toml.specs.Parse.{parse_document}
use Rattle.misra_base.specs.Guidelines.{all_guidelines, guideline_number, same_guideline}
use Rattle.misra_base.specs.declared.guideline.Guideline.{Guideline}
use Rattle.misra_base.specs.declared.guideline.Guideline.TheVariants.{D5_1, D5_2, D5_3, R15_4, R15_5, R17_7, R17_8, R21_25, R21_26, R22_11, R22_12, R22_13, R22_14, R22_15, R22_16, R22_17, R22_18, R22_19, R22_20}
use Rattle.misra_base.specs.declared.category.Category.{Category}
use Rattle.misra_base.specs.declared.category.Category.TheVariants.{Mandatory, Required, Advisory, Disapplied}
use Rattle.compliance_core.specs.declared.plan.PlanStop.{PlanStop}
use Rattle.compliance_core.specs.Categories.{is_allowed, is_mandatory, may_become, misra_category, revised_category}
use Rattle.compliance_core.specs.Covers.{is_approved, stands_for, stands_as}
use Rattle.compliance_core.specs.Plans.{Entry, entries_in, entries_of, entry_for, entry_of, guideline_named, category_of, plan_in, root_table, with_first}
use Rattle.compliance_core.specs.Laws.{MandatoryIsKept, MandatoryStands, PlansAreAllowed}

-- ---- plans

kept : (from to : Category) → from ≡ Mandatory → may_become from to ≡ true → to ≡ Mandatory
kept Mandatory Mandatory e h = refl
kept Mandatory Required e h = cc
kept Mandatory Advisory e h = cc
kept Mandatory Disapplied e h = cc
kept Required to e h = cc
kept Advisory to e h = cc
kept Disapplied to e h = cc

pub mandatory_kept : MandatoryIsKept
mandatory_kept g category e h = kept (misra_category g) category e h

all_allowed : List Entry → Bool
all_allowed = list_all (λ e. is_allowed e.0 e.1)

allowed_if : (b : Bool) (g : Guideline) (category : Category) (e : Entry) (stop : PlanStop) → b ≡ is_allowed g category → cond b (Ok (g, category)) (Err stop) ≡ Ok e → is_allowed e.0 e.1 ≡ true
allowed_if true g category e stop same h = let is : (g, category) ≡ e = cc in ap (λ (x : Entry). is_allowed x.0 x.1) (sym is) ∙ sym same
allowed_if false g category e stop same h = cc

entry_allowed : (key : List ℕ) (g : Option Guideline) (category : Option Category) (e : Entry) → entry_for key g category ≡ Ok e → is_allowed e.0 e.1 ≡ true
entry_allowed key None category e h = cc
entry_allowed key (Some g) None e h = cc
entry_allowed key (Some g) (Some category) e h = allowed_if (is_allowed g category) g category e _ refl h

first_allowed : (r : Result Entry PlanStop) (rest : Result (List Entry) PlanStop) (es : List Entry)
    → ((e : Entry) → r ≡ Ok e → is_allowed e.0 e.1 ≡ true) → ((xs : List Entry) → rest ≡ Ok xs → all_allowed xs ≡ true)
    → with_first r rest ≡ Ok es → all_allowed es ≡ true
unfolding all_allowed
first_allowed (Err stop) rest es here behind h = cc
first_allowed (Ok e) (Err stop) es here behind h = cc
first_allowed (Ok e) (Ok xs) es here behind h =
    let is : e ∷ xs ≡ es = cc in
    ap all_allowed (sym is) ∙ and_from (is_allowed e.0 e.1) (all_allowed xs) (here e refl) (behind xs refl)

entries_allowed : (members : Members) (es : List Entry) → entries_of members ≡ Ok es → all_allowed es ≡ true
unfolding all_allowed
entries_allowed no_members es h = let is : [] ≡ es = cc in ap all_allowed (sym is)
entries_allowed (member key value rest) es h =
    first_allowed (entry_of key value) (entries_of rest) es
    (λ e is. entry_allowed key (guideline_named key) (category_of value) e is)
    (λ xs is. entries_allowed rest xs is)
    h

root_allowed : (root : Result Members PlanStop) (es : List Entry) → entries_in root ≡ Ok es → all_allowed es ≡ true
root_allowed (Ok members) es h = entries_allowed members es h
root_allowed (Err stop) es h = cc

document_allowed : (document : Option Members) (es : List Entry) → plan_in document ≡ Ok es → all_allowed es ≡ true
document_allowed None es h = cc
document_allowed (Some members) es h = root_allowed (root_table members) es h

pub plans_allowed : PlansAreAllowed
unfolding all_allowed
plans_allowed text es h = document_allowed (parse_document text) es h

-- ---- covers

numbered : (g : Guideline) → get_or all_guidelines (guideline_number g) D5_1 ≡ g
numbered D5_1 = refl
numbered D5_2 = refl
numbered D5_3 = refl
numbered R15_4 = refl
numbered R15_5 = refl
numbered R17_7 = refl
numbered R17_8 = refl
numbered R21_25 = refl
numbered R21_26 = refl
numbered R22_11 = refl
numbered R22_12 = refl
numbered R22_13 = refl
numbered R22_14 = refl
numbered R22_15 = refl
numbered R22_16 = refl
numbered R22_17 = refl
numbered R22_18 = refl
numbered R22_19 = refl
numbered R22_20 = refl

pub same_one : (g h : Guideline) → same_guideline g h ≡ true → g ≡ h
same_one g h e =
    sym (numbered g) ∙ ap (λ n. get_or all_guidelines n D5_1) (eqb-true (guideline_number g) (guideline_number h) e) ∙ numbered h

blocked : (a s m w o : Bool) → (s ≡ true → m ≡ true) → (a && s && not m && w && o) ≡ false
blocked false s m w o e = refl
blocked true false m w o e = refl
blocked true true m w o e = rw (e refl) refl

pub mandatory_stands : MandatoryStands
mandatory_stands plan d f e =
    blocked (is_approved d.status) (same_guideline d.guideline f.guideline) (is_mandatory (revised_category plan d.guideline))
    (stands_for d.function f.function) (stands_as d.form d.object f.object)
    (λ same. subst (λ g. is_mandatory (revised_category plan g) ≡ true) (sym (same_one d.guideline f.guideline same)) e)
