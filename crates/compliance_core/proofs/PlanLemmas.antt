-- Names that are read, and the entries of a table one after the other.
use Rattle.std.proofs.Common.{◌≡◌, ◌≢◌, ℕ, false, List, [], ◌∷◌, ◌++◌, Some, None, Result, Ok, Err, refl, sym, ap, ◌∙◌, subst, append_assoc}
use Rattle.std.specs.List.{find}
use Rattle.std.specs.Result.{result_ok}
use Rattle.std.specs.Str.{bytes_eq}
use Rattle.std.proofs.lemmas.Bool.{cond-false, false_from_ne_true}
use Rattle.std.proofs.lemmas.Slice.Eq.{bytes_eq-Decides}
use Rattle.misra_base.specs.Guidelines.{all_guidelines, guideline_text}
use Rattle.misra_base.specs.Words.{ReadsWord, category_word}
use Rattle.misra_base.specs.declared.guideline.Guideline.{Guideline}
use Rattle.misra_base.specs.declared.guideline.Guideline.TheVariants.{D5_1, D5_2, D5_3, R15_4, R15_5, R17_7, R17_8, R21_25, R21_26, R22_11, R22_12, R22_13, R22_14, R22_15, R22_16, R22_17, R22_18, R22_19, R22_20}
use Rattle.misra_base.specs.declared.category.Category.{Category}
use Rattle.misra_base.specs.declared.category.Category.TheVariants.{Mandatory, Required, Advisory, Disapplied}
use Rattle.compliance_core.specs.declared.plan.PlanStop.{PlanStop}
use Rattle.compliance_core.specs.Plans.{Entry, guideline_named, category_named, with_first}

-- where no value has the word, none is found
none_named : {A : Type 0} (word : A → List ℕ) (text : List ℕ) → ((v : A) → word v ≢ text) → (xs : List A) → find (λ v. bytes_eq (word v) text) xs ≡ None
none_named word text apart [] = refl
none_named word text apart (x ∷ xs) =
    let other : bytes_eq (word x) text ≡ false = false_from_ne_true (bytes_eq (word x) text) (λ e. apart x ((bytes_eq-Decides (word x) text).0 e)) in
    cond-false (bytes_eq (word x) text) (Some x) (find (λ v. bytes_eq (word v) text) xs) other ∙ none_named word text apart xs

-- what is read by its word is what is found by it, where each value is found by its own
read_is_named : {A E : Type 0} (word : A → List ℕ) (all : List A) (text : List ℕ) (r : Result A E) → ((v : A) → find (λ w. bytes_eq (word w) (word v)) all ≡ Some v) → ReadsWord word text r → result_ok r ≡ find (λ v. bytes_eq (word v) text) all
read_is_named word all text (Ok v) own h = sym (subst (λ t. find (λ w. bytes_eq (word w) t) all ≡ Some v) h (own v))
read_is_named word all text (Err e) own h = sym (none_named word text h all)

own_guideline : (g : Guideline) → guideline_named (guideline_text g) ≡ Some g
unfolding guideline_named
own_guideline D5_1 = refl
own_guideline D5_2 = refl
own_guideline D5_3 = refl
own_guideline R15_4 = refl
own_guideline R15_5 = refl
own_guideline R17_7 = refl
own_guideline R17_8 = refl
own_guideline R21_25 = refl
own_guideline R21_26 = refl
own_guideline R22_11 = refl
own_guideline R22_12 = refl
own_guideline R22_13 = refl
own_guideline R22_14 = refl
own_guideline R22_15 = refl
own_guideline R22_16 = refl
own_guideline R22_17 = refl
own_guideline R22_18 = refl
own_guideline R22_19 = refl
own_guideline R22_20 = refl

pub guideline_read : {E : Type 0} (text : List ℕ) (r : Result Guideline E) → ReadsWord guideline_text text r → result_ok r ≡ guideline_named text
unfolding guideline_named
guideline_read text r h = read_is_named guideline_text all_guidelines text r own_guideline h

own_category : (c : Category) → category_named (category_word c) ≡ Some c
unfolding category_named
own_category Mandatory = refl
own_category Required = refl
own_category Advisory = refl
own_category Disapplied = refl

pub category_read : {E : Type 0} (text : List ℕ) (r : Result Category E) → ReadsWord category_word text r → result_ok r ≡ category_named text
unfolding category_named
category_read text r h = read_is_named category_word (Mandatory ∷ Required ∷ Advisory ∷ Disapplied ∷ []) text r own_category h

-- the entries before, and those that follow
abbrev pub onto : List Entry → Result (List Entry) PlanStop → Result (List Entry) PlanStop
onto before (Ok entries) = Ok (before ++ entries)
onto before (Err stop) = Err stop

pub onto_none : (rest : Result (List Entry) PlanStop) → rest ≡ onto [] rest
onto_none (Ok entries) = refl
onto_none (Err stop) = refl

pub onto_more : (before : List Entry) (entry : Entry) (rest : Result (List Entry) PlanStop) → onto before (with_first (Ok entry) rest) ≡ onto (before ++ entry ∷ []) rest
onto_more before entry (Ok entries) = ap Ok (sym (append_assoc before (entry ∷ []) entries))
onto_more before entry (Err stop) = refl
