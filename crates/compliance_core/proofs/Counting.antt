-- Findings are counted once: by their guideline, and there by whether some deviation covers them.
use Rattle.std.proofs.Common.{◌≡◌, ◌∙◌, ℕ, ◌+◌, Bool, true, false, cond, not, ◌&&◌, List, [], ◌∷◌, suc, length, map, refl, sym, ap, arith}
use Rattle.std.specs.Prelude.{count_by}
use Rattle.std.specs.List.{sum_by}
use Rattle.std.proofs.lemmas.List.Sums.{sum_by-cons}
use Rattle.misra_base.specs.Guidelines.{same_guideline, all_guidelines}
use Rattle.misra_base.specs.declared.guideline.Guideline.{Guideline}
use Rattle.misra_base.specs.declared.guideline.Guideline.TheVariants.{D5_1, D5_2, D5_3, R15_4, R15_5, R17_7, R17_8, R21_25, R21_26, R22_11, R22_12, R22_13, R22_14, R22_15, R22_16, R22_17, R22_18, R22_19, R22_20}
use Rattle.misra_base.specs.declared.finding.Finding.{Finding}
use Rattle.misra_base.specs.declared.deviation.Deviation.{Deviation}
use Rattle.misra_base.specs.declared.category.Plan.{Plan}
use Rattle.compliance_core.specs.Covers.{is_deviated}
use Rattle.compliance_core.specs.Levels.{count_against, summary_row, uncovered_of, deviated_of}
use Rattle.compliance_core.specs.Laws.{findings_in, RowsHaveAll, SummaryHasAll}

one : (a b : Bool) → cond (a && not b) 1 0 + cond (a && b) 1 0 ≡ cond a 1 0
one true true = refl
one true false = refl
one false b = refl

split : {X : Type 0} (p q : X → Bool) (xs : List X) → count_by (λ x. p x && not (q x)) xs + count_by (λ x. p x && q x) xs ≡ count_by p xs
split p q [] = refl
split p q (x ∷ xs) =
    let left = sum_by-cons (λ y. cond (p y && not (q y)) 1 0) x xs in
    let right = sum_by-cons (λ y. cond (p y && q y) 1 0) x xs in
    let whole = sum_by-cons (λ y. cond (p y) 1 0) x xs in
    let rest = split p q xs in
    let first = one (p x) (q x) in
    omega (arith, left, right, whole, rest, first)

-- the findings of a guideline are those that are covered and those that are not
pub all_counted : (plan : Plan) (deviations : List Deviation) (findings : List Finding) (g : Guideline)
    → uncovered_of plan deviations findings g + deviated_of plan deviations findings g ≡ count_against g findings
unfolding uncovered_of deviated_of
all_counted plan deviations findings g = split (λ f. same_guideline f.guideline g) (λ f. is_deviated plan deviations f) findings

pub rows_have_all : RowsHaveAll
unfolding summary_row uncovered_of deviated_of
rows_have_all plan deviations findings g = split (λ f. same_guideline f.guideline g) (λ f. is_deviated plan deviations f) findings

sum_by-plus : {X : Type 0} (a b : X → ℕ) (xs : List X) → sum_by (λ x. a x + b x) xs ≡ sum_by a xs + sum_by b xs
sum_by-plus a b [] = refl
sum_by-plus a b (x ∷ xs) =
    let both = sum_by-cons (λ y. a y + b y) x xs in
    let left = sum_by-cons a x xs in
    let right = sum_by-cons b x xs in
    let rest = sum_by-plus a b xs in
    omega (arith, both, left, right, rest)

-- each guideline is one of the nineteen
once : (g : Guideline) → sum_by (λ h. cond (same_guideline g h) 1 0) all_guidelines ≡ 1
once D5_1 = refl
once D5_2 = refl
once D5_3 = refl
once R15_4 = refl
once R15_5 = refl
once R17_7 = refl
once R17_8 = refl
once R21_25 = refl
once R21_26 = refl
once R22_11 = refl
once R22_12 = refl
once R22_13 = refl
once R22_14 = refl
once R22_15 = refl
once R22_16 = refl
once R22_17 = refl
once R22_18 = refl
once R22_19 = refl
once R22_20 = refl

counted : (findings : List Finding) → sum_by (λ g. count_against g findings) all_guidelines ≡ length findings
counted [] = refl
counted (f ∷ fs) =
    let apart : sum_by (λ g. count_against g (f ∷ fs)) all_guidelines ≡ sum_by (λ g. cond (same_guideline f.guideline g) 1 0 + count_against g fs) all_guidelines =
    λ i. sum_by (λ g. sum_by-cons (λ x. cond (same_guideline x.guideline g) 1 0) f fs i) all_guidelines in
    let sums = sum_by-plus (λ g. cond (same_guideline f.guideline g) 1 0) (λ g. count_against g fs) all_guidelines in
    let first = once f.guideline in
    let rest = counted fs in
    apart ∙ sums ∙ added first rest
  where
    added : {a b n : ℕ} → a ≡ 1 → b ≡ n → a + b ≡ suc n
    added first rest = omega (arith, first, rest)

sum_by-map : {X Y : Type 0} (f : Y → ℕ) (h : X → Y) (xs : List X) → sum_by f (map h xs) ≡ sum_by (λ x. f (h x)) xs
sum_by-map f h [] = refl
sum_by-map f h (x ∷ xs) = sum_by-cons f (h x) (map h xs) ∙ ap (λ n. f (h x) + n) (sum_by-map f h xs) ∙ sym (sum_by-cons (λ y. f (h y)) x xs)

pub summary_has_all : SummaryHasAll
summary_has_all plan deviations findings =
    sum_by-map findings_in (summary_row plan deviations findings) all_guidelines
    ∙ (λ i. sum_by (λ g. rows_have_all plan deviations findings g i) all_guidelines) ∙ counted findings
