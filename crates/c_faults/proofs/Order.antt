-- The first fault is one of the faults, and none stands before it.
use Rattle.std.proofs.Common.{◌≡◌, inl, inr, true, false, List, [], ◌∷◌, Option, Some, None, IfSome, IfNone, ℕ, length, drop, ap, ◌∙◌, refl, sym, subst, arith}
use Rattle.std.proofs.lemmas.Bool.{cases_Bool}
use Rattle.std.proofs.Math.Seq.{drop-length}
use Rattle.std.proofs.lemmas.Bool.Decides.{nat_tests}
use Rattle.std.specs.Prelude.{if◌then◌else◌, nat_lt, Bool}
use Rattle.c_faults.specs.declared.fault.Fault.{Fault}
use Rattle.c_faults.specs.Faults.{rank, less_or, is_earlier, earlier, first_behind, first_fault, IsFirst}

-- ---- by two numbers, and where they are equal by what follows

less_irreflexive : (m : ℕ) (r : Bool) → r ≡ false → less_or m m r ≡ false
less_irreflexive m r e = grind (arith, nat_tests)

less_asymmetric : (m n : ℕ) (r s : Bool) → (r ≡ true → s ≡ false) → less_or m n r ≡ true → less_or n m s ≡ false
less_asymmetric m n r s rest e = grind (arith, nat_tests)

less_none : (m n k : ℕ) (r s t : Bool) → (r ≡ false → s ≡ false → t ≡ false) → less_or m n r ≡ false → less_or n k s ≡ false
    → less_or m k t ≡ false
less_none m n k r s t rest e f = grind (arith, nat_tests)

lt_irreflexive : (m : ℕ) → nat_lt m m ≡ false
lt_irreflexive m = grind (arith, nat_tests)

lt_asymmetric : (m n : ℕ) → nat_lt m n ≡ true → nat_lt n m ≡ false
lt_asymmetric m n e = grind (arith, nat_tests)

lt_none : (m n k : ℕ) → nat_lt m n ≡ false → nat_lt n k ≡ false → nat_lt m k ≡ false
lt_none m n k e f = grind (arith, nat_tests)

irreflexive : (a : Fault) → is_earlier a a ≡ false
irreflexive a =
    less_irreflexive a.place.line _ (less_irreflexive a.place.column _ (less_irreflexive a.code _ (lt_irreflexive (rank a.name))))

asymmetric : (a b : Fault) → is_earlier a b ≡ true → is_earlier b a ≡ false
asymmetric a b e =
    less_asymmetric a.place.line b.place.line _ _
    (less_asymmetric a.place.column b.place.column _ _
    (less_asymmetric a.code b.code _ _ (lt_asymmetric (rank a.name) (rank b.name)))) e

no_earlier : (a b c : Fault) → is_earlier a b ≡ false → is_earlier b c ≡ false → is_earlier a c ≡ false
no_earlier a b c e f =
    less_none a.place.line b.place.line c.place.line _ _ _
    (less_none a.place.column b.place.column c.place.column _ _ _
    (less_none a.code b.code c.code _ _ _ (lt_none (rank a.name) (rank b.name) (rank c.name)))) e f

same_some : {A : Type 0} {x y : A} → Some x ≡ Some y → x ≡ y
same_some e = cc

-- the earlier of the first two stands for both
two_first : (seen f fault : Fault) (fs : List Fault) → IsFirst (earlier f (Some seen) ∷ fs) fault → IsFirst (seen ∷ f ∷ fs) fault
two_first seen f fault fs first = elim (cases_Bool (is_earlier f seen)) [
  | inl e ↦
      let here : IsFirst (f ∷ fs) fault = subst (λ b. IsFirst ((if b then f else seen) ∷ fs) fault) e first in
      record { is_one = inr here.is_one; none_before = (no_earlier seen f fault (asymmetric f seen e) here.none_before.0, here.none_before) }
  | inr e ↦
      let here : IsFirst (seen ∷ fs) fault = subst (λ b. IsFirst ((if b then f else seen) ∷ fs) fault) e first in
      record {
        is_one = elim here.is_one [ inl is ↦ inl is | inr rest ↦ inr (inr rest) ];
        none_before = (here.none_before.0, (no_earlier f seen fault e here.none_before.0, here.none_before.1));
      }
]

first_of_all : (seen : Fault) (faults : List Fault) (fault : Fault) → first_behind (Some seen) faults ≡ Some fault → IsFirst (seen ∷ faults) fault
first_of_all seen [] fault e =
    record { is_one = inl (sym (same_some e)); none_before = (subst (λ f. is_earlier seen f ≡ false) (same_some e) (irreflexive seen), tt) }
first_of_all seen (f ∷ fs) fault e = two_first seen f fault fs (first_of_all (earlier f (Some seen)) fs fault e)

pub is_first : (faults : List Fault) (fault : Fault) → first_fault faults ≡ Some fault → IsFirst faults fault
is_first [] fault e = absurd cc
is_first (f ∷ fs) fault e = first_of_all f fs fault e

none_gone : (seen : Fault) (faults : List Fault) → first_behind (Some seen) faults ≡ None → ⊥
none_gone seen [] e = cc
none_gone seen (f ∷ fs) e = none_gone (earlier f (Some seen)) fs e

pub has_none : (faults : List Fault) → first_fault faults ≡ None → faults ≡ []
has_none [] e = refl
has_none (f ∷ fs) e = absurd (none_gone f fs e)

-- the same of what a call answers
pub answered : (faults : List Fault) (answer : Option Fault) → answer ≡ first_fault faults → IfSome answer (IsFirst faults)
answered faults None e = tt
answered faults (Some fault) e = is_first faults fault (sym e)

pub unanswered : (faults : List Fault) (answer : Option Fault) → answer ≡ first_fault faults → IfNone answer (faults ≡ [])
unanswered faults None e = has_none faults (sym e)
unanswered faults (Some fault) e = tt

pub ended : (first : Option Fault) (faults : List Fault) (k : ℕ) → k ≡ length faults → first_behind first (drop k faults) ≡ first_fault faults
    → first ≡ first_fault faults
ended first faults k e goes = ap (first_behind first) (sym (drop-length faults)) ∙ ap (λ n. first_behind first (drop n faults)) (sym e) ∙ goes
