-- Without a dependent finding the rules of the text have no finding of their own.
use Rattle.std.proofs.Common.{◌≡◌, inl, inr, true, ℕ, zero, suc, ◌<◌, arith}
use Rattle.misra_base.specs.declared.guideline.Guideline.{Guideline}
use Rattle.misra_base.specs.declared.place.Place.{Place}
use Rattle.c_program.specs.declared.program.Program.{Program}
use Rattle.static_facts.specs.Facts.{Facts}
use Rattle.guideline_findings.specs.Findings.{dependent, is_semantic, IsEarlier, IsFoundInText, IsClean}
use Rattle.guideline_findings.specs.Silence.{HasCleanText}

-- what holds nowhere first holds nowhere
module _ (P : Place → Type 0) (none : (p : Place) → P p → ((q : Place) → P q → IsEarlier q p → ⊥) → ⊥) where
  earlier_line : (a b n : ℕ) → a < b → b < suc n → a < n
  earlier_line a b n l k = omega arith

  same_line : (a b n : ℕ) → a ≡ b → b < suc n → a < suc n
  same_line a b n e l = omega arith

  across : (n : ℕ) → ((q : Place) → q.line < n → P q → ⊥) → (m : ℕ) → (p : Place) → p.line < suc n → p.column < m → P p → ⊥
  across n before zero p l c x = absurd (omega arith)
  across n before (suc m) p l c x = none p x (λ q y e. elim e [
    | inl k ↦ before q (earlier_line q.line p.line n k l) y
    | inr k ↦ across n before m q (same_line q.line p.line n k.0 l) (earlier_line q.column p.column m k.1 c) y
  ])

  below : (n : ℕ) → (q : Place) → q.line < n → P q → ⊥
  below zero q l x = absurd (omega arith)
  below (suc n) q l x = across n (below n) (suc q.column) q l (omega arith) x

  pub nowhere : (p : Place) → P p → ⊥
  nowhere p x = below (suc p.line) p (omega arith) x

pub clean_text : (program : Program) (facts : Facts) (guideline : Guideline) → is_semantic guideline ≡ true → IsClean program facts guideline → HasCleanText program facts
clean_text program facts guideline semantic clean = nowhere (IsFoundInText program facts)
    (λ p x first. clean p _ _ _ (dependent p semantic (record { found = x; first = first })))
