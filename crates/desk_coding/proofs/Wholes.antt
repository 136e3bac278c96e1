-- All of the bytes.
use Rattle.std.proofs.Common.{◌≡◌, ◌∙◌, ℕ, true, eqb, List, [], ◌++◌, length, Option, Some, None, refl, ap, sym, subst}
use Rattle.std.proofs.lemmas.Bool.{eqb-true}
use Rattle.std.proofs.lemmas.List.{append-nil, nil_from_length}
use Rattle.std.proofs.lemmas.Option.{cond_some, none-some}
use Rattle.desk_coding.specs.Codings.{Coding, ended, whole}
use Rattle.desk_coding.specs.Taking.{Takes}
use Rattle.desk_coding.proofs.Exactness.{Exact, IsBytes, then_some}

pub whole_again : {X : Type 0} (coding : Coding X) → Exact coding → (x : X) → coding.fits x ≡ true → whole coding (coding.written x) ≡ Some x
whole_again coding exact x fits =
    let front : coding.front (coding.written x) ≡ Some (x, []) = ap coding.front (sym (append-nil (coding.written x))) ∙ exact.again x [] fits in
    rw front refl

pub whole_taken : {X : Type 0} (coding : Coding X) → Exact coding → (bytes : List ℕ) (x : X) → IsBytes bytes → whole coding bytes ≡ Some x
    → (coding.fits x ≡ true) × (bytes ≡ coding.written x)
whole_taken coding exact bytes x is e =
    let m = then_some ended (coding.front bytes) x e in
    let t = exact.takes bytes m.0.0 m.0.1 is m.1 in
    let g = cond_some (eqb (length m.0.1) 0) m.0.0 x m.2 in
    let nothing : m.0.1 ≡ [] = nil_from_length m.0.1 (eqb-true _ _ g.0) in
    let all : bytes ≡ coding.written m.0.0 = t.0 ∙ ap (λ (z : List ℕ). coding.written m.0.0 ++ z) nothing ∙ append-nil (coding.written m.0.0) in
    subst (λ y. (coding.fits y ≡ true) × (bytes ≡ coding.written y)) g.1 (t.1, all)

-- what was read of all of the bytes
pub takes_whole : {X : Type 0} (coding : Coding X) → Exact coding → (bytes : List ℕ) (read : Option X) → IsBytes bytes → whole coding bytes ≡ read → Takes coding bytes read
takes_whole coding exact bytes (Some x) is e = whole_taken coding exact bytes x is e
takes_whole coding exact bytes None is e = λ x fits same. none-some x (sym e ∙ ap (whole coding) same ∙ whole_again coding exact x fits)
