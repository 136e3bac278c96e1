-- Values of an enumeration: the byte of the variant, and its fields.
use Rattle.std.proofs.Common.{◌≡◌, ℕ, Bool, true, false, cond, eqb, List, ◌∷◌, ◌++◌, Option, Some, refl, ap, subst}
use Rattle.std.proofs.lemmas.Bool.{eqb-true}
use Rattle.desk_coding.specs.Codings.{Coding}
use Rattle.desk_coding.specs.Commands.{made}
use Rattle.desk_coding.proofs.Exactness.{Exact, IsBytes, map_some}

one_by : {A G S : Type 0} (b : Bool) (first others : Option A) (y : A) → (b ≡ true → S) → cond b first others ≡ Some y
    → (S → first ≡ Some y → G) → (others ≡ Some y → G) → G
one_by true first others y same e here later = here (same refl) e
one_by false first others y same e here later = later e

-- the number is this one, or the others are asked
pub one_of : {A G : Type 0} (number k : ℕ) (first others : Option A) (y : A) → cond (eqb number k) first others ≡ Some y
    → (number ≡ k → first ≡ Some y → G) → (others ≡ Some y → G) → G
one_of number k first others y e here later = one_by (eqb number k) first others y (eqb-true number k) e here later

abbrev pub TakenSo : {X : Type 0} → (X → List ℕ) → (X → Bool) → List ℕ → X × List ℕ → Type 0
TakenSo written fits bytes y = (bytes ≡ written y.0 ++ y.1) × (fits y.0 ≡ true)

pub by_variant : {X P : Type 0} (coding : Coding P) → Exact coding → (written : X → List ℕ) (fits : X → Bool) (variant : P → X) (k : ℕ)
    → ((p : P) → written (variant p) ≡ k ∷ coding.written p) → ((p : P) → fits (variant p) ≡ coding.fits p)
    → (number : ℕ) (bytes : List ℕ) (y : X × List ℕ) → IsBytes bytes → number ≡ k → made coding variant bytes ≡ Some y → TakenSo written fits (number ∷ bytes) y
by_variant coding exact written fits variant k w f number bytes y is n e =
    let m = map_some (λ p. (variant p.0, p.1)) (coding.front bytes) y e in
    let t = exact.takes bytes m.0.0 m.0.1 is m.1 in
    subst (TakenSo written fits (number ∷ bytes)) m.2 (rw (n, w m.0.0, f m.0.0) (ap (λ (z : List ℕ). k ∷ z) t.0, t.1))
