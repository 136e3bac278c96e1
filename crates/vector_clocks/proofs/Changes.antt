-- A clock that is taken out, changed and put back.
use Rattle.std.proofs.Common.{◌≡◌, ◌≢◌, sym, ap, ◌∙◌, ℕ, ◌==◌, cond, eqb-true}
use Rattle.std.proofs.lemmas.Bool.{eqb-false}
use Rattle.vector_clocks.specs.Clocks.{Counts}
use Rattle.vector_clocks.specs.Held.{changed}
use Rattle.vector_clocks.proofs.Cases.{same_function, tested}

pub put_back : (old rest new : ℕ → Counts) (key : ℕ) (own now : Counts) (change : Counts → Counts) → own ≡ old key → ((other : ℕ) → key ≢ other → rest other ≡ old other)
    → now ≡ change own → new ≡ changed rest key (λ _. now) → new ≡ changed old key change
put_back old rest new key own now change was elsewhere is put = put ∙ same_function _ _ (λ other. tested (key == other)
    (λ same. ap (λ b. cond b now (rest other)) same ∙ is ∙ ap change (was ∙ ap old (eqb-true key other same)) ∙ sym (ap (λ b. cond b (change (old other)) (old other)) same))
    (λ differs. ap (λ b. cond b now (rest other)) differs ∙ elsewhere other (eqb-false key other differs) ∙ sym (ap (λ b. cond b (change (old other)) (old other)) differs)))
