-- Six pieces, one behind the other.
use Rattle.std.proofs.Common.{◌≡◌, ℕ, List, [], ◌++◌, ap, ◌∙◌}

pub joined : (s a f g e b o o1 o2 o3 o4 o5 o6 : List ℕ) → o ≡ [] → o1 ≡ o ++ s → o2 ≡ o1 ++ a → o3 ≡ o2 ++ f → o4 ≡ o3 ++ g → o5 ≡ o4 ++ e → o6 ≡ o5 ++ b
    → o6 ≡ s ++ a ++ f ++ g ++ e ++ b
joined s a f g e b o o1 o2 o3 o4 o5 o6 p p1 p2 p3 p4 p5 p6 =
    p6 ∙ ap (λ l. l ++ b) (p5 ∙ ap (λ l. l ++ e) (p4 ∙ ap (λ l. l ++ g) (p3 ∙ ap (λ l. l ++ f) (p2 ∙ ap (λ l. l ++ a) (p1 ∙ ap (λ l. l ++ s) p)))))
