-- Values that are made one after the other.
use Rattle.std.proofs.Common.{◌≡◌, ◌<◌, ◌≤◌, ◌+◌, ℕ, List, [], ◌∷◌, ◌++◌, length, map, take, get_or, sym, ap, ◌∙◌, arith}
use Rattle.std.proofs.lemmas.Grind.{common_steps}
use Rattle.serde_json.specs.Data.{Data}
use Rattle.serde_json.specs.View.{view}
use Rattle.serde_json.specs.declared.value.Value.{Value}

one_more : {A B : Type 0} (f : A → B) (xs : List A) (i : ℕ) (d : A) → i < length xs → map f (take (i + 1) xs) ≡ map f (take i xs) ++ f (get_or xs i d) ∷ []
one_more f xs i d below = grind (arith, common_steps)

last_of : {A B : Type 0} (f : A → B) (xs : List A) (x : A) → map f (xs ++ x ∷ []) ≡ map f xs ++ f x ∷ []
last_of f xs x = grind (arith, common_steps)

pub made_next : {A : Type 0} (f : A → Data) (rows : List A) (i : ℕ) (d : A) (before after : List Value) (value : Value) → map view before ≡ map f (take i rows)
    → i < length rows → view value ≡ f (get_or rows i d) → after ≡ before ++ value ∷ [] → map view after ≡ map f (take (i + 1) rows)
made_next f rows i d before after value so_far below is added =
    ap (map view) added ∙ last_of view before value ∙ ap (λ l. l ++ view value ∷ []) so_far ∙ ap (λ v. map f (take i rows) ++ v ∷ []) is ∙ sym (one_more f rows i d below)

pub made_all : {A : Type 0} (f : A → Data) (rows : List A) (i : ℕ) (values : List Value) → map view values ≡ map f (take i rows) → length rows ≤ i → map view values ≡ map f rows
made_all f rows i values so_far all =
    let whole : take i rows ≡ rows = grind (arith, common_steps, all) in
    so_far ∙ ap (map f) whole
