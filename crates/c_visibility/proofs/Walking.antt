-- One event more of a list that is walked.
use Rattle.std.proofs.Common.{◌≡◌, ◌∙◌, ℕ, ◌+◌, ◌<◌, List, [], ◌∷◌, ◌++◌, length, take, drop, reverse, get_or, sym, ap}
use Rattle.std.proofs.lemmas.List.{append_assoc, at_drop_more, take_more, reverse-append}
use Rattle.c_visibility.specs.declared.spelled.Spelled.{Spelled}
use Rattle.c_visibility.specs.declared.seen.Seen.{Seen}
use Rattle.c_visibility.specs.Seen.{seen_at, seen_behind}

pub goes_on : (xs : List Spelled) (i : ℕ) (d : Spelled) → i < length xs → reverse (take (i + 1) xs) ≡ get_or xs i d ∷ reverse (take i xs)
goes_on xs i d lt = ap (λ (ys : List Spelled). reverse ys) (take_more xs i d lt) ∙ reverse-append (take i xs) (get_or xs i d ∷ [])

pub walked : (xs : List Spelled) (i : ℕ) (d : Spelled) (old new : List Seen) (seen : Seen) (whole : List Seen) → i < length xs
    → new ≡ old ++ seen ∷ [] → seen ≡ seen_at (reverse (take i xs)) (get_or xs i d)
    → old ++ seen_behind (reverse (take i xs)) (drop i xs) ≡ whole
    → new ++ seen_behind (reverse (take (i + 1) xs)) (drop (i + 1) xs) ≡ whole
walked xs i d old new seen whole lt pushed is was =
    ap (λ (ys : List Seen). ys ++ seen_behind (reverse (take (i + 1) xs)) (drop (i + 1) xs)) pushed
    ∙ append_assoc old (seen ∷ []) (seen_behind (reverse (take (i + 1) xs)) (drop (i + 1) xs))
    ∙ ap (λ (s : Seen). old ++ s ∷ seen_behind (reverse (take (i + 1) xs)) (drop (i + 1) xs)) is
    ∙ ap (λ (b : List Spelled). old ++ seen_at (reverse (take i xs)) (get_or xs i d) ∷ seen_behind b (drop (i + 1) xs)) (goes_on xs i d lt)
    ∙ sym (at_drop_more (λ (ys : List Spelled). old ++ seen_behind (reverse (take i xs)) ys) xs i d lt)
    ∙ was
