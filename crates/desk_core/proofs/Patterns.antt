-- A test of the rest of a text, place by place.
use Rattle.std.proofs.Common.{◌≡◌, ◌∙◌, ◌<◌, ◌+◌, ◌-◌, ◌||◌, ℕ, List, ◌∷◌, false, length, take, drop, get_or, ap, subst, sym, length-drop}
use Rattle.std.proofs.Math.Seq.{take-length}
use Rattle.std.proofs.lemmas.List.{at_drop_more}
use Rattle.desk_core.specs.Patterns.{begins_with_any_index, has_any_index}

pub goes_on : (text : List ℕ) (i : ℕ) → i < length text → begins_with_any_index (take (length text - i) (drop i text)) ≡ false
    → has_any_index (drop i text) ≡ has_any_index (drop (i + 1) text)
goes_on text i h none =
    let whole : take (length text - i) (drop i text) ≡ drop i text = ap (λ (n : ℕ). take n (drop i text)) (sym (length-drop i text)) ∙ take-length (drop i text) in
    let e : drop i text ≡ get_or text i 0 ∷ drop (i + 1) text = at_drop_more (λ (l : List ℕ). l) text i 0 h in
    ap has_any_index e ∙ ap (λ b. b || has_any_index (drop (i + 1) text)) (subst (λ (l : List ℕ). begins_with_any_index l ≡ false) (whole ∙ e) none)
