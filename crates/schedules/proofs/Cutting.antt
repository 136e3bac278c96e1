-- A text cut at a byte is the pieces that a split gives.
use Rattle.std.proofs.Common.{◌≡◌, ◌<◌, ◌+◌, ℕ, Bool, false, ◌==◌, List, [], ◌∷◌, length, take, drop, get_or, sym, ap, ◌∙◌, subst, arith, ◌-◌, eq-eqb, length-drop}
use Rattle.std.proofs.lemmas.List.{take_all}
use Rattle.std.specs.List.{slice_split, position_or_len}
use Rattle.std.proofs.lemmas.List.Splits.{slice_split_first, slice_split_none}
use Rattle.std.proofs.lemmas.List.Sums.{position_or_len_is}
use Rattle.std.proofs.lemmas.List.Elements.{All-from_get_or}

split_at_position : (p : ℕ → Bool) (xs : List ℕ) (i : ℕ) → position_or_len p xs ≡ i → i < length xs
    → slice_split p xs ≡ take i xs ∷ slice_split p (drop (i + 1) xs)
split_at_position p xs i is below =
    slice_split_first p xs 0 (let P : ℕ → Type 0 = λ n. n < length xs in subst P (sym is) below)
    ∙ ap (λ n. take n xs ∷ slice_split p (drop (n + 1) xs)) is

pub cut_at : (text : List ℕ) (at i : ℕ) → i < length text → ((k : ℕ) → k < i → (get_or text k 0 == at) ≡ false) → get_or text i 0 ≡ at
    → slice_split (λ b. b == at) text ≡ take i text ∷ slice_split (λ b. b == at) (take (length text - (i + 1)) (drop (i + 1) text))
cut_at text at i below passed found =
    split_at_position (λ b. b == at) text i (position_or_len_is (λ b. b == at) text i 0 (omega arith) passed (λ h. eq-eqb (get_or text i 0) at found)) below
    ∙ ap (λ rest. take i text ∷ slice_split (λ b. b == at) rest) (sym (take_all (length text - (i + 1)) (drop (i + 1) text) (omega (arith, length-drop (i + 1) text))))

pub cut_nowhere : (text : List ℕ) (at : ℕ) → ((k : ℕ) → k < length text → (get_or text k 0 == at) ≡ false)
    → slice_split (λ b. b == at) text ≡ text ∷ []
cut_nowhere text at passed = slice_split_none (λ b. b == at) text (All-from_get_or (λ b. (b == at) ≡ false) text 0 passed)
