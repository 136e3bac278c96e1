-- The values of a line, put into their places one after the other.
use Rattle.std.proofs.Common.{◌≡◌, ◌<◌, ◌+◌, ℕ, ◌==◌, List, [], ◌∷◌, length, map, refl, sym, ap, ◌∙◌, arith, Some, None, Option}
use Rattle.std.specs.Prelude.{ℤ, pos, slice_set, if◌then◌else◌}
use Rattle.std.specs.List.{slice_split}
use Rattle.std.proofs.lemmas.List.Splits.{length-slice_split}
use Rattle.std.proofs.lemmas.Bool.{ne_eqb}
use Rattle.schedules.specs.Lines.{values_of, value}

-- further values behind those that stand
abbrev pub filled : List ℤ → ℕ → List (Option ℤ) → Option (List ℤ × ℕ)
filled values count [] = Some (values, count)
filled values count (None ∷ more) = None
filled values count (Some z ∷ more) = if count == 3 then None else filled (slice_set values count z) (count + 1) more

pub filled_from_none : (all : List (Option ℤ)) → filled (pos 0 ∷ pos 0 ∷ pos 0 ∷ []) 0 all ≡ values_of all
filled_from_none [] = refl
filled_from_none (None ∷ more) = refl
filled_from_none (Some a ∷ []) = refl
filled_from_none (Some a ∷ None ∷ more) = refl
filled_from_none (Some a ∷ Some b ∷ []) = refl
filled_from_none (Some a ∷ Some b ∷ None ∷ more) = refl
filled_from_none (Some a ∷ Some b ∷ Some c ∷ []) = refl
filled_from_none (Some a ∷ Some b ∷ Some c ∷ None ∷ more) = refl
filled_from_none (Some a ∷ Some b ∷ Some c ∷ Some d ∷ more) = refl

-- a fourth value is one too many, whether it is one or not
pub full : (values : List ℤ) (o : Option ℤ) (more : List (Option ℤ)) → filled values 3 (o ∷ more) ≡ None
full values None more = refl
full values (Some z) more = refl

one_filled : (values : List ℤ) (count : ℕ) (z : ℤ) (more : List (Option ℤ)) → count < 3
    → filled values count (Some z ∷ more) ≡ filled (slice_set values count z) (count + 1) more
one_filled values count z more below = ap (λ b. if b then None else filled (slice_set values count z) (count + 1) more) (ne_eqb count 3 (λ e. omega arith))

full_of : (values : List ℤ) (pieces : List (List ℕ)) → 0 < length pieces → filled values 3 (map value pieces) ≡ None
full_of values [] some = absurd (omega arith)
full_of values (piece ∷ more) some = full values (value piece) (map value more)

some_piece : (text : List ℕ) → 0 < length (slice_split (λ b. b == 32) text)
some_piece text = let e : length (slice_split (λ b. b == 32) text) ≡ _ = length-slice_split (λ b. b == 32) text in omega (arith, e)

-- more than three fields write nothing
pub too_many : (values : List ℤ) (count : ℕ) (text : List ℕ) (all : List (Option ℤ)) → count ≡ 3
    → filled values count (map value (slice_split (λ b. b == 32) text)) ≡ filled (pos 0 ∷ pos 0 ∷ pos 0 ∷ []) 0 all → None ≡ values_of all
too_many values count text all three is =
    sym (full_of values (slice_split (λ b. b == 32) text) (some_piece text))
    ∙ ap (λ k. filled values k (map value (slice_split (λ b. b == 32) text))) (sym three) ∙ is ∙ filled_from_none all

-- a field that writes a value
pub next_filled : (values : List ℤ) (count : ℕ) (z : ℤ) (text field : List ℕ) (more : List (List ℕ)) → count < 3
    → slice_split (λ b. b == 32) text ≡ field ∷ more → Some z ≡ value field
    → filled (slice_set values count z) (count + 1) (map value more) ≡ filled values count (map value (slice_split (λ b. b == 32) text))
next_filled values count z text field more below pieces is =
    sym (one_filled values count z (map value more) below) ∙ ap (λ o. filled values count (o ∷ map value more)) is ∙ ap (λ all. filled values count (map value all)) (sym pieces)

-- a field that writes none
pub none_filled : (values : List ℤ) (count : ℕ) (text field : List ℕ) (more : List (List ℕ)) (all : List (Option ℤ))
    → slice_split (λ b. b == 32) text ≡ field ∷ more → None ≡ value field
    → filled values count (map value (slice_split (λ b. b == 32) text)) ≡ filled (pos 0 ∷ pos 0 ∷ pos 0 ∷ []) 0 all → None ≡ values_of all
none_filled values count text field more all pieces none is =
    ap (λ o. filled values count (o ∷ map value more)) none ∙ ap (λ all. filled values count (map value all)) (sym pieces) ∙ is ∙ filled_from_none all

pub all_filled : (values : List ℤ) (count : ℕ) (all : List (Option ℤ)) → filled values count [] ≡ filled (pos 0 ∷ pos 0 ∷ pos 0 ∷ []) 0 all → Some (values, count) ≡ values_of all
all_filled values count all is = is ∙ filled_from_none all
