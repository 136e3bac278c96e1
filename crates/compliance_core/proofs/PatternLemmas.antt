-- What is filled behind the first part of a pattern.
use Rattle.std.proofs.Common.{◌≡◌, ◌≢◌, ℕ, eqb, ◌<◌, true, false, List, [], ◌∷◌, ◌++◌, length, get_or, take, drop, Option, Some, None, MatchOption, refl, sym, ap, ◌∙◌, subst, arith, codes}
use Rattle.std.specs.Option.{option_map_or}
use Rattle.std.proofs.lemmas.Bool.{cond-false, ne_eqb}
use Rattle.std.proofs.lemmas.Slice.Eq.{bytes_eq-Decides}
use Rattle.compliance_core.specs.Patterns.{after_byte, after_index, begins_with_any, filled_past, is_filled}

-- what is left of pattern and text, and that the pattern is shorter
abbrev pub Left : List ℕ → List ℕ → List ℕ → Option (List ℕ) → Type 0
Left pattern text rest behind =
    MatchOption behind (is_filled pattern text ≡ false) (λ b. (is_filled pattern text ≡ is_filled rest b) × (length rest < length pattern))

split_front : (xs : List ℕ) → take 3 xs ++ drop 3 xs ≡ xs
split_front [] = refl
split_front (a ∷ []) = refl
split_front (a ∷ b ∷ []) = refl
split_front (a ∷ b ∷ c ∷ xs) = refl

pub any_shape : (pattern : List ℕ) → begins_with_any pattern ≡ true → pattern ≡ codes "[*]" ++ drop 3 pattern
any_shape pattern h =
    let front : take 3 pattern ≡ codes "[*]" = (bytes_eq-Decides (take 3 pattern) (codes "[*]")).0 h in
    sym (split_front pattern) ∙ ap (λ xs. xs ++ drop 3 pattern) front

filled_any : (rest text : List ℕ) (behind : Option (List ℕ)) → after_index text ≡ behind → Left (codes "[*]" ++ rest) text rest behind
unfolding is_filled
filled_any rest text None e = ap (λ b. option_map_or (filled_past 0 rest) b false) e
filled_any rest text (Some b) e = (ap (λ o. option_map_or (filled_past 0 rest) o false) e, omega arith)

pub left_of_any : (pattern text rest : List ℕ) (behind : Option (List ℕ)) → begins_with_any pattern ≡ true → rest ≡ drop 3 pattern → after_index text ≡ behind → Left pattern text rest behind
left_of_any pattern text rest behind h r e =
    subst (λ x. Left pattern text x behind) (sym r) (subst (λ p. Left p text (drop 3 pattern) behind) (sym (any_shape pattern h)) (filled_any (drop 3 pattern) text behind e))

pub left_of_byte : (pattern text rest : List ℕ) (behind : Option (List ℕ)) → pattern ≢ [] → begins_with_any pattern ≡ false → rest ≡ drop 1 pattern → after_byte (get_or pattern 0 0) text ≡ behind → Left pattern text rest behind
unfolding is_filled
left_of_byte [] text rest behind some h r e = absurd (some refl)
left_of_byte (c ∷ pattern) text rest behind some h r e = subst (λ x. Left (c ∷ pattern) text x behind) (sym r) (next behind e)
  where
    other : is_filled (c ∷ pattern) text ≡ option_map_or (filled_past 0 pattern) (after_byte c text) false
    other = cond-false (begins_with_any (c ∷ pattern)) (option_map_or (filled_past 2 pattern) (after_index text) false) (option_map_or (filled_past 0 pattern) (after_byte c text) false) h

    next : (behind : Option (List ℕ)) → after_byte c text ≡ behind → Left (c ∷ pattern) text pattern behind
    next None e = other ∙ ap (λ o. option_map_or (filled_past 0 pattern) o false) e
    next (Some b) e = (other ∙ ap (λ o. option_map_or (filled_past 0 pattern) o false) e, omega arith)

-- the empty pattern is filled by the empty text alone
pub filled_by_end : (pattern text : List ℕ) → length pattern ≡ 0 → eqb (length text) 0 ≡ is_filled pattern text
unfolding is_filled
filled_by_end [] [] h = refl
filled_by_end [] (b ∷ text) h = ne_eqb (length (b ∷ text)) 0 (λ e. omega arith)
filled_by_end (c ∷ pattern) text h = absurd (omega arith)
