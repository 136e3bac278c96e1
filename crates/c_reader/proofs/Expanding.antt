-- The right side that a left side was expanded by.
use Rattle.std.proofs.Common.{◌≡◌, ◌∙◌, ◌<◌, ◌⊎◌, inl, inr, ℕ, zero, suc, Bool, true, false, not, ◌==◌, ◌&&◌, ◌||◌, cond, if◌then◌else◌, nat_lt, true≢false, List, [], ◌∷◌, map, take, length, slice_index_or, Contains, refl, sym, ap, subst, arith}
use Rattle.ll_core.specs.declared.production.Production.{Production}
use Rattle.ll_core.specs.Predictions.{first_or}
use Rattle.ll_core.specs.Trees.{right_of, end_of_text}
use Rattle.c_tables.specs.declared.tables.TheConstants.{PRODUCTIONS}
use Rattle.c_tables.specs.declared.nonterminal.Nonterminal.{Nonterminal}
use Rattle.c_tables.specs.Grammar.{left_side, rights}
use Rattle.c_tables.specs.Productions.{rights_in, begins, are_apart}
use Rattle.c_tables.proofs.Rights.{rights_are, starts_are_apart}
use Rattle.c_reader.specs.States.{only, starting, right_from, firsts}

-- the list is one of the lists
abbrev pub Among : List (List ℕ) → List ℕ → Type 0
Among [] y = ⊥
Among (r ∷ rs) y = (y ≡ r) ⊎ Among rs y

skip : (b : Bool) (r y : List ℕ) (rs : List (List ℕ)) → Among rs y → Among (cond b (r ∷ rs) rs) y
skip true r y rs a = inr a
skip false r y rs a = a

take_it : (b : Bool) (r : List ℕ) (rs : List (List ℕ)) → b ≡ true → Among (cond b (r ∷ rs) rs) r
take_it true r rs e = inl refl
take_it false r rs e = absurd (true≢false (sym e))

same_test : (a b : ℕ) → a ≡ b → (a == b) ≡ true
same_test a b e = grind arith

-- a production's right side is one of those of its left side
among_rights : (g : List Production) (left k : ℕ) (p : Production) → k < length g → slice_index_or g k p ≡ p → p.left ≡ left → Among (rights_in g left) (right_of p)
among_rights [] left k p in_range is same = absurd (omega arith)
among_rights (q ∷ g) left zero p in_range is same =
    subst (λ (r : Production). Among (rights_in (r ∷ g) left) (right_of p)) (sym is) (take_it (p.left == left) (right_of p) (rights_in g left) (same_test p.left left same))
among_rights (q ∷ g) left (suc k) p in_range is same =
    let h : k < length g = omega arith in skip (q.left == left) (right_of q) (right_of p) (rights_in g left) (among_rights g left k p h is same)

pub right_among : (left : Nonterminal) (p : Production) → Contains PRODUCTIONS p → p.left ≡ left_side left → Among (rights left) (right_of p)
right_among left p c same =
    subst (λ (rs : List (List ℕ)). Among rs (right_of p)) (rights_are left) (among_rights PRODUCTIONS (left_side left) c.0 p c.1 c.2 same)

pub right_only : (left : Nonterminal) (p : Production) → Contains PRODUCTIONS p → p.left ≡ left_side left → rights left ≡ only left ∷ [] → right_of p ≡ only left
right_only left p c same one = go (subst (λ (rs : List (List ℕ)). Among rs (right_of p)) one (right_among left p c same))
  where
    go : Among (only left ∷ []) (right_of p) → right_of p ≡ only left
    go (inl e) = e
    go (inr e) = absurd e

-- ---- by what a right side begins with

apart_tail : (b c : Bool) → (not b && c) ≡ true → c ≡ true
apart_tail true c h = absurd (true≢false (sym h))
apart_tail false c h = h

apart_head : (b c : Bool) → (not b && c) ≡ true → b ≡ false
apart_head true c h = absurd (true≢false (sym h))
apart_head false c h = refl

or_false : (a b : Bool) → (a || b) ≡ false → (a ≡ false) × (b ≡ false)
or_false true b h = absurd (true≢false h)
or_false false b h = (refl, h)

choice : (b : Bool) (r x : List ℕ) → b ≡ true → cond b r x ≡ r
choice true r x e = refl
choice false r x e = absurd (true≢false (sym e))

other : (b : Bool) (r x : List ℕ) → b ≡ false → cond b r x ≡ x
other true r x e = absurd (true≢false e)
other false r x e = refl

not_begun : (first : ℕ) (rs : List (List ℕ)) (y : List ℕ) → begins first rs ≡ false → Among rs y → (first_or end_of_text y == first) ≡ false
not_begun first [] y h a = absurd a
not_begun first (r ∷ rs) y h (inl e) = ap (λ (w : List ℕ). first_or end_of_text w == first) e ∙ (or_false (first_or end_of_text r == first) (begins first rs) h).0
not_begun first (r ∷ rs) y h (inr a) = not_begun first rs y (or_false (first_or end_of_text r == first) (begins first rs) h).1 a

turned : (a b : ℕ) → (a == b) ≡ false → (b == a) ≡ false
turned a b h = grind arith

found : (rs : List (List ℕ)) (y : List ℕ) → are_apart rs ≡ true → Among rs y → starting (first_or end_of_text y) rs ≡ y
found [] y h a = absurd a
found (r ∷ rs) y h (inl e) =
    choice (first_or end_of_text r == first_or end_of_text y) r (starting (first_or end_of_text y) rs)
    (same_test (first_or end_of_text r) (first_or end_of_text y) (ap (first_or end_of_text) (sym e))) ∙ sym e
found (r ∷ rs) y h (inr a) =
    other (first_or end_of_text r == first_or end_of_text y) r (starting (first_or end_of_text y) rs)
    (turned (first_or end_of_text y) (first_or end_of_text r) (not_begun (first_or end_of_text r) rs y (apart_head (begins (first_or end_of_text r) rs) (are_apart rs) h) a))
    ∙ found rs y (apart_tail (begins (first_or end_of_text r) rs) (are_apart rs) h) a

pub right_begun : (left : Nonterminal) (p : Production) → Contains PRODUCTIONS p → p.left ≡ left_side left
    → right_from left (first_or end_of_text (right_of p)) ≡ right_of p
right_begun left p c same = found (rights left) (right_of p) (starts_are_apart left) (right_among left p c same)

first_among : (rs : List (List ℕ)) (y : List ℕ) → Among rs y → Contains (map (first_or end_of_text) rs) (first_or end_of_text y)
first_among [] y a = absurd a
first_among (r ∷ rs) y (inl e) = (0, omega arith, ap (first_or end_of_text) (sym e))
first_among (r ∷ rs) y (inr a) = let c = first_among rs y a in let h = c.1 in (suc c.0, omega arith, c.2)

pub first_is : (left : Nonterminal) (p : Production) → Contains PRODUCTIONS p → p.left ≡ left_side left → Contains (firsts left) (first_or end_of_text (right_of p))
first_is left p c same = first_among (rights left) (right_of p) (right_among left p c same)

pub first_nothing : (p : Production) → p.length ≡ 0 → first_or end_of_text (right_of p) ≡ end_of_text
first_nothing p e = ap (λ (n : ℕ). first_or end_of_text (take n p.right)) e

pub first_some : (n d : ℕ) (xs : List ℕ) → 0 < n → 0 < length xs → first_or end_of_text (take n xs) ≡ slice_index_or xs 0 d
first_some zero d xs h l = absurd (omega arith)
first_some (suc n) d [] h l = absurd (omega arith)
first_some (suc n) d (x ∷ xs) h l = refl

above : (n : ℕ) → nat_lt 0 (suc n) ≡ true
above n = grind arith

option_case : (n : ℕ) (xs only : List ℕ) → 0 < length xs → Among (only ∷ [] ∷ []) (take n xs) → take n xs ≡ cond (nat_lt 0 n) only []
option_case zero xs only room a = refl
option_case (suc n) [] only room a = absurd (omega arith)
option_case (suc n) (x ∷ xs) only room (inl e) = e ∙ sym (choice (nat_lt 0 (suc n)) only [] (above n))
option_case (suc n) (x ∷ xs) only room (inr (inl e)) = absurd (no_cons e)
  where
    no_cons : x ∷ take n xs ≡ [] → ⊥
    no_cons e = cc
option_case (suc n) (x ∷ xs) only room (inr (inr e)) = absurd e

pub right_option : (left : Nonterminal) (p : Production) → Contains PRODUCTIONS p → p.left ≡ left_side left → rights left ≡ only left ∷ [] ∷ []
    → 0 < length p.right → right_of p ≡ (if nat_lt 0 p.length then only left else [])
right_option left p c same two room =
    option_case p.length p.right (only left) room (subst (λ (rs : List (List ℕ)). Among rs (right_of p)) two (right_among left p c same))
