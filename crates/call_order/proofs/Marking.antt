-- Marks are set.
use Rattle.std.proofs.Common.{◌≡◌, ◌⊎◌, inl, inr, refl, sym, subst, ap, ◌∙◌, ℕ, ◌+◌, ◌<◌, ◌≤◌, Bool, true, false, List, [], length, get_or, set, Contains, Some, slice_get, arith, lt_of_lt_of_le}
use Rattle.std.proofs.lemmas.Option.{slice_get_within, slice_get-get_or, get_or_from_slice_get, slice_get_past}
use Rattle.std.proofs.Math.ListN.{get_or-eq_default}
use Rattle.std.proofs.lemmas.List.{get_or-set_same, get_or-set_other, length-set}
use Rattle.std.proofs.lemmas.List.Sums.{sum_by-set}
use Rattle.std.proofs.lemmas.Bool.Decides.{eqb_tells}
use Rattle.std.specs.Prelude.{option_map, unwrap_or}
use Rattle.call_order.specs.declared.calls.Callees.{Callees}
use Rattle.call_order.specs.Orders.{callees_at, Names, IsNeeded, itself, named}
use Rattle.call_order.specs.Marks.{IsMarked, left_at, unmarked, Grows, IsMore, IsWith, AllNeeded, IsClosedBelow, AreNeeded}

-- what a list contains has a place in it
pub place_of : {A : Type 0} (xs : List A) (x : A) → Contains xs x → (k : ℕ) × (slice_get xs k ≡ Some x)
place_of xs x c = (c.0, slice_get-get_or xs c.0 x c.1 ∙ ap Some c.2)

pub contained : {A : Type 0} (xs : List A) (k : ℕ) (x : A) → slice_get xs k ≡ Some x → Contains xs x
contained xs k x e = (k, slice_get_within xs k x e, get_or_from_slice_get xs k x x e)

pub split : (a b : ℕ) → (a < b) ⊎ (b ≤ a)
split a b = grind arith

pub marked_within : (marks : List Bool) (i : ℕ) → get_or marks i false ≡ true → i < length marks
marked_within marks i m = elim (split i (length marks)) [
  | inl l ↦ l
  | inr g ↦ absurd (not_both (get_or-eq_default marks false g) m)
]
  where
    not_both : {b : Bool} → b ≡ false → b ≡ true → ⊥
    not_both p q = cc

-- ---- one more mark

module _ (marks : List Bool) (f : ℕ) (within : f < length marks) where
  pub set_here : IsMarked (set marks f true) f
  set_here = get_or-set_same marks f true false within

  pub set_kept : (g : ℕ) → IsMarked marks g → IsMarked (set marks f true) g
  set_kept g m = elim (eqb_tells g f) [
    | inl same ↦ subst (IsMarked (set marks f true)) (sym same.1) set_here
    | inr other ↦ get_or-set_other marks f g true false other.1 ∙ m
  ]

  pub set_only : (g : ℕ) → IsMarked (set marks f true) g → IsMarked marks g ⊎ (f ≡ g)
  set_only g m = elim (eqb_tells g f) [
    | inl same ↦ inr (sym same.1)
    | inr other ↦ inl (sym (get_or-set_other marks f g true false other.1) ∙ m)
  ]

  pub set_fewer : get_or marks f false ≡ false → unmarked (set marks f true) < unmarked marks
  set_fewer fresh = let e = sum_by-set left_at marks f true false within in
      let g : left_at (get_or marks f false) ≡ 1 = ap left_at fresh in
      omega arith

  pub set_more : get_or marks f false ≡ false → IsMore marks (set marks f true) true
  set_more fresh = record { long = length-set marks f true; kept = set_kept; grows = set_fewer fresh }

pub same_more : (marks : List Bool) → IsMore marks marks false
same_more marks = record { long = refl; kept = λ f m. m; grows = refl }

-- nothing new to mark: the function is marked, or not in the table
pub here_already : (marks : List Bool) (f : ℕ) → (f < length marks → IsMarked marks f) → f < length marks → IsMarked marks f
here_already marks f h l = h l

-- ---- one step after the other

pub joined_more : (old mid new : List Bool) (grew more after : Bool) → IsMore old mid grew → IsMore mid new more → (more ≡ true → after ≡ true) → (more ≡ false → after ≡ grew) → IsMore old new after
joined_more old mid new grew more after a b yes_more no_more = record {
  long = b.long ∙ a.long;
  kept = λ f m. b.kept f (a.kept f m);
  grows = go more grew after a.grows b.grows yes_more no_more;
}
  where
    less : {x y z : ℕ} → x < y → y < z → x < z
    less l m = omega arith

    go : (more grew after : Bool) → Grows old mid grew → Grows mid new more → (more ≡ true → after ≡ true) → (more ≡ false → after ≡ grew) → Grows old new after
    go true true after p q y n = subst (Grows old new) (sym (y refl)) (less q p)
    go true false after p q y n = subst (Grows old new) (sym (y refl)) (subst (λ l. unmarked new < unmarked l) p q)
    go false true after p q y n = subst (Grows old new) (sym (n refl)) (subst (λ l. unmarked l < unmarked old) (sym q) p)
    go false false after p q y n = subst (Grows old new) (sym (n refl)) (q ∙ p)

-- ---- the first of some functions

-- those up to a place
pub record IsWithFirst (old new : List Bool) (functions : List ℕ) (n : ℕ) : Type 0 where
  pub all : (k function : ℕ) → k < n → slice_get functions k ≡ Some function → function < length old → IsMarked new function
  pub only : (function : ℕ) → IsMarked new function → IsMarked old function ⊎ Contains functions function

pub with_none : (marks functions : _) → IsWithFirst marks marks functions 0
with_none marks functions = record { all = λ k f l. absurd (none l); only = λ f m. inl m }
  where
    none : {k : ℕ} → k < 0 → ⊥
    none l = omega arith

pub with_one : (old mid new : List Bool) (functions : List ℕ) (n f : ℕ) (grew more : Bool) → IsMore old mid grew → IsMore mid new more → slice_get functions n ≡ Some f
    → IsWithFirst old mid functions n → (f < length mid → IsMarked new f) → ((g : ℕ) → IsMarked new g → IsMarked mid g ⊎ (f ≡ g)) → IsWithFirst old new functions (n + 1)
with_one old mid new functions n f grew more a b got is here only = record {
  all = λ k g l e within. elim (cases k n l) [
    | inl before ↦ b.kept g (is.all k g before e within)
    | inr same ↦ (let s = one_there k g same e in subst (IsMarked new) s (here (subst (λ m. f < m) (sym a.long) (subst (λ m. m < length old) (sym s) within))))
  ];
  only = λ g m. elim (only g m) [
    | inl o ↦ is.only g o
    | inr same ↦ inr (subst (Contains functions) same (contained functions n f got))
  ];
}
  where
    cases : (k n : ℕ) → k < n + 1 → (k < n) ⊎ (k ≡ n)
    cases k n l = grind arith

    one_there : (k g : ℕ) → k ≡ n → slice_get functions k ≡ Some g → f ≡ g
    one_there k g same e = same_some (sym got ∙ ap (slice_get functions) (sym same) ∙ e)
      where
        same_some : {a b : ℕ} → Some a ≡ Some b → a ≡ b
        same_some e = cc

pub with_all : (old new : List Bool) (functions : List ℕ) (n : ℕ) → length functions ≤ n → IsWithFirst old new functions n → IsWith old new functions
with_all old new functions n l is = record {
  all = λ f c within. let at = place_of functions f c in is.all at.0 f (lt_of_lt_of_le (slice_get_within functions at.0 f at.1) l) at.1 within;
  only = is.only;
}

-- ---- what functions name is needed

pub spread_needed : (calls : List Callees) (old new : List Bool) (function : ℕ) → IsMarked old function → IsWith old new (callees_at calls function)
    → (main : ℕ) → AllNeeded calls main old → AllNeeded calls main new
spread_needed calls old new function marked is main all f m = elim (is.only f m) [
  | inl o ↦ all f o
  | inr c ↦ named function f (all function marked) c
]

pub closed_none : (calls : List Callees) (marks : List Bool) → IsClosedBelow calls marks 0
closed_none calls marks f g l = absurd (none l)
  where
    none : {k : ℕ} → k < 0 → ⊥
    none l = omega arith

pub closed_one : (calls : List Callees) (mid new : List Bool) (n : ℕ) → IsMore mid new false → IsClosedBelow calls mid n
    → ((callee : ℕ) → IsMarked mid n → Names calls n callee → callee < length mid → IsMarked new callee) → IsClosedBelow calls new (n + 1)
closed_one calls mid new n more is here f g l m names within = elim (cases f n l) [
  | inl before ↦ more.kept g (is f g before (subst (λ xs. IsMarked xs f) more.grows m) names (subst (λ k. g < k) more.long within))
  | inr same ↦ here g (subst (IsMarked mid) same (subst (λ xs. IsMarked xs f) more.grows m)) (subst (λ k. Names calls k g) same names) (subst (λ k. g < k) more.long within)
]
  where
    cases : (k n : ℕ) → k < n + 1 → (k < n) ⊎ (k ≡ n)
    cases k n l = grind arith

-- ---- the end

module _ (calls : List Callees) (main : ℕ) (marks : List Bool) (long : length marks ≡ length calls) (first : IsMarked marks main) (closed : IsClosedBelow calls marks (length calls)) where
  all : (function : ℕ) → IsNeeded calls main function → function < length calls → IsMarked marks function
  all function itself l = first
  all function (named caller callee n names) l = elim (split caller (length calls)) [
    | inl known ↦ closed caller function known (all caller n known) names (subst (λ k. function < k) (sym long) l)
    | inr past ↦ absurd (nothing (callees_at calls caller) function (ap (λ o. unwrap_or (option_map (λ (c : Callees). c.functions.items) o) []) (slice_get_past calls caller past)) names)
  ]
    where
      nothing : (xs : List ℕ) (x : ℕ) → xs ≡ [] → Contains xs x → ⊥
      nothing xs x e c = let w : c.0 < 0 = subst (λ l. c.0 < length l) e c.1 in omega arith

  pub needed_marked : AllNeeded calls main marks → AreNeeded calls main marks
  needed_marked only = record { long = long; all = all; only = only }

-- at first the main function alone is marked
module _ (calls : List Callees) (main : ℕ) (old new : List Bool) (grew : Bool) (none : (f : ℕ) → get_or old f false ≡ false) (more : IsMore old new grew)
    (only : (f : ℕ) → IsMarked new f → IsMarked old f ⊎ (main ≡ f)) where
  not_both : {b : Bool} → b ≡ false → b ≡ true → ⊥
  not_both p q = cc

  pub only_main : AllNeeded calls main new
  only_main f m = elim (only f m) [
    | inl o ↦ absurd (not_both (none f) o)
    | inr same ↦ subst (IsNeeded calls main) same itself
  ]

  pub main_grew : IsMarked new main → grew ≡ false → ⊥
  main_grew first e = go grew more.grows e
    where
      go : (b : Bool) → Grows old new b → b ≡ false → ⊥
      go true g e = cc
      go false g e = not_both (none main) (subst (λ xs. IsMarked xs main) g first)

-- what the table has at a place
pub callees_are : (calls : List Callees) (function : ℕ) (callees : Callees) → function < length calls → callees ≡ get_or calls function callees → callees_at calls function ≡ callees.functions.items
callees_are calls function callees l e = ap (λ o. unwrap_or (option_map (λ (c : Callees). c.functions.items) o) []) (slice_get-get_or calls function callees l ∙ ap Some (sym e))
