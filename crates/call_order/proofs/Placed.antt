-- One more function is placed; and where none can be, all are.
use Rattle.std.proofs.Common.{◌≡◌, ◌⊎◌, inl, inr, refl, sym, subst, ap, ◌∙◌, ℕ, zero, suc, ◌+◌, ◌<◌, Bool, true, false, List, [], ◌∷◌, ◌++◌, length, get_or, set, Contains, Some, slice_get, arith}
use Rattle.std.proofs.lemmas.Option.{slice_get_within}
use Rattle.std.proofs.lemmas.List.{get_or-set_same, get_or-set_other, length-set}
use Rattle.std.proofs.lemmas.List.Elements.{Contains-push, Contains-append_left}
use Rattle.std.proofs.lemmas.Bool.Decides.{eqb_tells}
use Rattle.std.specs.List.{list_all}
use Rattle.call_order.specs.declared.calls.Callees.{Callees}
use Rattle.call_order.specs.declared.placing.Placing.{Placing}
use Rattle.call_order.specs.Orders.{callees_at, Names, IsNeeded, itself, named, IsLayered, IsOrder}
use Rattle.call_order.specs.Marks.{IsMarked, unmarked, Grows, AreNeeded}
use Rattle.call_order.specs.Placings.{IsPlaced, IsPlacing, IsStuck, IsStuckBelow}
use Rattle.call_order.proofs.Marking.{place_of, contained, marked_within}

-- ---- lists

got_more : {A : Type 0} (xs ys : List A) (k : ℕ) (x : A) → slice_get xs k ≡ Some x → slice_get (xs ++ ys) k ≡ Some x
got_more [] ys k x e = cc
got_more (y ∷ xs) ys zero x e = e
got_more (y ∷ xs) ys (suc k) x e = got_more xs ys k x e

got_one : {A : Type 0} (y : A) (k : ℕ) (x : A) → slice_get (y ∷ []) k ≡ Some x → (k ≡ 0) × (y ≡ x)
got_one y zero x e = (refl, cc)
got_one y (suc k) x e = cc

got_push : {A : Type 0} (xs : List A) (y : A) (k : ℕ) (x : A) → slice_get (xs ++ y ∷ []) k ≡ Some x → (slice_get xs k ≡ Some x) ⊎ ((k ≡ length xs) × (y ≡ x))
got_push [] y k x e = inr (got_one y k x e)
got_push (z ∷ xs) y zero x e = inl e
got_push (z ∷ xs) y (suc k) x e = elim (got_push xs y k x e) [
  | inl old ↦ inl old
  | inr new ↦ inr (ap suc new.0, new.1)
]

pub passes : {A : Type 0} (p : A → Bool) (xs : List A) (k : ℕ) (x : A) → list_all p xs ≡ true → slice_get xs k ≡ Some x → p x ≡ true
passes p [] k x a e = cc
passes p (y ∷ xs) zero x a e = first (p y) refl a
  where
    first : (b : Bool) → p y ≡ b → list_all p (y ∷ xs) ≡ true → p x ≡ true
    first true is all = cc
    first false is all = cc
passes p (y ∷ xs) (suc k) x a e = passes p xs k x (rest (p y) refl a) e
  where
    rest : (b : Bool) → p y ≡ b → list_all p (y ∷ xs) ≡ true → list_all p xs ≡ true
    rest true is all = cc
    rest false is all = cc

-- what one of these fails
fails : {A : Type 0} (p : A → Bool) (xs : List A) → list_all p xs ≡ false → (x : A) × Contains xs x × (p x ≡ false)
fails p [] e = cc
fails p (y ∷ xs) e = go (p y) refl (λ rest. fails p xs rest)
  where
    more : (x : _) → Contains xs x → Contains (y ∷ xs) x
    more x c = (suc c.0, omega (arith, c.1), c.2)

    first : Contains (y ∷ xs) y
    first = (0, omega arith, refl)

    go : (b : Bool) → p y ≡ b → (list_all p xs ≡ false → (x : _) × Contains xs x × (p x ≡ false)) → (x : _) × Contains (y ∷ xs) x × (p x ≡ false)
    go true is f = let rest : list_all p xs ≡ false = cc in let r = f rest in (r.0, more r.0 r.1, r.2)
    go false is f = (y, first, is)

pub names_unplaced : (calls : List Callees) (placed : List Bool) (function : ℕ) (xs : List ℕ) → xs ≡ callees_at calls function → list_all (λ f. get_or placed f false) xs ≡ false
    → (x : ℕ) × Names calls function x × (get_or placed x false ≡ false)
names_unplaced calls placed function xs e a = let f = fails (λ f. get_or placed f false) xs a in (f.0, subst (λ ys. Contains ys f.0) e f.1, f.2)

-- ---- after one function of a round

module _ (calls : List Callees) (needed : List Bool) (first old new : Placing) (grew placed after : Bool) (n : ℕ) (so_far : Grows first.placed.items old.placed.items grew)
    (step : Grows old.placed.items new.placed.items placed) (stuck : grew ≡ false → IsStuckBelow calls needed old n) where
  not_both : {b : Bool} → b ≡ true → b ≡ false → ⊥
  not_both p q = cc

  less : {x y z : ℕ} → x < y → y < z → x < z
  less l m = omega arith

  pub round_placed : placed ≡ true → after ≡ true → Grows first.placed.items new.placed.items after × (after ≡ false → IsStuckBelow calls needed new (n + 1))
  round_placed p a = (subst (Grows first.placed.items new.placed.items) (sym a) (go grew so_far (subst (Grows old.placed.items new.placed.items) p step)), λ e. absurd (not_both a e))
    where
      go : (b : Bool) → Grows first.placed.items old.placed.items b → unmarked new.placed.items < unmarked old.placed.items → unmarked new.placed.items < unmarked first.placed.items
      go true g l = less l g
      go false g l = subst (λ xs. unmarked new.placed.items < unmarked xs) g l

  pub round_kept : placed ≡ false → after ≡ grew → IsStuck calls needed new n → Grows first.placed.items new.placed.items after × (after ≡ false → IsStuckBelow calls needed new (n + 1))
  round_kept p a here =
      let same : new.placed.items ≡ old.placed.items = subst (Grows old.placed.items new.placed.items) p step in (
        subst (λ b. Grows first.placed.items new.placed.items b) (sym a) (subst (λ xs. Grows first.placed.items xs grew) (sym same) so_far),
        λ e f l. elim (cases f l) [
          | inl before ↦ (λ marked. subst (λ xs. IsMarked xs f ⊎ ((x : ℕ) × Names calls f x × (get_or xs x false ≡ false))) (sym same) (stuck (sym a ∙ e) f before marked))
          | inr last ↦ subst (IsStuck calls needed new) (sym last) here
        ],
      )
    where
      cases : (f : ℕ) → f < n + 1 → (f < n) ⊎ (f ≡ n)
      cases f l = grind arith

-- ---- one more

module _ (calls : List Callees) (needed : List Bool) (old new : Placing) (function : ℕ) (within : function < length calls) (fresh : get_or old.placed.items function false ≡ false)
    (all : list_all (λ f. get_or old.placed.items f false) (callees_at calls function) ≡ true)
    (placed : new.placed.items ≡ set old.placed.items function true) (order : new.order.items ≡ old.order.items ++ function ∷ []) (wanted : IsMarked needed function) (is : IsPlacing calls needed old) where
  in_marks : function < length old.placed.items
  in_marks = subst (λ n. function < n) (sym is.long) within

  look : (f : ℕ) → get_or new.placed.items f false ≡ get_or (set old.placed.items function true) f false
  look f = ap (λ xs. get_or xs f false) placed

  kept : (f : ℕ) → IsPlaced old f → IsPlaced new f
  kept f p = elim (eqb_tells f function) [
    | inl same ↦ look f ∙ ap (λ n. get_or (set old.placed.items function true) n false) same.1 ∙ get_or-set_same old.placed.items function true false in_marks
    | inr other ↦ look f ∙ get_or-set_other old.placed.items function f true false other.1 ∙ p
  ]

  only : (f : ℕ) → IsPlaced new f → IsPlaced old f ⊎ (function ≡ f)
  only f p = elim (eqb_tells f function) [
    | inl same ↦ inr (sym same.1)
    | inr other ↦ inl (sym (get_or-set_other old.placed.items function f true false other.1) ∙ sym (look f) ∙ p)
  ]

  got : (k f : ℕ) → slice_get new.order.items k ≡ Some f → (slice_get old.order.items k ≡ Some f) ⊎ ((k ≡ length old.order.items) × (function ≡ f))
  got k f e = got_push old.order.items function k f (ap (λ xs. slice_get xs k) (sym order) ∙ e)

  -- it had no place
  no_place : (k f : ℕ) → slice_get old.order.items k ≡ Some f → function ≡ f → ⊥
  no_place k f e same = let p : IsPlaced old f = is.only k f e in let q = subst (λ n. get_or old.placed.items n false ≡ false) same fresh in cc

  -- what it names has a place
  found : (callee : ℕ) → Names calls function callee → (before : ℕ) × (before < length old.order.items) × (slice_get old.order.items before ≡ Some callee)
  found callee names =
      let at = place_of (callees_at calls function) callee names in
      let has = place_of old.order.items callee (is.each callee (passes (λ f. get_or old.placed.items f false) (callees_at calls function) at.0 callee all at.1)) in
      (has.0, slice_get_within old.order.items has.0 callee has.1, has.1)

  more : (k f : ℕ) → slice_get old.order.items k ≡ Some f → slice_get new.order.items k ≡ Some f
  more k f e = ap (λ xs. slice_get xs k) order ∙ got_more old.order.items (function ∷ []) k f e

  pub placed_more : IsPlacing calls needed new
  placed_more = record {
    long = ap length placed ∙ length-set old.placed.items function true ∙ is.long;
    wanted = λ f p. elim (only f p) [ inl o ↦ is.wanted f o | inr e ↦ subst (IsMarked needed) e wanted ];
    each = λ f p. subst (λ xs. Contains xs f) (sym order) (elim (only f p) [
      | inl o ↦ Contains-append_left old.order.items (function ∷ []) f (is.each f o)
      | inr e ↦ subst (λ n. Contains (old.order.items ++ function ∷ []) n) e (Contains-push old.order.items function)
    ]);
    only = λ k f e. elim (got k f e) [
      | inl o ↦ kept f (is.only k f o)
      | inr n ↦ subst (IsPlaced new) n.1 (look function ∙ get_or-set_same old.placed.items function true false in_marks)
    ];
    one = λ a b f e d. elim (got a f e) [
      | inl o ↦ elim (got b f d) [ inl p ↦ is.one a b f o p | inr n ↦ absurd (no_place a f o n.1) ]
      | inr n ↦ elim (got b f d) [ inl p ↦ absurd (no_place b f p n.1) | inr m ↦ n.0 ∙ sym m.0 ]
    ];
    inward = λ k f callee e names. elim (got k f e) [
      | inl o ↦ (let i = is.inward k f callee o names in (i.0, i.1, more i.0 callee i.2))
      | inr n ↦ (let i = found callee (subst (λ g. Names calls g callee) (sym n.1) names) in (i.0, subst (λ m. i.0 < m) (sym n.0) i.1, more i.0 callee i.2))
    ];
  }

-- ---- the end

-- what names only what is placed is placed, and so all that is needed is
module _ (calls : List Callees) (main : ℕ) (needed : List Bool) (placing : Placing) (are : AreNeeded calls main needed) (layered : IsLayered calls main)
    (stuck : IsStuckBelow calls needed placing (length calls)) where
  never_both : (f : ℕ) → get_or placing.placed.items f false ≡ true → get_or placing.placed.items f false ≡ false → ⊥
  never_both f p q = cc

  lower : {a b c : ℕ} → a < b → b < suc c → a < c
  lower l m = omega arith

  none : {a : ℕ} → a < 0 → ⊥
  none l = omega arith

  up_to : (h function : ℕ) → IsNeeded calls main function → function < length calls → layered.height function < h → IsPlaced placing function
  up_to zero function n l b = absurd (none b)
  up_to (suc h) function n l b = elim (stuck function l (are.all function n l)) [
    | inl p ↦ p
    | inr s ↦ absurd (never_both s.0 (up_to h s.0 (named function s.0 n s.1) (layered.known function s.0 n s.1) (lower (layered.above function s.0 n s.1) b)) s.2)
  ]

  next : (n : ℕ) → n < suc n
  next n = omega arith

  pub main_placed : main < length calls → get_or placing.placed.items main false ≡ false → ⊥
  main_placed l e = never_both main (up_to (suc (layered.height main)) main itself l (next (layered.height main))) e

module _ (calls : List Callees) (main : ℕ) (needed : List Bool) (placing : Placing) (are : AreNeeded calls main needed) (is : IsPlacing calls needed placing) (placed : IsPlaced placing main) where
  each : (function : ℕ) → IsNeeded calls main function → Contains placing.order.items function
  each function itself = is.each main placed
  each function (named caller callee n names) =
      let at = place_of placing.order.items caller (each caller n) in
      let before = is.inward at.0 caller function at.1 names in
      contained placing.order.items before.0 function before.2

  pub in_order : IsOrder calls main placing.order.items
  in_order = record {
    each = each;
    one = is.one;
    only = λ k f e. (subst (λ n. f < n) is.long (marked_within placing.placed.items f (is.only k f e)), are.only f (is.wanted f (is.only k f e)));
    inward = is.inward;
  }
