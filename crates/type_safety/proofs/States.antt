-- A state whose values fit, and what a step that asks for what fits leaves.
use Rattle.std.proofs.Common.{◌≡◌, refl, sym, subst, ap, ◌∙◌, Bool, true, false, cond, ◌==◌, ℕ, ◌-◌, ℤ, List, [], ◌∷◌, ◌++◌, Option, Some, None, eqb-true, arith, nat_lt, take-append-drop}
use Rattle.std.proofs.lemmas.Grind.{common_steps}
use Rattle.std.specs.Prelude.{length, take, drop, option_map, option_and_then, unwrap_or}
use Rattle.c_program.specs.declared.types.CType.{CType}
use Rattle.c_program.specs.declared.types.Base.{Base}
use Rattle.c_program.specs.declared.types.Base.TheVariants as base
use Rattle.c_program.specs.declared.action.Local.{Local}
use Rattle.c_program.specs.declared.program.Program.{Program}
use Rattle.c_program.specs.Types.{is_scalar, same_bool, same_bools, same_base, same_pointers, same_numbers, same_type, const_too, member_type, part_of_base, part_in, type_at, declared_type}
use Rattle.c_program.specs.Values.{Root, Of_frame, Cell, Value, Number, Address, null, object_of, same_root, same_cell, is_within, counterpart, type_of_cell}
use Rattle.c_program.specs.Requests.{Store, Sets, Copies, Clears, Zeroes}
use Rattle.c_program.specs.Effects.{at_base, as_type, put, put_result, bound, bound_if, stored, memory_after}
use Rattle.c_program.specs.Typing.{A_pointer, kind_in, kind_of_type, takes_a_pointer, takes}
use Rattle.c_program.proofs.Cells.{and_true, numbers_same, cell_same, root_same}
use Rattle.c_program.proofs.Sound.{if_either}
use Rattle.type_safety.specs.Fitting.{IsPointer, Fits, OptFits, MemoryFits}
use Rattle.type_safety.proofs.OfKinds.{null_fits, takes_fits}
use Rattle.type_safety.proofs.Shapes.{to_own, from_own, scalar_own}
use Rattle.type_safety.proofs.Acting.{both_true, type_trans}
use Rattle.type_safety.proofs.Judging.{CellGets, Alike, StoreFits, EachStoreFits, LocalGets, IntoGets, ArgumentsFit}

-- ---- parts of two objects of one type

bool_refl : (b : Bool) → same_bool b b ≡ true
bool_refl true = refl
bool_refl false = refl

bools_refl : (bs : List Bool) → same_bools bs bs ≡ true
bools_refl [] = refl
bools_refl (b ∷ bs) = both_true _ _ (bool_refl b) (bools_refl bs)

equal_refl : (n : ℕ) → (n == n) ≡ true
equal_refl n = grind (arith, common_steps)

equal_sym : (a b : ℕ) → (a == b) ≡ true → (b == a) ≡ true
equal_sym a b e = grind (arith, common_steps)

numbers_refl : (ns : List ℕ) → same_numbers ns ns ≡ true
numbers_refl [] = refl
numbers_refl (n ∷ ns) = both_true _ _ (equal_refl n) (numbers_refl ns)

base_refl : (b : Base) → same_base b b ≡ true
base_refl base.Void = refl
base_refl (base.Integer t) = equal_refl _
base_refl (base.Atomic t) = equal_refl _
base_refl (base.Structure s) = equal_refl s
base_refl base.Mutex = refl
base_refl base.Condition = refl
base_refl base.Thread = refl
base_refl base.Key = refl

-- the const of an object itself makes no difference
made_in : (c d : Bool) (b : Base) (k : Bool) (pointers : List Bool) (sizes : List ℕ)
    → same_type (const_too c (record { base = b; is_const = k; pointers = pointers; sizes = sizes })) (const_too d (record { base = b; is_const = k; pointers = pointers; sizes = sizes })) ≡ true
made_in true true b k [] sizes = both_true _ _ (both_true _ _ (base_refl b) refl) (numbers_refl sizes)
made_in true false b k [] sizes = both_true _ _ (both_true _ _ (base_refl b) refl) (numbers_refl sizes)
made_in false true b k [] sizes = both_true _ _ (both_true _ _ (base_refl b) refl) (numbers_refl sizes)
made_in false false b k [] sizes = both_true _ _ (both_true _ _ (base_refl b) refl) (numbers_refl sizes)
made_in true true b k (p ∷ ps) sizes = both_true _ _ (both_true _ _ (base_refl b) (both_true _ _ (bool_refl k) (bools_refl ps))) (numbers_refl sizes)
made_in true false b k (p ∷ ps) sizes = both_true _ _ (both_true _ _ (base_refl b) (both_true _ _ (bool_refl k) (bools_refl ps))) (numbers_refl sizes)
made_in false true b k (p ∷ ps) sizes = both_true _ _ (both_true _ _ (base_refl b) (both_true _ _ (bool_refl k) (bools_refl ps))) (numbers_refl sizes)
made_in false false b k (p ∷ ps) sizes = both_true _ _ (both_true _ _ (base_refl b) (both_true _ _ (bool_refl k) (bools_refl ps))) (numbers_refl sizes)

made_same : (c d : Bool) (t : CType) → same_type (const_too c t) (const_too d t) ≡ true
made_same c d t = made_in c d t.base t.is_const t.pointers t.sizes

bool_sym : (a b : Bool) → same_bool a b ≡ true → same_bool b a ≡ true
bool_sym true true e = refl
bool_sym false false e = refl
bool_sym true false e = absurd (cc)
bool_sym false true e = absurd (cc)

bools_sym : (p q : List Bool) → same_bools p q ≡ true → same_bools q p ≡ true
bools_sym [] [] e = refl
bools_sym (x ∷ xs) (y ∷ ys) e = let a = and_true _ _ e in both_true _ _ (bool_sym x y a.0) (bools_sym xs ys a.1)
bools_sym [] (y ∷ ys) e = absurd (cc)
bools_sym (x ∷ xs) [] e = absurd (cc)

pointers_sym : (a b : Bool) (p q : List Bool) → same_pointers a b p q ≡ true → same_pointers b a q p ≡ true
pointers_sym a b [] [] e = refl
pointers_sym a b (x ∷ xs) (y ∷ ys) e = let f = and_true _ _ e in both_true _ _ (bool_sym a b f.0) (bools_sym xs ys f.1)
pointers_sym a b [] (y ∷ ys) e = absurd (cc)
pointers_sym a b (x ∷ xs) [] e = absurd (cc)

base_sym : (a b : Base) → same_base a b ≡ true → same_base b a ≡ true
base_sym base.Void base.Void e = refl
base_sym (base.Integer s) (base.Integer t) e = equal_sym _ _ e
base_sym (base.Atomic s) (base.Atomic t) e = equal_sym _ _ e
base_sym (base.Structure s) (base.Structure t) e = equal_sym s t e
base_sym base.Mutex base.Mutex e = refl
base_sym base.Condition base.Condition e = refl
base_sym base.Thread base.Thread e = refl
base_sym base.Key base.Key e = refl
base_sym _ _ e = absurd (cc)

type_sym : (a b : CType) → same_type a b ≡ true → same_type b a ≡ true
type_sym a b e = let p = and_true _ _ e in let q = and_true _ _ p.0 in
    both_true _ _ (both_true _ _ (base_sym a.base b.base q.0) (pointers_sym a.is_const b.is_const a.pointers b.pointers q.1))
    (subst (λ ns. same_numbers ns a.sizes ≡ true) (numbers_same a.sizes b.sizes p.1) (numbers_refl a.sizes))

same_some : {A : Type 0} (a b : A) → Some a ≡ Some b → a ≡ b
same_some a b e = cc

none_some : {A : Type 0} (a : A) → None ≡ Some a → ⊥
none_some a e = let f : None ≡ Some a = e in absurd (cc)

module _ (program : Program) where
  -- a value in a local, converted to its type
  base_fits : (b : Base) (pointers : List Bool) (sizes : List ℕ) (v : Value) → Fits program (kind_in b pointers sizes) v → Fits program (kind_in b pointers sizes) (at_base b pointers v)
  base_fits (base.Integer t) [] [] (Number z) f = tt
  base_fits (base.Integer t) [] [] (Address cell) f = f
  base_fits (base.Atomic t) [] [] (Number z) f = tt
  base_fits (base.Atomic t) [] [] (Address cell) f = f
  base_fits base.Void [] [] v f = f
  base_fits (base.Structure s) [] [] v f = f
  base_fits base.Mutex [] [] v f = f
  base_fits base.Condition [] [] v f = f
  base_fits base.Thread [] [] v f = f
  base_fits base.Key [] [] v f = f
  base_fits (base.Integer t) (p ∷ ps) [] v f = f
  base_fits (base.Atomic t) (p ∷ ps) [] v f = f
  base_fits base.Void (p ∷ ps) [] v f = f
  base_fits (base.Structure s) (p ∷ ps) [] v f = f
  base_fits base.Mutex (p ∷ ps) [] v f = f
  base_fits base.Condition (p ∷ ps) [] v f = f
  base_fits base.Thread (p ∷ ps) [] v f = f
  base_fits base.Key (p ∷ ps) [] v f = f
  base_fits b pointers (n ∷ ns) v f = absurd f

  -- the cell of a local gets what the local gets
  pub local_cell_gets : (frame : ℕ) (local : Local) (v : Value) → LocalGets program local v → CellGets program (record { root = Of_frame frame local.object; path = local.path }) (as_type local.c_type v)
  local_cell_gets frame local v g own e s = to_own program local.c_type own (as_type local.c_type v)
      (subst (λ o. unwrap_or (option_map (same_type local.c_type) o) false ≡ true) e g.0)
      (base_fits local.c_type.base local.c_type.pointers local.c_type.sizes v g.1)

  -- ---- stores

  pub appended : (xs ys : List Store) → EachStoreFits program xs → EachStoreFits program ys → EachStoreFits program (xs ++ ys)
  appended [] ys a b = b
  appended (x ∷ xs) ys a b = (a.0, appended xs ys a.1 b)

  pub put_fits : (frame : ℕ) (into : Option Local) (v : Option Value) → IntoGets program into v → EachStoreFits program (put frame into v)
  put_fits frame None v g = tt
  put_fits frame (Some local) None g = (tt, tt)
  put_fits frame (Some local) (Some v) g = (local_cell_gets frame local v g, tt)

  pub put_result_fits : (frame : ℕ) (into : Option Local) (v : Option Value) → IntoGets program into v → EachStoreFits program (put_result frame into v)
  put_result_fits frame into None g = tt
  put_result_fits frame into (Some v) g = put_fits frame into (Some v) g

  pub bound_fits : (frame : ℕ) (parameters : List ℕ) (values : List Value) → ArgumentsFit program parameters values → EachStoreFits program (bound frame parameters values)
  bound_fits frame [] vs a = tt
  bound_fits frame (p ∷ ps) [] a = tt
  bound_fits frame (p ∷ ps) (v ∷ vs) a = (a.0, bound_fits frame ps vs a.1)

  -- a thread's function has one parameter, a pointer
  pub pointer_argument : (parameters : List ℕ) (v : Value) → takes_a_pointer program parameters ≡ true → IsPointer v → ArgumentsFit program parameters (v ∷ [])
  pointer_argument [] v t p = tt
  pointer_argument (q ∷ []) v t p = (λ own e s. takes_fits program own.base own.pointers own.sizes A_pointer v (subst (λ o. unwrap_or (option_map (λ t. takes t A_pointer) o) false ≡ true) e t) p, tt)
  pointer_argument (q ∷ r ∷ qs) v t p = absurd (cc)

  pub bound_if_fits : (b : Bool) (frame : ℕ) (parameters : List ℕ) (v : Value) → takes_a_pointer program parameters ≡ true → IsPointer v → EachStoreFits program (bound_if b frame parameters v)
  bound_if_fits true frame parameters v t p = bound_fits frame parameters (v ∷ []) (pointer_argument parameters v t p)
  bound_if_fits false frame parameters v t p = tt

  -- ---- the same part of two objects of one type

  member_alike : (c d : Bool) (o : Option CType) (t : CType) → option_map (const_too c) o ≡ Some t → (u : CType) × (option_map (const_too d) o ≡ Some u) × (same_type t u ≡ true)
  member_alike c d None t e = absurd (cc)
  member_alike c d (Some u) t e = (const_too d u, refl, subst (λ (x : CType). same_type x (const_too d u) ≡ true) (same_some _ _ e) (made_same c d u))

  base_alike : (a b : Base) (c d : Bool) (k : ℕ) (t : CType) → same_base a b ≡ true → part_of_base program c a k ≡ Some t
      → (u : CType) × (part_of_base program d b k ≡ Some u) × (same_type t u ≡ true)
  base_alike (base.Structure r) (base.Structure s) c d k t e f =
      subst (λ n. (u : CType) × (option_map (const_too d) (member_type program n k) ≡ Some u) × (same_type t u ≡ true)) (eqb-true r s e) (member_alike c d (member_type program r k) t f)
  base_alike base.Void b c d k t e f = absurd (cc)
  base_alike (base.Integer i) b c d k t e f = absurd (cc)
  base_alike (base.Atomic i) b c d k t e f = absurd (cc)
  base_alike base.Mutex b c d k t e f = absurd (cc)
  base_alike base.Condition b c d k t e f = absurd (cc)
  base_alike base.Thread b c d k t e f = absurd (cc)
  base_alike base.Key b c d k t e f = absurd (cc)
  base_alike (base.Structure r) _ c d k t e f = absurd (cc)

  part_alike_in : (a b : CType) (p q : List Bool) (m n : List ℕ) (k : ℕ) (t : CType) → same_base a.base b.base ≡ true → same_pointers a.is_const b.is_const a.pointers b.pointers ≡ true
      → same_pointers a.is_const b.is_const p q ≡ true → same_numbers m n ≡ true → part_in program a p m k ≡ Some t
      → (u : CType) × (part_in program b q n k ≡ Some u) × (same_type t u ≡ true)
  part_alike_in a b p q (m ∷ ms) (n ∷ ns) k t e f g h o = go (nat_lt k m) refl o
    where
      s : (m == n) ≡ true
      s = (and_true (m == n) (same_numbers ms ns) h).0

      r : same_type (record a { sizes = ms }) (record b { sizes = ns }) ≡ true
      r = both_true _ _ (both_true _ _ e f) (and_true (m == n) (same_numbers ms ns) h).1

      go : (x : Bool) → nat_lt k m ≡ x → cond x (Some (record a { sizes = ms })) None ≡ Some t
          → (u : CType) × (cond (nat_lt k n) (Some (record b { sizes = ns })) None ≡ Some u) × (same_type t u ≡ true)
      go true l o = (
        record b { sizes = ns },
        ap (λ (x : Bool). cond x (Some (record b { sizes = ns })) None) (subst (λ i. nat_lt k i ≡ true) (eqb-true m n s) l),
        subst (λ (x : CType). same_type x (record b { sizes = ns }) ≡ true) (same_some _ _ o) r,
      )
      go false l o = absurd (none_some t o)
  part_alike_in a b [] [] [] [] k t e f g h o = base_alike a.base b.base a.is_const b.is_const k t e o
  part_alike_in a b (p ∷ ps) q [] n k t e f g h o = absurd (cc)
  part_alike_in a b [] (q ∷ qs) [] n k t e f g h o = absurd (cc)
  part_alike_in a b [] [] [] (n ∷ ns) k t e f g h o = absurd (cc)
  part_alike_in a b p q (m ∷ ms) [] k t e f g h o = absurd (cc)

  part_alike : (a b : CType) (k : ℕ) (t : CType) → same_type a b ≡ true → part_in program a a.pointers a.sizes k ≡ Some t
      → (u : CType) × (part_in program b b.pointers b.sizes k ≡ Some u) × (same_type t u ≡ true)
  part_alike a b k t e o = let p = and_true _ _ e in let q = and_true _ _ p.0 in part_alike_in a b a.pointers b.pointers a.sizes b.sizes k t q.0 q.1 q.1 p.1 o

  below : (whole other : Option CType) (p q : List ℕ) (s u : CType) → type_at program whole p ≡ Some s → type_at program other q ≡ Some u → same_type s u ≡ true
      → (xs : List ℕ) (t : CType) → type_at program whole (xs ++ p) ≡ Some t → (w : CType) × (type_at program other (xs ++ q) ≡ Some w) × (same_type t w ≡ true)
  below whole other p q s u e f g [] t o = (u, f, subst (λ (x : CType). same_type x u ≡ true) (same_some s t (sym e ∙ o)) g)
  below whole other p q s u e f g (k ∷ xs) t o = go (type_at program whole (xs ++ p)) refl o (λ a. below whole other p q s u e f g xs a)
    where
      go : (found : Option CType) → type_at program whole (xs ++ p) ≡ found → option_and_then (λ (x : CType). part_in program x x.pointers x.sizes k) found ≡ Some t
          → ((a : CType) → type_at program whole (xs ++ p) ≡ Some a → (w : CType) × (type_at program other (xs ++ q) ≡ Some w) × (same_type a w ≡ true))
          → (w : CType) × (option_and_then (λ (x : CType). part_in program x x.pointers x.sizes k) (type_at program other (xs ++ q)) ≡ Some w) × (same_type t w ≡ true)
      go None r o h = absurd (none_some t o)
      go (Some a) r o h = let b = h a r in let w = part_alike a b.0 k t b.2 o in
          (w.0, ap (λ (y : Option CType). option_and_then (λ (x : CType). part_in program x x.pointers x.sizes k) y) b.1 ∙ w.1, w.2)

  -- ---- memory behind stores

  back_of : (n : ℕ) (xs ys : List ℕ) → drop n xs ≡ ys → take n xs ++ ys ≡ xs
  back_of n xs ys e = ap (λ l. take n xs ++ l) (sym e) ∙ take-append-drop n xs

  counterpart_fits : (memory : Cell → Option Value) → MemoryFits program memory → (to from cell : Cell) → Alike program to from → is_within to cell ≡ true
      → (t : CType) → type_of_cell program cell ≡ Some t → is_scalar t ≡ true → OptFits program (kind_of_type t) (memory (counterpart to from cell))
  counterpart_fits memory m to from cell a w t e s = go (memory (counterpart to from cell)) (m (counterpart to from cell) other.0 other.1 (scalar_own program t other.0 other.2 s))
    where
      n : ℕ
      n = length cell.path - length to.path

      inside : (same_root to.root cell.root ≡ true) × (same_numbers to.path (drop n cell.path) ≡ true)
      inside = and_true _ _ w

      alike : same_type a.1 a.2 ≡ true
      alike = type_trans a.1 a.0 a.2 (type_sym a.0 a.1 a.5) a.6

      path : take n cell.path ++ to.path ≡ cell.path
      path = back_of n cell.path to.path (sym (numbers_same to.path (drop n cell.path) inside.1))

      there : type_at program (declared_type program (object_of to.root)) (take n cell.path ++ to.path) ≡ Some t
      there = ap (λ p. type_at program (declared_type program (object_of to.root)) p) path
          ∙ ap (λ (r : Root). type_at program (declared_type program (object_of r)) cell.path) (root_same to.root cell.root inside.0) ∙ e

      other : (u : CType) × (type_of_cell program (counterpart to from cell) ≡ Some u) × (same_type t u ≡ true)
      other = below (declared_type program (object_of to.root)) (declared_type program (object_of from.root)) to.path from.path a.1 a.2 a.3 a.4 alike (take n cell.path) t there

      go : (o : Option Value) → OptFits program (kind_of_type other.0) o → OptFits program (kind_of_type t) o
      go None f = tt
      go (Some v) f = from_own program t other.0 v other.2 f

  stored_fits : (store : Store) (memory : Cell → Option Value) → StoreFits program store → MemoryFits program memory → MemoryFits program (stored store memory)
  stored_fits (Sets to v a) memory f m cell t e s = if_either (OptFits program (kind_of_type t)) (same_cell to cell) (Some v) (memory cell)
      (λ q. subst (λ (c : Cell). CellGets program c v) (cell_same to cell q) f t e s) (λ _. m cell t e s)
  stored_fits (Copies to from) memory f m cell t e s = if_either (OptFits program (kind_of_type t)) (is_within to cell) (memory (counterpart to from cell)) (memory cell)
      (λ q. counterpart_fits memory m to from cell f q t e s) (λ _. m cell t e s)
  stored_fits (Clears object) memory f m cell t e s = if_either (OptFits program (kind_of_type t)) (is_within object cell) None (memory cell) (λ _. tt) (λ _. m cell t e s)
  stored_fits (Zeroes object) memory f m cell t e s = if_either (OptFits program (kind_of_type t)) (is_within object cell) (Some null) (memory cell)
      (λ _. null_fits program t.base t.pointers t.sizes s) (λ _. m cell t e s)

  pub memory_fits : (stores : List Store) (memory : Cell → Option Value) → EachStoreFits program stores → MemoryFits program memory → MemoryFits program (memory_after stores memory)
  memory_fits [] memory e m = m
  memory_fits (store ∷ stores) memory e m = memory_fits stores (stored store memory) e.1 (stored_fits store memory e.0 m)
