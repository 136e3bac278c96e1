-- Each typed action but a library call.
use Rattle.std.proofs.Common.{◌≡◌, refl, subst, ◌∙◌, Bool, true, false, ◌&&◌, ◌||◌, ◌==◌, ℕ, ℤ, List, [], ◌∷◌, Option, Some, None, eqb-true}
use Rattle.std.specs.Prelude.{option_map, unwrap_or, is_none}
use Rattle.c_program.specs.declared.types.CType.{CType}
use Rattle.c_program.specs.declared.types.Base.{Base}
use Rattle.c_program.specs.declared.types.Base.TheVariants as base
use Rattle.c_program.specs.declared.types.Integer.{Integer as IntegerType}
use Rattle.c_program.specs.declared.expression.Expr.{Expr}
use Rattle.c_program.specs.declared.action.Local.{Local as LocalOf}
use Rattle.c_program.specs.declared.program.Program.{Program}
use Rattle.c_program.specs.Types.{is_scalar, is_scalar_in, same_bool, same_bools, same_base, same_pointers, same_numbers, same_type, plain_type}
use Rattle.c_program.specs.Values.{Cell, Value, Number, Address, type_of_cell}
use Rattle.c_program.specs.Evaluation.{Here, eval}
use Rattle.c_program.specs.Requests.{local_cell, number_in, number_of_value}
use Rattle.c_program.specs.Typing.{Kind, Wrong, A_literal, A_number, A_pointer, An_address, is_number, is_right, kind_of, kind_of_type, takes_in, gets_in, local_is, into_gets, is_structure_in}
use Rattle.c_program.proofs.Cells.{and_true, numbers_same}
use Rattle.type_safety.specs.Fitting.{IsNumber, Fits, OptFits, MemoryFits}
use Rattle.type_safety.specs.Causes.{is_of_type, Fails}
use Rattle.type_safety.proofs.Comes.{Comes}
use Rattle.type_safety.proofs.OfKinds.{number_is, gets_fits}
use Rattle.type_safety.proofs.Shapes.{to_own, from_own, scalar_own}
use Rattle.type_safety.proofs.Evaluating.{type_of_own, evaluated}
use Rattle.type_safety.proofs.Judging.{CellGets, Alike, IntoGets}

-- ---- tests

pub or_cases : {C : Type 0} (a b : Bool) → (a || b) ≡ true → (a ≡ true → C) → (b ≡ true → C) → C
or_cases true b e f g = f refl
or_cases false b e f g = g e

pub first_side : (s g r : Bool) → ((s && g) || r) ≡ true → s ≡ true → (r ≡ true → ⊥) → g ≡ true
first_side true true r q e f = refl
first_side true false r q e f = absurd (f q)
first_side false g r q e f = absurd (cc)

pub second_side : (s g r : Bool) → ((s && g) || r) ≡ true → s ≡ false → r ≡ true
second_side true g r q e = absurd (cc)
second_side false g r q e = q

bool_trans : (a b c : Bool) → same_bool a b ≡ true → same_bool b c ≡ true → same_bool a c ≡ true
bool_trans true true c e f = f
bool_trans false false c e f = f
bool_trans true false c e f = absurd (cc)
bool_trans false true c e f = absurd (cc)

pub both_true : (a b : Bool) → a ≡ true → b ≡ true → (a && b) ≡ true
both_true true b e f = f
both_true false b e f = absurd (cc)

bools_trans : (p q r : List Bool) → same_bools p q ≡ true → same_bools q r ≡ true → same_bools p r ≡ true
bools_trans [] [] r e f = f
bools_trans (x ∷ xs) (y ∷ ys) (z ∷ zs) e f = let a = and_true _ _ e in let b = and_true _ _ f in both_true _ _ (bool_trans x y z a.0 b.0) (bools_trans xs ys zs a.1 b.1)
bools_trans [] (y ∷ ys) r e f = absurd (cc)
bools_trans (x ∷ xs) [] r e f = absurd (cc)
bools_trans (x ∷ xs) (y ∷ ys) [] e f = absurd (cc)

pointers_trans : (a b c : Bool) (p q r : List Bool) → same_pointers a b p q ≡ true → same_pointers b c q r ≡ true → same_pointers a c p r ≡ true
pointers_trans a b c [] [] [] e f = refl
pointers_trans a b c (x ∷ xs) (y ∷ ys) (z ∷ zs) e f = let g = and_true _ _ e in let h = and_true _ _ f in both_true _ _ (bool_trans a b c g.0 h.0) (bools_trans xs ys zs g.1 h.1)
pointers_trans a b c [] [] (z ∷ zs) e f = absurd (cc)
pointers_trans a b c [] (y ∷ ys) r e f = absurd (cc)
pointers_trans a b c (x ∷ xs) [] r e f = absurd (cc)
pointers_trans a b c (x ∷ xs) (y ∷ ys) [] e f = absurd (cc)

equal_trans : (a b c : ℕ) → (a == b) ≡ true → (b == c) ≡ true → (a == c) ≡ true
equal_trans a b c e f = subst (λ n. (a == n) ≡ true) (eqb-true b c f) e

base_trans : (a b c : Base) → same_base a b ≡ true → same_base b c ≡ true → same_base a c ≡ true
base_trans base.Void base.Void c e f = f
base_trans (base.Integer s) (base.Integer t) (base.Integer u) e f = equal_trans _ _ _ e f
base_trans (base.Atomic s) (base.Atomic t) (base.Atomic u) e f = equal_trans _ _ _ e f
base_trans (base.Structure s) (base.Structure t) (base.Structure u) e f = equal_trans _ _ _ e f
base_trans base.Mutex base.Mutex c e f = f
base_trans base.Condition base.Condition c e f = f
base_trans base.Thread base.Thread c e f = f
base_trans base.Key base.Key c e f = f
base_trans _ _ _ e f = absurd (cc)

pub type_trans : (t u v : CType) → same_type t u ≡ true → same_type u v ≡ true → same_type t v ≡ true
type_trans t u v e f = let a = and_true _ _ e in let b = and_true _ _ f in let p = and_true _ _ a.0 in let q = and_true _ _ b.0 in
    both_true _ _ (both_true _ _ (base_trans t.base u.base v.base p.0 q.0) (pointers_trans t.is_const u.is_const v.is_const t.pointers u.pointers v.pointers p.1 q.1))
    (subst (λ ns. same_numbers t.sizes ns ≡ true) (numbers_same u.sizes v.sizes b.1) a.1)

-- ---- kinds and types

pub structure_in : (b : Base) (pointers : List Bool) (sizes : List ℕ) → is_structure_in b pointers sizes ≡ true → is_scalar_in b pointers sizes ≡ true → ⊥
structure_in (base.Structure s) [] [] e f = absurd (cc)
structure_in base.Void [] [] e f = absurd (cc)
structure_in (base.Integer t) [] [] e f = absurd (cc)
structure_in (base.Atomic t) [] [] e f = absurd (cc)
structure_in base.Mutex [] [] e f = absurd (cc)
structure_in base.Condition [] [] e f = absurd (cc)
structure_in base.Thread [] [] e f = absurd (cc)
structure_in base.Key [] [] e f = absurd (cc)
structure_in b (p ∷ ps) [] e f = absurd (cc)
structure_in b pointers (n ∷ ns) e f = absurd (cc)

pub takes_right : (b : Base) (pointers : List Bool) (sizes : List ℕ) (k : Kind) → takes_in b pointers sizes k ≡ true → (is_right k ≡ true) × (is_scalar_in b pointers sizes ≡ true)
takes_right b pointers sizes k e = (right k e, scalar b pointers sizes k e)
  where
    scalar : (b : Base) (pointers : List Bool) (sizes : List ℕ) (k : Kind) → takes_in b pointers sizes k ≡ true → is_scalar_in b pointers sizes ≡ true
    scalar (base.Integer t) [] [] k e = refl
    scalar (base.Atomic t) [] [] k e = refl
    scalar base.Void [] [] k e = absurd (cc)
    scalar (base.Structure s) [] [] k e = absurd (cc)
    scalar base.Mutex [] [] k e = absurd (cc)
    scalar base.Condition [] [] k e = absurd (cc)
    scalar base.Thread [] [] k e = absurd (cc)
    scalar base.Key [] [] k e = absurd (cc)
    scalar b (p ∷ ps) [] k e = refl
    scalar b pointers (n ∷ ns) k e = absurd (cc)

    wrong : (b : Base) (pointers : List Bool) (sizes : List ℕ) → takes_in b pointers sizes Wrong ≡ true → ⊥
    wrong (base.Integer t) [] [] e = absurd (cc)
    wrong (base.Atomic t) [] [] e = absurd (cc)
    wrong base.Void [] [] e = absurd (cc)
    wrong (base.Structure s) [] [] e = absurd (cc)
    wrong base.Mutex [] [] e = absurd (cc)
    wrong base.Condition [] [] e = absurd (cc)
    wrong base.Thread [] [] e = absurd (cc)
    wrong base.Key [] [] e = absurd (cc)
    wrong b (p ∷ ps) [] e = absurd (cc)
    wrong b pointers (n ∷ ns) e = absurd (cc)

    right : (k : Kind) → takes_in b pointers sizes k ≡ true → is_right k ≡ true
    right Wrong e = absurd (wrong b pointers sizes e)
    right (A_literal l h) e = refl
    right (A_number t) e = refl
    right A_pointer e = refl
    right (An_address t) e = refl

pub gets_right : (b : Base) (pointers : List Bool) (sizes : List ℕ) (k : Kind) → gets_in b pointers sizes k ≡ true → is_right k ≡ true
gets_right b pointers sizes k e = right k e
  where
    wrong : (b : Base) (pointers : List Bool) (sizes : List ℕ) → gets_in b pointers sizes Wrong ≡ true → ⊥
    wrong (base.Integer t) [] [] e = absurd (cc)
    wrong (base.Atomic t) [] [] e = absurd (cc)
    wrong base.Void [] [] e = absurd (cc)
    wrong (base.Structure s) [] [] e = absurd (cc)
    wrong base.Mutex [] [] e = absurd (cc)
    wrong base.Condition [] [] e = absurd (cc)
    wrong base.Thread [] [] e = absurd (cc)
    wrong base.Key [] [] e = absurd (cc)
    wrong b (p ∷ ps) [] e = absurd (cc)
    wrong b pointers (n ∷ ns) e = absurd (cc)

    right : (k : Kind) → gets_in b pointers sizes k ≡ true → is_right k ≡ true
    right Wrong e = absurd (wrong b pointers sizes e)
    right (A_literal l h) e = refl
    right (A_number t) e = refl
    right A_pointer e = refl
    right (An_address t) e = refl

module _ (program : Program) where
  pub into_fits : (into : Option LocalOf) (k : Kind) (v : Value) → into_gets program into k ≡ true → Fits program k v → IntoGets program into (Some v)
  into_fits None k v e f = tt
  into_fits (Some local) k v e f = let p = and_true _ _ e in (p.0, gets_fits program local.c_type.base local.c_type.pointers local.c_type.sizes k v p.1 f)

  pub no_into : (into : Option LocalOf) (o : Option Value) → is_none into ≡ true → IntoGets program into o
  no_into None o e = tt
  no_into (Some local) o e = absurd (cc)

  pub into_none : (into : Option LocalOf) → IntoGets program into None
  into_none None = tt
  into_none (Some local) = tt

module _ (here : Here) where
  -- the object of a cell that is used at a type
  pub own_type : (t : CType) (cell : Cell) (own : CType) → is_of_type here t cell ≡ true → type_of_cell here.program cell ≡ Some own → same_type t own ≡ true
  own_type t cell own e f = subst (λ o. unwrap_or (option_map (same_type t) o) false ≡ true) f e

  typed_at : (t : CType) (o : Option CType) → unwrap_or (option_map (same_type t) o) false ≡ true → (own : CType) × (o ≡ Some own) × (same_type t own ≡ true)
  typed_at t None e = absurd (cc)
  typed_at t (Some own) e = (own, refl, e)

  pub cell_gets : (t : CType) (cell : Cell) (v : Value) → is_of_type here t cell ≡ true → Fits here.program (kind_of_type t) v → CellGets here.program cell v
  cell_gets t cell v e f own g s = to_own here.program t own v (own_type t cell own e g) f

  pub two_alike : (t : CType) (a b : Cell) → is_of_type here t a ≡ true → is_of_type here t b ≡ true → Alike here.program a b
  two_alike t a b e f = let p = typed_at t _ e in let q = typed_at t _ f in (t, p.0, q.0, p.1, q.1, p.2, q.2)

  -- the local of a structure
  pub local_alike : (t : CType) (local : LocalOf) (cell : Cell) → local_is here.program local ≡ true → same_type t local.c_type ≡ true → is_of_type here t cell ≡ true → Alike here.program (local_cell here local) cell
  local_alike t local cell e f g = let p = typed_at local.c_type _ e in let q = typed_at t _ g in
      (t, p.0, q.0, type_of_own here local.object local.path ∙ p.1, q.1, type_trans t local.c_type p.0 f p.2, q.2)

  module _ (memory : MemoryFits here.program here.memory) where
    -- what a scalar object holds
    pub held_at : (t : CType) (cell : Cell) → is_of_type here t cell ≡ true → is_scalar t ≡ true → Comes (Fits here.program (kind_of_type t)) (here.memory cell ≡ None) (here.memory cell)
    unfolding Comes
    held_at t cell e s = let p = typed_at t _ e in go (here.memory cell) p.0 (memory cell p.0 p.1 (scalar_own here.program t p.0 p.2 s)) p.2
      where
        go : (o : Option Value) (own : CType) → OptFits here.program (kind_of_type own) o → same_type t own ≡ true → Comes (Fits here.program (kind_of_type t)) (o ≡ None) o
        go None own f q = refl
        go (Some v) own f q = from_own here.program t own v q f

    number_from : (k : Kind) (F : Type 0) (o : Option Value) → is_number k ≡ true → Comes (Fits here.program k) F o → Comes (λ (z : ℤ). o ≡ Some (Number z)) F (number_in o)
    unfolding Comes
    number_from k F None n c = c
    number_from k F (Some v) n c = go v (number_is here.program k v n c)
      where
        go : (v : Value) → IsNumber v → Comes (λ (z : ℤ). Some v ≡ Some (Number z)) F (number_in (Some v))
        go (Number z) m = refl
        go (Address cell) m = absurd m

    pub number_held : (i : IntegerType) (b : IntegerType → Base) (cell : Cell) → is_of_type here (plain_type (b i)) cell ≡ true → is_number (kind_of_type (plain_type (b i))) ≡ true → is_scalar (plain_type (b i)) ≡ true
        → Comes (λ (z : ℤ). here.memory cell ≡ Some (Number z)) (here.memory cell ≡ None) (number_in (here.memory cell))
    number_held i b cell e n s = number_from (kind_of_type (plain_type (b i))) _ (here.memory cell) n (held_at (plain_type (b i)) cell e s)

    pub number_value : (e : Expr) → is_number (kind_of here.program e) ≡ true → Comes (λ (z : ℤ). eval here e ≡ Some (Number z)) (Fails here e) (number_of_value here e)
    number_value e n = number_from (kind_of here.program e) _ (eval here e) n (evaluated here memory e (right_number _ n))
      where
        right_number : (k : Kind) → is_number k ≡ true → is_right k ≡ true
        right_number (A_literal l h) e = refl
        right_number (A_number t) e = refl
        right_number Wrong e = absurd (cc)
        right_number A_pointer e = refl
        right_number (An_address t) e = refl
