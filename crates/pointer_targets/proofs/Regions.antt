-- A cell that an access reaches lies in a region that it may touch.
use Rattle.std.proofs.Common.{◌≡◌, refl, sym, subst, ap, ◌∙◌, Bool, true, false, ◌&&◌, ℕ, ◌-◌, List, [], ◌∷◌, ◌++◌, Option, Some, None}
use Rattle.std.proofs.lemmas.List.{take-append-drop}
use Rattle.std.specs.Prelude.{take, length, option_and_then}
use Rattle.c_program.specs.declared.types.Base.{Base}
use Rattle.c_program.specs.declared.types.Base.TheVariants as base
use Rattle.c_program.specs.declared.types.CType.{CType}
use Rattle.c_program.specs.declared.program.Program.{Program}
use Rattle.c_program.specs.Types.{same_base, same_pointers, same_numbers, same_type, is_scalar_base, is_scalar_in, is_scalar, part_in, part_of_base, type_at, declared_type}
use Rattle.c_program.specs.Values.{Cell, Location, location_of, type_of_cell, is_within, is_scalar_type, is_data_cell}
use Rattle.c_program.specs.Control.{Spot}
use Rattle.c_program.proofs.Cells.{and_true, numbers_same, root_same}
use Rattle.pointer_targets.specs.Places.{place_of, type_of_place}
use Rattle.pointer_targets.specs.PointsTo.{MayPointTo, IsOfType}
use Rattle.pointer_targets.specs.Candidates.{LiesAt}
use Rattle.pointer_targets.specs.Accesses.{DataAccess, IsData, MayAccess, at_scalar, at_part}
use Rattle.pointer_targets.proofs.Values.{object_same, location_same}

-- ---- scalars

same_base_scalar : (a b : Base) → same_base a b ≡ true → is_scalar_base a ≡ true → is_scalar_base b ≡ true
same_base_scalar (base.Integer s) (base.Integer t) e h = refl
same_base_scalar (base.Atomic s) (base.Atomic t) e h = refl
same_base_scalar base.Void b e h = absurd (cc)
same_base_scalar (base.Structure s) b e h = absurd (cc)
same_base_scalar base.Mutex b e h = absurd (cc)
same_base_scalar base.Condition b e h = absurd (cc)
same_base_scalar base.Thread b e h = absurd (cc)
same_base_scalar base.Key b e h = absurd (cc)
same_base_scalar _ _ e h = absurd (cc)

same_in : (a b : Base) (c d : Bool) (ps qs : List Bool) (ns ms : List ℕ) → same_base a b ≡ true → same_pointers c d ps qs ≡ true → same_numbers ns ms ≡ true → is_scalar_in a ps ns ≡ true → is_scalar_in b qs ms ≡ true
same_in a b c d [] [] [] [] e f g h = same_base_scalar a b e h
same_in a b c d (p ∷ ps) (q ∷ qs) [] [] e f g h = refl
same_in a b c d [] (q ∷ qs) [] [] e f g h = absurd (cc)
same_in a b c d (p ∷ ps) [] [] [] e f g h = absurd (cc)
same_in a b c d ps qs (n ∷ ns) ms e f g h = absurd (cc)
same_in a b c d ps qs [] (m ∷ ms) e f g h = absurd (cc)

same_scalar : (t own : CType) → same_type t own ≡ true → is_scalar t ≡ true → is_scalar own ≡ true
same_scalar t own e h = let d = and_true (same_base t.base own.base && same_pointers t.is_const own.is_const t.pointers own.pointers) (same_numbers t.sizes own.sizes) e in
    let f = and_true (same_base t.base own.base) _ d.0 in same_in t.base own.base t.is_const own.is_const t.pointers own.pointers t.sizes own.sizes f.0 f.1 d.1 h

append_assoc : (xs ys zs : List ℕ) → xs ++ (ys ++ zs) ≡ (xs ++ ys) ++ zs
append_assoc [] ys zs = refl
append_assoc (x ∷ xs) ys zs = ap (λ l. x ∷ l) (append_assoc xs ys zs)

module _ (program : Program) where
  base_none : (c : Bool) (b : Base) (k : ℕ) → is_scalar_base b ≡ true → part_of_base program c b k ≡ None
  base_none c (base.Structure s) k h = absurd (cc)
  base_none c _ k h = refl

  part_none : (t : CType) (ps : List Bool) (ns : List ℕ) (k : ℕ) → is_scalar_in t.base ps ns ≡ true → part_in program t ps ns k ≡ None
  part_none t [] [] k h = base_none t.is_const t.base k h
  part_none t (p ∷ ps) [] k h = refl
  part_none t ps (n ∷ ns) k h = absurd (cc)

  abbrev next_type : Option CType → ℕ → Option CType
  next_type o k = option_and_then (λ t. part_in program t t.pointers t.sizes k) o

  no_part : (whole : Option CType) (path : List ℕ) (t : CType) → type_at program whole path ≡ Some t → is_scalar t ≡ true → (k : ℕ) (rest : List ℕ) → type_at program whole (k ∷ (rest ++ path)) ≡ None
  no_part whole path t e h k [] = ap (λ o. next_type o k) e ∙ part_none t t.pointers t.sizes k h
  no_part whole path t e h k (j ∷ rest) = ap (λ o. next_type o k) (no_part whole path t e h j rest)

  -- a scalar has no part but itself
  only_whole : (whole : Option CType) (path inner : List ℕ) (t own : CType) → type_at program whole path ≡ Some t → is_scalar t ≡ true → type_at program whole (inner ++ path) ≡ Some own → inner ≡ []
  only_whole whole path [] t own e h f = refl
  only_whole whole path (k ∷ rest) t own e h f = absurd (let g : None ≡ Some own = sym (no_part whole path t e h k rest) ∙ f in cc)

  data_own : (o : Option CType) → is_scalar_type o ≡ true → (own : CType) × ((o ≡ Some own) × (is_scalar own ≡ true))
  data_own None e = absurd (cc)
  data_own (Some own) e = (own, (refl, e))

  module _ (strings : ℕ → List Spot) (string : List Spot) (spot : Spot) where
    -- the address may lead to an object that the cell is a part of, or is
    pub record Reaches (access : DataAccess) (cell : Cell) : Type 0 where
      pub base : Cell
      pub outer : List ℕ
      pub root : base.root ≡ cell.root
      pub path : outer ++ base.path ≡ cell.path
      pub names : MayPointTo program string spot.rounds access.address (place_of strings base)
      pub typed : IsOfType program access.c_type (place_of strings base)
      pub whole : is_scalar access.c_type ≡ true → outer ≡ []

    type_same : (cell : Cell) → type_of_place program (place_of strings cell) ≡ type_of_cell program cell
    type_same cell = ap (λ n. type_at program (declared_type program n) cell.path) (object_same strings cell.root)

    -- the cell is the part at the path of what the address leads to
    abbrev Part : Cell → List ℕ → Cell
    Part cell path = record { root = cell.root; path = path ++ cell.path }

    pub reached : (access : DataAccess) (from cell : Cell) (inner : List ℕ) (location : Location) → Reaches access from → from.root ≡ cell.root → inner ++ from.path ≡ cell.path
        → location_of program cell ≡ Some location → is_data_cell program cell ≡ true → MayAccess program string spot access location
    reached access from cell inner location r root path l d = go (is_scalar access.c_type) refl
      where
        cell_is : Part r.base (inner ++ r.outer) ≡ cell
        cell_is = ap (λ x. record { root = x; path = (inner ++ r.outer) ++ r.base.path }) (r.root ∙ root)
            ∙ ap (λ l. record { root = cell.root; path = l }) (sym (append_assoc inner r.outer r.base.path) ∙ ap (λ l. inner ++ l) r.path ∙ path)

        lies : LiesAt program (place_of strings (Part r.base (inner ++ r.outer))) location
        lies = location_same program strings (Part r.base (inner ++ r.outer)) ∙ ap (location_of program) cell_is ∙ l

        has : (own : CType) × ((type_of_cell program cell ≡ Some own) × (is_scalar own ≡ true))
        has = data_own (type_of_cell program cell) d

        has_type : type_of_place program (place_of strings (Part r.base (inner ++ r.outer))) ≡ Some has.0
        has_type = type_same (Part r.base (inner ++ r.outer)) ∙ ap (type_of_cell program) cell_is ∙ has.1.0

        is_data : IsData program (place_of strings (Part r.base (inner ++ r.outer)))
        is_data = record { own = has.0; has_type = has_type; is_data = has.1.1 }

        go : (b : Bool) → is_scalar access.c_type ≡ b → MayAccess program string spot access location
        go false e = at_part (place_of strings r.base) (inner ++ r.outer) location e r.typed r.names is_data lies
        go true e = subst (λ (l : List ℕ). IsData program (place_of strings (Part r.base l)) → LiesAt program (place_of strings (Part r.base l)) location → MayAccess program string spot access location) (sym none)
            (λ i a. at_scalar (place_of strings r.base) location e r.names i a) is_data lies
          where
            none : inner ++ r.outer ≡ []
            none = only_whole (declared_type program _) r.base.path (inner ++ r.outer) r.typed.0 has.0 r.typed.1.0 (same_scalar access.c_type r.typed.0 r.typed.1.1 e) has_type

    -- where the access is of a scalar, the cell has its type
    pub whole_type : (access : DataAccess) (from cell : Cell) (inner : List ℕ) → Reaches access from → from.root ≡ cell.root → inner ++ from.path ≡ cell.path → is_data_cell program cell ≡ true → is_scalar access.c_type ≡ true
        → (own : CType) × ((type_of_cell program cell ≡ Some own) × (same_type access.c_type own ≡ true))
    whole_type access from cell inner r root path d e = (r.typed.0, (ap (type_of_cell program) (sym cell_is) ∙ sym (type_same (Part r.base (inner ++ r.outer))) ∙ ap (λ l. type_of_place program (place_of strings (Part r.base l))) none ∙ r.typed.1.0, r.typed.1.1))
      where
        cell_is : Part r.base (inner ++ r.outer) ≡ cell
        cell_is = ap (λ x. record { root = x; path = (inner ++ r.outer) ++ r.base.path }) (r.root ∙ root)
            ∙ ap (λ l. record { root = cell.root; path = l }) (sym (append_assoc inner r.outer r.base.path) ∙ ap (λ l. inner ++ l) r.path ∙ path)

        has : (own : CType) × ((type_of_cell program cell ≡ Some own) × (is_scalar own ≡ true))
        has = data_own (type_of_cell program cell) d

        none : inner ++ r.outer ≡ []
        none = only_whole (declared_type program _) r.base.path (inner ++ r.outer) r.typed.0 has.0 r.typed.1.0 (same_scalar access.c_type r.typed.0 r.typed.1.1 e)
            (type_same (Part r.base (inner ++ r.outer)) ∙ ap (type_of_cell program) cell_is ∙ has.1.0)

-- where a cell lies in a whole
pub within_is : (whole cell : Cell) → is_within whole cell ≡ true → (inner : List ℕ) × ((whole.root ≡ cell.root) × (inner ++ whole.path ≡ cell.path))
within_is whole cell w = let d = and_true _ _ w in (
  take (length cell.path - length whole.path) cell.path,
  (
    root_same _ _ d.0,
    ap (λ l. take (length cell.path - length whole.path) cell.path ++ l) (numbers_same _ _ d.1) ∙ take-append-drop (length cell.path - length whole.path) cell.path,
  ),
)
