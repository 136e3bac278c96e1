-- Memory behind stores that fit points-to.
use Rattle.std.proofs.Common.{◌≡◌, refl, subst, ap, ◌∙◌, Bool, true, false, cond, ℕ, ◌-◌, List, [], ◌∷◌, ◌++◌, Option, Some, None}
use Rattle.std.proofs.lemmas.List.{take-append-drop}
use Rattle.std.specs.Prelude.{take, length}
use Rattle.c_program.specs.declared.program.Program.{Program}
use Rattle.c_program.specs.Values.{Root, Cell, Value, null, same_cell, is_within, counterpart}
use Rattle.c_program.specs.Control.{Spot}
use Rattle.c_program.specs.Requests.{Store, Sets, Copies, Clears, Zeroes}
use Rattle.c_program.specs.Effects.{stored, memory_after}
use Rattle.c_program.proofs.Cells.{and_true, numbers_same, root_same, cell_same}
use Rattle.pointer_targets.specs.Places.{site_of, place_of}
use Rattle.pointer_targets.specs.PointsTo.{Holds}
use Rattle.pointer_targets.proofs.Values.{OnAddress, OnOption, option_on_map, on_if}
use Rattle.pointer_targets.proofs.Fine.{Points, Copied, StoreFine, EachFine}

module _ (program : Program) (strings : ℕ → List Spot) (B : Root → Type 0) where
  abbrev pub MemoryFine : (Cell → Option Value) → Type 0
  MemoryFine memory = (cell : Cell) → OnOption (Points program strings B cell) (memory cell)

  -- a part of what is copied has what its counterpart had
  pub part_copied : (to from cell target : Cell) → Copied program strings B to from → is_within to cell ≡ true → Points program strings B (counterpart to from cell) target → Points program strings B cell target
  part_copied to from cell target c w p = let d = and_true _ _ w in
      let root : to.root ≡ cell.root = root_same _ _ d.0 in
      let inner : List ℕ = take (length cell.path - length to.path) cell.path in
      let path : inner ++ to.path ≡ cell.path = ap (λ l. inner ++ l) (numbers_same _ _ d.1) ∙ take-append-drop (length cell.path - length to.path) cell.path in (
        subst B root c.0,
        p.1,
        subst (λ r. Holds program (record { site = site_of strings r; path = cell.path }) (place_of strings target)) root
            (subst (λ l. Holds program (record { site = site_of strings to.root; path = l }) (place_of strings target)) path (c.2 inner (place_of strings target) p.2)),
      )

  stored_fine : (store : Store) (memory : Cell → Option Value) → StoreFine program strings B store → MemoryFine memory → MemoryFine (stored store memory)
  stored_fine (Sets to v a) memory f m cell = go (same_cell to cell) refl
    where
      go : (b : Bool) → same_cell to cell ≡ b → OnOption (Points program strings B cell) (cond b (Some v) (memory cell))
      go true e = subst (λ c. OnAddress (Points program strings B c) v) (cell_same to cell e) f
      go false e = m cell
  stored_fine (Copies to from) memory f m cell = go (is_within to cell) refl
    where
      go : (b : Bool) → is_within to cell ≡ b → OnOption (Points program strings B cell) (cond b (memory (counterpart to from cell)) (memory cell))
      go true e = option_on_map (Points program strings B (counterpart to from cell)) (Points program strings B cell) (λ target p. part_copied to from cell target f e p) _ (m (counterpart to from cell))
      go false e = m cell
  stored_fine (Clears object) memory f m cell = on_if (Points program strings B cell) (is_within object cell) None (memory cell) tt (m cell)
  stored_fine (Zeroes object) memory f m cell = on_if (Points program strings B cell) (is_within object cell) (Some null) (memory cell) tt (m cell)

  pub memory_fine : (stores : List Store) (memory : Cell → Option Value) → EachFine program strings B stores → MemoryFine memory → MemoryFine (memory_after stores memory)
  memory_fine [] memory e m = m
  memory_fine (store ∷ stores) memory e m = memory_fine stores (stored store memory) e.1 (stored_fine store memory e.0 m)
