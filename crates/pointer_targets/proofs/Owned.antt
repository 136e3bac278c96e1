-- Which thread an object is of, and what stores leave with it.
use Rattle.std.proofs.Common.{◌≡◌, refl, sym, subst, ◌∙◌, Bool, true, false, cond, ℕ, List, [], ◌∷◌, ◌++◌, Option, Some, None}
use Rattle.c_program.specs.declared.action.Local.{Local}
use Rattle.c_program.specs.declared.program.Program.{Program}
use Rattle.c_program.specs.Values.{Root, Static, Of_thread, Of_frame, Cell, Value, Number, Address, null, same_cell, is_within, counterpart}
use Rattle.c_program.specs.Control.{Spot}
use Rattle.c_program.specs.Requests.{Store, Sets, Copies, Clears, Zeroes}
use Rattle.c_program.specs.Effects.{stored, memory_after, put, put_result, bound, joined_result}
use Rattle.c_program.proofs.Cells.{and_true, root_same, cell_same}
use Rattle.pointer_targets.specs.Places.{site_of, place_of}
use Rattle.pointer_targets.specs.PointsTo.{Holds, Keeps, Results}
use Rattle.pointer_targets.specs.Escapes.{is_static_site, into_static, into_key, by_exit, NoneEscapes}
use Rattle.pointer_targets.proofs.Values.{IsBelow, OnAddress, OnOption, on_map, option_on_map, on_if}
use Rattle.pointer_targets.proofs.Fine.{Points, StoreFine, EachFine}
use Rattle.pointer_targets.proofs.Stored.{part_copied}
use Rattle.pointer_targets.proofs.Changes.{base_on}

-- an object that is not static, of the thread; and one that is static or of it
abbrev pub Has : (ℕ → ℕ) → ℕ → Root → Type 0
Has owner t (Static own) = ⊥
Has owner t (Of_thread thread own) = thread ≡ t
Has owner t (Of_frame frame own) = owner frame ≡ t

abbrev pub Within : (ℕ → ℕ) → ℕ → Root → Type 0
Within owner t (Static own) = Unit {0}
Within owner t (Of_thread thread own) = thread ≡ t
Within owner t (Of_frame frame own) = owner frame ≡ t

-- what is no static object has addresses of static objects and of its own thread's
abbrev pub Kept : (ℕ → ℕ) → Cell → Cell → Type 0
Kept owner holder cell = (t : ℕ) → Has owner t holder.root → Within owner t cell.root

abbrev pub StoreKept : (ℕ → ℕ) → Store → Type 0
StoreKept owner (Sets to v a) = OnAddress (Kept owner to) v
StoreKept owner (Copies to from) = Kept owner to from
StoreKept owner _ = Unit {0}

abbrev pub EachKept : (ℕ → ℕ) → List Store → Type 0
EachKept owner [] = Unit {0}
EachKept owner (store ∷ stores) = StoreKept owner store × EachKept owner stores

pub same_thread : (owner : ℕ → ℕ) (t u : ℕ) (root : Root) → Within owner t root → Has owner u root → t ≡ u
same_thread owner t u (Static own) w h = absurd h
same_thread owner t u (Of_thread thread own) w h = sym w ∙ h
same_thread owner t u (Of_frame frame own) w h = sym w ∙ h

-- ---- static objects

module _ (program : Program) (sealed : NoneEscapes program) (strings : ℕ → List Spot) (owner : ℕ → ℕ) (t : ℕ) where
  pub static_held : (holder : Cell) (root : Root) (path : List ℕ) → is_static_site (site_of strings holder.root) ≡ true → Holds program (place_of strings holder) (place_of strings (record { root = root; path = path })) → Within owner t root
  static_held holder (Static own) path s h = tt
  static_held holder (Of_thread thread own) path s h = absurd (sealed _ (into_static _ _ refl s h))
  static_held holder (Of_frame frame own) path s h = absurd (sealed _ (into_static _ _ refl s h))

  pub static_kept : (key : Cell) (root : Root) (path : List ℕ) → Keeps program (place_of strings key) (place_of strings (record { root = root; path = path })) → Within owner t root
  static_kept key (Static own) path h = tt
  static_kept key (Of_thread thread own) path h = absurd (sealed _ (into_key _ _ refl h))
  static_kept key (Of_frame frame own) path h = absurd (sealed _ (into_key _ _ refl h))

  pub static_result : (root : Root) (path : List ℕ) → Results program (place_of strings (record { root = root; path = path })) → Within owner t root
  static_result (Static own) path h = tt
  static_result (Of_thread thread own) path h = absurd (sealed _ (by_exit _ refl h))
  static_result (Of_frame frame own) path h = absurd (sealed _ (by_exit _ refl h))

-- ---- memory behind stores

module _ (program : Program) (sealed : NoneEscapes program) (strings : ℕ → List Spot) (called : ℕ) (owner : ℕ → ℕ) where
  -- what memory has fits, and stays with its thread
  abbrev pub Fits : Cell → Cell → Type 0
  Fits cell to = Points program strings (IsBelow called) cell to × Kept owner cell to

  abbrev pub MemoryKept : (Cell → Option Value) → Type 0
  MemoryKept memory = (cell : Cell) → OnOption (Fits cell) (memory cell)

  -- what a part of another object has
  pub from_part : (root : Root) (path : List ℕ) (target : Cell) (u : ℕ) → Within owner u root → Fits (record { root = root; path = path }) target → Within owner u target.root
  from_part (Static own) path target u w f = static_held program sealed strings owner u (record { root = Static own; path = path }) target.root target.path refl f.0.2
  from_part (Of_thread thread own) path target u w f = f.1 u w
  from_part (Of_frame frame own) path target u w f = f.1 u w

  stored_kept : (store : Store) (memory : Cell → Option Value) → StoreFine program strings (IsBelow called) store → StoreKept owner store → MemoryKept memory → MemoryKept (stored store memory)
  stored_kept (Sets to v a) memory f k m cell = go (same_cell to cell) refl
    where
      both : (v : Value) → OnAddress (Points program strings (IsBelow called) to) v → OnAddress (Kept owner to) v → OnAddress (Fits to) v
      both (Number z) f k = tt
      both (Address d) f k = (f, k)

      go : (b : Bool) → same_cell to cell ≡ b → OnOption (Fits cell) (cond b (Some v) (memory cell))
      go true e = subst (λ c. OnAddress (Fits c) v) (cell_same to cell e) (both v f k)
      go false e = m cell
  stored_kept (Copies to from) memory f k m cell = go (is_within to cell) refl
    where
      go : (b : Bool) → is_within to cell ≡ b → OnOption (Fits cell) (cond b (memory (counterpart to from cell)) (memory cell))
      go true e = option_on_map (Fits (counterpart to from cell)) (Fits cell) (λ target p. (
        part_copied program strings (IsBelow called) to from cell target f e p.0,
        λ u h. from_part from.root (counterpart to from cell).path target u (k u (subst (Has owner u) (sym (root_same _ _ (and_true _ _ e).0)) h)) p,
      )) _ (m (counterpart to from cell))
      go false e = m cell
  stored_kept (Clears object) memory f k m cell = on_if (Fits cell) (is_within object cell) None (memory cell) tt (m cell)
  stored_kept (Zeroes object) memory f k m cell = on_if (Fits cell) (is_within object cell) (Some null) (memory cell) tt (m cell)

  pub memory_kept : (stores : List Store) (memory : Cell → Option Value) → EachFine program strings (IsBelow called) stores → EachKept owner stores → MemoryKept memory → MemoryKept (memory_after stores memory)
  memory_kept [] memory f k m = m
  memory_kept (store ∷ stores) memory f k m = memory_kept stores (stored store memory) f.1 k.1 (stored_kept store memory f.0 k.0 m)

-- ---- what a thread stores

pub appended_kept : (owner : ℕ → ℕ) (xs ys : List Store) → EachKept owner xs → EachKept owner ys → EachKept owner (xs ++ ys)
appended_kept owner [] ys a b = b
appended_kept owner (x ∷ xs) ys a b = (a.0, appended_kept owner xs ys a.1 b)

-- a value that is static or of the thread
abbrev pub OfThread : (ℕ → ℕ) → ℕ → Cell → Type 0
OfThread owner t cell = Within owner t cell.root

module _ (owner : ℕ → ℕ) (t : ℕ) where
  pub to_own : (to : Cell) → Within owner t to.root → (v : Value) → OnAddress (OfThread owner t) v → OnAddress (Kept owner to) v
  to_own to w v o = on_map (OfThread owner t) (Kept owner to) (λ cell c u h. subst (λ n. Within owner n cell.root) (same_thread owner t u to.root w h) c) v o

  pub put_kept : (frame : ℕ) → owner frame ≡ t → (into : Option Local) (v : Option Value) → OnOption (OfThread owner t) v → EachKept owner (put frame into v)
  put_kept frame w None v o = tt
  put_kept frame w (Some local) None o = (tt, tt)
  put_kept frame w (Some local) (Some v) o = (to_own (record { root = Of_frame frame local.object; path = local.path }) w _ (base_on (OfThread owner t) local.c_type.base local.c_type.pointers v o), tt)

  pub put_result_kept : (frame : ℕ) → owner frame ≡ t → (into : Option Local) (v : Option Value) → OnOption (OfThread owner t) v → EachKept owner (put_result frame into v)
  put_result_kept frame w into None o = tt
  put_result_kept frame w into (Some v) o = put_kept frame w into (Some v) o

  abbrev pub AllOf : List Value → Type 0
  AllOf [] = Unit {0}
  AllOf (v ∷ vs) = OnAddress (OfThread owner t) v × AllOf vs

  pub bound_kept : (frame : ℕ) → owner frame ≡ t → (ps : List ℕ) (vs : List Value) → AllOf vs → EachKept owner (bound frame ps vs)
  bound_kept frame w [] vs o = tt
  bound_kept frame w (p ∷ ps) [] o = tt
  bound_kept frame w (p ∷ ps) (v ∷ vs) o = (to_own (record { root = Of_frame frame p; path = [] }) w v o.0, bound_kept frame w ps vs o.1)

  pub joined_kept : (into : Option Cell) (v : Option Value) → ((cell : Cell) → into ≡ Some cell → Within owner t cell.root) → OnOption (OfThread owner t) v → EachKept owner (joined_result into v)
  joined_kept None v w o = tt
  joined_kept (Some cell) None w o = tt
  joined_kept (Some cell) (Some v) w o = (to_own cell (w cell refl) v o, tt)
