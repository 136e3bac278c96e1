-- Steps that conflict at a cell have accesses that conflict at its region.
use Rattle.std.proofs.Common.{◌≡◌, refl, sym, subst, ap, ◌∙◌, Bool, true, false, not, ◌&&◌, ◌||◌, ℕ, zero, suc, List, [], ◌∷◌, ◌++◌, Some}
use Rattle.std.specs.List.{list_any}
use Rattle.std.specs.Prelude.{slice_get}
use Rattle.c_program.specs.declared.action.Act.{Act}
use Rattle.c_program.specs.declared.program.Program.{Program}
use Rattle.c_program.specs.Syntax.{act_at}
use Rattle.c_program.specs.Values.{Cell, Location, location_of, is_data_cell, same_cell}
use Rattle.c_program.specs.Control.{Move, Spot, spot_in, string_of}
use Rattle.c_program.specs.State.{State, top, frames_of}
use Rattle.c_program.specs.Requests.{Load, Store, Sets, Copies, Clears, Zeroes}
use Rattle.c_program.specs.Happens.{load_reads, load_reads_atomically, store_writes, store_writes_atomically, reads, writes, accesses, reads_atomically, writes_atomically, is_atomic_at}
use Rattle.c_program.specs.Effects.{Effect}
use Rattle.c_program.specs.Step.{Choice}
use Rattle.c_program.specs.Runs.{IsGoodRun, state_after}
use Rattle.c_program.specs.WellFormed.{IsWellFormed}
use Rattle.c_program.specs.Laws.{IsStepBy}
use Rattle.c_program.proofs.Cells.{cell_same}
use Rattle.pointer_targets.specs.Accesses.{MayTouch}
use Rattle.pointer_targets.specs.Laws.{stored_atomically, ConflictsAreTold}
use Rattle.pointer_targets.proofs.Regions.{within_is}
use Rattle.pointer_targets.proofs.Touching.{Touched, StoreTouched}
use Rattle.pointer_targets.proofs.Alike.{alike}
use Rattle.pointer_targets.proofs.Accessed.{stores_are, loads_are, load_at, store_at, located_static, reads_are, writes_are}

-- which one it is
any_index : {A : Type 0} (test : A → Bool) (xs : List A) → list_any test xs ≡ true → (n : ℕ) × ((x : A) × ((slice_get xs n ≡ Some x) × (test x ≡ true)))
any_index test [] e = absurd (cc)
any_index test (x ∷ xs) e = go (test x) refl e (any_index test xs)
  where
    go : (b : Bool) → test x ≡ b → (b || list_any test xs) ≡ true → (list_any test xs ≡ true → (n : ℕ) × ((y : _) × ((slice_get xs n ≡ Some y) × (test y ≡ true))))
        → (n : ℕ) × ((y : _) × ((slice_get (x ∷ xs) n ≡ Some y) × (test y ≡ true)))
    go true q e rest = (zero, (x, (refl, q)))
    go false q e rest = let r = rest e in (suc r.0, r.1)

any_at : {A : Type 0} (test : A → Bool) (xs : List A) (n : ℕ) (x : A) → slice_get xs n ≡ Some x → test x ≡ true → list_any test xs ≡ true
any_at test [] n x q e = absurd (cc)
any_at test (y ∷ ys) zero x q e = ap (λ b. b || list_any test ys) (subst (λ z. test z ≡ true) (sym (same y x q)) e)
  where
    same : {A : Type 0} (a b : A) → Some a ≡ Some b → a ≡ b
    same a b e = cc
any_at test (y ∷ ys) (suc n) x q e = later (test y) (any_at test ys n x q e)
  where
    later : (a : Bool) → list_any test ys ≡ true → (a || list_any test ys) ≡ true
    later true e = refl
    later false e = e

both_true : (a b : Bool) → a ≡ true → b ≡ true → (a && b) ≡ true
both_true true b p q = q
both_true false b p q = absurd (cc)

-- ---- one step

module _ (program : Program) (well : IsWellFormed program) (run : List Choice) (good : IsGoodRun program run) (choice : Choice) (move : Move) (effect : Effect)
    (step : IsStepBy program (state_after program run) choice move effect) (cell : Cell) (location : Location) (l : location_of program cell ≡ Some location) (d : is_data_cell program cell ≡ true) where
  abbrev state : State
  state = state_after program run

  abbrev spot : Spot
  spot = spot_in step.control move.action

  abbrev action : Act
  action = act_at program move.action

  abbrev string : List Spot
  string = state.string (top (frames_of (state.thread choice.thread).stand))

  abbrev here : List Spot
  here = string_of step.control ++ (state.thread choice.thread).origin

  -- an access of the step to the cell
  record Reached (w a : Bool) : Type 0 where
    from : Cell
    inner : List ℕ
    touched : Touched program state.string string spot action w a from
    root : from.root ≡ cell.root
    path : inner ++ from.path ≡ cell.path
    told : MayTouch program here spot action w a location

  load_reached : (load : Load) (n : ℕ) → slice_get effect.loads n ≡ Some load → load_reads cell load ≡ true → Reached false load.is_atomic
  load_reached load n q e = let p = within_is load.from cell e in record {
    from = load.from;
    inner = p.0;
    touched = load_at program state.string string spot action effect.loads (loads_are program well run good choice move effect step) n load q;
    root = p.1.0;
    path = p.1.1;
    told = reads_are program well run good choice move effect step cell location l d n load q e;
  }

  store_reached : (store : Store) (n : ℕ) → slice_get effect.stores n ≡ Some store → store_writes cell store ≡ true → Reached true (stored_atomically store)
  store_reached store n q e = go store (store_at program state.string string spot action effect.stores (stores_are program well run good choice move effect step) n store q) e (writes_are program well run good choice move effect step cell location l d n store q e)
    where
      go : (store : Store) → StoreTouched program state.string string spot action store → store_writes cell store ≡ true → MayTouch program here spot action true (stored_atomically store) location → Reached true (stored_atomically store)
      go (Sets to v a) t e m = let c : to ≡ cell = cell_same to cell e in record {
        from = to;
        inner = [];
        touched = t (located_static program state.string string spot action to.root cell.root cell.path to.path location (ap (λ (x : Cell). x.root) c) l);
        root = ap (λ (x : Cell). x.root) c;
        path = ap (λ (x : Cell). x.path) c;
        told = m;
      }
      go (Copies to from) t e m = let p = within_is to cell e in record {
        from = to;
        inner = p.0;
        touched = t (located_static program state.string string spot action to.root cell.root cell.path to.path location p.1.0 l);
        root = p.1.0;
        path = p.1.1;
        told = m;
      }
      go (Clears object) t e m = let p = within_is object cell e in absurd (t (located_static program state.string string spot action object.root cell.root cell.path object.path location p.1.0 l))
      go (Zeroes object) t e m = let p = within_is object cell e in absurd (t (located_static program state.string string spot action object.root cell.root cell.path object.path location p.1.0 l))

  one_flag : (w v a b : Bool) → Reached w a → Reached v b → a ≡ b
  one_flag w v a b x y = alike program state.string string spot action w v a b x.from y.from cell x.inner y.inner x.touched y.touched x.root x.path y.root y.path d

  -- what is said of the step's accesses to the cell, all with one flag
  record Told (a : Bool) : Type 0 where
    read : reads effect cell ≡ true → MayTouch program here spot action false a location
    write : writes effect cell ≡ true → MayTouch program here spot action true a location
    plain : is_atomic_at effect cell ≡ false → a ≡ false

  by_one : (w a : Bool) → Reached w a → Told a
  by_one w a x = record {
    read = λ e. (find_load e).told;
    write = λ e. (find_store e).told;
    plain = λ e. go a refl e;
  }
    where
      find_load : reads effect cell ≡ true → Reached false a
      find_load e = let f = any_index (load_reads cell) effect.loads e in let r = load_reached f.1.0 f.0 f.1.1.0 f.1.1.1 in
          subst (Reached false) (one_flag false w f.1.0.is_atomic a r x) r

      find_store : writes effect cell ≡ true → Reached true a
      find_store e = let f = any_index (store_writes cell) effect.stores e in let r = store_reached f.1.0 f.0 f.1.1.0 f.1.1.1 in
          subst (Reached true) (one_flag true w (stored_atomically f.1.0) a r x) r

      loads_all : a ≡ true → reads effect cell ≡ true → reads_atomically effect cell ≡ true
      loads_all q e = let f = any_index (load_reads cell) effect.loads e in any_at (load_reads_atomically cell) effect.loads f.0 f.1.0 f.1.1.0
          (both_true f.1.0.is_atomic _ (one_flag false w f.1.0.is_atomic a (load_reached f.1.0 f.0 f.1.1.0 f.1.1.1) x ∙ q) f.1.1.1)

      store_atomic : (store : Store) → stored_atomically store ≡ true → store_writes cell store ≡ true → store_writes_atomically cell store ≡ true
      store_atomic (Sets to v b) q e = both_true b (same_cell to cell) q e
      store_atomic (Copies to from) q e = absurd (cc)
      store_atomic (Clears object) q e = absurd (cc)
      store_atomic (Zeroes object) q e = absurd (cc)

      stores_all : a ≡ true → writes effect cell ≡ true → writes_atomically effect cell ≡ true
      stores_all q e = let f = any_index (store_writes cell) effect.stores e in any_at (store_writes_atomically cell) effect.stores f.0 f.1.0 f.1.1.0
          (store_atomic f.1.0 (one_flag true w (stored_atomically f.1.0) a (store_reached f.1.0 f.0 f.1.1.0 f.1.1.1) x ∙ q) f.1.1.1)

      then_true : (p q : Bool) → (q ≡ true → p ≡ true) → (p || not q) ≡ true
      then_true true q h = refl
      then_true false true h = h refl
      then_true false false h = refl

      go : (b : Bool) → a ≡ b → is_atomic_at effect cell ≡ false → a ≡ false
      go false q e = q
      go true q e = absurd (let f : is_atomic_at effect cell ≡ true = both_true (reads_atomically effect cell || not (reads effect cell)) _ (then_true (reads_atomically effect cell) (reads effect cell) (loads_all q)) (then_true (writes_atomically effect cell) (writes effect cell) (stores_all q)) in
          let g : true ≡ false = sym f ∙ e in cc)

  told : accesses effect cell ≡ true → (a : Bool) × Told a
  told e = go (reads effect cell) refl e
    where
      go : (b : Bool) → reads effect cell ≡ b → (b || writes effect cell) ≡ true → (a : Bool) × Told a
      go true q e = let f = any_index (load_reads cell) effect.loads q in (f.1.0.is_atomic, by_one false f.1.0.is_atomic (load_reached f.1.0 f.0 f.1.1.0 f.1.1.1))
      go false q e = let f = any_index (store_writes cell) effect.stores e in (stored_atomically f.1.0, by_one true (stored_atomically f.1.0) (store_reached f.1.0 f.0 f.1.1.0 f.1.1.1))

  -- an access of the kind that the step makes
  pub record Made : Type 0 where
    pub atomically : Bool
    pub does_write : Bool
    pub touch : MayTouch program here spot action does_write atomically location
    pub writes_so : writes effect cell ≡ true → does_write ≡ true
    pub plain_so : is_atomic_at effect cell ≡ false → atomically ≡ false

  pub made : accesses effect cell ≡ true → Made
  made e = go (writes effect cell) refl (told e)
    where
      reads_then : (r w : Bool) → (r || w) ≡ true → w ≡ false → r ≡ true
      reads_then true w e q = refl
      reads_then false true e q = sym q
      reads_then false false e q = e

      go : (b : Bool) → writes effect cell ≡ b → (a : Bool) × Told a → Made
      go true q t = record { atomically = t.0; does_write = true; touch = t.1.write q; writes_so = λ z. refl; plain_so = t.1.plain }
      go false q t = record { atomically = t.0; does_write = false; touch = t.1.read (reads_then (reads effect cell) (writes effect cell) e q); writes_so = λ z. sym q ∙ z; plain_so = t.1.plain }

-- ---- two steps

or_either : (a b c d : Bool) → (a || b) ≡ true → (a ≡ true → c ≡ true) → (b ≡ true → d ≡ true) → (c || d) ≡ true
or_either true b c d e f g = ap (λ x. x || d) (f refl)
or_either false b c d e f g = last c (g e)
  where
    last : (c : Bool) → d ≡ true → (c || d) ≡ true
    last true q = refl
    last false q = q

and_either : (a b c d : Bool) → (a && b) ≡ false → (a ≡ false → c ≡ false) → (b ≡ false → d ≡ false) → (c && d) ≡ false
and_either false b c d e f g = ap (λ x. x && d) (f refl)
and_either true b c d e f g = last c (g e)
  where
    last : (c : Bool) → d ≡ false → (c && d) ≡ false
    last true q = q
    last false q = refl

pub conflicts_told : (program : Program) → IsWellFormed program → ConflictsAreTold program
conflicts_told program well run good choice move effect step longer fine next onward change last cell location l d c = record {
  manner = record { writes = a.does_write; is_atomic = a.atomically };
  other_manner = record { writes = b.does_write; is_atomic = b.atomically };
  conflict = (or_either _ _ a.does_write b.does_write c.2 a.writes_so b.writes_so, and_either _ _ a.atomically b.atomically c.3 a.plain_so b.plain_so);
  first = a.touch;
  second = b.touch;
}
  where
    a : Made program well run good choice move effect step cell location l d
    a = made program well run good choice move effect step cell location l d c.0

    b : Made program well longer fine next onward change last cell location l d
    b = made program well longer fine next onward change last cell location l d c.1
