-- Which mutexes a step takes, and which cells it reads atomically that an earlier one wrote so.
use Rattle.std.proofs.Common.{◌≡◌, inl, inr, refl, sym, subst, ap, ◌∙◌, Bool, true, false, cond, ◌&&◌, ◌||◌, ℕ, zero, suc, ◌<◌, ◌↔◌, List, [], ◌∷◌, ◌++◌, ◌==◌, Option, Some, None, eq-eqb, arith}
use Rattle.std.specs.List.{list_any, filter}
use Rattle.c_program.specs.declared.program.Program.{Program}
use Rattle.c_program.specs.Types.{same_numbers}
use Rattle.c_program.specs.Values.{Root, Static, Of_thread, Of_frame, Cell, same_root, same_cell}
use Rattle.c_program.specs.Requests.{Store, Sets, Copies, Clears, Zeroes}
use Rattle.c_program.specs.Effects.{Sync, Takes, Resumes}
use Rattle.c_program.specs.Step.{Choice}
use Rattle.c_program.specs.Runs.{Moment, moment_at}
use Rattle.c_program.specs.Happens.{takes, store_writes_atomically}
use Rattle.c_program.proofs.Cells.{cell_same}
use Rattle.vector_clocks.proofs.Cases.{below_next}
use Rattle.vector_clocks.specs.Kept.{IsOneOf, Lists, ListsValues}
use Rattle.run_clocks.specs.Moments.{step_at, run_of}
use Rattle.run_clocks.specs.Laws.{EachRunIsHeard}

in_first : {A : Type 0} (a : A) (xs ys : List A) → IsOneOf a xs → IsOneOf a (xs ++ ys)
in_first a [] ys one = absurd one
in_first a (x ∷ xs) ys (inl e) = inl e
in_first a (x ∷ xs) ys (inr one) = inr (in_first a xs ys one)

in_second : {A : Type 0} (a : A) (xs ys : List A) → IsOneOf a ys → IsOneOf a (xs ++ ys)
in_second a [] ys one = one
in_second a (x ∷ xs) ys one = inr (in_second a xs ys one)

-- ---- filters

passes_first : {A : Type 0} (p : A → Bool) (a x : A) (xs : List A) (b : Bool) → p x ≡ b → (IsOneOf a (filter p xs) → p a ≡ true)
    → IsOneOf a (cond b (x ∷ filter p xs) (filter p xs)) → p a ≡ true
passes_first p a x xs true is rest (inl e) = ap p e ∙ is
passes_first p a x xs true is rest (inr one) = rest one
passes_first p a x xs false is rest one = rest one

passes : {A : Type 0} (p : A → Bool) (a : A) (xs : List A) → IsOneOf a (filter p xs) → p a ≡ true
passes p a [] one = absurd one
passes p a (x ∷ xs) one = passes_first p a x xs (p x) refl (passes p a xs) one

stays_first : {A : Type 0} (p : A → Bool) (a x : A) (xs : List A) (b : Bool) → p x ≡ b → p a ≡ true → (IsOneOf a xs → IsOneOf a (filter p xs)) → IsOneOf a (x ∷ xs)
    → IsOneOf a (cond b (x ∷ filter p xs) (filter p xs))
stays_first p a x xs true is passing rest (inl e) = inl e
stays_first p a x xs true is passing rest (inr one) = inr (rest one)
stays_first p a x xs false is passing rest (inl e) = absurd (let apart : false ≡ true = sym is ∙ (ap p (sym e) ∙ passing) in cc)
stays_first p a x xs false is passing rest (inr one) = rest one

stays : {A : Type 0} (p : A → Bool) (a : A) (xs : List A) → p a ≡ true → IsOneOf a xs → IsOneOf a (filter p xs)
stays p a [] passing one = absurd one
stays p a (x ∷ xs) passing one = stays_first p a x xs (p x) refl passing (stays p a xs passing) one

-- ---- the mutexes that a step takes

abbrev taken_by : Sync → List Cell
taken_by (Takes m) = m ∷ []
taken_by (Resumes m) = m ∷ []
taken_by _ = []

both : (a b : Bool) → a ≡ true → b ≡ true → (a && b) ≡ true
both true b e f = f
both false b e f = absurd (cc)

number_itself : (n : ℕ) → (n == n) ≡ true
number_itself n = eq-eqb n n refl

root_itself : (root : Root) → same_root root root ≡ true
root_itself (Static object) = number_itself object
root_itself (Of_thread thread object) = both (thread == thread) (object == object) (number_itself thread) (number_itself object)
root_itself (Of_frame frame object) = both (frame == frame) (object == object) (number_itself frame) (number_itself object)

path_itself : (path : List ℕ) → same_numbers path path ≡ true
path_itself [] = refl
path_itself (k ∷ path) = both (k == k) (same_numbers path path) (number_itself k) (path_itself path)

itself : (cell : Cell) → same_cell cell cell ≡ true
itself cell = both (same_root cell.root cell.root) (same_numbers cell.path cell.path) (root_itself cell.root) (path_itself cell.path)

one_alone : (m cell : Cell) → (same_cell m cell ≡ true) ↔ IsOneOf cell (m ∷ [])
one_alone m cell = (λ e. inl (sym (cell_same m cell e)), alone)
  where
    alone : IsOneOf cell (m ∷ []) → same_cell m cell ≡ true
    alone (inl e) = ap (same_cell m) e ∙ itself m
    alone (inr one) = absurd one

mutexes_listed : (sync : Sync) → Lists (takes sync) (taken_by sync)
mutexes_listed (Takes m) cell = one_alone m cell
mutexes_listed (Resumes m) cell = one_alone m cell
mutexes_listed _ cell = (λ e. absurd (cc), λ one. absurd one)

abbrev taken_at : Program → Option Moment → List Cell
taken_at program None = []
taken_at program (Some moment) = taken_by moment.effect.sync

taken_listed : (program : Program) (moment : Option Moment) → Lists (step_at program moment).takes (taken_at program moment)
taken_listed program None cell = ((λ e. absurd (cc)), (λ one. absurd one))
taken_listed program (Some moment) cell = mutexes_listed moment.effect.sync cell

-- ---- the cells that a step writes atomically

abbrev written_by : Store → List Cell
written_by (Sets to value true) = to ∷ []
written_by _ = []

abbrev written_in : List Store → List Cell
written_in [] = []
written_in (store ∷ stores) = written_by store ++ written_in stores

store_listed : (cell : Cell) (store : Store) → store_writes_atomically cell store ≡ true → IsOneOf cell (written_by store)
store_listed cell (Sets to value true) e = inl (sym (cell_same to cell e))
store_listed cell (Sets to value false) e = absurd (cc)
store_listed cell (Copies to from) e = absurd (cc)
store_listed cell (Clears object) e = absurd (cc)
store_listed cell (Zeroes object) e = absurd (cc)

some_of : (a b : Bool) (P : Type 0) → (a ≡ true → P) → (b ≡ true → P) → (a || b) ≡ true → P
some_of true b P f g e = f refl
some_of false b P f g e = g e

stores_listed : (cell : Cell) (stores : List Store) → list_any (store_writes_atomically cell) stores ≡ true → IsOneOf cell (written_in stores)
stores_listed cell [] e = absurd (cc)
stores_listed cell (store ∷ stores) e =
    some_of (store_writes_atomically cell store) (list_any (store_writes_atomically cell) stores) (IsOneOf cell (written_by store ++ written_in stores))
    (λ first. in_first cell (written_by store) (written_in stores) (store_listed cell store first))
    (λ later. in_second cell (written_by store) (written_in stores) (stores_listed cell stores later)) e

abbrev written_at : Option Moment → List Cell
written_at None = []
written_at (Some moment) = written_in moment.effect.stores

written_listed : (program : Program) (moment : Option Moment) (cell : Cell) → (step_at program moment).writes_atomically cell ≡ true → IsOneOf cell (written_at moment)
written_listed program None cell e = absurd (cc)
written_listed program (Some moment) cell e = stores_listed cell moment.effect.stores e

module _ (program : Program) (run : List Choice) where
  abbrev written_before : ℕ → List Cell
  written_before zero = []
  written_before (suc n) = written_at (moment_at program run n) ++ written_before n

  before_listed : (n i : ℕ) (cell : Cell) → i < n → (run_of program run i).writes_atomically cell ≡ true → IsOneOf cell (written_before n)
  before_listed zero i cell below e = absurd (omega arith)
  before_listed (suc n) i cell below e = elim (below_next i n below) [
    | inl last ↦ in_first cell (written_at (moment_at program run n)) (written_before n)
        (written_listed program (moment_at program run n) cell (subst (λ k. (run_of program run k).writes_atomically cell ≡ true) last e))
    | inr less ↦ in_second cell (written_at (moment_at program run n)) (written_before n) (before_listed n i cell less e)
  ]

  reads_listed : (n : ℕ) → ListsValues (run_of program run) n (filter (run_of program run n).reads_atomically (written_before n))
  reads_listed n = record {
    are_read = λ cell one. passes (run_of program run n).reads_atomically cell (written_before n) one;
    are_all = λ cell i below read value. stays (run_of program run n).reads_atomically cell (written_before n) read (before_listed n i cell below value.0);
  }

pub each_run_is_heard : (program : Program) → EachRunIsHeard program
each_run_is_heard program run = record {
  takes = λ n. taken_at program (moment_at program run n);
  reads = λ n. filter (run_of program run n).reads_atomically (written_before program run n);
  are_taken = λ n. taken_listed program (moment_at program run n);
  are_read = reads_listed program run;
}
