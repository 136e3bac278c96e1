-- Which step of a run happens before which (C11 5.1.2.4, 7.26), and races.
use Rattle.std.specs.Prelude.{◌≡◌, ◌≢◌, ℕ, ◌<◌, true, false, ◌||◌, Some}
use Rattle.vector_clocks.specs.Steps.{Step, Run, accesses, accesses_plainly, writes}

-- the step at i leads to a later step at j by one of the five clauses
pub data Leads {Cell : Type 0} (run : Run Cell) : ℕ → ℕ → Type 0 where
  in_thread : (i j : ℕ) → (run i).thread ≡ (run j).thread → Leads run i j
  by_creation : (i j : ℕ) → (run i).makes ≡ Some (run j).thread → Leads run i j
  -- the last step of a thread, and so each of its steps, before the join that takes it
  by_join : (i j : ℕ) → (run j).joins ≡ Some (run i).thread → Leads run i j
  by_mutex : (i j : ℕ) (mutex : Cell) → (run i).releases mutex ≡ true → (run j).takes mutex ≡ true → Leads run i j
  by_atomic : (i j : ℕ) (cell : Cell) → (run i).writes_atomically cell ≡ true → (run j).reads_atomically cell ≡ true
      → ((k : ℕ) → i < k → k < j → writes (run k) cell ≡ false) → Leads run i j

-- the least transitive relation with these
pub data Before {Cell : Type 0} (run : Run Cell) : ℕ → ℕ → Type 0 where
  directly : (i j : ℕ) → i < j → Leads run i j → Before run i j
  through : (i j k : ℕ) → Before run i j → Before run j k → Before run i k

-- both access the cell, one of them writes it, and not both are atomic
abbrev pub Conflict : {Cell : Type 0} → Step Cell → Step Cell → Cell → Type 0
Conflict first second cell = (accesses first cell ≡ true) × (accesses second cell ≡ true)
    × ((writes first cell || writes second cell) ≡ true) × ((accesses_plainly first cell || accesses_plainly second cell) ≡ true)

-- an earlier access of the cell by another thread conflicts with the step at n, and does not happen before it
abbrev pub RacesAt : {Cell : Type 0} → Run Cell → ℕ → Cell → Type 0
RacesAt run n cell = (i : ℕ) × (i < n) × ((run i).thread ≢ (run n).thread) × Conflict (run i) (run n) cell × (Before run i n → ⊥)
