-- What is kept of the steps so far, and how a step changes it.
use Rattle.std.specs.Prelude.{◌≡◌, ℕ, ◌<◌, ◌==◌, Bool, true, false, not, if◌then◌else◌, ◌⊎◌, ◌↔◌, Option, Some, None, List, [], ◌∷◌}
use Rattle.vector_clocks.specs.Steps.{Step, Run, writes, accesses, accesses_plainly}
use Rattle.vector_clocks.specs.Clocks.{Counts, nothing_known, joined, put_at, Known, Tells}
use Rattle.vector_clocks.specs.Accesses.{is_access, Latest}

pub record Kept (Cell : Type 0) : Type 0 where
  pub births : ℕ → Counts  -- what was known where the thread was created
  pub threads : ℕ → Counts  -- at its last step
  pub mutexes : Cell → Counts  -- at all releases together
  pub values : Cell → Counts  -- at the atomic write of the value that the cell has
  pub last : Bool → Bool → Cell → Counts  -- the last accesses of each kind

-- an atomic write whose value the cell has after the first n steps
abbrev pub IsValue : {Cell : Type 0} → Run Cell → ℕ → Cell → ℕ → Type 0
IsValue run n cell i = ((run i).writes_atomically cell ≡ true) × ((k : ℕ) → i < k → k < n → writes (run k) cell ≡ false)

-- what is kept after the first n steps
pub record Follows {Cell : Type 0} (run : Run Cell) (lane_at : ℕ → ℕ) (n : ℕ) (kept : Kept Cell) : Type 0 where
  pub births : (thread : ℕ) → Tells lane_at n (Known run n (λ i. (run i).makes ≡ Some thread)) (kept.births thread)
  pub threads : (thread : ℕ) → Tells lane_at n (Known run n (λ i. (run i).thread ≡ thread)) (kept.threads thread)
  pub mutexes : (mutex : Cell) → Tells lane_at n (Known run n (λ i. (run i).releases mutex ≡ true)) (kept.mutexes mutex)
  pub values : (cell : Cell) → Tells lane_at n (Known run n (IsValue run n cell)) (kept.values cell)
  pub last : (if_it_writes if_it_is_plain : Bool) (cell : Cell) → Latest run lane_at n (is_access if_it_writes if_it_is_plain cell) (kept.last if_it_writes if_it_is_plain cell)

abbrev pub names : Option ℕ → ℕ → Bool
names None thread = false
names (Some named) thread = named == thread

-- what is kept after a step in this lane at which this is known, itself included
abbrev pub moved : {Cell : Type 0} → Kept Cell → Step Cell → ℕ → Counts → Kept Cell
moved kept step lane clock = record {
  births = λ thread. if names step.makes thread then joined (kept.births thread) clock else kept.births thread;
  threads = λ thread. if step.thread == thread then clock else kept.threads thread;
  mutexes = λ mutex. if step.releases mutex then joined (kept.mutexes mutex) clock else kept.mutexes mutex;
  values = λ cell. if step.writes_atomically cell then clock else if step.writes_plainly cell then nothing_known else kept.values cell;
  last = λ if_it_writes if_it_is_plain cell. if is_access if_it_writes if_it_is_plain cell step then put_at (kept.last if_it_writes if_it_is_plain cell) lane (clock lane) else kept.last if_it_writes if_it_is_plain cell;
}

-- before the first step
abbrev pub opening : {Cell : Type 0} → Kept Cell
opening = record {
  births = λ thread. nothing_known;
  threads = λ thread. nothing_known;
  mutexes = λ mutex. nothing_known;
  values = λ cell. nothing_known;
  last = λ if_it_writes if_it_is_plain cell. nothing_known;
}

-- the clocks of these together
abbrev pub together : {Cell : Type 0} → (Cell → Counts) → List Cell → Counts
together clock [] = nothing_known
together clock (cell ∷ cells) = joined (clock cell) (together clock cells)

abbrev pub of_joined : {Cell : Type 0} → Kept Cell → Option ℕ → Counts
of_joined kept None = nothing_known
of_joined kept (Some thread) = kept.threads thread

-- what a step hears that joins this thread, takes these mutexes and reads these cells atomically
abbrev pub heard : {Cell : Type 0} → Kept Cell → Option ℕ → List Cell → List Cell → Counts
heard kept joins takes reads = joined (of_joined kept joins) (joined (together kept.mutexes takes) (together kept.values reads))

-- what a step knows of the earlier ones
abbrev pub known : {Cell : Type 0} → Kept Cell → Step Cell → List Cell → List Cell → Counts
known kept step takes reads = joined (joined (kept.births step.thread) (kept.threads step.thread)) (heard kept step.joins takes reads)

abbrev pub IsOneOf : {Cell : Type 0} → Cell → List Cell → Type 0
IsOneOf cell [] = ⊥
IsOneOf cell (first ∷ rest) = (cell ≡ first) ⊎ IsOneOf cell rest

-- the list has the cells of which the test holds
abbrev pub Lists : {Cell : Type 0} → (Cell → Bool) → List Cell → Type 0
Lists {Cell = Cell} test cells = (cell : Cell) → (test cell ≡ true) ↔ IsOneOf cell cells

-- the list has cells that the step at n reads atomically, among them each one whose value an atomic write made
pub record ListsValues {Cell : Type 0} (run : Run Cell) (n : ℕ) (cells : List Cell) : Type 0 where
  pub are_read : (cell : Cell) → IsOneOf cell cells → (run n).reads_atomically cell ≡ true
  pub are_all : (cell : Cell) (i : ℕ) → i < n → (run n).reads_atomically cell ≡ true → IsValue run n cell i → IsOneOf cell cells

-- the last accesses that conflict with what the step does to the cell
abbrev pub rivals : {Cell : Type 0} → Kept Cell → Step Cell → Cell → Counts
rivals kept step cell = kept.last (not (writes step cell)) (not (accesses_plainly step cell)) cell

-- an access that conflicts with the step's own one is not among what the step knows
abbrev pub HasRival : {Cell : Type 0} → Kept Cell → Step Cell → Counts → Cell → Type 0
HasRival kept step clock cell = (accesses step cell ≡ true) × ((lane : ℕ) × (clock lane < rivals kept step cell lane))
