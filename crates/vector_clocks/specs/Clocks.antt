-- Clocks. The steps of a run stand in lanes, those of one lane before one another; each thread may have a lane of its own, or go on in one whose steps it all knows.
-- A clock says of each lane how many of its steps are known, counted from its first.
use Rattle.std.specs.Prelude.{◌≡◌, ℕ, zero, suc, ◌<◌, ◌≤◌, ◌==◌, if◌then◌else◌, max, ◌⊎◌, ◌↔◌}
use Rattle.vector_clocks.specs.Steps.{Run}
use Rattle.vector_clocks.specs.Happens.{Before}

abbrev pub Counts : Type 0
Counts = ℕ → ℕ

abbrev pub nothing_known : Counts
nothing_known lane = 0

abbrev pub joined : Counts → Counts → Counts
joined first second lane = max (first lane) (second lane)

abbrev pub put_at : Counts → ℕ → ℕ → Counts
put_at clock lane count other = if lane == other then count else clock other

-- with one more step in the lane
abbrev pub ticked : ℕ → Counts → Counts
ticked lane clock other = if lane == other then suc (clock other) else clock other

-- how many of the first n steps stand in the lane; so `steps_of lane_at (lane_at i) i` is the number of the step at i in its lane, from 0
abbrev pub steps_of : (ℕ → ℕ) → ℕ → ℕ → ℕ
steps_of lane_at lane zero = 0
steps_of lane_at lane (suc n) = if lane_at n == lane then suc (steps_of lane_at lane n) else steps_of lane_at lane n

-- the earlier steps in the lane of the step at n happen before it
abbrev pub KeepsItsLane : {Cell : Type 0} → Run Cell → (ℕ → ℕ) → ℕ → Type 0
KeepsItsLane run lane_at n = (i : ℕ) → i < n → lane_at i ≡ lane_at n → Before run i n

-- the step at i is one of these among the first n, or happens before one
abbrev pub Known : {Cell : Type 0} → Run Cell → ℕ → (ℕ → Type 0) → ℕ → Type 0
Known run n IsOne i = (j : ℕ) × (j < n) × IsOne j × ((i ≡ j) ⊎ Before run i j)

-- the clock tells exactly which of the first n steps are in the set: of each lane the first so many
pub record Tells (lane_at : ℕ → ℕ) (n : ℕ) (IsIn : ℕ → Type 0) (clock : Counts) : Type 0 where
  pub exact : (i : ℕ) → i < n → IsIn i ↔ (steps_of lane_at (lane_at i) i < clock (lane_at i))
  pub within : (lane : ℕ) → clock lane ≤ steps_of lane_at lane n
