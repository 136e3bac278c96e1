-- Which accesses of a cell have to be kept: of each of four kinds the last one in each lane.
use Rattle.std.specs.Prelude.{◌≡◌, ℕ, suc, ◌<◌, Bool, true, not, ◌&&◌, ◌||◌, ◌⊎◌}
use Rattle.vector_clocks.specs.Steps.{Step, Run, writes, accesses, accesses_plainly}
use Rattle.vector_clocks.specs.Clocks.{Counts, steps_of}

-- A step that writes conflicts with each access, and one that only reads with those that write; one that is atomic conflicts only with those that are not.
abbrev pub is_access : {Cell : Type 0} → Bool → Bool → Cell → Step Cell → Bool
is_access if_it_writes if_it_is_plain cell step =
    accesses step cell && (writes step cell || not if_it_writes) && (accesses_plainly step cell || not if_it_is_plain)

-- of each lane one more than the number of its last step of a kind among the first n, or 0
pub record Latest {Cell : Type 0} (run : Run Cell) (lane_at : ℕ → ℕ) (n : ℕ) (is_kind : Step Cell → Bool) (last : Counts) : Type 0 where
  pub covers : (i : ℕ) → i < n → is_kind (run i) ≡ true → steps_of lane_at (lane_at i) i < last (lane_at i)
  pub found : (lane : ℕ) → (last lane ≡ 0)
      ⊎ ((i : ℕ) × (i < n) × (is_kind (run i) ≡ true) × (lane_at i ≡ lane) × (last lane ≡ suc (steps_of lane_at lane i)))
