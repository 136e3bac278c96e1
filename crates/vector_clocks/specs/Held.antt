-- What the parts of a detector hold.
use Rattle.std.specs.Prelude.{◌≡◌, ◌≤◌, ℕ, ◌+◌, ◌^◌, ◌<◌, ◌==◌, Bool, true, false, not, ◌&&◌, ◌||◌, if◌then◌else◌, slice_index, Option, Some, None}
use Rattle.std.specs.Ordering.{nat_cmp}
use Rattle.std.specs.BTreeMap.{get}
use Rattle.vector_clocks.specs.declared.clocks.Clocks.{Clocks}
use Rattle.vector_clocks.specs.declared.clock.Clock.{Clock}
use Rattle.vector_clocks.specs.declared.accesses.Accesses.{Accesses}
use Rattle.vector_clocks.specs.declared.detector.Detector.{Detector}
use Rattle.vector_clocks.specs.declared.event.Access.{Access}
use Rattle.vector_clocks.specs.declared.event.Action.{Action}
use Rattle.vector_clocks.specs.declared.event.Action.TheVariants.{Join, Take, Access as At}
use Rattle.vector_clocks.specs.Events.{is_write, is_plain, is_atomic_write, is_atomic_read}
use Rattle.vector_clocks.specs.Kept.{Kept, Follows}
use Rattle.vector_clocks.specs.Steps.{Run}
use Rattle.vector_clocks.specs.Clocks.{Counts, nothing_known, steps_of}

abbrev pub counts_of : Clock → Counts
counts_of clock lane = slice_index clock.counts.items lane

abbrev pub found : Option Clock → Counts
found None = nothing_known
found (Some clock) = counts_of clock

abbrev pub clocks_of : Clocks → ℕ → Counts
clocks_of clocks key = found (get nat_cmp clocks.clocks key)

-- the clock at the key changed so
abbrev pub changed : (ℕ → Counts) → ℕ → (Counts → Counts) → ℕ → Counts
changed clocks key change other = if key == other then change (clocks other) else clocks other

abbrev pub all_unknown : ℕ → Counts
all_unknown key = nothing_known

abbrev pub last_of : Accesses → Bool → Bool → ℕ → Counts
last_of accesses false false = clocks_of accesses.all
last_of accesses false true = clocks_of accesses.plain
last_of accesses true false = clocks_of accesses.writes
last_of accesses true true = clocks_of accesses.plain_writes

-- the access is of the kind
abbrev pub is_of : Bool → Bool → Access → Bool
is_of if_it_writes if_it_is_plain access = (is_write access || not if_it_writes) && (is_plain access || not if_it_is_plain)

-- the kind of accesses with the last ones of a cell changed so, if the access is of the kind
abbrev pub noted : (Bool → Bool → ℕ → Counts) → Access → ℕ → (Counts → Counts) → Bool → Bool → ℕ → Counts
noted last access cell change if_it_writes if_it_is_plain =
    if is_of if_it_writes if_it_is_plain access then changed (last if_it_writes if_it_is_plain) cell change else last if_it_writes if_it_is_plain

-- what is known at a cell's value after the access
abbrev pub written : (ℕ → Counts) → ℕ → Access → Counts → ℕ → Counts
written values cell access clock = if is_atomic_write access then changed values cell (λ _. clock)
    else if is_write access then changed values cell (λ _. nothing_known) else values

abbrev pub kept_by : Detector → Kept ℕ
kept_by detector = record {
  births = clocks_of detector.births;
  threads = clocks_of detector.threads;
  mutexes = clocks_of detector.mutexes;
  values = clocks_of detector.values;
  last = last_of detector.accesses;
}

-- it has followed the first n steps of the run, in lanes of its choice
pub record HasFollowed (run : Run ℕ) (n : ℕ) (detector : Detector) : Type 0 where
  pub lane_at : ℕ → ℕ
  pub total : (lane : ℕ) → counts_of detector.total lane ≡ steps_of lane_at lane n
  pub few : detector.lanes ≤ n
  pub unused : (lane : ℕ) → detector.lanes ≤ lane → counts_of detector.total lane ≡ 0
  pub kept : Follows run lane_at n (kept_by detector)

-- it has followed some run, of so few steps that one more can be counted
abbrev pub IsShort : Detector → Type 0
IsShort detector = (run : Run ℕ) × (n : ℕ) × (n + 1 < 2 ^ 32) × HasFollowed run n detector

-- what an action lets its step hear
abbrev pub heard_by : Kept ℕ → Action → Counts
heard_by kept (Join thread) = kept.threads thread
heard_by kept (Take mutex) = kept.mutexes mutex
heard_by kept (At cell access) = if is_atomic_read access then kept.values cell else nothing_known
heard_by kept _ = nothing_known
