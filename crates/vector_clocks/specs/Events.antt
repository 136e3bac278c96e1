-- What an event does, as a step of a run.
use Rattle.std.specs.Prelude.{ℕ, ◌==◌, Bool, true, false, not, ◌&&◌, List, [], ◌∷◌, slice_index_or, Option, Some, None, if◌then◌else◌}
use Rattle.vector_clocks.specs.declared.event.Access.{Access}
use Rattle.vector_clocks.specs.declared.event.Access.TheVariants.{Read, Write, AtomicRead, AtomicWrite, AtomicUpdate}
use Rattle.vector_clocks.specs.declared.event.Action.{Action}
use Rattle.vector_clocks.specs.declared.event.Action.TheVariants.{Create, Join, Take, Release, Access as Accesses, Other}
use Rattle.vector_clocks.specs.declared.event.Event.{Event}
use Rattle.vector_clocks.specs.Steps.{Step, Run}

abbrev pub is_plain : Access → Bool
is_plain Read = true
is_plain Write = true
is_plain _ = false

abbrev pub is_write : Access → Bool
is_write Read = false
is_write AtomicRead = false
is_write _ = true

abbrev pub is_atomic_read : Access → Bool
is_atomic_read AtomicRead = true
is_atomic_read AtomicUpdate = true
is_atomic_read _ = false

abbrev pub is_atomic_write : Access → Bool
is_atomic_write AtomicWrite = true
is_atomic_write AtomicUpdate = true
is_atomic_write _ = false

abbrev pub made_by : Action → Option ℕ
made_by (Create thread) = Some thread
made_by _ = None

abbrev pub joined_by : Action → Option ℕ
joined_by (Join thread) = Some thread
joined_by _ = None

abbrev pub is_released : Action → ℕ → Bool
is_released (Release mutex) other = mutex == other
is_released _ other = false

abbrev pub is_taken : Action → ℕ → Bool
is_taken (Take mutex) other = mutex == other
is_taken _ other = false

-- the action accesses the cell in a way of which the test holds
abbrev pub is_accessed : (Access → Bool) → Action → ℕ → Bool
is_accessed test (Accesses cell access) other = test access && (cell == other)
is_accessed test _ other = false

abbrev pub step_of : Event → Step ℕ
step_of event = record {
  thread = event.thread;
  makes = made_by event.action;
  joins = joined_by event.action;
  releases = is_released event.action;
  takes = is_taken event.action;
  reads_plainly = is_accessed (λ access. is_plain access && not (is_write access)) event.action;
  writes_plainly = is_accessed (λ access. is_plain access && is_write access) event.action;
  reads_atomically = is_accessed is_atomic_read event.action;
  writes_atomically = is_accessed is_atomic_write event.action;
}

-- the mutexes that it takes, and the cells that it reads atomically
abbrev pub taken_by : Action → List ℕ
taken_by (Take mutex) = mutex ∷ []
taken_by _ = []

abbrev pub read_atomically_by : Action → List ℕ
read_atomically_by (Accesses cell access) = if is_atomic_read access then cell ∷ [] else []
read_atomically_by _ = []

-- a run of these events; what stands behind its end does nothing
abbrev pub run_of : List Event → Run ℕ
run_of events n = step_of (slice_index_or events n (record { thread = 0; action = Other }))
