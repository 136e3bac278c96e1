-- What tables of states tell, by the numbers of points and of locations.
use Rattle.std.specs.Prelude.{ℕ, ◌+◌, ◌*◌, ◌==◌, Bool, false, not, ◌&&◌, Option, None, slice_index_or, slice_get, unwrap_or}
use Rattle.std.specs.List.{list_any}
use Rattle.flow_facts.specs.declared.states.StateTable.{StateTable}
use Rattle.flow_facts.specs.declared.states.Held.{Held}
use Rattle.flow_facts.specs.declared.states.ThreadState.{ThreadState}
use Rattle.flow_facts.specs.declared.states.ThreadState.TheVariants as thread_state
use Rattle.flow_facts.specs.declared.states.ThreadStates.{ThreadStates}
use Rattle.flow_facts.specs.declared.states.LifeState.{LifeState}
use Rattle.flow_facts.specs.declared.states.LifeState.TheVariants as life_state
use Rattle.flow_facts.specs.declared.states.Lives.{Lives}

-- whether an object may be in a state at a point
abbrev pub may_be_at : StateTable → ℕ → ℕ → ℕ → Bool
may_be_at table point object state = list_any (λ row. (row.object == object) && slice_index_or row.marks.items (point * table.states + state) false) table.rows.items

-- whether the point's thread may hold the mutex to the depth, and whether it surely holds it
abbrev pub may_hold_at : Held → ℕ → ℕ → ℕ → Bool
may_hold_at held point mutex depth = may_be_at held.table point mutex depth

abbrev pub is_surely_held_at : Held → ℕ → ℕ → Bool
is_surely_held_at held point mutex = not (may_hold_at held point mutex 0)

abbrev pub number_of_thread_state : ThreadState → ℕ
number_of_thread_state thread_state.Unmade = 0
number_of_thread_state thread_state.Live = 1
number_of_thread_state thread_state.Joined = 2
number_of_thread_state thread_state.Detached = 3

abbrev pub thread_may_be_at : ThreadStates → ℕ → ℕ → ThreadState → Bool
thread_may_be_at states point object state = may_be_at states.table point object (number_of_thread_state state)

-- the thread object of a plain thread
abbrev pub plain_at : ThreadStates → ℕ → Option ℕ
plain_at states thread = unwrap_or (slice_get states.plain.items thread) None

abbrev pub number_of_life_state : LifeState → ℕ
number_of_life_state life_state.Unmade = 0
number_of_life_state life_state.Live = 1
number_of_life_state life_state.Dead = 2

abbrev pub life_may_be_at : Lives → ℕ → ℕ → LifeState → Bool
life_may_be_at lives point object state = may_be_at lives.table point object (number_of_life_state state)
