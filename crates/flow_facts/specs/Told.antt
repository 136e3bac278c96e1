-- The answers of the readers as tests over points and locations of the program.
use Rattle.std.specs.Prelude.{ℕ, ℤ, int_le, ◌==◌, Bool, true, false, ◌&&◌, List, [], ◌∷◌, Option, Some, None, option_and_then, find}
use Rattle.std.specs.List.{list_any, range_with_len}
use Rattle.c_program.specs.declared.program.Program.{Program}
use Rattle.c_program.specs.Values.{Location}
use Rattle.c_program.specs.Control.{Round, Spot, Point}
use Rattle.c_program.specs.Faults.{Sort}
use Rattle.pointer_targets.specs.Names.{Names}
use Rattle.pointer_targets.specs.Manners.{Manner}
use Rattle.static_facts.specs.ObjectStates.{ObjectState, Is_unmade, Is_live, Is_joined, Is_detached, Is_dead}
use Rattle.static_facts.specs.Facts as told
use Rattle.flow_facts.specs.declared.points.Points.{Points}
use Rattle.flow_facts.specs.declared.points_to.Access.{Access}
use Rattle.flow_facts.specs.declared.points_to.PointsTo.{PointsTo}
use Rattle.flow_facts.specs.declared.states.ThreadState.{ThreadState}
use Rattle.flow_facts.specs.declared.states.ThreadState.TheVariants as thread_state
use Rattle.flow_facts.specs.declared.states.ThreadStates.{ThreadStates}
use Rattle.flow_facts.specs.declared.states.LifeState.{LifeState}
use Rattle.flow_facts.specs.declared.states.LifeState.TheVariants as life_state
use Rattle.flow_facts.specs.declared.states.Lives.{Lives}
use Rattle.flow_facts.specs.declared.facts.Order.{Order}
use Rattle.flow_facts.specs.Points.{count_of, threads_of, point_at, thread_at}
use Rattle.flow_facts.specs.Targets.{names_at, is_exact_at, regions_at}
use Rattle.flow_facts.specs.States.{thread_may_be_at, plain_at, life_may_be_at}
use Rattle.flow_facts.specs.Orders.{ordered_at}
use Rattle.flow_facts.specs.Locations.{location_at, at_location}

-- ---- which points are the same

abbrev pub same_value : ℤ → ℤ → Bool
same_value a b = int_le a b && int_le b a

abbrev pub same_rounds : List Round → List Round → Bool
same_rounds [] [] = true
same_rounds (a ∷ more) (b ∷ others) = (a.counter == b.counter) && same_value a.value b.value && same_rounds more others
same_rounds _ _ = false

abbrev pub same_spot : Spot → Spot → Bool
same_spot a b = (a.action == b.action) && same_rounds a.rounds b.rounds

abbrev pub same_string : List Spot → List Spot → Bool
same_string [] [] = true
same_string (a ∷ more) (b ∷ others) = same_spot a b && same_string more others
same_string _ _ = false

abbrev pub same_point : Point → Point → Bool
same_point a b = same_spot a.spot b.spot && same_string a.string b.string

-- ---- by numbers

-- the number of the point passes the test
abbrev pub at_point : Points → Point → (ℕ → Bool) → Bool
at_point points point test = list_any (λ number. same_point (point_at points number) point && test number) (range_with_len 0 (count_of points))

-- the number of the thread
abbrev pub number_of_thread : Points → List Spot → Option ℕ
number_of_thread points thread = find (λ number. same_string (thread_at points number) thread) (range_with_len 0 (threads_of points))

-- ---- points-to

abbrev pub names_of : Program → Points → PointsTo → Names
names_of program points to = record {
  may_name = λ point argument location. at_point points point (λ number. list_any (λ name. at_location program location (λ other. name == other)) (names_at to number argument));
  is_exact = λ point argument location. at_point points point (λ number. is_exact_at to number argument
      && list_any (λ name. at_location program location (λ other. name == other)) (names_at to number argument));
}

abbrev pub same_bool : Bool → Bool → Bool
same_bool true true = true
same_bool false false = true
same_bool _ _ = false

abbrev pub is_access : ℕ → Manner → Access → Bool
is_access region manner access = (access.region == region) && same_bool access.write manner.writes && same_bool access.atomic manner.is_atomic

abbrev pub accesses_of : Program → Points → PointsTo → Point → Location → Manner → Bool
accesses_of program points to point region manner = at_point points point (λ number. at_location program region (λ name. list_any (is_access name manner) (regions_at to number)))

-- ---- states

abbrev pub thread_state_of : ObjectState → Option ThreadState
thread_state_of Is_unmade = Some thread_state.Unmade
thread_state_of Is_live = Some thread_state.Live
thread_state_of Is_joined = Some thread_state.Joined
thread_state_of Is_detached = Some thread_state.Detached
thread_state_of Is_dead = None

abbrev pub life_state_of : ObjectState → Option LifeState
life_state_of Is_unmade = Some life_state.Unmade
life_state_of Is_live = Some life_state.Live
life_state_of Is_dead = Some life_state.Dead
life_state_of _ = None

abbrev pub if_state : {A : Type 0} → (A → Bool) → Option A → Bool
if_state test None = false
if_state test (Some state) = test state

abbrev pub thread_states_of : Program → Points → ThreadStates → List Spot → Point → Location → ObjectState → Bool
thread_states_of program points states thread point object state =
    if_state (λ s. at_point points point (λ number. at_location program object (λ name. thread_may_be_at states number name s))) (thread_state_of state)

abbrev pub plain_of : Program → Points → ThreadStates → List Spot → Option Location
plain_of program points states thread = option_and_then (location_at program) (option_and_then (plain_at states) (number_of_thread points thread))

abbrev pub lives_of : Program → Points → Lives → List Spot → Point → Sort → Location → ObjectState → Bool
lives_of program points lives thread point sort object state =
    if_state (λ s. at_point points point (λ number. at_location program object (λ name. life_may_be_at lives number name s))) (life_state_of state)

-- ---- order

abbrev pub ordered_of : Points → Order → List Spot → Point → List Spot → Point → Bool
ordered_of points order s p t q = at_point points p (λ a. at_point points q (λ b. ordered_at order a b))

-- ---- all facts

abbrev pub facts_of : Program → Points → PointsTo → ThreadStates → Lives → Order → told.Facts
facts_of program points to states lives order = record {
  names = names_of program points to;
  accesses = accesses_of program points to;
  ordered = ordered_of points order;
  thread_may_be = thread_states_of program points states;
  plain_object = plain_of program points states;
  life_may_be = lives_of program points lives;
}
