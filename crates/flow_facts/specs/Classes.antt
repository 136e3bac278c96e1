-- Classes of points: what is found of a point depends on its class alone.
use Rattle.std.specs.Prelude.{◌≡◌, ◌<◌, ℕ, List}
use Rattle.std.specs.List.{Contains}
use Rattle.flow_facts.specs.declared.points.Points.{Points}
use Rattle.flow_facts.specs.declared.points_to.PointsTo.{PointsTo}
use Rattle.flow_facts.specs.declared.states.Held.{Held}
use Rattle.flow_facts.specs.declared.states.ThreadState.{ThreadState}
use Rattle.flow_facts.specs.declared.states.ThreadStates.{ThreadStates}
use Rattle.flow_facts.specs.declared.states.LifeState.{LifeState}
use Rattle.flow_facts.specs.declared.states.Lives.{Lives}
use Rattle.flow_facts.specs.Points.{count_of, point_at, IsOfThread, is_reached, is_cyclic}
use Rattle.flow_facts.specs.Targets.{names_at, is_exact_at, regions_at}
use Rattle.flow_facts.specs.States.{may_hold_at, thread_may_be_at, life_may_be_at}

-- points of one thread with one action, at which each reader answers the same
pub record AreOfOneClass (points : Points) (to : PointsTo) (held : Held) (states : ThreadStates) (lives : Lives) (a b : ℕ) : Type 0 where
  pub of_thread : (t : ℕ) → IsOfThread points a t → IsOfThread points b t
  pub action : (point_at points a).spot.action ≡ (point_at points b).spot.action
  pub cyclic : is_cyclic points a ≡ is_cyclic points b
  pub reached : is_reached points a ≡ is_reached points b
  pub names : (argument : ℕ) → names_at to a argument ≡ names_at to b argument
  pub exact : (argument : ℕ) → is_exact_at to a argument ≡ is_exact_at to b argument
  pub regions : regions_at to a ≡ regions_at to b
  pub depths : (mutex depth : ℕ) → may_hold_at held a mutex depth ≡ may_hold_at held b mutex depth
  pub thread_states : (object : ℕ) (state : ThreadState) → thread_may_be_at states a object state ≡ thread_may_be_at states b object state
  pub life : (object : ℕ) (state : LifeState) → life_may_be_at lives a object state ≡ life_may_be_at lives b object state

-- a list of points that has one of each class
pub record CoversClasses (points : Points) (to : PointsTo) (held : Held) (states : ThreadStates) (lives : Lives) (walk : List ℕ) : Type 0 where
  pub within : (number : ℕ) → Contains walk number → number < count_of points
  pub covers : (number : ℕ) → number < count_of points → (other : ℕ) × Contains walk other × AreOfOneClass points to held states lives number other
