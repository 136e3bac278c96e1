-- What points-to sets tell, by the numbers of points and of locations.
use Rattle.std.specs.Prelude.{ℕ, Bool, false, List, [], slice_get, option_map, unwrap_or}
use Rattle.flow_facts.specs.declared.points_to.Access.{Access}
use Rattle.flow_facts.specs.declared.points_to.PointTargets.{PointTargets}
use Rattle.flow_facts.specs.declared.points_to.PointsTo.{PointsTo}

abbrev pub names_in : PointTargets → ℕ → List ℕ
names_in targets argument = unwrap_or (option_map (λ a. a.locations.items) (slice_get targets.arguments.items argument)) []

abbrev pub is_exact_in : PointTargets → ℕ → Bool
is_exact_in targets argument = unwrap_or (option_map (λ a. a.is_exact) (slice_get targets.arguments.items argument)) false

-- the locations that an argument may name
abbrev pub names_at : PointsTo → ℕ → ℕ → List ℕ
names_at to point argument = unwrap_or (option_map (λ targets. names_in targets argument) (slice_get to.targets.items point)) []

-- whether it names one location and nothing else
abbrev pub is_exact_at : PointsTo → ℕ → ℕ → Bool
is_exact_at to point argument = unwrap_or (option_map (λ targets. is_exact_in targets argument) (slice_get to.targets.items point)) false

-- the regions that the action may access
abbrev pub regions_at : PointsTo → ℕ → List Access
regions_at to point = unwrap_or (option_map (λ targets. targets.accesses.items) (slice_get to.targets.items point)) []
