-- A graph that belongs to a program.
use Rattle.std.specs.Prelude.{◌≡◌, ◌<◌, ℕ, List, [], ◌∷◌, map, slice_get, Some, length}
use Rattle.std.specs.List.{flat_map}
use Rattle.c_program.specs.declared.program.Program.{Program}
use Rattle.c_program.specs.Syntax.{act_at, body_at}
use Rattle.c_program.specs.Control.{Control, Run, Move, Ways, Spot, spot_in, rounds_of, ways, moves}
use Rattle.c_program.proofs.Members.{In}
use Rattle.c_program.proofs.Sites.{Site, sites}
use Rattle.flow_points.specs.Graphs.{transfer_at, next_at, entry_of}
use Rattle.control_flow.specs.declared.flow.Flow.{Flow}
use Rattle.control_flow.specs.Labels.{spot_at, Does}

abbrev pub begins : Control → List Move → List Spot
begins control [] = []
begins control (move ∷ all) = spot_in control move.action ∷ []

-- the spot that comes first in what is left to do, if any does
abbrev pub heads : Control → List Spot
heads control = begins control (moves control)

abbrev pub no_ways : Ways
no_ways = record { here = []; out = []; again = [] }

-- what a body stands before has nothing to do in its function
pub record IsEnd (base : Control) : Type 0 where
  pub ways : ways base ≡ no_ways
  pub rounds : rounds_of base ≡ []

pub record IsFlowOf (program : Program) (flow : Flow) : Type 0 where
  pub acts : (n : ℕ) → n < length flow.graph.nodes.items → Does flow.order.items (act_at program (spot_at flow n).action) (transfer_at flow.graph n)
  -- behind a node stands what its moves come to
  pub nexts : (f : ℕ) (base : Control) → IsEnd base → (site : Site) → In site (sites (body_at program f) base)
      → (n : ℕ) → n < length flow.graph.nodes.items → spot_at flow n ≡ site.spot → map (spot_at flow) (next_at flow.graph n) ≡ flat_map (λ (m : Move). heads m.left) site.moves
  pub entries : (g f : ℕ) → slice_get flow.order.items g ≡ Some f → (base : Control) → IsEnd base
      → heads (Run (body_at program f) ∷ base) ≡ spot_at flow (entry_of flow.graph g) ∷ []
