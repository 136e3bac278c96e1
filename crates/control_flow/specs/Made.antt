-- What a pass over the bodies makes.
use Rattle.std.specs.Prelude.{◌≡◌, ◌<◌, ℕ, ◌+◌, List, [], ◌∷◌, ◌++◌, map, length}
use Rattle.c_program.specs.declared.program.Program.{Program}
use Rattle.c_program.specs.Syntax.{act_at, body_at}
use Rattle.c_program.specs.Control.{Spot}
use Rattle.c_program.specs.Paths.{spots_of}
use Rattle.flow_points.specs.declared.graph.Function.{Function}
use Rattle.flow_points.specs.declared.graph.Node.{Node}
use Rattle.flow_points.specs.Graphs.{transfer_at}
use Rattle.control_flow.specs.declared.flow.Flow.{Flow}
use Rattle.control_flow.specs.Labels.{spot_of, spot_at, Does}
use Rattle.control_flow.specs.Layout.{size_of, first, nexts_of}

-- the spots of functions, in the order of the text
abbrev pub text_spots : Program → List ℕ → List Spot
text_spots program [] = []
text_spots program (f ∷ fs) = spots_of [] (body_at program f) ++ text_spots program fs

-- what comes next behind each of their nodes, from a first one on
abbrev pub nexts_from : Program → ℕ → List ℕ → List (List ℕ)
nexts_from program n [] = []
nexts_from program n (f ∷ fs) = nexts_of (body_at program f) n [] [] [] ++ nexts_from program (n + size_of (body_at program f)) fs

-- the function's nodes are those of the body, from a first one on
pub record IsOf (program : Program) (n f : ℕ) (function : Function) : Type 0 where
  pub opens : function.first ≡ n
  pub long : function.length ≡ size_of (body_at program f)
  pub enters : first (body_at program f) n [] [] [] ≡ function.entry ∷ []

abbrev pub AreOf : Program → ℕ → List Function → List ℕ → Type 0
AreOf program n [] [] = Unit {0}
AreOf program n [] (f ∷ fs) = ⊥
AreOf program n (function ∷ functions) [] = ⊥
AreOf program n (function ∷ functions) (f ∷ fs) = IsOf program n f function × AreOf program (n + size_of (body_at program f)) functions fs

abbrev pub behind : Node → List ℕ
behind node = node.next.items

pub record IsMade (program : Program) (flow : Flow) : Type 0 where
  pub spots : map spot_of flow.spots.items ≡ text_spots program flow.order.items
  pub nexts : map behind flow.graph.nodes.items ≡ nexts_from program 0 flow.order.items
  pub functions : AreOf program 0 flow.graph.functions.items flow.order.items
  pub acts : (n : ℕ) → n < length flow.graph.nodes.items → Does flow.order.items (act_at program (spot_at flow n).action) (transfer_at flow.graph n)
