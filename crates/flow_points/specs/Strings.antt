-- Which points there are.
use Rattle.std.specs.Prelude.{◌≡◌, ℕ, List, [], ◌∷◌, Some, ◌↔◌}
use Rattle.flow_points.specs.declared.graph.Graph.{Graph}
use Rattle.flow_points.specs.Transfers.{callee_of}
use Rattle.flow_points.specs.Graphs.{Has, transfer_at}
use Rattle.flow_points.specs.PointLists.{Point, IsAt}

-- the function to which a call string leads
pub data LeadsTo (graph : Graph) : List ℕ → ℕ → Type 0 where
  initial : LeadsTo graph [] graph.main
  by_call : (string : List ℕ) (function action callee : ℕ) → LeadsTo graph string function → Has graph function action → callee_of (transfer_at graph action) ≡ Some callee
      → LeadsTo graph (action ∷ string) callee

-- a call string with an action of the function at its end
pub record IsPoint (graph : Graph) (point : Point) : Type 0 where
  pub function : ℕ
  pub leads : LeadsTo graph point.string function
  pub has : Has graph function point.action

-- each number has a point, and each point a number
abbrev pub NumbersArePoints : Graph → Type 0
NumbersArePoints graph = (point : Point) → IsPoint graph point ↔ ((number : ℕ) × IsAt graph number point)

-- and one alone
abbrev pub EachHasOneNumber : Graph → Type 0
EachHasOneNumber graph = (point : Point) (a b : ℕ) → IsAt graph a point → IsAt graph b point → a ≡ b
