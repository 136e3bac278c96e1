-- The points of a program, in the order in which a walk through the text first meets them, and the moves between them.
use Rattle.std.specs.Prelude.{◌≡◌, ℕ, zero, suc, List, [], ◌∷◌, map, Option, Some, None, slice_get, option_map, unwrap_or, length}
use Rattle.std.specs.List.{flat_map}
use Rattle.flow_points.specs.declared.transfer.Transfer.{Transfer}
use Rattle.flow_points.specs.declared.transfer.Transfer.TheVariants.{Next, Call, Create, Return, Exit}
use Rattle.flow_points.specs.declared.graph.Graph.{Graph}
use Rattle.flow_points.specs.Transfers.{callee_of}
use Rattle.flow_points.specs.Graphs.{actions_of, transfer_at, next_at, entry_of}

-- a call string, the innermost call or creation first, with an action of the function at its end
pub record Point : Type 0 where
  pub string : List ℕ
  pub action : ℕ

abbrev pub at : List ℕ → ℕ → Point
at string action = record { string = string; action = action }

-- The points from a call string on that leads to a function: each action, and behind it what it calls.
-- Calls are at most so deep.
abbrev pub points_from : Graph → ℕ → List ℕ → ℕ → List Point
points_from graph zero string function = []
points_from graph (suc depth) string function =
    flat_map (λ action. at string action ∷ unwrap_or (option_map (λ callee. points_from graph depth (action ∷ string) callee) (callee_of (transfer_at graph action))) [])
    (actions_of graph function)

-- all points
unfoldable pub points_of : Graph → List Point
points_of graph = points_from graph (length graph.functions.items) [] graph.main

-- the point of a number
abbrev pub point_at : Graph → ℕ → Point
point_at graph number = unwrap_or (slice_get (points_of graph) number) (at [] 0)

abbrev pub IsAt : Graph → ℕ → Point → Type 0
IsAt graph number point = slice_get (points_of graph) number ≡ Some point

-- the number is that of the innermost call's point
abbrev pub IsCalledFrom : Graph → List ℕ → Option ℕ → Type 0
IsCalledFrom graph [] None = Unit {0}
IsCalledFrom graph [] (Some number) = ⊥
IsCalledFrom graph (call ∷ string) None = ⊥
IsCalledFrom graph (call ∷ string) (Some number) = IsAt graph number (at string call)

-- where the return from a call or a creation leads, whose own call string is given
abbrev pub returns_to : Graph → ℕ → List ℕ → Transfer → List Point
returns_to graph call string (Call function) = map (at string) (next_at graph call)
returns_to graph call string _ = []

-- where a return leads that has the call string: behind the call, or nowhere from a thread's first function
abbrev pub behind : Graph → List ℕ → List Point
behind graph [] = []
behind graph (call ∷ string) = returns_to graph call string (transfer_at graph call)

-- where an action leads that does this to control
abbrev pub leads_to : Graph → ℕ → List ℕ → Transfer → List Point
leads_to graph action string Next = map (at string) (next_at graph action)
leads_to graph action string (Create function) = map (at string) (next_at graph action)
leads_to graph action string (Call function) = at (action ∷ string) (entry_of graph function) ∷ []
leads_to graph action string Return = behind graph string
leads_to graph action string Exit = []

-- the points to which the moves from a point lead, in the order of the moves
abbrev pub next_points : Graph → Point → List Point
next_points graph point = leads_to graph point.action point.string (transfer_at graph point.action)
