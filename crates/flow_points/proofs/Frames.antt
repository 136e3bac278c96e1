-- From one call string to the next.
use Rattle.std.proofs.Common.{◌≡◌, ◌∙◌, ◌+◌, ◌<◌, ℕ, zero, suc, refl, ap, subst, List, [], ◌∷◌, length, take, Option, Some, slice_get, arith}
use Rattle.flow_points.specs.declared.graph.Graph.{Graph}
use Rattle.flow_points.specs.Transfers.{callee_of}
use Rattle.flow_points.specs.Graphs.{IsGraph, actions_of, transfer_at}
use Rattle.flow_points.specs.PointLists.{Point, at, points_from, points_of, IsAt}
use Rattle.flow_points.specs.Tables.{points_before}
use Rattle.flow_points.specs.Frames.{IsFrame}
use Rattle.flow_points.proofs.Blocks.{get_in_block, lengths}
use Rattle.flow_points.proofs.Places.{has_place}
use Rattle.flow_points.proofs.Sizes.{block, called_from, before_is}

pub main_frame : (graph : Graph) → IsGraph graph → IsFrame graph [] graph.main 0
unfolding points_of
main_frame graph whole = record { depth = length graph.functions.items; deep = whole.main; exists = whole.main; holds = λ n point e. ap (slice_get (points_from graph (length graph.functions.items) [] graph.main)) (omega arith) ∙ e }

-- where a point of an action's block stands
pub in_frame : (graph : Graph) → IsGraph graph → (string : List ℕ) (function base depth : ℕ) → function < suc depth
    → ((n : ℕ) (point : Point) → slice_get (points_from graph (suc depth) string function) n ≡ Some point → IsAt graph (base + n) point)
    → (k action j : ℕ) (point : Point) → slice_get (actions_of graph function) k ≡ Some action → slice_get (block graph depth string action) j ≡ Some point
    → IsAt graph (base + points_before graph function k + j) point
in_frame graph whole string function base depth deep holds k action j point has inside =
    let place : base + (lengths (block graph depth string) (take k (actions_of graph function)) + j) ≡ base + points_before graph function k + j =
    omega (arith, before_is graph whole depth string function k deep) in
    subst (λ n. IsAt graph n point) place (holds _ point (get_in_block (block graph depth string) (actions_of graph function) k j action point has inside))

pub own_point : (graph : Graph) → IsGraph graph → (string : List ℕ) (function base : ℕ) → IsFrame graph string function base
    → (k action : ℕ) → slice_get (actions_of graph function) k ≡ Some action → IsAt graph (base + points_before graph function k) (at string action)
own_point graph whole string function base frame k action has = by_depth frame.depth frame.deep frame.holds
  where
    by_depth : (depth : ℕ) → function < depth → ((n : ℕ) (point : Point) → slice_get (points_from graph depth string function) n ≡ Some point → IsAt graph (base + n) point)
        → IsAt graph (base + points_before graph function k) (at string action)
    by_depth zero deep holds = elim (let f : ⊥ = omega arith in f) [ ]
    by_depth (suc depth) deep holds =
        let e : base + points_before graph function k + 0 ≡ base + points_before graph function k = omega arith in
        subst (λ n. IsAt graph n (at string action)) e (in_frame graph whole string function base depth deep holds k action 0 (at string action) has refl)

pub called_frame : (graph : Graph) → IsGraph graph → (string : List ℕ) (function base : ℕ) → IsFrame graph string function base
    → (k action callee : ℕ) → slice_get (actions_of graph function) k ≡ Some action → callee_of (transfer_at graph action) ≡ Some callee
    → IsFrame graph (action ∷ string) callee (base + points_before graph function k + 1)
called_frame graph whole string function base frame k action callee has calls = by_depth frame.depth frame.deep frame.holds
  where
    below : callee < function
    below = whole.callees function action callee (has_place graph function k action has) calls

    by_depth : (depth : ℕ) → function < depth → ((n : ℕ) (point : Point) → slice_get (points_from graph depth string function) n ≡ Some point → IsAt graph (base + n) point)
        → IsFrame graph (action ∷ string) callee (base + points_before graph function k + 1)
    by_depth zero deep holds = elim (let f : ⊥ = omega arith in f) [ ]
    by_depth (suc depth) deep holds = record {
      depth = depth;
      deep = omega (arith, below, deep);
      exists = omega (arith, below, frame.exists);
      holds = λ n point e.
          let inside : slice_get (block graph depth string action) (suc n) ≡ Some point = ap (λ (o : Option ℕ). slice_get (called_from graph depth string action o) n) calls ∙ e in
          let place : base + points_before graph function k + suc n ≡ base + points_before graph function k + 1 + n = omega arith in
          subst (λ m. IsAt graph m point) place (in_frame graph whole string function base depth deep holds k action (suc n) point has inside);
    }
