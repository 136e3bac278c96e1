-- How many points a function has does not depend on the call string, nor on the bound on the depth.
use Rattle.std.proofs.Common.{◌≡◌, ◌∙◌, ◌<◌, ℕ, zero, suc, refl, ap, sym, List, [], ◌∷◌, length, take, Option, Some, None, slice_get, arith}
use Rattle.std.specs.Prelude.{option_map, unwrap_or}
use Rattle.std.specs.List.{sum_by}
use Rattle.std.proofs.lemmas.List.Concat.{length-flat_map}
use Rattle.flow_points.specs.declared.graph.Graph.{Graph}
use Rattle.flow_points.specs.Transfers.{callee_of}
use Rattle.flow_points.specs.Graphs.{IsGraph, actions_of, transfer_at}
use Rattle.flow_points.specs.PointLists.{Point, at, points_from}
use Rattle.flow_points.specs.Tables.{size_of, weight_of, points_before}
use Rattle.flow_points.proofs.Blocks.{lengths, sum_by_same, get_take}
use Rattle.flow_points.proofs.Places.{has_place}

-- the points of an action with all that it calls
abbrev pub called_from : Graph → ℕ → List ℕ → ℕ → Option ℕ → List Point
called_from graph depth string action callee = unwrap_or (option_map (λ callee. points_from graph depth (action ∷ string) callee) callee) []

abbrev pub block : Graph → ℕ → List ℕ → ℕ → List Point
block graph depth string action = at string action ∷ called_from graph depth string action (callee_of (transfer_at graph action))

pub same_called : (graph : Graph) (depth other : ℕ) (string another : List ℕ) (action : ℕ) (o : Option ℕ)
    → ((callee : ℕ) → o ≡ Some callee → length (points_from graph depth (action ∷ string) callee) ≡ length (points_from graph other (action ∷ another) callee))
    → length (called_from graph depth string action o) ≡ length (called_from graph other another action o)
same_called graph depth other string another action None h = refl
same_called graph depth other string another action (Some callee) h = h callee refl

pub same_size : (graph : Graph) → IsGraph graph → (depth other : ℕ) (string another : List ℕ) (function : ℕ) → function < depth → function < other
    → length (points_from graph depth string function) ≡ length (points_from graph other another function)
same_size graph whole zero other string another function l m = elim (let f : ⊥ = omega arith in f) [ ]
same_size graph whole (suc depth) zero string another function l m = elim (let f : ⊥ = omega arith in f) [ ]
same_size graph whole (suc depth) (suc other) string another function l m =
    length-flat_map (block graph depth string) (actions_of graph function)
    ∙ sum_by_same (λ a. length (block graph depth string a)) (λ a. length (block graph other another a)) (actions_of graph function)
    (λ k action has. ap suc (same_called graph depth other string another action (callee_of (transfer_at graph action))
    (λ callee e. let below = whole.callees function action callee (has_place graph function k action has) e in
    same_size graph whole depth other (action ∷ string) (action ∷ another) callee (omega (arith, below)) (omega (arith, below)))))
    ∙ sym (length-flat_map (block graph other another) (actions_of graph function))

pub size_is : (graph : Graph) → IsGraph graph → (depth : ℕ) (string : List ℕ) (function : ℕ) → function < depth → length (points_from graph depth string function) ≡ size_of graph function
unfolding size_of
size_is graph whole depth string function l = same_size graph whole depth (suc function) string [] function l (omega arith)

pub called_is : (graph : Graph) (depth : ℕ) (string : List ℕ) (action : ℕ) (o : Option ℕ)
    → ((callee : ℕ) → o ≡ Some callee → length (points_from graph depth (action ∷ string) callee) ≡ size_of graph callee)
    → length (called_from graph depth string action o) ≡ unwrap_or (option_map (size_of graph) o) 0
called_is graph depth string action None h = refl
called_is graph depth string action (Some callee) h = h callee refl

pub weight_is : (graph : Graph) → IsGraph graph → (depth : ℕ) (string : List ℕ) (function k action : ℕ) → function < suc depth → slice_get (actions_of graph function) k ≡ Some action
    → length (block graph depth string action) ≡ weight_of graph action
weight_is graph whole depth string function k action l has = ap suc (called_is graph depth string action (callee_of (transfer_at graph action))
    (λ callee e. let below = whole.callees function action callee (has_place graph function k action has) e in size_is graph whole depth (action ∷ string) callee (omega (arith, below))))

pub before_is : (graph : Graph) → IsGraph graph → (depth : ℕ) (string : List ℕ) (function k : ℕ) → function < suc depth
    → lengths (block graph depth string) (take k (actions_of graph function)) ≡ points_before graph function k
unfolding points_before
before_is graph whole depth string function k l =
    sum_by_same (λ a. length (block graph depth string a)) (weight_of graph) (take k (actions_of graph function))
    (λ i action has. weight_is graph whole depth string function i action l (get_take (actions_of graph function) k i action has))

-- a function has the points of its actions
pub size_by_actions : (graph : Graph) → IsGraph graph → (function : ℕ) → size_of graph function ≡ sum_by (weight_of graph) (actions_of graph function)
unfolding size_of
size_by_actions graph whole function =
    length-flat_map (block graph function []) (actions_of graph function)
    ∙ sum_by_same (λ a. length (block graph function [] a)) (weight_of graph) (actions_of graph function)
    (λ i action has. weight_is graph whole function [] function i action (omega arith) has)
