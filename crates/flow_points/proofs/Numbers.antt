-- The numbers that the tables give.
use Rattle.std.proofs.Common.{◌≡◌, ◌∙◌, ◌+◌, ◌-◌, ◌<◌, ℕ, refl, ap, sym, subst, List, [], ◌∷◌, map, length, get_or, min, Option, Some, None, slice_get, arith}
use Rattle.std.specs.Prelude.{unwrap_or, option_map}
use Rattle.std.proofs.lemmas.Option.{slice_get_within, none-some, slice_get-map, slice_get-get_or}
use Rattle.std.proofs.lemmas.List.{length-map}
use Rattle.flow_points.specs.declared.points.NumberedPoints.{NumberedPoints}
use Rattle.flow_points.specs.declared.stand.Caller.{Caller}
use Rattle.flow_points.specs.declared.stand.Stand.{Stand}
use Rattle.flow_points.specs.declared.graph.Graph.{Graph}
use Rattle.flow_points.specs.declared.transfer.Transfer.{Transfer}
use Rattle.flow_points.specs.Transfers.{callee_of}
use Rattle.flow_points.specs.Graphs.{Has, first_of, length_of, actions_of, transfer_at}
use Rattle.flow_points.specs.PointLists.{Point, at, points_of, point_at, next_points, leads_to, IsAt}
use Rattle.flow_points.specs.Tables.{cap, points_before}
use Rattle.flow_points.specs.Frames.{IsFrame, IsCaller, IsStand}
use Rattle.flow_points.proofs.Places.{place_has}
use Rattle.flow_points.proofs.Frames.{own_point, called_frame}

-- an action in a frame
pub record Placed (points : NumberedPoints) (string : List ℕ) (function base action : ℕ) : Type 0 where
  pub inside : action < length points.before.items
  pub exact : get_or points.before.items action 0 ≡ points_before points.graph function (action - first_of points.graph function)
  pub number : base + get_or points.before.items action 0 < length (points_of points.graph)
  pub is_at : IsAt points.graph (base + get_or points.before.items action 0) (at string action)

pub placed : (points : NumberedPoints) (string : List ℕ) (function base action : ℕ) → IsFrame points.graph string function base → Has points.graph function action
    → Placed points string function base action
placed points string function base action frame has =
    let graph = points.graph in
    let before = points.before.items in
    let k = action - first_of graph function in
    let e : first_of graph function + k ≡ action = omega (arith, has.0) in
    let l : k < length_of graph function = omega (arith, has.0, has.1) in
    let stands : slice_get (actions_of graph function) k ≡ Some action = place_has graph function k l ∙ ap Some e in
    let own : IsAt graph (base + points_before graph function k) (at string action) = own_point graph points.whole string function base frame k action stands in
    let number : base + points_before graph function k < length (points_of graph) = slice_get_within (points_of graph) _ (at string action) own in
    let entries = points.counted.actions function frame.exists in
    let entry : get_or before action 0 ≡ min cap (points_before graph function k) = ap (λ a. get_or before a 0) (sym e) ∙ entries.each k l in
    let exact : get_or before action 0 ≡ points_before graph function k = omega (arith, entry, number, points.within) in
    record {
      inside = omega (arith, entries.within, has.1);
      exact = exact;
      number = omega (arith, exact, number);
      is_at = subst (λ n. IsAt graph (base + n) (at string action)) (sym exact) own;
    }

pub point_is : (graph : Graph) (number : ℕ) (point : Point) → IsAt graph number point → point_at graph number ≡ point
point_is graph number point e = ap (λ (o : Option Point). unwrap_or o (at [] 0)) e

-- the point of a stand
pub stand_point : (points : NumberedPoints) (number : ℕ) (stand : Stand) → (is : IsStand points.graph points.before.items number stand)
    → point_at points.graph number ≡ at is.comes.string stand.action
stand_point points number stand is = point_is points.graph number (at is.comes.string stand.action)
    (subst (λ n. IsAt points.graph n (at is.comes.string stand.action)) (sym is.place) (placed points is.comes.string stand.function stand.base stand.action is.comes.frame is.has).is_at)

-- the call at the end of a string
pub record Called (graph : Graph) (string : List ℕ) (caller : Caller) : Type 0 where
  pub rest : List ℕ
  pub is : string ≡ caller.action ∷ rest
  pub function : ℕ
  pub frame : IsFrame graph rest function caller.base
  pub has : Has graph function caller.action

pub called_by : (graph : Graph) (string : List ℕ) (o : Option Caller) (caller : Caller) → o ≡ Some caller → IsCaller graph string o → Called graph string caller
called_by graph string None caller e h = elim (none-some caller e) [ ]
called_by graph [] (Some other) caller e h = elim h [ ]
called_by graph (call ∷ string) (Some other) caller e h = subst (Called graph (call ∷ string)) (grind (arith, e)) (record {
  rest = string;
  is = ap (λ c. c ∷ string) (sym h.action);
  function = h.function;
  frame = h.frame;
  has = subst (Has graph h.function) (sym h.action) h.has;
})

pub not_called : (graph : Graph) (string : List ℕ) (o : Option Caller) → o ≡ None → IsCaller graph string o → string ≡ []
not_called graph [] o e h = refl
not_called graph (call ∷ string) None e h = elim h [ ]
not_called graph (call ∷ string) (Some caller) e h = elim (none-some caller (sym e)) [ ]

-- what a call comes to begins behind its point
pub entered : (points : NumberedPoints) (number : ℕ) (stand : Stand) → (is : IsStand points.graph points.before.items number stand)
    → (callee : ℕ) → callee_of (transfer_at points.graph stand.action) ≡ Some callee → IsFrame points.graph (stand.action ∷ is.comes.string) callee (number + 1)
entered points number stand is callee calls =
    let graph = points.graph in
    let n = stand.function in
    let k = stand.action - first_of graph n in
    let here = placed points is.comes.string n stand.base stand.action is.comes.frame is.has in
    let stands : slice_get (actions_of graph n) k ≡ Some stand.action = place_has graph n k (omega (arith, is.has.0, is.has.1)) ∙ ap Some (omega (arith, is.has.0)) in
    let place : stand.base + points_before graph n k + 1 ≡ number + 1 = omega (arith, is.place, here.exact) in
    subst (IsFrame graph (stand.action ∷ is.comes.string) callee) place (called_frame graph points.whole is.comes.string n stand.base is.comes.frame k stand.action callee stands calls)

-- where the moves from a stand's point lead
pub stand_leads : (points : NumberedPoints) (number : ℕ) (stand : Stand) → (is : IsStand points.graph points.before.items number stand)
    → (transfer : Transfer) → transfer ≡ transfer_at points.graph stand.action
    → next_points points.graph (point_at points.graph number) ≡ leads_to points.graph stand.action is.comes.string transfer
stand_leads points number stand is transfer e =
    ap (next_points points.graph) (stand_point points number stand is) ∙ ap (leads_to points.graph stand.action is.comes.string) (sym e)

pub get_single : {X : Type 0} (xs : List X) (x : X) (k : ℕ) → xs ≡ x ∷ [] → k < length xs → slice_get xs k ≡ Some x
get_single xs x k e l =
    let one : k < length (x ∷ []) = subst (λ ys. k < length ys) e l in
    let zeroth : k ≡ 0 = omega (arith, one) in
    ap (λ ys. slice_get ys k) e ∙ ap (slice_get (x ∷ [])) zeroth

pub get_mapped : {X : Type 0} (f : ℕ → X) (xs : List X) (ys : List ℕ) (k : ℕ) → xs ≡ map f ys → k < length xs
    → (slice_get ys k ≡ Some (get_or ys k 0)) × (slice_get xs k ≡ Some (f (get_or ys k 0)))
get_mapped f xs ys k e l =
    let within : k < length ys = omega (arith, subst (λ zs. k < length zs) e l, length-map ys f) in
    let there = slice_get-get_or ys k 0 within in
    (there, ap (λ zs. slice_get zs k) e ∙ slice_get-map f ys k ∙ ap (option_map f) there)
