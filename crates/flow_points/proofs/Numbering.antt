-- The formula gives each point its number.
use Rattle.std.proofs.Common.{◌≡◌, ◌∙◌, ◌+◌, ◌-◌, ◌<◌, ℕ, zero, suc, refl, ap, sym, subst, List, [], ◌∷◌, length, get_or, Option, Some, None, slice_get, take, arith}
use Rattle.std.proofs.lemmas.Option.{none-some, slice_get-get_or}
use Rattle.flow_points.specs.declared.points.NumberedPoints.{NumberedPoints}
use Rattle.flow_points.specs.declared.graph.Graph.{Graph}
use Rattle.flow_points.specs.Transfers.{callee_of}
use Rattle.flow_points.specs.Graphs.{Has, first_of, length_of, actions_of, transfer_at, entry_of}
use Rattle.flow_points.specs.PointLists.{Point, at, points_from, points_of, point_at, IsAt}
use Rattle.flow_points.specs.Tables.{points_before}
use Rattle.flow_points.specs.Frames.{IsFrame}
use Rattle.flow_points.specs.Strings.{LeadsTo, initial, by_call, IsPoint, NumbersArePoints, EachHasOneNumber}
use Rattle.flow_points.proofs.Blocks.{Found, lengths, find_block}
use Rattle.flow_points.proofs.Places.{range_place, has_place, place_has}
use Rattle.flow_points.proofs.Sizes.{block, called_from, before_is}
use Rattle.flow_points.proofs.Frames.{main_frame, called_frame}
use Rattle.flow_points.proofs.Numbers.{Placed, placed, point_is}

-- where the points of a call string begin
abbrev pub base_of : NumberedPoints → List ℕ → ℕ
base_of points [] = 0
base_of points (call ∷ string) = base_of points string + get_or points.before.items call 0 + 1

abbrev pub number_of : NumberedPoints → Point → ℕ
number_of points point = base_of points point.string + get_or points.before.items point.action 0

-- what is found at a place behind a call string's base
pub record Met (points : NumberedPoints) (point : Point) (place : ℕ) : Type 0 where
  pub number : number_of points point ≡ place
  pub is : IsPoint points.graph point

abbrev pub Meets : NumberedPoints → ℕ → Type 0
Meets points depth = (string : List ℕ) (function : ℕ) → function < depth → IsFrame points.graph string function (base_of points string) → LeadsTo points.graph string function
    → (n : ℕ) (point : Point) → slice_get (points_from points.graph depth string function) n ≡ Some point → Met points point (base_of points string + n)

meets_more : (points : NumberedPoints) (depth : ℕ) → Meets points depth → Meets points (suc depth)
meets_more points depth deeper string function deep frame leads n point e = at_offset found.offset found.inside found.place
  where
    graph : Graph
    graph = points.graph

    base : ℕ
    base = base_of points string

    found : Found (block graph depth string) (actions_of graph function) n point
    found = find_block (block graph depth string) (actions_of graph function) n point e

    k : ℕ
    k = found.block

    action : ℕ
    action = found.item

    has : Has graph function action
    has = has_place graph function k action found.has

    entry : get_or points.before.items action 0 ≡ points_before graph function k
    entry = (placed points string function base action frame has).exact ∙ ap (points_before graph function) (let h = range_place (first_of graph function) (length_of graph function) k action found.has in omega (arith, h.1))

    before : lengths (block graph depth string) (take k (actions_of graph function)) ≡ points_before graph function k
    before = before_is graph points.whole depth string function k deep

    inner : (o : Option ℕ) → callee_of (transfer_at graph action) ≡ o → (i : ℕ) → slice_get (called_from graph depth string action o) i ≡ Some point → Met points point (base + (points_before graph function k + suc i))
    inner None calls i h = elim (none-some point h) [ ]
    inner (Some callee) calls i h =
        let frame_there = called_frame graph points.whole string function base frame k action callee found.has calls in
        let begins : base + points_before graph function k + 1 ≡ base_of points (action ∷ string) = omega (arith, entry) in
        let there = deeper (action ∷ string) callee (omega (arith, points.whole.callees function action callee has calls, deep))
        (subst (IsFrame graph (action ∷ string) callee) begins frame_there) (by_call string function action callee leads has calls) i point h in
        subst (Met points point) (omega (arith, begins)) there

    at_offset : (j : ℕ) → slice_get (block graph depth string action) j ≡ Some point → n ≡ lengths (block graph depth string) (take k (actions_of graph function)) + j → Met points point (base + n)
    at_offset zero inside place =
        let same : at string action ≡ point = grind (arith, inside) in
        subst (λ (p : Point). Met points p (base + n)) same (record {
          number = omega (arith, entry, before, place);
          is = record { function = function; leads = leads; has = has };
        })
    at_offset (suc i) inside place = subst (Met points point) (omega (arith, before, place)) (inner (callee_of (transfer_at graph action)) refl i inside)

meets : (points : NumberedPoints) (depth : ℕ) → Meets points depth
meets points zero = λ string function deep frame leads n point e. elim (let f : ⊥ = omega arith in f) [ ]
meets points (suc depth) = meets_more points depth (meets points depth)

pub at_number : (points : NumberedPoints) (n : ℕ) (point : Point) → IsAt points.graph n point → Met points point n
unfolding points_of
at_number points n point e =
    subst (Met points point) (omega arith) (meets points _ [] points.graph.main points.whole.main (main_frame points.graph points.whole) initial n point e)

-- the points of a call string begin at its base
pub frame_of : (points : NumberedPoints) (string : List ℕ) (function : ℕ) → LeadsTo points.graph string function → IsFrame points.graph string function (base_of points string)
frame_of points _ _ initial = main_frame points.graph points.whole
frame_of points _ _ (by_call string function action callee leads has calls) =
    let outer = frame_of points string function leads in
    let k = action - first_of points.graph function in
    let stands : slice_get (actions_of points.graph function) k ≡ Some action = place_has points.graph function k (omega (arith, has.0, has.1)) ∙ ap Some (omega (arith, has.0)) in
    let here = placed points string function (base_of points string) action outer has in
    let begins : base_of points string + points_before points.graph function k + 1 ≡ base_of points (action ∷ string) = omega (arith, here.exact) in
    subst (IsFrame points.graph (action ∷ string) callee) begins (called_frame points.graph points.whole string function (base_of points string) outer k action callee stands calls)

-- what a call or a creation comes to begins behind its point
pub created_frame : (points : NumberedPoints) (number : ℕ) (point : Point) → IsAt points.graph number point → (callee : ℕ) → callee_of (transfer_at points.graph point.action) ≡ Some callee
    → IsFrame points.graph (point.action ∷ point.string) callee (number + 1)
created_frame points number point is callee calls =
    let here = at_number points number point is in
    let begins : base_of points (point.action ∷ point.string) ≡ number + 1 = omega (arith, here.number) in
    subst (IsFrame points.graph (point.action ∷ point.string) callee) begins
    (frame_of points (point.action ∷ point.string) callee (by_call point.string here.is.function point.action callee here.is.leads here.is.has calls))

-- where the function begins that a call or a creation names
pub entry_placed : (points : NumberedPoints) (number : ℕ) (point : Point) → IsAt points.graph number point → (callee : ℕ) → callee_of (transfer_at points.graph point.action) ≡ Some callee
    → Placed points (point.action ∷ point.string) callee (number + 1) (entry_of points.graph callee)
entry_placed points number point is callee calls =
    let frame = created_frame points number point is callee calls in
    placed points (point.action ∷ point.string) callee (number + 1) (entry_of points.graph callee) frame (points.whole.entries callee frame.exists)

pub is_at : (graph : Graph) (number : ℕ) → number < length (points_of graph) → IsAt graph number (point_at graph number)
is_at graph number l =
    let e = slice_get-get_or (points_of graph) number (at [] 0) l in
    e ∙ ap Some (sym (point_is graph number _ e))

pub numbers_are_points : (points : NumberedPoints) → NumbersArePoints points.graph
numbers_are_points points point = (
  λ is. (_, (placed points point.string is.function (base_of points point.string) point.action (frame_of points point.string is.function is.leads) is.has).is_at),
  λ h. (at_number points h.0 point h.1).is,
)

pub each_has_one_number : (points : NumberedPoints) → EachHasOneNumber points.graph
each_has_one_number points point a b at_a at_b = sym (at_number points a point at_a).number ∙ (at_number points b point at_b).number
