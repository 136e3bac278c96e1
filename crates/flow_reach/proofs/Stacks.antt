-- Paths go by functions.
use Rattle.std.proofs.Common.{◌≡◌, ◌∙◌, ◌<◌, ℕ, zero, suc, true, refl, ap, sym, subst, List, [], ◌∷◌, map, length, Option, Some, slice_get, arith}
use Rattle.std.specs.Prelude.{option_map, unwrap_or}
use Rattle.std.proofs.lemmas.Option.{none-some, slice_get-map}
use Rattle.flow_points.specs.declared.transfer.Transfer.{Transfer}
use Rattle.flow_points.specs.declared.transfer.Transfer.TheVariants.{Next, Call, Create, Return, Exit}
use Rattle.flow_points.specs.Transfers.{callee_of}
use Rattle.flow_points.specs.declared.graph.Graph.{Graph}
use Rattle.flow_points.specs.Graphs.{transfer_at, next_at, entry_of, Has}
use Rattle.flow_points.specs.PointLists.{Point, at, IsAt, point_at, next_points, leads_to, returns_to, behind}
use Rattle.flow_points.specs.Strings.{NumbersArePoints, EachHasOneNumber, IsPoint, LeadsTo, initial, by_call}
use Rattle.flow_points.specs.Graphs.{IsGraph}
use Rattle.flow_points.specs.Threads.{entry_point, EachThreadBegins}
use Rattle.flow_reach.specs.Paths.{Transitions, Stop, LeadsBy, Begins, IsPath, Comes}
use Rattle.flow_reach.specs.Summaries.{LocalStep, IsLocal, StaysIn, Inside, begins, goes, passes, Stacked, bottom, above, PathsAreStacks}

point_is : (graph : Graph) (number : ℕ) (point : Point) → IsAt graph number point → point_at graph number ≡ point
point_is graph number point e = ap (λ (o : Option Point). unwrap_or o (at [] 0)) e

-- a function goes on, and those below it stay
stack_on : (graph : Graph) (track : Transitions) (local : LocalStep) (thread : ℕ) (string : List ℕ) (function action state next after : ℕ)
    → ((entry : ℕ) → Inside graph local function entry action state → Inside graph local function entry next after)
    → Stacked graph track local thread string function action state → Stacked graph track local thread string function next after
stack_on graph track local thread string function action state next after on (bottom _ _ entry _ _ t leads e s inside) = bottom string function entry next after t leads e s (on entry inside)
stack_on graph track local thread _ function action state next after on (above string below call before _ entry _ _ stack calls step inside) =
    above string below call before function entry next after stack calls step (on entry inside)

-- an element of a mapped list
mapped : (string : List ℕ) (xs : List ℕ) (k : ℕ) (goal : Point) → slice_get (map (at string) xs) k ≡ Some goal → (next : ℕ) × (slice_get xs k ≡ Some next) × (at string next ≡ goal)
mapped string [] k goal e = elim (none-some goal e) [ ]
mapped string (x ∷ xs) zero goal e = (x, refl, grind (arith, e))
mapped string (x ∷ xs) (suc k) goal e = mapped string xs k goal e

-- one step of a path
abbrev AtPoint : Graph → Transitions → LocalStep → ℕ → Point → ℕ → Type 0
AtPoint graph track local thread point state = (function : ℕ) × Stacked graph track local thread point.string function point.action state

-- what control does in its function, and at a return
module _ (graph : Graph) (track : Transitions) (local : LocalStep) (threads : EachThreadBegins graph) (thread : ℕ) where
  returned : (string : List ℕ) (function action state after : ℕ) → Stacked graph track local thread string function action state → transfer_at graph action ≡ Return
      → (k : ℕ) (goal : Point) → slice_get (behind graph string) k ≡ Some goal → local action goal.action state after ≡ true → AtPoint graph track local thread goal after
  returned string function action state after (bottom _ _ entry _ _ t leads e s inside) returns k goal move step =
      let none : behind graph string ≡ [] = ap (λ (p : Point). behind graph p.string) (sym e) ∙ (threads thread t).ends in
      elim (none-some goal (ap (λ (xs : List Point). slice_get xs k) (sym none) ∙ move)) [ ]
  returned _ function action state after (above string below call before _ entry _ _ stack calls enters inside) returns k goal move step =
      let there = mapped string (next_at graph call) k goal (ap (λ t. slice_get (returns_to graph call string t) k) (sym calls) ∙ move) in
      let same : local action there.0 state after ≡ true = ap (λ (p : Point). local action p.action state after) there.2 ∙ step in
      subst (λ (p : Point). AtPoint graph track local thread p after) there.2 (
        below,
        stack_on graph track local thread string below call before there.0 after
            (λ first h. passes below first call before function entry action state k there.0 after h calls enters inside returns there.1 same) stack,
      )

  stays : (string : List ℕ) (function action state after : ℕ) → Stacked graph track local thread string function action state → StaysIn (transfer_at graph action)
      → (k : ℕ) (goal : Point) → slice_get (map (at string) (next_at graph action)) k ≡ Some goal → local action goal.action state after ≡ true → AtPoint graph track local thread goal after
  stays string function action state after stack here k goal move step =
      let there = mapped string (next_at graph action) k goal move in
      let same : local action there.0 state after ≡ true = ap (λ (p : Point). local action p.action state after) there.2 ∙ step in
      subst (λ (p : Point). AtPoint graph track local thread p after) there.2
      (function, stack_on graph track local thread string function action state there.0 after (λ first h. goes function first action state k there.0 after h here there.1 same) stack)

  one_goal : (point goal : Point) (k : ℕ) → slice_get (point ∷ []) k ≡ Some goal → point ≡ goal
  one_goal point goal zero e = grind (arith, e)
  one_goal point goal (suc k) e = elim (none-some goal e) [ ]

  moved : (string : List ℕ) (function action state after : ℕ) → Stacked graph track local thread string function action state → (t : Transfer) → transfer_at graph action ≡ t
      → (k : ℕ) (goal : Point) → slice_get (leads_to graph action string t) k ≡ Some goal → local action goal.action state after ≡ true → AtPoint graph track local thread goal after
  moved string function action state after stack Next is k goal move step = stays string function action state after stack (subst StaysIn (sym is) tt) k goal move step
  moved string function action state after stack (Create callee) is k goal move step = stays string function action state after stack (subst StaysIn (sym is) tt) k goal move step
  moved string function action state after stack (Call callee) is k goal move step =
      let same = one_goal (at (action ∷ string) (entry_of graph callee)) goal k move in
      subst (λ (p : Point). AtPoint graph track local thread p after) same
      (callee, above string function action state callee after (entry_of graph callee) after stack is (ap (λ (p : Point). local action p.action state after) same ∙ step) (begins callee after))
  moved string function action state after stack Return is k goal move step = returned string function action state after stack is k goal move step
  moved string function action state after stack Exit is k goal move step = elim (none-some goal move) [ ]

  pub stacks : IsLocal graph track local → (number state : ℕ) (stops : List Stop) → IsPath graph track thread (record { point = number; state = state } ∷ stops)
      → AtPoint graph track local thread (point_at graph number) state
  stacks alike number state [] path =
      let t = threads thread path.0.thread_is in
      let first : entry_point graph thread ≡ at (entry_point graph thread).string (entry_of graph t.function) = ap (at (entry_point graph thread).string) t.entry in
      subst (λ (p : Point). AtPoint graph track local thread p state) (sym (point_is graph number (entry_point graph thread) path.0.there)) (
        t.function,
        subst (λ a. Stacked graph track local thread (entry_point graph thread).string t.function a state) (sym t.entry)
            (bottom (entry_point graph thread).string t.function state (entry_of graph t.function) state path.0.thread_is t.leads first path.1 (begins t.function state)),
      )
  stacks alike number state (stop ∷ stops) path =
      let before = stacks alike stop.point stop.state stops path.2 in
      let from = point_at graph stop.point in
      let lead = path.0.1 in
      let goal : point_at graph number ≡ lead.goal = point_is graph number lead.goal lead.there in
      let step : local from.action lead.goal.action stop.state state ≡ true =
      ap (λ (p : Point). local from.action p.action stop.state state) (sym goal) ∙ sym (alike stop.point number stop.state state path.0) ∙ path.1 in
      subst (λ (p : Point). AtPoint graph track local thread p state) (sym goal)
      (moved from.string before.0 from.action stop.state state before.1 (transfer_at graph from.action) refl path.0.0 lead.goal lead.move step)

-- ---- from stacks to paths

leads_within : (graph : Graph) → IsGraph graph → (string : List ℕ) (function : ℕ) → LeadsTo graph string function → function < length graph.functions.items
leads_within graph whole _ _ initial = whole.main
leads_within graph whole _ _ (by_call string function action callee leads has calls) =
    let outer = leads_within graph whole string function leads in
    let below = whole.callees function action callee has calls in
    omega (arith, outer, below)

-- a path of the thread comes to the point in the state
pub record Reaches (graph : Graph) (track : Transitions) (thread : ℕ) (point : Point) (state : ℕ) : Type 0 where
  pub number : ℕ
  pub is : IsAt graph number point
  pub comes : Comes graph track thread number state

module _ (graph : Graph) (track : Transitions) (local : LocalStep) (whole : IsGraph graph) (all : NumbersArePoints graph) (alike : IsLocal graph track local) (thread : ℕ) where
  onward : (point goal : Point) (state after k : ℕ) → Reaches graph track thread point state → slice_get (next_points graph point) k ≡ Some goal → IsPoint graph goal
      → local point.action goal.action state after ≡ true → Reaches graph track thread goal after
  onward point goal state after k from move is step =
      let there = (all goal).0 is in
      let leads : LeadsBy graph from.number k there.0 = record {
        goal = goal;
        move = ap (λ (p : Point). slice_get (next_points graph p) k) (point_is graph from.number point from.is) ∙ move;
        there = there.1;
      } in
      let taken : track.step from.number there.0 state after ≡ true =
      alike from.number there.0 state after (k, leads)
      ∙ ap (λ (p : Point). local p.action (point_at graph there.0).action state after) (point_is graph from.number point from.is)
      ∙ ap (λ (p : Point). local point.action p.action state after) (point_is graph there.0 goal there.1)
      ∙ step in
      record { number = there.0; is = there.1; comes = (record { point = from.number; state = state } ∷ from.comes.0, ((k, leads), taken, from.comes.1)) }

  staying : (string : List ℕ) (action : ℕ) (t : Transfer) → transfer_at graph action ≡ t → StaysIn t → next_points graph (at string action) ≡ map (at string) (next_at graph action)
  staying string action Next is here = ap (leads_to graph action string) is
  staying string action (Create callee) is here = ap (leads_to graph action string) is
  staying string action (Call callee) is here = elim here [ ]
  staying string action Return is here = elim here [ ]
  staying string action Exit is here = elim here [ ]

  pub record Reached (string : List ℕ) (function action state : ℕ) : Type 0 where
    pub reaches : Reaches graph track thread (at string action) state
    pub has : Has graph function action

  -- where the next action of a function is the goal
  to_next : (string : List ℕ) (function action : ℕ) → LeadsTo graph string function → Has graph function action → (point : Point) → next_points graph point ≡ map (at string) (next_at graph action)
      → (state after k next : ℕ) → Reaches graph track thread point state → slice_get (next_at graph action) k ≡ Some next → local point.action next state after ≡ true
      → Reached string function next after
  to_next string function action leads has point points state after k next from move step =
      let there = whole.stays function action k next has move in
      record {
        reaches = onward point (at string next) state after k from
            (ap (λ xs. slice_get xs k) points ∙ slice_get-map (at string) (next_at graph action) k ∙ ap (option_map (at string)) move)
            (record { function = function; leads = leads; has = there }) step;
        has = there;
      }

  called : (string : List ℕ) (function call callee state after : ℕ) → LeadsTo graph string function → Reached string function call state → transfer_at graph call ≡ Call callee
      → local call (entry_of graph callee) state after ≡ true → LeadsTo graph (call ∷ string) callee × Reaches graph track thread (at (call ∷ string) (entry_of graph callee)) after
  called string function call callee state after leads from calls step =
      let inside = by_call string function call callee leads from.has (ap callee_of calls) in (
        inside,
        onward (at string call) (at (call ∷ string) (entry_of graph callee)) state after 0 from.reaches (ap (λ t. slice_get (leads_to graph call string t) 0) calls)
            (record { function = callee; leads = inside; has = whole.entries callee (leads_within graph whole (call ∷ string) callee inside) }) step,
      )

  inside_comes : (function entry action state : ℕ) → Inside graph local function entry action state → (string : List ℕ) → LeadsTo graph string function
      → Reaches graph track thread (at string (entry_of graph function)) entry → Reached string function action state
  inside_comes _ _ _ _ (begins function entry) string leads from = record { reaches = from; has = whole.entries function (leads_within graph whole string function leads) }
  inside_comes _ _ _ _ (goes function entry action state k next after inside here move step) string leads from =
      let before = inside_comes function entry action state inside string leads from in
      to_next string function action leads before.has (at string action) (staying string action (transfer_at graph action) refl here) state after k next before.reaches move step
  inside_comes _ _ _ _ (passes function entry call state callee inner last left k next after inside calls enters within returns move step) string leads from =
      let before = inside_comes function entry call state inside string leads from in
      let there = called string function call callee state inner leads before calls enters in
      let end = inside_comes callee inner last left within (call ∷ string) there.0 there.1 in
      to_next string function call leads before.has (at (call ∷ string) last)
      (ap (leads_to graph last (call ∷ string)) returns ∙ ap (returns_to graph call string) calls) left after k next end.reaches move step

  pub stack_comes : (string : List ℕ) (function action state : ℕ) → Stacked graph track local thread string function action state → LeadsTo graph string function × Reached string function action state
  stack_comes _ _ _ _ (bottom string function entry action state t leads e start inside) =
      let first = (all (at string (entry_of graph function))).0 (record { function = function; leads = leads; has = whole.entries function (leads_within graph whole string function leads) }) in
      let begin : Begins graph thread first.0 = record { thread_is = t; there = first.1 ∙ ap Some (sym e) } in
      (leads, inside_comes function entry action state inside string leads (record { number = first.0; is = first.1; comes = ([], (begin, start)) }))
  stack_comes _ _ _ _ (above string below call before callee entry action after stack calls enters inside) =
      let under = stack_comes string below call before stack in
      let there = called string below call callee before entry under.0 under.1 calls enters in
      (there.0, inside_comes callee entry action after inside (call ∷ string) there.0 there.1)

pub paths_are_stacks : (graph : Graph) (track : Transitions) (local : LocalStep) → IsGraph graph → NumbersArePoints graph → EachHasOneNumber graph → EachThreadBegins graph
    → IsLocal graph track local → PathsAreStacks graph track local
paths_are_stacks graph track local whole all one threads alike thread number state point is = (
  λ comes. subst (λ (p : Point). AtPoint graph track local thread p state) (point_is graph number point is) (stacks graph track local threads thread alike number state comes.0 comes.1),
  λ stack. let there = (stack_comes graph track local whole all alike thread point.string stack.0 point.action state stack.1).1.reaches in
      subst (λ n. Comes graph track thread n state) (one point there.number number there.is is) there.comes,
)
