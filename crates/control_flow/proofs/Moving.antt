-- The moves of each control that stands in the text are the graph's.
use Rattle.std.proofs.Common.{◌≡◌, refl, sym, ap, ◌∙◌, subst, true, false, inl, inr, ℕ, List, [], ◌∷◌, ◌++◌, append-nil, map, Option}
use Rattle.std.specs.List.{flat_map}
use Rattle.c_program.specs.declared.expression.Expr.{Expr}
use Rattle.c_program.specs.declared.action.Local.{Local}
use Rattle.c_program.specs.declared.action.Act.{Act}
use Rattle.c_program.specs.declared.action.Act.TheVariants as act
use Rattle.c_program.specs.declared.program.Program.{Program}
use Rattle.c_program.specs.Syntax.{act_at, body_at}
use Rattle.c_program.specs.Control.{Control, Run, Behind, Move, Spot, spot_in, moves, string_of, returned, left_behind, goes_on}
use Rattle.c_program.specs.Paths.{Stands, Offers}
use Rattle.c_program.specs.WellFormed.{IsWellFormed, is_branch, is_switch}
use Rattle.c_program.proofs.Members.{In, each_in}
use Rattle.c_program.proofs.Sites.{Site, Within, at_base, runs, in_first, in_second, before_turn, in_turn, in_switch}
use Rattle.c_program.proofs.Points.{IsBase, ground, called, at_site, stands_placed, left_within, string_within, text, bodies_fit, by_site, call_stays, at_spot}
use Rattle.flow_points.specs.declared.transfer.Transfer.{Transfer}
use Rattle.flow_points.specs.Graphs.{transfer_at, next_at, entry_of}
use Rattle.flow_points.specs.PointLists.{at, next_points, leads_to, returns_to}
use Rattle.flow_points.specs.PointLists.{behind as behind_string}
use Rattle.control_flow.specs.declared.flow.Flow.{Flow}
use Rattle.control_flow.specs.Labels.{spot_at, view, AreNodes, Does}
use Rattle.control_flow.specs.Edges.{IsThread, stops, EdgesAreMoves}
use Rattle.control_flow.proofs.Built.{IsFlowOf, IsEnd, heads}
use Rattle.control_flow.proofs.Single.{Single, branches, switches, alone, single}
use Rattle.control_flow.proofs.Deeds.{Deed, goes, calls, returns, exits, deed}
use Rattle.control_flow.proofs.Views.{there, stops_are, view_all, map_joined, map_flat, flat_same, flat_none, nothing}

head_same : (a b : Spot) (x y : List Spot) → a ∷ x ≡ b ∷ y → a ≡ b
head_same a b x y e = cc

tail_same : (a b : Spot) (x y : List Spot) → a ∷ x ≡ b ∷ y → x ≡ y
tail_same a b x y e = cc

returned_within : (L : List Site) (base control : Control) → Within L base control → returned control ≡ returned base
returned_within L base _ at_base = refl
returned_within L base _ (runs s rest h w) = returned_within L base rest w
returned_within L base _ (in_first s t rest h w) = returned_within L base rest w
returned_within L base _ (in_second s t rest h w) = returned_within L base rest w
returned_within L base _ (before_turn counter body turn rest h l w) = returned_within L base rest w
returned_within L base _ (in_turn counter body turn rest h l w) = returned_within L base rest w
returned_within L base _ (in_switch rest w) = returned_within L base rest w

only_in : (a b : Move) (all : List Move) → all ≡ b ∷ [] → In a all → a ≡ b
only_in a b all e i = go (subst (λ (l : List Move). In a l) e i)
  where
    go : In a (b ∷ []) → a ≡ b
    go (inl f) = sym f
    go (inr f) = absurd f

module _ (program : Program) (flow : Flow) (well : IsWellFormed program) (of : IsFlowOf program flow) (first : ℕ) where
  end_of : (string : List Spot) (function : ℕ) (base : Control) → IsBase program first string function base → IsEnd base
  end_of _ _ _ ground = record { ways = refl; rounds = refl }
  end_of _ _ _ (called string function callee base site move arguments result b i m e) = record { ways = refl; rounds = refl }

  -- what is no branch and no switch has one move
  one_move : (function : ℕ) (base : Control) (site : Site) → In site (text program first function base) → is_branch (act_at program site.spot.action) ≡ false
      → is_switch (act_at program site.spot.action) ≡ false → (only : Move) × (site.moves ≡ only ∷ [])
  one_move function base site i b s =
      go (each_in (Single program) site (text program first function base) (single program (body_at program function) base (bodies_fit program program.functions function well.fit)) i)
    where
      go : Single program site → (only : Move) × (site.moves ≡ only ∷ [])
      go (branches t) = absurd (let f : false ≡ true = sym b ∙ t in cc)
      go (switches t) = absurd (let f : false ≡ true = sym s ∙ t in cc)
      go (alone only e) = (only, e)

  no_branch : (a : Act) (function : ℕ) (arguments : List Expr) (result : Option Local) → a ≡ act.Call function arguments result → is_branch a ≡ false
  no_branch a function arguments result e = ap is_branch e

  no_switch : (a : Act) (function : ℕ) (arguments : List Expr) (result : Option Local) → a ≡ act.Call function arguments result → is_switch a ≡ false
  no_switch a function arguments result e = ap is_switch e

  -- where the return from a function leads, whose body stands before the base
  back : (strings : List Spot) (function : ℕ) (base : Control) → IsBase program first strings function base → (string thread : List ℕ) → map (spot_at flow) string ≡ string_of base
      → IsThread flow thread → AreNodes flow string → map (view flow) (behind_string flow.graph (string ++ thread)) ≡ stops (map (spot_at flow) thread) (returned base)
  back _ _ _ ground [] [] e is nodes = refl
  back _ _ _ ground [] (n ∷ thread) e is nodes = ap (λ (t : Transfer). map (view flow) (returns_to flow.graph n thread t)) is.1
  back _ _ _ ground (n ∷ string) thread e is nodes = absurd (cc)
  back _ _ _ (called strings function callee base site move arguments result b i m d) [] thread e is nodes = absurd (cc)
  back _ _ _ (called strings function callee base site move arguments result b i m d) (n ∷ string) thread e is nodes =
      let T = map (spot_at flow) thread in
      let here : spot_at flow n ≡ spot_in move.left move.action = head_same _ _ (map (spot_at flow) string) (string_of move.left) e in
      let outside : map (spot_at flow) string ≡ string_of move.left = tail_same (spot_at flow n) (spot_in move.left move.action) _ _ e in
      let at_it : spot_at flow n ≡ site.spot = here ∙ call_stays program first well function callee base site move arguments result i m d in
      let does : Does flow.order.items (act.Call callee arguments result) (transfer_at flow.graph n) =
      subst (λ (a : Act). Does flow.order.items a (transfer_at flow.graph n)) (ap (λ (s : Spot). act_at program s.action) here ∙ d) (of.acts n nodes.0) in
      let by : move.action ≡ site.spot.action = by_site program first well function base site move i m in
      let is_call : act_at program site.spot.action ≡ act.Call callee arguments result = ap (act_at program) (sym by) ∙ d in
      let only = one_move function base site i (ap is_branch is_call) (ap is_switch is_call) in
      let same : site.moves ≡ move ∷ [] = only.1 ∙ ap (λ (x : Move). x ∷ []) (sym (only_in move only.0 site.moves only.1 m)) in
      let next : map (spot_at flow) (next_at flow.graph n) ≡ heads move.left =
      of.nexts function base (end_of strings function base b) site i n nodes.0 at_it ∙ ap (flat_map (λ (x : Move). heads x.left)) same ∙ append-nil (heads move.left) in
      ap (λ (t : Transfer). map (view flow) (returns_to flow.graph n (string ++ thread) t)) does.1
      ∙ view_all flow (string ++ thread) (next_at flow.graph n)
      ∙ ap (map (there (map (spot_at flow) (string ++ thread)))) next
      ∙ ap (λ l. map (there l) (heads move.left)) (map_joined (spot_at flow) string thread ∙ ap (λ l. l ++ T) outside)
      ∙ sym (stops_are T move.left)

  -- at a site of a body
  module _ (strings : List Spot) (function : ℕ) (base : Control) (b : IsBase program first strings function base) (site : Site) (i : In site (text program first function base))
      (number : ℕ) (string thread : List ℕ) (is : IsThread flow thread) (nodes : AreNodes flow (number ∷ string)) (outside : map (spot_at flow) string ≡ string_of base)
      (here : spot_at flow number ≡ site.spot) where
    T : List Spot
    T = map (spot_at flow) thread

    acts_same : act_at program site.spot.action ≡ act_at program (spot_at flow number).action
    acts_same = ap (λ (s : Spot). act_at program s.action) (sym here)

    goes_as : (m : Move) → In m site.moves → goes_on program m ≡ left_behind program site.spot.action (act_at program site.spot.action) m.left
    goes_as m j = ap (λ k. left_behind program k (act_at program k) m.left) (by_site program first well function base site m i j)

    stays : (m : Move) → In m site.moves → string_of m.left ≡ string_of base
    stays m j = string_within program first (text program first function base) base m.left (left_within program first function base site m i j)

    strings_are : map (spot_at flow) (string ++ thread) ≡ string_of base ++ map (spot_at flow) thread
    strings_are = map_joined (spot_at flow) string thread ∙ ap (λ l. l ++ map (spot_at flow) thread) outside

    next : map (spot_at flow) (next_at flow.graph number) ≡ flat_map (λ (m : Move). heads m.left) site.moves
    next = of.nexts function base (end_of strings function base b) site i number nodes.0 here

    IsEdge : Transfer → Type 0
    IsEdge t = map (view flow) (leads_to flow.graph number (string ++ thread) t) ≡ flat_map (λ m. stops (map (spot_at flow) thread) (goes_on program m)) site.moves

    by_deed : (t : Transfer) → Deed program flow.order.items site.spot.action (act_at program site.spot.action) t → IsEdge t
    unfolding IsEdge
    by_deed t (goes on left) =
        ap (map (view flow)) (on flow.graph number (string ++ thread))
        ∙ view_all flow (string ++ thread) (next_at flow.graph number)
        ∙ ap (map (there (map (spot_at flow) (string ++ thread)))) next
        ∙ ap (λ l. map (there l) (flat_map (λ (m : Move). heads m.left) site.moves)) strings_are
        ∙ map_flat (there (string_of base ++ map (spot_at flow) thread)) (λ (m : Move). heads m.left) site.moves
        ∙ flat_same (λ (m : Move). map (there (string_of base ++ map (spot_at flow) thread)) (heads m.left)) (λ m. stops (map (spot_at flow) thread) (goes_on program m)) site.moves
        (λ m j. ap (λ l. map (there (l ++ map (spot_at flow) thread)) (heads m.left)) (sym (stays m j)) ∙ sym (stops_are (map (spot_at flow) thread) m.left)
        ∙ ap (stops (map (spot_at flow) thread)) (sym (goes_as m j ∙ left m.left)))
    by_deed t (calls callee f arguments result e is_call o) =
        let only = one_move function base site i (ap is_branch is_call) (ap is_switch is_call) in
        let m = only.0 in
        let j : In m site.moves = subst (λ (l : List Move). In m l) (sym only.1) (inl refl) in
        let by : m.action ≡ site.spot.action = by_site program first well function base site m i j in
        let calls_f : act_at program m.action ≡ act.Call f arguments result = ap (act_at program) by ∙ is_call in
        let stands : spot_in m.left m.action ≡ spot_at flow number = call_stays program first well function f base site m arguments result i j calls_f ∙ sym here in
        let left : goes_on program m ≡ Run (body_at program f) ∷ Behind m.action ∷ m.left = ap (λ a. left_behind program m.action a m.left) calls_f in
        let enters : heads (Run (body_at program f) ∷ Behind m.action ∷ m.left) ≡ spot_at flow (entry_of flow.graph callee) ∷ [] =
        of.entries callee f o (Behind m.action ∷ m.left) (record { ways = refl; rounds = refl }) in
        let right : stops (map (spot_at flow) thread) (goes_on program m)
        ≡ there (spot_at flow number ∷ map (spot_at flow) (string ++ thread)) (spot_at flow (entry_of flow.graph callee)) ∷ [] =
        ap (stops (map (spot_at flow) thread)) left
        ∙ stops_are (map (spot_at flow) thread) (Run (body_at program f) ∷ Behind m.action ∷ m.left)
        ∙ ap (map (there (spot_in m.left m.action ∷ (string_of m.left ++ map (spot_at flow) thread)))) enters
        ∙ ap (λ s. there (s ∷ (string_of m.left ++ map (spot_at flow) thread)) (spot_at flow (entry_of flow.graph callee)) ∷ []) stands
        ∙ ap (λ l. there (spot_at flow number ∷ l) (spot_at flow (entry_of flow.graph callee)) ∷ []) (ap (λ l. l ++ map (spot_at flow) thread) (stays m j) ∙ sym strings_are) in
        ap (λ (t : Transfer). map (view flow) (leads_to flow.graph number (string ++ thread) t)) e
        ∙ sym right ∙ sym (append-nil (stops (map (spot_at flow) thread) (goes_on program m)))
        ∙ ap (flat_map (λ m. stops (map (spot_at flow) thread) (goes_on program m))) (sym only.1)
    by_deed t (returns e left no_b no_s) =
        let only = one_move function base site i no_b no_s in
        let m = only.0 in
        let j : In m site.moves = subst (λ (l : List Move). In m l) (sym only.1) (inl refl) in
        let goes_back : goes_on program m ≡ returned base =
        goes_as m j ∙ left m.left ∙ returned_within (text program first function base) base m.left (left_within program first function base site m i j) in
        ap (λ (t : Transfer). map (view flow) (leads_to flow.graph number (string ++ thread) t)) e
        ∙ back strings function base b string thread outside is nodes.1
        ∙ ap (stops (map (spot_at flow) thread)) (sym goes_back)
        ∙ sym (append-nil (stops (map (spot_at flow) thread) (goes_on program m)))
        ∙ ap (flat_map (λ m. stops (map (spot_at flow) thread) (goes_on program m))) (sym only.1)
    by_deed t (exits e left) =
        ap (λ (t : Transfer). map (view flow) (leads_to flow.graph number (string ++ thread) t)) e
        ∙ sym (flat_same (λ m. stops (map (spot_at flow) thread) (goes_on program m)) nothing site.moves (λ m j. ap (stops (map (spot_at flow) thread)) (goes_as m j ∙ left m.left)) ∙ flat_none site.moves)

    edges : IsEdge (transfer_at flow.graph number)
    edges = by_deed (transfer_at flow.graph number) (subst (λ (a : Act). Deed program flow.order.items site.spot.action a (transfer_at flow.graph number)) (sym acts_same)
        (deed program flow.order.items site.spot.action (act_at program (spot_at flow number).action) (transfer_at flow.graph number) (of.acts number nodes.0)))

  pub moves_are : (number : ℕ) (control : Control) (move : Move) (string thread : List ℕ) → Stands program first control → Offers control move
      → IsThread flow thread → AreNodes flow (number ∷ string) → map (spot_at flow) string ≡ string_of control → spot_at flow number ≡ spot_in control move.action
      → map (view flow) (next_points flow.graph (at (string ++ thread) number)) ≡ flat_map (λ m. stops (map (spot_at flow) thread) (goes_on program m)) (moves control)
  unfolding IsEdge
  moves_are number control move string thread stands offers is nodes outside here =
      let p = stands_placed program first control stands in
      let a = at_site program first control move p offers in
      edges p.string p.function p.base p.is_base a.site a.is_in number string thread is nodes
      (outside ∙ string_within program first (text program first p.function p.base) p.base control p.within)
      (here ∙ sym (at_spot program first well control move p a))
      ∙ ap (flat_map (λ m. stops (map (spot_at flow) thread) (goes_on program m))) a.same

pub edges_are_moves : (program : Program) (flow : Flow) → IsWellFormed program → IsFlowOf program flow → EdgesAreMoves program flow
edges_are_moves program flow well of function number control move string thread stands offers is nodes outside here =
    moves_are program flow well of function number control move string thread stands offers is nodes outside here
