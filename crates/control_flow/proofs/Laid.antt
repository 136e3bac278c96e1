-- Where nodes stand for the sites of a statement, what comes first and next by their places is what control comes to.
use Rattle.std.proofs.Common.{◌≡◌, refl, sym, ap, ◌∙◌, subst, Bool, true, false, ℕ, suc, nat_lt, if◌then◌else◌, ◌+◌, List, [], ◌∷◌, ◌++◌, append-nil, map}
use Rattle.std.specs.List.{flat_map}
use Rattle.c_program.specs.declared.statement.Counter.{Counter}
use Rattle.c_program.specs.declared.statement.Condition.{Condition, Test, And', Or', Row_of-Condition, more_of-Condition, end_of-Condition}
use Rattle.c_program.specs.declared.statement.Statement.{Statement, Do, Block', Switch', Break, Continue, Row_of-Statement, end_of-Statement, more_of-Statement}
use Rattle.c_program.specs.Syntax.{Not, After, If, Loop, Counted}
use Rattle.c_program.specs.Control.{Control, Run, In_first, In_second, Before_turn, In_turn, In_switch, Move, Ways, Spot, Round, round_of, rounds_of, run_all, if_all, if_any, clauses, enter, enter_all, decide, decide_and, decide_or, ways, moves}
use Rattle.c_program.specs.Paths.{each_turn, in_rounds}
use Rattle.c_program.proofs.Members.{first_less, next_less}
use Rattle.c_program.proofs.Sites.{Site, sites, sites_all, sites_clauses, sites_condition, sites_and, sites_or, test_site, step_site, rounds_all}
use Rattle.control_flow.proofs.Built.{begins, heads}
use Rattle.control_flow.specs.Layout.{size_of, size_of_test, first, first_all, first_clause, first_test, first_operand, first_left, firsts, test_node, step_node, nexts_of, nexts_of_all, nexts_of_each, nexts_of_test, nexts_of_and, nexts_of_or}
use Rattle.control_flow.proofs.Views.{map_joined}
use Rattle.control_flow.proofs.Places.{Marks, Leads, long, long_test, turns_long, by_one, marks_left, marks_right, marks_turn, leads_append, leads_turns}

-- the spot of the first of some moves, in these rounds
abbrev pub heads_in : List Round → List Move → List Spot
heads_in rounds [] = []
heads_in rounds (move ∷ all) = in_rounds rounds move.action ∷ []

heads_are : (control : Control) (all : List Move) → begins control all ≡ heads_in (rounds_of control) all
heads_are control [] = refl
heads_are control (move ∷ all) = refl

pub heads_by : (control : Control) → heads control ≡ heads_in (rounds_of control) (moves control)
heads_by control = heads_are control (moves control)

module _ (label : ℕ → Spot) where
  -- the ways lead to these nodes
  pub record Meets (rounds : List Round) (w : Ways) (h o g : List ℕ) : Type 0 where
    pub here : heads_in rounds w.here ≡ map label h
    pub out : heads_in rounds w.out ≡ map label o
    pub again : heads_in rounds w.again ≡ map label g

  -- ---- what comes first

  clause_first : {k : _} (action n : ℕ) (all : Row_of-Statement k) (rest : Control) → label n ≡ in_rounds (rounds_of rest) action
      → heads_in (rounds_of rest) (clauses action all rest) ≡ map label (first_clause n all)
  clause_first action n end_of-Statement rest m = refl
  clause_first action n (more_of-Statement s all) rest m = ap (λ x. x ∷ []) (sym m)

  mutual
    pub first_meets : (s : Statement) (rest : Control) (w : Ways) (n : ℕ) (h o g : List ℕ) → Marks label n (sites s rest) → Meets (rounds_of rest) w h o g
        → heads_in (rounds_of rest) (enter s rest w) ≡ map label (first s n h o g)
    first_meets (Do action) rest w n h o g m k = ap (λ x. x ∷ []) (sym m.0)
    first_meets (Block' shape all) rest w n h o g m k = first_meets_all all rest w n h o g m k
    first_meets (If c a b) rest w n h o g m k = first_meets_test c a b rest w n h o g (marks_left label n (sites_condition c a b rest) _ m) k
    first_meets (Loop a b) rest w n h o g m k =
        let ma = marks_left label n (sites a (In_first a b ∷ rest)) _ m in
        let mb = marks_right label n (size_of a) (sites a (In_first a b ∷ rest)) _ (long a (In_first a b ∷ rest)) m in
        let second = first_meets b (In_second a b ∷ rest) (record { here = []; out = w.here; again = [] }) (n + size_of a) [] h [] mb (record { here = refl; out = k.here; again = refl }) in
        let next = enter b (In_second a b ∷ rest) (record { here = []; out = w.here; again = [] }) in
        first_meets a (In_first a b ∷ rest) (record { here = next; out = w.here; again = next }) n _ h _ ma (record { here = second; out = k.here; again = second })
    first_meets (Counted counter body) rest w n h o g m k = ap (λ x. x ∷ []) (sym m.0)
    first_meets (Switch' action shape all) rest w n h o g m k = clause_first action n all rest m.0
    first_meets Break rest w n h o g m k = k.out
    first_meets Continue rest w n h o g m k = k.again

    pub first_meets_all : {k : _} (all : Row_of-Statement k) (rest : Control) (w : Ways) (n : ℕ) (h o g : List ℕ) → Marks label n (sites_all all rest) → Meets (rounds_of rest) w h o g
        → heads_in (rounds_of rest) (enter_all all rest w) ≡ map label (first_all all n h o g)
    first_meets_all end_of-Statement rest w n h o g m k = k.here
    first_meets_all (more_of-Statement s all) rest w n h o g m k =
        let ms = marks_left label n (sites s (run_all all rest)) _ m in
        let mall = marks_right label n (size_of s) (sites s (run_all all rest)) _ (long s (run_all all rest)) m in
        let behind = first_meets_all all rest w (n + size_of s) h o g mall k in
        let w' : Ways = record { here = enter_all all rest w; out = w.out; again = w.again } in
        let k' : Meets (rounds_of rest) w' (first_all all (n + size_of s) h o g) o g = record { here = behind; out = k.out; again = k.again } in
        ap (λ r. heads_in r (enter s (run_all all rest) w')) (sym (rounds_all all rest))
        ∙ first_meets s (run_all all rest) w' n (first_all all (n + size_of s) h o g) o g ms (subst (λ r. Meets r w' (first_all all (n + size_of s) h o g) o g) (sym (rounds_all all rest)) k')

    pub first_meets_test : (c : Condition) (s t : Statement) (rest : Control) (w : Ways) (n : ℕ) (h o g : List ℕ) → Marks label n (sites_condition c s t rest) → Meets (rounds_of rest) w h o g
        → heads_in (rounds_of rest) (decide c s t rest w) ≡ map label (first_test c n o g)
    first_meets_test (Test action) s t rest w n h o g m k = ap (λ x. x ∷ []) (sym m.0)
    first_meets_test (Not c) s t rest w n h o g m k = first_meets_test c t s rest w n h o g m k
    first_meets_test (And' shape all) s t rest w n h o g m k = first_meets_and all s t rest w n h o g m k
    first_meets_test (Or' shape all) s t rest w n h o g m k = first_meets_or all s t rest w n h o g m k
    first_meets_test (After before c) s t rest w n h o g m k =
        let mb = marks_left label n (sites before (Run (If c s t) ∷ rest)) _ m in
        let mc = marks_right label n (size_of before) (sites before (Run (If c s t) ∷ rest)) _ (long before (Run (If c s t) ∷ rest)) m in
        first_meets before (Run (If c s t) ∷ rest) (record { here = decide c s t rest w; out = w.out; again = w.again }) n _ o g mb
        (record { here = first_meets_test c s t rest w (n + size_of before) h o g mc k; out = k.out; again = k.again })

    first_meets_and : {k : _} (all : Row_of-Condition k) (s t : Statement) (rest : Control) (w : Ways) (n : ℕ) (h o g : List ℕ) → Marks label n (sites_and all s t rest) → Meets (rounds_of rest) w h o g
        → heads_in (rounds_of rest) (decide_and all s t rest w) ≡ map label (first_operand all n o g)
    first_meets_and end_of-Condition s t rest w n h o g m k = refl
    first_meets_and (more_of-Condition c all) s t rest w n h o g m k =
        first_meets_test c (if_all all s t) t rest w n h o g (marks_left label n (sites_condition c (if_all all s t) t rest) _ m) k

    first_meets_or : {k : _} (all : Row_of-Condition k) (s t : Statement) (rest : Control) (w : Ways) (n : ℕ) (h o g : List ℕ) → Marks label n (sites_or all s t rest) → Meets (rounds_of rest) w h o g
        → heads_in (rounds_of rest) (decide_or all s t rest w) ≡ map label (first_operand all n o g)
    first_meets_or end_of-Condition s t rest w n h o g m k = refl
    first_meets_or (more_of-Condition c all) s t rest w n h o g m k =
        first_meets_test c s (if_any all s t) rest w n h o g (marks_left label n (sites_condition c s (if_any all s t) rest) _ m) k

  -- what a piece that runs comes to
  pub runs_to : (s : Statement) (rest : Control) (n : ℕ) (h o g : List ℕ) → Marks label n (sites s rest) → Meets (rounds_of rest) (ways rest) h o g → heads (Run s ∷ rest) ≡ map label (first s n h o g)
  runs_to s rest n h o g m k = heads_by (Run s ∷ rest) ∙ first_meets s rest (ways rest) n h o g m k

  -- ---- what comes next

  -- what stands behind some statements
  all_meet : {k : _} (all : Row_of-Statement k) (rest : Control) (n : ℕ) (h o g : List ℕ) → Marks label n (sites_all all rest) → Meets (rounds_of rest) (ways rest) h o g
      → Meets (rounds_of (run_all all rest)) (ways (run_all all rest)) (first_all all n h o g) o g
  all_meet end_of-Statement rest n h o g m k = k
  all_meet (more_of-Statement s all) rest n h o g m k =
      let ms = marks_left label n (sites s (run_all all rest)) _ m in
      let mall = marks_right label n (size_of s) (sites s (run_all all rest)) _ (long s (run_all all rest)) m in
      let behind = all_meet all rest (n + size_of s) h o g mall k in
      record { here = first_meets s (run_all all rest) (ways (run_all all rest)) n _ o g ms behind; out = behind.out; again = behind.again }

  and_left : {k : _} (all : Row_of-Condition k) (s t : Statement) (rest : Control) (n : ℕ) (good h o g : List ℕ) → Marks label n (sites_and all s t rest) → Meets (rounds_of rest) (ways rest) h o g
      → heads (Run s ∷ rest) ≡ map label good → heads (Run (if_all all s t) ∷ rest) ≡ map label (first_left all n good o g)
  and_left end_of-Condition s t rest n good h o g m k e = e
  and_left (more_of-Condition c all) s t rest n good h o g m k e =
      heads_by (Run (If c (if_all all s t) t) ∷ rest)
      ∙ first_meets_test c (if_all all s t) t rest (ways rest) n h o g (marks_left label n (sites_condition c (if_all all s t) t rest) _ m) k

  or_left : {k : _} (all : Row_of-Condition k) (s t : Statement) (rest : Control) (n : ℕ) (bad h o g : List ℕ) → Marks label n (sites_or all s t rest) → Meets (rounds_of rest) (ways rest) h o g
      → heads (Run t ∷ rest) ≡ map label bad → heads (Run (if_any all s t) ∷ rest) ≡ map label (first_left all n bad o g)
  or_left end_of-Condition s t rest n bad h o g m k e = e
  or_left (more_of-Condition c all) s t rest n bad h o g m k e =
      heads_by (Run (If c s (if_any all s t)) ∷ rest)
      ∙ first_meets_test c s (if_any all s t) rest (ways rest) n h o g (marks_left label n (sites_condition c s (if_any all s t) rest) _ m) k

  switch_leads : {k : _} (action : ℕ) (all : Row_of-Statement k) (rest : Control) (n : ℕ) (h g : List ℕ) → Marks label n (sites_clauses all (In_switch ∷ rest))
      → Meets (rounds_of rest) (ways (In_switch ∷ rest)) h h g → map label (firsts all n h h g) ≡ flat_map (λ (m : Move). heads m.left) (clauses action all rest)
  switch_leads action end_of-Statement rest n h g m k = refl
  switch_leads action (more_of-Statement s all) rest n h g m k =
      let ms = marks_left label n (sites s (In_switch ∷ rest)) _ m in
      let mall = marks_right label n (size_of s) (sites s (In_switch ∷ rest)) _ (long s (In_switch ∷ rest)) m in
      map_joined label (first s n h h g) (firsts all (n + size_of s) h h g)
      ∙ ap (λ x. x ++ map label (firsts all (n + size_of s) h h g)) (sym (runs_to s (In_switch ∷ rest) n h h g ms k))
      ∙ ap (λ x. heads (Run s ∷ In_switch ∷ rest) ++ x) (switch_leads action all rest (n + size_of s) h g mall k)

  -- the nodes of a counted loop
  module _ (counter : Counter) (body : Statement) (rest : Control) (n : ℕ) (m : Marks label n (sites (Counted counter body) rest)) where
    tests : ℕ → List Site
    tests turn = test_site counter body rest turn ∷ []

    turns : ℕ → List Site
    turns turn = step_site counter body rest turn ∷ sites body (In_turn counter body turn ∷ rest)

    test_at : (turn : ℕ) → nat_lt turn (suc counter.turns) ≡ true → label (test_node n turn) ≡ in_rounds (round_of counter turn ∷ rounds_of rest) counter.test
    test_at turn l = ap (λ k. label (suc n + k)) (sym (by_one turn))
        ∙ (marks_turn label (suc n) (suc counter.turns) turn 1 (λ t. test_site counter body rest t ∷ []) (λ t. refl) l
        (marks_left label (suc n) (each_turn (suc counter.turns) (λ t. test_site counter body rest t ∷ [])) _ m.1)).0

    turn_at : (turn : ℕ) → nat_lt turn counter.turns ≡ true
        → Marks label (step_node n counter (size_of body) turn) (step_site counter body rest turn ∷ sites body (In_turn counter body turn ∷ rest))
    turn_at turn l = marks_turn label (suc n + suc counter.turns) counter.turns turn (suc (size_of body)) (λ t. step_site counter body rest t ∷ sites body (In_turn counter body t ∷ rest))
        (λ t. ap suc (long body (In_turn counter body t ∷ rest))) l
        (marks_right label (suc n) (suc counter.turns) (each_turn (suc counter.turns) (λ t. test_site counter body rest t ∷ [])) _
        (turns_long (suc counter.turns) 1 (λ t. test_site counter body rest t ∷ []) (λ t. refl) ∙ by_one (suc counter.turns)) m.1)

    turn_meets : (turn : ℕ) → nat_lt turn counter.turns ≡ true
        → Meets (rounds_of (In_turn counter body turn ∷ rest)) (ways (In_turn counter body turn ∷ rest)) (step_node n counter (size_of body) turn ∷ []) [] (step_node n counter (size_of body) turn ∷ [])
    turn_meets turn l = let e = ap (λ x. x ∷ []) (sym (turn_at turn l).0) in record { here = e; out = refl; again = e }

    test_leads : (turn : ℕ) (h o g : List ℕ) → Meets (rounds_of rest) (ways rest) h o g → (b : Bool) → nat_lt turn counter.turns ≡ b
        → map label (if b then first body (suc (step_node n counter (size_of body) turn)) (step_node n counter (size_of body) turn ∷ []) [] (step_node n counter (size_of body) turn ∷ []) else h)
        ≡ heads (if b then Run body ∷ In_turn counter body turn ∷ rest else rest)
    test_leads turn h o g k true l = sym (runs_to body (In_turn counter body turn ∷ rest) (suc (step_node n counter (size_of body) turn)) _ [] _ (turn_at turn l).1 (turn_meets turn l))
    test_leads turn h o g k false l = sym k.here ∙ sym (heads_by rest)

    step_leads : (turn : ℕ) → nat_lt turn counter.turns ≡ true → map label (test_node n (suc turn) ∷ []) ≡ heads (Before_turn counter body (suc turn) ∷ rest) ++ []
    step_leads turn l = ap (λ x. x ∷ []) (test_at (suc turn) (next_less turn counter.turns l))

  same_list : (x : List ℕ) (y : List Spot) → map label x ≡ y → map label x ≡ y ++ []
  same_list x y e = e ∙ sym (append-nil y)

  mutual
    pub lead : (s : Statement) (rest : Control) (n : ℕ) (h o g : List ℕ) → Marks label n (sites s rest) → Meets (rounds_of rest) (ways rest) h o g
        → Leads label (sites s rest) (nexts_of s n h o g)
    lead (Do action) rest n h o g m k = (sym k.here ∙ sym (heads_by rest) ∙ sym (append-nil (heads rest)), tt)
    lead (Block' shape all) rest n h o g m k = lead_all all rest n h o g m k
    lead (If c a b) rest n h o g m k =
        let na = n + size_of_test c in
        let nb = na + size_of a in
        let mc = marks_left label n (sites_condition c a b rest) _ m in
        let mab = marks_right label n (size_of_test c) (sites_condition c a b rest) _ (long_test c a b rest) m in
        let ma = marks_left label na (sites a rest) _ mab in
        let mb = marks_right label na (size_of a) (sites a rest) _ (long a rest) mab in
        leads_append label (sites_condition c a b rest) _ (nexts_of_test c n (first a na h o g) (first b nb h o g) o g) _
        (lead_test c a b rest n (first a na h o g) (first b nb h o g) h o g mc k (runs_to a rest na h o g ma k) (runs_to b rest nb h o g mb k))
        (leads_append label (sites a rest) (sites b rest) (nexts_of a na h o g) (nexts_of b nb h o g) (lead a rest na h o g ma k) (lead b rest nb h o g mb k))
    lead (Loop a b) rest n h o g m k =
        let nb = n + size_of a in
        let ma = marks_left label n (sites a (In_first a b ∷ rest)) _ m in
        let mb = marks_right label n (size_of a) (sites a (In_first a b ∷ rest)) _ (long a (In_first a b ∷ rest)) m in
        let begin = first_meets a (In_first a b ∷ rest) (record { here = []; out = (ways rest).here; again = [] }) n [] h [] ma (record { here = refl; out = k.here; again = refl }) in
        let next = first_meets b (In_second a b ∷ rest) (record {
          here = enter a (In_first a b ∷ rest) (record { here = []; out = (ways rest).here; again = [] });
          out = (ways rest).here;
          again = [];
        }) nb _ h [] mb (record { here = begin; out = k.here; again = refl }) in
        let turn = first_meets (Loop a b) rest (ways rest) n h o g m k in
        leads_append label (sites a (In_first a b ∷ rest)) (sites b (In_second a b ∷ rest)) (nexts_of a n _ h _) (nexts_of b nb _ h [])
        (lead a (In_first a b ∷ rest) n _ h _ ma (record { here = next; out = k.here; again = next }))
        (lead b (In_second a b ∷ rest) nb _ h [] mb (record { here = turn; out = k.here; again = refl }))
    lead (Counted counter body) rest n h o g m k = (
      ap (λ x. x ∷ []) (test_at counter body rest n m 0 (first_less counter.turns)),
      leads_append label (each_turn (suc counter.turns) (λ turn. test_site counter body rest turn ∷ [])) _
          (each_turn (suc counter.turns) (λ turn. (if nat_lt turn counter.turns
          then first body (suc (step_node n counter (size_of body) turn)) (step_node n counter (size_of body) turn ∷ []) [] (step_node n counter (size_of body) turn ∷ [])
          else h) ∷ [])) _
          (leads_turns label (suc counter.turns) (λ turn. test_site counter body rest turn ∷ []) _ (λ turn l. (same_list _ _ (test_leads counter body rest n m turn h o g k (nat_lt turn counter.turns) refl), tt)))
          (leads_turns label counter.turns (λ turn. step_site counter body rest turn ∷ sites body (In_turn counter body turn ∷ rest)) _ (λ turn l. (
            step_leads counter body rest n m turn l,
            lead body (In_turn counter body turn ∷ rest) (suc (step_node n counter (size_of body) turn)) _ [] _ (turn_at counter body rest n m turn l).1 (turn_meets counter body rest n m turn l),
          ))),
    )
    lead (Switch' action shape all) rest n h o g m k =
        let k' : Meets (rounds_of rest) (ways (In_switch ∷ rest)) h h g = record { here = k.here; out = k.here; again = k.again } in
        (switch_leads action all rest (suc n) h g m.1 k', lead_each all (In_switch ∷ rest) (suc n) h h g m.1 k')
    lead Break rest n h o g m k = tt
    lead Continue rest n h o g m k = tt

    lead_all : {k : _} (all : Row_of-Statement k) (rest : Control) (n : ℕ) (h o g : List ℕ) → Marks label n (sites_all all rest) → Meets (rounds_of rest) (ways rest) h o g
        → Leads label (sites_all all rest) (nexts_of_all all n h o g)
    lead_all end_of-Statement rest n h o g m k = tt
    lead_all (more_of-Statement s all) rest n h o g m k =
        let ms = marks_left label n (sites s (run_all all rest)) _ m in
        let mall = marks_right label n (size_of s) (sites s (run_all all rest)) _ (long s (run_all all rest)) m in
        leads_append label (sites s (run_all all rest)) (sites_all all rest) (nexts_of s n (first_all all (n + size_of s) h o g) o g) (nexts_of_all all (n + size_of s) h o g)
        (lead s (run_all all rest) n (first_all all (n + size_of s) h o g) o g ms (all_meet all rest (n + size_of s) h o g mall k))
        (lead_all all rest (n + size_of s) h o g mall k)

    lead_each : {k : _} (all : Row_of-Statement k) (rest : Control) (n : ℕ) (h o g : List ℕ) → Marks label n (sites_clauses all rest) → Meets (rounds_of rest) (ways rest) h o g
        → Leads label (sites_clauses all rest) (nexts_of_each all n h o g)
    lead_each end_of-Statement rest n h o g m k = tt
    lead_each (more_of-Statement s all) rest n h o g m k =
        let ms = marks_left label n (sites s rest) _ m in
        let mall = marks_right label n (size_of s) (sites s rest) _ (long s rest) m in
        leads_append label (sites s rest) (sites_clauses all rest) (nexts_of s n h o g) (nexts_of_each all (n + size_of s) h o g)
        (lead s rest n h o g ms k) (lead_each all rest (n + size_of s) h o g mall k)

    lead_test : (c : Condition) (s t : Statement) (rest : Control) (n : ℕ) (good bad h o g : List ℕ) → Marks label n (sites_condition c s t rest) → Meets (rounds_of rest) (ways rest) h o g
        → heads (Run s ∷ rest) ≡ map label good → heads (Run t ∷ rest) ≡ map label bad → Leads label (sites_condition c s t rest) (nexts_of_test c n good bad o g)
    lead_test (Test action) s t rest n good bad h o g m k e f =
        (map_joined label good bad ∙ ap (λ x. x ++ map label bad) (sym e) ∙ ap (λ x. heads (Run s ∷ rest) ++ x) (sym f ∙ sym (append-nil (heads (Run t ∷ rest)))), tt)
    lead_test (Not c) s t rest n good bad h o g m k e f = lead_test c t s rest n bad good h o g m k f e
    lead_test (And' shape all) s t rest n good bad h o g m k e f = lead_and all s t rest n good bad h o g m k e f
    lead_test (Or' shape all) s t rest n good bad h o g m k e f = lead_or all s t rest n good bad h o g m k e f
    lead_test (After before c) s t rest n good bad h o g m k e f =
        let mb = marks_left label n (sites before (Run (If c s t) ∷ rest)) _ m in
        let mc = marks_right label n (size_of before) (sites before (Run (If c s t) ∷ rest)) _ (long before (Run (If c s t) ∷ rest)) m in
        leads_append label (sites before (Run (If c s t) ∷ rest)) (sites_condition c s t rest)
        (nexts_of before n (first_test c (n + size_of before) o g) o g) (nexts_of_test c (n + size_of before) good bad o g)
        (lead before (Run (If c s t) ∷ rest) n _ o g mb (record { here = first_meets_test c s t rest (ways rest) (n + size_of before) h o g mc k; out = k.out; again = k.again }))
        (lead_test c s t rest (n + size_of before) good bad h o g mc k e f)

    lead_and : {k : _} (all : Row_of-Condition k) (s t : Statement) (rest : Control) (n : ℕ) (good bad h o g : List ℕ) → Marks label n (sites_and all s t rest) → Meets (rounds_of rest) (ways rest) h o g
        → heads (Run s ∷ rest) ≡ map label good → heads (Run t ∷ rest) ≡ map label bad → Leads label (sites_and all s t rest) (nexts_of_and all n good bad o g)
    lead_and end_of-Condition s t rest n good bad h o g m k e f = tt
    lead_and (more_of-Condition c all) s t rest n good bad h o g m k e f =
        let mc = marks_left label n (sites_condition c (if_all all s t) t rest) _ m in
        let mall = marks_right label n (size_of_test c) (sites_condition c (if_all all s t) t rest) _ (long_test c (if_all all s t) t rest) m in
        leads_append label (sites_condition c (if_all all s t) t rest) (sites_and all s t rest)
        (nexts_of_test c n (first_left all (n + size_of_test c) good o g) bad o g) (nexts_of_and all (n + size_of_test c) good bad o g)
        (lead_test c (if_all all s t) t rest n (first_left all (n + size_of_test c) good o g) bad h o g mc k (and_left all s t rest (n + size_of_test c) good h o g mall k e) f)
        (lead_and all s t rest (n + size_of_test c) good bad h o g mall k e f)

    lead_or : {k : _} (all : Row_of-Condition k) (s t : Statement) (rest : Control) (n : ℕ) (good bad h o g : List ℕ) → Marks label n (sites_or all s t rest) → Meets (rounds_of rest) (ways rest) h o g
        → heads (Run s ∷ rest) ≡ map label good → heads (Run t ∷ rest) ≡ map label bad → Leads label (sites_or all s t rest) (nexts_of_or all n good bad o g)
    lead_or end_of-Condition s t rest n good bad h o g m k e f = tt
    lead_or (more_of-Condition c all) s t rest n good bad h o g m k e f =
        let mc = marks_left label n (sites_condition c s (if_any all s t) rest) _ m in
        let mall = marks_right label n (size_of_test c) (sites_condition c s (if_any all s t) rest) _ (long_test c s (if_any all s t) rest) m in
        leads_append label (sites_condition c s (if_any all s t) rest) (sites_or all s t rest)
        (nexts_of_test c n good (first_left all (n + size_of_test c) bad o g) o g) (nexts_of_or all (n + size_of_test c) good bad o g)
        (lead_test c s (if_any all s t) rest n good (first_left all (n + size_of_test c) bad o g) h o g mc k e (or_left all s t rest (n + size_of_test c) bad h o g mall k f))
        (lead_or all s t rest (n + size_of_test c) good bad h o g mall k e f)
