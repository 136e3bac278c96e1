-- Lists of sites at consecutive places.
use Rattle.std.proofs.Common.{◌≡◌, refl, sym, ap, ◌∙◌, subst, Bool, true, false, ℕ, zero, suc, nat_lt, ◌==◌, ◌+◌, List, [], ◌∷◌, ◌++◌, length, length-append, map, arith, eqb-true}
use Rattle.std.proofs.lemmas.Grind.{common_steps}
use Rattle.std.specs.List.{flat_map}
use Rattle.c_program.specs.declared.statement.Condition.{Condition, Test, And', Or', Row_of-Condition, more_of-Condition, end_of-Condition}
use Rattle.c_program.specs.declared.statement.Statement.{Statement, Do, Block', Switch', Break, Continue, Row_of-Statement, end_of-Statement, more_of-Statement}
use Rattle.c_program.specs.Syntax.{Not, After, If, Loop, Counted}
use Rattle.c_program.specs.Control.{Control, Run, In_first, In_second, In_turn, In_switch, Move, Spot, run_all, if_all, if_any}
use Rattle.c_program.specs.Paths.{each_turn}
use Rattle.c_program.proofs.Sites.{Site, sites, sites_all, sites_clauses, sites_condition, sites_and, sites_or, test_site, step_site}
use Rattle.control_flow.proofs.Built.{heads}
use Rattle.control_flow.specs.Layout.{times, size_of, size_of_all, size_of_test, size_of_tests}

-- ---- lengths

joined : (xs ys : List Site) (m n : ℕ) → length xs ≡ m → length ys ≡ n → length (xs ++ ys) ≡ m + n
joined xs ys m n e f = length-append xs ys ∙ ap (λ k. k + length ys) e ∙ ap (λ k. m + k) f

pub turns_long : (k c : ℕ) (f : ℕ → List Site) → ((t : ℕ) → length (f t) ≡ c) → length (each_turn k f) ≡ times k c
turns_long zero c f e = refl
turns_long (suc k) c f e = joined (each_turn k f) (f k) (times k c) c (turns_long k c f e) (e k)

pub by_one : (k : ℕ) → times k 1 ≡ k
by_one zero = refl
by_one (suc k) = ap (λ n. n + 1) (by_one k) ∙ next k
  where
    next : (k : ℕ) → k + 1 ≡ suc k
    next k = omega arith

mutual
  pub long : (s : Statement) (rest : Control) → length (sites s rest) ≡ size_of s
  long (Do action) rest = refl
  long (Block' shape all) rest = long_all all rest
  long (If c s t) rest = joined (sites_condition c s t rest) _ _ _ (long_test c s t rest) (joined (sites s rest) (sites t rest) _ _ (long s rest) (long t rest))
  long (Loop s t) rest = joined (sites s (In_first s t ∷ rest)) (sites t (In_second s t ∷ rest)) _ _ (long s (In_first s t ∷ rest)) (long t (In_second s t ∷ rest))
  long (Counted counter body) rest = ap suc (joined (each_turn (suc counter.turns) (λ turn. test_site counter body rest turn ∷ []))
      (each_turn counter.turns (λ turn. step_site counter body rest turn ∷ sites body (In_turn counter body turn ∷ rest))) _ _
      (turns_long (suc counter.turns) 1 (λ turn. test_site counter body rest turn ∷ []) (λ turn. refl) ∙ by_one (suc counter.turns))
      (turns_long counter.turns (suc (size_of body)) (λ turn. step_site counter body rest turn ∷ sites body (In_turn counter body turn ∷ rest)) (λ turn. ap suc (long body (In_turn counter body turn ∷ rest)))))
  long (Switch' action shape all) rest = ap suc (long_clauses all (In_switch ∷ rest))
  long Break rest = refl
  long Continue rest = refl

  pub long_all : {n : _} (all : Row_of-Statement n) (rest : Control) → length (sites_all all rest) ≡ size_of_all all
  long_all end_of-Statement rest = refl
  long_all (more_of-Statement s all) rest = joined (sites s (run_all all rest)) (sites_all all rest) _ _ (long s (run_all all rest)) (long_all all rest)

  pub long_clauses : {n : _} (all : Row_of-Statement n) (rest : Control) → length (sites_clauses all rest) ≡ size_of_all all
  long_clauses end_of-Statement rest = refl
  long_clauses (more_of-Statement s all) rest = joined (sites s rest) (sites_clauses all rest) _ _ (long s rest) (long_clauses all rest)

  pub long_test : (c : Condition) (s t : Statement) (rest : Control) → length (sites_condition c s t rest) ≡ size_of_test c
  long_test (Test action) s t rest = refl
  long_test (Not c) s t rest = long_test c t s rest
  long_test (And' shape all) s t rest = long_and all s t rest
  long_test (Or' shape all) s t rest = long_or all s t rest
  long_test (After before c) s t rest = joined (sites before (Run (If c s t) ∷ rest)) (sites_condition c s t rest) _ _ (long before (Run (If c s t) ∷ rest)) (long_test c s t rest)

  pub long_and : {n : _} (all : Row_of-Condition n) (s t : Statement) (rest : Control) → length (sites_and all s t rest) ≡ size_of_tests all
  long_and end_of-Condition s t rest = refl
  long_and (more_of-Condition c all) s t rest = joined (sites_condition c (if_all all s t) t rest) (sites_and all s t rest) _ _ (long_test c (if_all all s t) t rest) (long_and all s t rest)

  pub long_or : {n : _} (all : Row_of-Condition n) (s t : Statement) (rest : Control) → length (sites_or all s t rest) ≡ size_of_tests all
  long_or end_of-Condition s t rest = refl
  long_or (more_of-Condition c all) s t rest = joined (sites_condition c s (if_any all s t) rest) (sites_or all s t rest) _ _ (long_test c s (if_any all s t) rest) (long_or all s t rest)

-- ---- sites at their places

-- the sites have these nodes, from a first one on
abbrev pub Marks : (ℕ → Spot) → ℕ → List Site → Type 0
Marks label n [] = Unit {0}
Marks label n (site ∷ all) = (label n ≡ site.spot) × Marks label (suc n) all

-- what comes next behind each of the sites
abbrev pub Leads : (ℕ → Spot) → List Site → List (List ℕ) → Type 0
Leads label [] [] = Unit {0}
Leads label [] (next ∷ nexts) = ⊥
Leads label (site ∷ all) [] = ⊥
Leads label (site ∷ all) (next ∷ nexts) = (map label next ≡ flat_map (λ (m : Move). heads m.left) site.moves) × Leads label all nexts

module _ (label : ℕ → Spot) where
  at_suc : (n k : ℕ) (all : List Site) → Marks label (suc n + k) all → Marks label (n + suc k) all
  at_suc n k all m = subst (λ i. Marks label i all) (moved n k) m
    where
      moved : (n k : ℕ) → suc n + k ≡ n + suc k
      moved n k = omega arith

  pub marks_left : (n : ℕ) (xs ys : List Site) → Marks label n (xs ++ ys) → Marks label n xs
  marks_left n [] ys m = tt
  marks_left n (x ∷ xs) ys m = (m.0, marks_left (suc n) xs ys m.1)

  at_end : (n : ℕ) (ys : List Site) → Marks label n ys → Marks label (n + 0) ys
  at_end n ys m = subst (λ i. Marks label i ys) (none n) m
    where
      none : (n : ℕ) → n ≡ n + 0
      none n = omega arith

  marks_behind : (n : ℕ) (xs ys : List Site) → Marks label n (xs ++ ys) → Marks label (n + length xs) ys
  marks_behind n [] ys m = at_end n ys m
  marks_behind n (x ∷ xs) ys m = at_suc n (length xs) ys (marks_behind (suc n) xs ys m.1)

  pub marks_right : (n size : ℕ) (xs ys : List Site) → length xs ≡ size → Marks label n (xs ++ ys) → Marks label (n + size) ys
  marks_right n size xs ys e m = subst (λ k. Marks label (n + k) ys) e (marks_behind n xs ys m)

  pub marks_turn : (n k t c : ℕ) (f : ℕ → List Site) → ((t : ℕ) → length (f t) ≡ c) → nat_lt t k ≡ true → Marks label n (each_turn k f) → Marks label (n + times t c) (f t)
  marks_turn n zero t c f e l m = absurd (none_less t l)
    where
      none_less : (k : ℕ) → nat_lt k 0 ≡ true → ⊥
      none_less k l = grind (arith, common_steps)
  marks_turn n (suc k) t c f e l m = go (t == k) refl (λ b. marks_turn n k t c f e b (marks_left n (each_turn k f) (f k) m))
    where
      below : (k n : ℕ) → nat_lt k (suc n) ≡ true → (k == n) ≡ false → nat_lt k n ≡ true
      below k n l e = grind (arith, common_steps)

      go : (b : Bool) → (t == k) ≡ b → (nat_lt t k ≡ true → Marks label (n + times t c) (f t)) → Marks label (n + times t c) (f t)
      go true same h = subst (λ i. Marks label (n + times i c) (f i)) (sym (eqb-true t k same)) (marks_right n (times k c) (each_turn k f) (f k) (turns_long k c f e) m)
      go false other h = h (below t k l other)

  pub leads_append : (xs ys : List Site) (ms ns : List (List ℕ)) → Leads label xs ms → Leads label ys ns → Leads label (xs ++ ys) (ms ++ ns)
  leads_append [] ys [] ns h k = k
  leads_append [] ys (a ∷ ms) ns h k = absurd h
  leads_append (x ∷ xs) ys [] ns h k = absurd h
  leads_append (x ∷ xs) ys (a ∷ ms) ns h k = (h.0, leads_append xs ys ms ns h.1 k)

  pub leads_turns : (k : ℕ) (f : ℕ → List Site) (g : ℕ → List (List ℕ)) → ((t : ℕ) → nat_lt t k ≡ true → Leads label (f t) (g t)) → Leads label (each_turn k f) (each_turn k g)
  leads_turns zero f g h = tt
  leads_turns (suc k) f g h = leads_append (each_turn k f) (f k) (each_turn k g) (g k) (leads_turns k f g (λ t l. h t (further t k l))) (h k (last k))
    where
      further : (k n : ℕ) → nat_lt k n ≡ true → nat_lt k (suc n) ≡ true
      further k n l = grind (arith, common_steps)

      last : (n : ℕ) → nat_lt n (suc n) ≡ true
      last n = grind (arith, common_steps)
