-- An action stands once in a body in each of its turns.
use Rattle.std.proofs.Common.{◌≡◌, inl, inr, refl, sym, ap, ◌∙◌, subst, true, nat_lt, pos, ◌+◌, ◌+ℤ◌, ◌-ℤ◌, ℕ, zero, suc, length, length-append, append_assoc, arith, List, [], ◌∷◌, ◌++◌, Some, slice_get}
use Rattle.std.proofs.Math.IntN.{+ℤ_comm, +ℤ-neg_ℤ_cancel}
use Rattle.std.specs.Prelude.{option_map, unwrap_or}
use Rattle.std.proofs.lemmas.Bool.Decides.{nat_tests}
use Rattle.c_program.specs.declared.statement.Condition.{Condition, Test, And', Or', Row_of-Condition, more_of-Condition, end_of-Condition}
use Rattle.c_program.specs.declared.statement.Counter.{Counter}
use Rattle.c_program.specs.declared.statement.Statement.{Statement, Do, Block', Switch', Break, Continue, Row_of-Statement, end_of-Statement, more_of-Statement}
use Rattle.c_program.specs.declared.program.Function.{Function}
use Rattle.c_program.specs.declared.program.Program.{Program}
use Rattle.c_program.specs.Syntax.{Not, After, If, Loop, Counted, body_at}
use Rattle.c_program.specs.Control.{Round, round_of, Spot}
use Rattle.c_program.specs.Paths.{actions_of, actions_of_all, actions_of_condition, actions_of_conditions, in_rounds, each_turn, spots_of, spots_of_all, spots_of_condition, spots_of_conditions}
use Rattle.c_program.specs.WellFormed.{IsWellFormed, all_differ, text_of}
use Rattle.c_program.proofs.Members.{In, Each, each_append, each_in, each_turns, in_left, in_right, in_append, in_got, turned, apart, differ_left, differ_right}
use Rattle.c_program.proofs.Sites.{EndsWith}
use Rattle.program_spots.specs.Once.{StandsOnce}

-- a spot is by one of these actions, in rounds that end with these
pub record IsFrom (actions : List ℕ) (ending : List Round) (spot : Spot) : Type 0 where
  pub by : In spot.action actions
  pub ends : EndsWith ending spot.rounds

own : (action : ℕ) (actions : List ℕ) (rounds : List Round) → In action actions → IsFrom actions rounds (in_rounds rounds action)
own action actions rounds i = record { by = i; ends = ([], refl) }

inner : (action : ℕ) (actions : List ℕ) (round : Round) (rounds : List Round) → In action actions → IsFrom actions rounds (in_rounds (round ∷ rounds) action)
inner action actions round rounds i = record { by = i; ends = (round ∷ [], refl) }

wider : (xs ys : List ℕ) (ending : List Round) (all : List Spot) → ((n : ℕ) → In n xs → In n ys) → Each (IsFrom xs ending) all → Each (IsFrom ys ending) all
wider xs ys ending [] f h = tt
wider xs ys ending (spot ∷ all) f h = (record { by = f spot.action h.0.by; ends = h.0.ends }, wider xs ys ending all f h.1)

both : (xs ys : List ℕ) (ending : List Round) (all others : List Spot) → Each (IsFrom xs ending) all → Each (IsFrom ys ending) others → Each (IsFrom (xs ++ ys) ending) (all ++ others)
both xs ys ending all others h k =
    each_append (IsFrom (xs ++ ys) ending) all others (wider xs (xs ++ ys) ending all (λ n i. in_left n xs ys i) h) (wider ys (xs ++ ys) ending others (λ n i. in_right n xs ys i) k)

outer : (actions : List ℕ) (round : Round) (ending : List Round) (all : List Spot) → Each (IsFrom actions (round ∷ ending)) all → Each (IsFrom actions ending) all
outer actions round ending [] h = tt
outer actions round ending (spot ∷ all) h =
    (record { by = h.0.by; ends = (h.0.ends.0 ++ round ∷ [], h.0.ends.1 ∙ sym (append_assoc h.0.ends.0 (round ∷ []) ending)) }, outer actions round ending all h.1)

-- the step and the body of a counted loop in a turn
abbrev turn_spots : List Round → Counter → Statement → ℕ → List Spot
turn_spots rounds counter body turn = in_rounds (round_of counter turn ∷ rounds) counter.step ∷ spots_of (round_of counter turn ∷ rounds) body

abbrev test_spots : List Round → Counter → ℕ → List Spot
test_spots rounds counter turn = in_rounds (round_of counter turn ∷ rounds) counter.test ∷ []

mutual
  pub from : (rounds : List Round) (s : Statement) → Each (IsFrom (actions_of s) rounds) (spots_of rounds s)
  from rounds (Do action) = (own action (action ∷ []) rounds (inl refl), tt)
  from rounds (Block' shape all) = from_all rounds all
  from rounds (If c s t) = both (actions_of_condition c) (actions_of s ++ actions_of t) rounds _ _ (from_condition rounds c) (both (actions_of s) (actions_of t) rounds _ _ (from rounds s) (from rounds t))
  from rounds (Loop s t) = both (actions_of s) (actions_of t) rounds _ _ (from rounds s) (from rounds t)
  from rounds (Counted counter body) =
      let actions = actions_of (Counted counter body) in (
        own counter.start actions rounds (inl refl),
        each_append (IsFrom actions rounds) _ _
            (each_turns (IsFrom actions rounds) (suc counter.turns) _ (λ turn l. (inner counter.test actions (round_of counter turn) rounds (inr (inl refl)), tt)))
            (each_turns (IsFrom actions rounds) counter.turns _ (λ turn l. (
              inner counter.step actions (round_of counter turn) rounds (inr (inr (inl refl))),
              wider (actions_of body) actions rounds (spots_of (round_of counter turn ∷ rounds) body) (λ n i. inr (inr (inr i)))
                  (outer (actions_of body) (round_of counter turn) rounds (spots_of (round_of counter turn ∷ rounds) body) (from (round_of counter turn ∷ rounds) body)),
            ))),
      )
  from rounds (Switch' action shape all) = (own action (action ∷ actions_of_all all) rounds (inl refl), wider (actions_of_all all) (action ∷ actions_of_all all) rounds _ (λ n i. inr i) (from_all rounds all))
  from rounds Break = tt
  from rounds Continue = tt

  from_all : {n : _} (rounds : List Round) (all : Row_of-Statement n) → Each (IsFrom (actions_of_all all) rounds) (spots_of_all rounds all)
  from_all rounds end_of-Statement = tt
  from_all rounds (more_of-Statement s all) = both (actions_of s) (actions_of_all all) rounds _ _ (from rounds s) (from_all rounds all)

  from_condition : (rounds : List Round) (c : Condition) → Each (IsFrom (actions_of_condition c) rounds) (spots_of_condition rounds c)
  from_condition rounds (Test action) = (own action (action ∷ []) rounds (inl refl), tt)
  from_condition rounds (Not c) = from_condition rounds c
  from_condition rounds (And' shape all) = from_conditions rounds all
  from_condition rounds (Or' shape all) = from_conditions rounds all
  from_condition rounds (After s c) = both (actions_of s) (actions_of_condition c) rounds _ _ (from rounds s) (from_condition rounds c)

  from_conditions : {n : _} (rounds : List Round) (all : Row_of-Condition n) → Each (IsFrom (actions_of_conditions all) rounds) (spots_of_conditions rounds all)
  from_conditions rounds end_of-Condition = tt
  from_conditions rounds (more_of-Condition c all) = both (actions_of_condition c) (actions_of_conditions all) rounds _ _ (from_condition rounds c) (from_conditions rounds all)

-- ---- spots that differ

abbrev pub Differ : List Spot → Type 0
Differ [] = Unit {0}
Differ (x ∷ xs) = (In x xs → ⊥) × Differ xs

differ_both : (xs ys : List Spot) → Differ xs → Differ ys → ((x : Spot) → In x xs → In x ys → ⊥) → Differ (xs ++ ys)
differ_both [] ys d e f = e
differ_both (x ∷ xs) ys d e f = (
  λ i. elim (in_append x xs ys i) [ inl j ↦ d.0 j | inr j ↦ f x (inl refl) j ],
  differ_both xs ys d.1 e (λ y i j. f y (inr i) j),
)

by_actions : (xs ys : List ℕ) (ending other : List Round) (all others : List Spot) → all_differ (xs ++ ys) ≡ true → Each (IsFrom xs ending) all → Each (IsFrom ys other) others → (x : Spot) → In x all → In x others → ⊥
by_actions xs ys ending other all others d h k x i j = apart x.action xs ys d (each_in (IsFrom xs ending) x all h i).by (each_in (IsFrom ys other) x others k j).by

joined : (xs ys : List ℕ) (ending : List Round) (all others : List Spot) → all_differ (xs ++ ys) ≡ true → Each (IsFrom xs ending) all → Each (IsFrom ys ending) others → Differ all → Differ others
    → Differ (all ++ others)
joined xs ys ending all others d h k a b = differ_both all others a b (by_actions xs ys ending ending all others d h k)

-- ---- turns

same_end : (p q x y : List Round) → length x ≡ length y → p ++ x ≡ q ++ y → x ≡ y
same_end [] [] x y l e = e
same_end [] (b ∷ q) x y l e = absurd (let f : length x ≡ suc (length (q ++ y)) = ap length e in let g : length (q ++ y) ≡ length q + length y = length-append q y in omega arith)
same_end (a ∷ p) [] x y l e = absurd (let f : suc (length (p ++ x)) ≡ length y = ap length e in let g : length (p ++ x) ≡ length p + length x = length-append p x in omega arith)
same_end (a ∷ p) (b ∷ q) x y l e = same_end p q x y l (same_tail a b (p ++ x) (q ++ y) e)
  where
    same_tail : (a b : Round) (x y : List Round) → a ∷ x ≡ b ∷ y → x ≡ y
    same_tail a b x y e = cc

same_turn : (counter : Counter) (rounds : List Round) (i j : ℕ) → round_of counter i ∷ rounds ≡ round_of counter j ∷ rounds → i ≡ j
same_turn counter rounds i j e = same_pos (sym (back i) ∙ ap (λ z. z -ℤ counter.first) (same_value (round_of counter i) (round_of counter j) e) ∙ back j)
  where
    back : (k : ℕ) → (counter.first +ℤ pos k) -ℤ counter.first ≡ pos k
    back k = ap (λ z. z -ℤ counter.first) (+ℤ_comm counter.first (pos k)) ∙ +ℤ-neg_ℤ_cancel (pos k) counter.first

    same_value : (r s : Round) → r ∷ rounds ≡ s ∷ rounds → r.value ≡ s.value
    same_value r s e = cc

    same_pos : {i j : ℕ} → pos i ≡ pos j → i ≡ j
    same_pos e = cc

one_turn : (counter : Counter) (ending rounds : List Round) (i j : ℕ) → EndsWith (round_of counter i ∷ ending) rounds → EndsWith (round_of counter j ∷ ending) rounds → i ≡ j
one_turn counter ending rounds i j p q = same_turn counter ending i j (same_end p.0 q.0 (round_of counter i ∷ ending) (round_of counter j ∷ ending) refl (sym p.1 ∙ q.1))

differ_turns : (counter : Counter) (actions : List ℕ) (ending : List Round) (n : ℕ) (f : ℕ → List Spot) → ((k : ℕ) → Each (IsFrom actions (round_of counter k ∷ ending)) (f k)) → ((k : ℕ) → Differ (f k))
    → Differ (each_turn n f)
differ_turns counter actions ending zero f h d = tt
differ_turns counter actions ending (suc n) f h d = differ_both (each_turn n f) (f n) (differ_turns counter actions ending n f h d) (d n) (λ x i j.
    let t = turned x n f i in
    later t.turn n t.below (one_turn counter ending x.rounds t.turn n
    (each_in (IsFrom actions (round_of counter t.turn ∷ ending)) x (f t.turn) (h t.turn) t.is_in).ends (each_in (IsFrom actions (round_of counter n ∷ ending)) x (f n) (h n) j).ends))
  where
    later : (k n : ℕ) → nat_lt k n ≡ true → k ≡ n → ⊥
    later k n l e = let m : nat_lt n n ≡ true = subst (λ i. nat_lt i n ≡ true) e l in grind (arith, nat_tests)

mutual
  pub differ : (rounds : List Round) (s : Statement) → all_differ (actions_of s) ≡ true → Differ (spots_of rounds s)
  differ rounds (Do action) d = (λ i. i, tt)
  differ rounds (Block' shape all) d = differ_all rounds all d
  differ rounds (If c s t) d =
      let e = differ_right (actions_of_condition c) (actions_of s ++ actions_of t) d in
      joined (actions_of_condition c) (actions_of s ++ actions_of t) rounds _ _ d (from_condition rounds c) (both (actions_of s) (actions_of t) rounds _ _ (from rounds s) (from rounds t))
      (differ_condition rounds c (differ_left (actions_of_condition c) (actions_of s ++ actions_of t) d))
      (joined (actions_of s) (actions_of t) rounds _ _ e (from rounds s) (from rounds t) (differ rounds s (differ_left (actions_of s) (actions_of t) e)) (differ rounds t (differ_right (actions_of s) (actions_of t) e)))
  differ rounds (Loop s t) d =
      joined (actions_of s) (actions_of t) rounds _ _ d (from rounds s) (from rounds t) (differ rounds s (differ_left (actions_of s) (actions_of t) d)) (differ rounds t (differ_right (actions_of s) (actions_of t) d))
  differ rounds (Counted counter body) d =
      let rest : List ℕ = counter.test ∷ counter.step ∷ actions_of body in
      let inside : List ℕ = counter.step ∷ actions_of body in
      let d1 = differ_right (counter.start ∷ []) rest d in
      let d2 = differ_right (counter.test ∷ []) inside d1 in
      let d3 = differ_right (counter.step ∷ []) (actions_of body) d2 in
      let turn_from : (k : ℕ) → Each (IsFrom inside (round_of counter k ∷ rounds)) (turn_spots rounds counter body k) = λ k. (
        own counter.step inside (round_of counter k ∷ rounds) (inl refl),
        wider (actions_of body) inside (round_of counter k ∷ rounds) (spots_of (round_of counter k ∷ rounds) body) (λ n i. inr i) (from (round_of counter k ∷ rounds) body),
      ) in
      let test_from : (k : ℕ) → Each (IsFrom (counter.test ∷ []) (round_of counter k ∷ rounds)) (test_spots rounds counter k) = λ k. (own counter.test (counter.test ∷ []) (round_of counter k ∷ rounds) (inl refl), tt) in
      let tests = each_turn (suc counter.turns) (test_spots rounds counter) in
      let turns = each_turn counter.turns (turn_spots rounds counter body) in
      let tests_from : Each (IsFrom (counter.test ∷ []) rounds) tests = each_turns (IsFrom (counter.test ∷ []) rounds) (suc counter.turns) (test_spots rounds counter)
      (λ k l. outer (counter.test ∷ []) (round_of counter k) rounds (test_spots rounds counter k) (test_from k)) in
      let turns_from : Each (IsFrom inside rounds) turns = each_turns (IsFrom inside rounds) counter.turns (turn_spots rounds counter body)
      (λ k l. outer inside (round_of counter k) rounds (turn_spots rounds counter body k) (turn_from k)) in
      joined (counter.start ∷ []) rest rounds (in_rounds rounds counter.start ∷ []) (tests ++ turns) d (own counter.start (counter.start ∷ []) rounds (inl refl), tt)
      (both (counter.test ∷ []) inside rounds tests turns tests_from turns_from) (λ i. i, tt)
      (joined (counter.test ∷ []) inside rounds tests turns d1 tests_from turns_from
      (differ_turns counter (counter.test ∷ []) rounds (suc counter.turns) (test_spots rounds counter) test_from (λ k. (λ i. i, tt)))
      (differ_turns counter inside rounds counter.turns (turn_spots rounds counter body) turn_from (λ k.
      joined (counter.step ∷ []) (actions_of body) (round_of counter k ∷ rounds) (in_rounds (round_of counter k ∷ rounds) counter.step ∷ []) (spots_of (round_of counter k ∷ rounds) body) d2
      (own counter.step (counter.step ∷ []) (round_of counter k ∷ rounds) (inl refl), tt) (from (round_of counter k ∷ rounds) body) (λ i. i, tt) (differ (round_of counter k ∷ rounds) body d3))))
  differ rounds (Switch' action shape all) d =
      joined (action ∷ []) (actions_of_all all) rounds (in_rounds rounds action ∷ []) (spots_of_all rounds all) d (own action (action ∷ []) rounds (inl refl), tt) (from_all rounds all) (λ i. i, tt)
      (differ_all rounds all (differ_right (action ∷ []) (actions_of_all all) d))
  differ rounds Break d = tt
  differ rounds Continue d = tt

  differ_all : {n : _} (rounds : List Round) (all : Row_of-Statement n) → all_differ (actions_of_all all) ≡ true → Differ (spots_of_all rounds all)
  differ_all rounds end_of-Statement d = tt
  differ_all rounds (more_of-Statement s all) d =
      joined (actions_of s) (actions_of_all all) rounds _ _ d (from rounds s) (from_all rounds all) (differ rounds s (differ_left (actions_of s) (actions_of_all all) d))
      (differ_all rounds all (differ_right (actions_of s) (actions_of_all all) d))

  differ_condition : (rounds : List Round) (c : Condition) → all_differ (actions_of_condition c) ≡ true → Differ (spots_of_condition rounds c)
  differ_condition rounds (Test action) d = (λ i. i, tt)
  differ_condition rounds (Not c) d = differ_condition rounds c d
  differ_condition rounds (And' shape all) d = differ_conditions rounds all d
  differ_condition rounds (Or' shape all) d = differ_conditions rounds all d
  differ_condition rounds (After s c) d =
      joined (actions_of s) (actions_of_condition c) rounds _ _ d (from rounds s) (from_condition rounds c) (differ rounds s (differ_left (actions_of s) (actions_of_condition c) d))
      (differ_condition rounds c (differ_right (actions_of s) (actions_of_condition c) d))

  differ_conditions : {n : _} (rounds : List Round) (all : Row_of-Condition n) → all_differ (actions_of_conditions all) ≡ true → Differ (spots_of_conditions rounds all)
  differ_conditions rounds end_of-Condition d = tt
  differ_conditions rounds (more_of-Condition c all) d =
      joined (actions_of_condition c) (actions_of_conditions all) rounds _ _ d (from_condition rounds c) (from_conditions rounds all) (differ_condition rounds c (differ_left (actions_of_condition c) (actions_of_conditions all) d))
      (differ_conditions rounds all (differ_right (actions_of_condition c) (actions_of_conditions all) d))

-- ---- in each body of a program

differ_in : (functions : List Function) (n : ℕ) → all_differ (text_of functions) ≡ true → Differ (spots_of [] (unwrap_or (option_map (λ (f : Function). f.body) (slice_get functions n)) Break))
differ_in [] n d = tt
differ_in (f ∷ functions) zero d = differ [] f.body (differ_left (actions_of f.body) (text_of functions) d)
differ_in (f ∷ functions) (suc n) d = differ_in functions n (differ_right (actions_of f.body) (text_of functions) d)

-- where nothing differs from itself
once : (xs : List Spot) → Differ xs → StandsOnce xs
once [] d a b x e f = absurd (none a x e)
  where
    none : (a : ℕ) (x : Spot) → slice_get [] a ≡ Some x → ⊥
    none a x e = cc
once (y ∷ ys) d zero zero x e f = refl
once (y ∷ ys) d zero (suc b) x e f = absurd (d.0 (subst (λ z. In z ys) (sym (same y x e)) (in_got x ys b f)))
  where
    same : (y x : Spot) → Some y ≡ Some x → y ≡ x
    same y x e = cc
once (y ∷ ys) d (suc a) zero x e f = absurd (d.0 (subst (λ z. In z ys) (sym (same y x f)) (in_got x ys a e)))
  where
    same : (y x : Spot) → Some y ≡ Some x → y ≡ x
    same y x e = cc
once (y ∷ ys) d (suc a) (suc b) x e f = ap suc (once ys d.1 a b x e f)

pub body_once : (program : Program) (function : ℕ) → IsWellFormed program → StandsOnce (spots_of [] (body_at program function))
body_once program function well = once (spots_of [] (body_at program function)) (differ_in program.functions function well.differ)
