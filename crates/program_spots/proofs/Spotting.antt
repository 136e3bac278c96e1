-- The spots of statements and conditions, as code names their cases.
use Rattle.std.proofs.Common.{◌≡◌, ◌∙◌, refl, sym, ap, ℕ, suc, List, [], ◌∷◌, ◌++◌, append_assoc}
use Rattle.c_program.specs.declared.statement.Condition.{Condition}
use Rattle.c_program.specs.declared.statement.Condition as condition
use Rattle.c_program.specs.declared.statement.Statement.{Statement}
use Rattle.c_program.specs.declared.statement.Statement as statement
use Rattle.c_program.specs.declared.statement.Counter.{Counter}
use Rattle.c_program.specs.Control.{Round, Spot, round_of}
use Rattle.c_program.specs.Paths.{in_rounds, each_turn, spots_of, spots_of_all, spots_of_condition, spots_of_conditions}
use Rattle.c_program.specs.Lists.{conditions, statements}
use Rattle.c_program.proofs.Values_of_code.{not_value, and_value, or_value, after_value, if_value, loop_value, counted_value, block_value, switch_value}
use Rattle.program_spots.specs.Listed.{spots_of_list, spots_of_operands, spots_of_turn}

pub in_statements : (rounds : List Round) (all : List Statement) → spots_of_all rounds (statements all) ≡ spots_of_list rounds all
in_statements rounds [] = refl
in_statements rounds (s ∷ all) = ap (λ w. spots_of rounds s ++ w) (in_statements rounds all)

pub in_conditions : (rounds : List Round) (all : List Condition) → spots_of_conditions rounds (conditions all) ≡ spots_of_operands rounds all
in_conditions rounds [] = refl
in_conditions rounds (c ∷ all) = ap (λ w. spots_of_condition rounds c ++ w) (in_conditions rounds all)

pub in_block : (rounds : List Round) (all : List Statement) → spots_of rounds (statement.Block all) ≡ spots_of_list rounds all
in_block rounds all = ap (spots_of rounds) (block_value all) ∙ in_statements rounds all

pub in_not : (rounds : List Round) (c : Condition) → spots_of_condition rounds (condition.Not c) ≡ spots_of_condition rounds c
in_not rounds c = ap (spots_of_condition rounds) (not_value c)

pub in_and : (rounds : List Round) (all : List Condition) → spots_of_condition rounds (condition.And all) ≡ spots_of_operands rounds all
in_and rounds all = ap (spots_of_condition rounds) (and_value all) ∙ in_conditions rounds all

pub in_or : (rounds : List Round) (all : List Condition) → spots_of_condition rounds (condition.Or all) ≡ spots_of_operands rounds all
in_or rounds all = ap (spots_of_condition rounds) (or_value all) ∙ in_conditions rounds all

pub ruleset spots = (in_block, in_not, in_and, in_or)

-- ---- what parts add

pub if_spots : (rounds : List Round) (old m n new : List Spot) (s : Statement) (x c : Condition) (y a z b : Statement)
    → s ≡ statement.If c a b → x ≡ c → y ≡ a → z ≡ b
    → m ≡ old ++ spots_of_condition rounds x → n ≡ m ++ spots_of rounds y → new ≡ n ++ spots_of rounds z → new ≡ old ++ spots_of rounds s
if_spots rounds old m n new s x c y a z b is e f g p q r =
    let C = spots_of_condition rounds c in
    let A = spots_of rounds a in
    let B = spots_of rounds b in
    r ∙ ap (λ w. n ++ spots_of rounds w) g ∙ ap (λ w. w ++ B) (q ∙ ap (λ w. m ++ spots_of rounds w) f ∙ ap (λ w. w ++ A) (p ∙ ap (λ w. old ++ spots_of_condition rounds w) e))
    ∙ append_assoc (old ++ C) A B ∙ append_assoc old C (A ++ B) ∙ ap (λ w. old ++ w) (sym (ap (spots_of rounds) is ∙ ap (spots_of rounds) (if_value c a b)))

pub loop_spots : (rounds : List Round) (old m new : List Spot) (s y a z b : Statement) → s ≡ statement.Loop a b → y ≡ a → z ≡ b
    → m ≡ old ++ spots_of rounds y → new ≡ m ++ spots_of rounds z → new ≡ old ++ spots_of rounds s
loop_spots rounds old m new s y a z b is f g p q =
    let A = spots_of rounds a in
    let B = spots_of rounds b in
    q ∙ ap (λ w. m ++ spots_of rounds w) g ∙ ap (λ w. w ++ B) (p ∙ ap (λ w. old ++ spots_of rounds w) f)
    ∙ append_assoc old A B ∙ ap (λ w. old ++ w) (sym (ap (spots_of rounds) is ∙ ap (spots_of rounds) (loop_value a b)))

pub switch_spots : (rounds : List Round) (old m new : List Spot) (s : Statement) (action : ℕ) (all clauses : List Statement) → s ≡ statement.Switch action all → clauses ≡ all
    → m ≡ old ++ in_rounds rounds action ∷ [] → new ≡ m ++ spots_of_list rounds clauses → new ≡ old ++ spots_of rounds s
switch_spots rounds old m new s action all clauses is f p q =
    q ∙ ap (λ w. m ++ spots_of_list rounds w) f ∙ ap (λ w. w ++ spots_of_list rounds all) p
    ∙ append_assoc old (in_rounds rounds action ∷ []) (spots_of_list rounds all)
    ∙ ap (λ w. old ++ in_rounds rounds action ∷ w) (sym (in_statements rounds all))
    ∙ ap (λ w. old ++ w) (sym (ap (spots_of rounds) is ∙ ap (spots_of rounds) (switch_value action all)))

pub after_spots : (rounds : List Round) (old m new : List Spot) (x : Condition) (y s : Statement) (z c : Condition) → x ≡ condition.After s c → y ≡ s → z ≡ c
    → m ≡ old ++ spots_of rounds y → new ≡ m ++ spots_of_condition rounds z → new ≡ old ++ spots_of_condition rounds x
after_spots rounds old m new x y s z c is f g p q =
    let A = spots_of rounds s in
    let B = spots_of_condition rounds c in
    q ∙ ap (λ w. m ++ spots_of_condition rounds w) g ∙ ap (λ w. w ++ B) (p ∙ ap (λ w. old ++ spots_of rounds w) f)
    ∙ append_assoc old A B ∙ ap (λ w. old ++ w) (sym (ap (spots_of_condition rounds) is ∙ ap (spots_of_condition rounds) (after_value s c)))

pub counted_spots : (rounds : List Round) (old l m new : List Spot) (s : Statement) (counter : Counter) (y a : Statement) → s ≡ statement.Counted counter a → y ≡ a
    → l ≡ old ++ in_rounds rounds counter.start ∷ []
    → m ≡ l ++ each_turn (suc counter.turns) (λ turn. in_rounds (round_of counter turn ∷ rounds) counter.test ∷ [])
    → new ≡ m ++ each_turn counter.turns (spots_of_turn counter y rounds) → new ≡ old ++ spots_of rounds s
counted_spots rounds old l m new s counter y a is f p q r =
    let X = each_turn (suc counter.turns) (λ turn. in_rounds (round_of counter turn ∷ rounds) counter.test ∷ []) in
    let Y = each_turn counter.turns (spots_of_turn counter a rounds) in
    r ∙ ap (λ w. m ++ each_turn counter.turns (spots_of_turn counter w rounds)) f ∙ ap (λ w. w ++ Y) (q ∙ ap (λ w. w ++ X) p)
    ∙ append_assoc (old ++ in_rounds rounds counter.start ∷ []) X Y ∙ append_assoc old (in_rounds rounds counter.start ∷ []) (X ++ Y)
    ∙ ap (λ w. old ++ w) (sym (ap (spots_of rounds) is ∙ ap (spots_of rounds) (counted_value counter a)))
