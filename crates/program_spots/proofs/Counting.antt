-- Counts of parts, added up.
use Rattle.std.proofs.Common.{◌≡◌, ◌∙◌, refl, ap, arith, ℕ, zero, suc, ◌+◌, ◌≤◌, List}
use Rattle.c_program.specs.declared.statement.Condition.{Condition}
use Rattle.c_program.specs.declared.statement.Condition as condition
use Rattle.c_program.specs.declared.statement.Counter.{Counter}
use Rattle.c_program.specs.declared.statement.Statement.{Statement}
use Rattle.c_program.specs.declared.statement.Statement as statement
use Rattle.control_flow.specs.Layout.{size_of, size_of_test, times}
use Rattle.control_flow.specs.Listed.{size_of_list, size_of_operands}
use Rattle.control_flow.proofs.Sizing.{in_block, in_if, in_loop, in_counted, in_switch, in_not, in_and, in_or, in_after}
use Rattle.program_spots.specs.Counts.{counted}

pub few : (n : ℕ) → counted n ≤ 60001
few n = omega arith

pub sum_counted : (a b : ℕ) → counted (counted a + counted b) ≡ counted (a + b)
sum_counted a b = omega arith

pub block_counted : (all : List Statement) → counted (size_of (statement.Block all)) ≡ counted (size_of_list all)
block_counted all = ap counted (in_block all)

pub not_counted : (c : Condition) → counted (size_of_test (condition.Not c)) ≡ counted (size_of_test c)
not_counted c = ap counted (in_not c)

pub and_counted : (all : List Condition) → counted (size_of_test (condition.And all)) ≡ counted (size_of_operands all)
and_counted all = ap counted (in_and all)

pub or_counted : (all : List Condition) → counted (size_of_test (condition.Or all)) ≡ counted (size_of_operands all)
or_counted all = ap counted (in_or all)

pub ruleset counts = (in_block, in_if, in_loop, in_counted, in_switch, in_not, in_and, in_or, in_after, few)

pub if_counted : (s : Statement) (x c : Condition) (y a z b : Statement) (tests m n sides : ℕ) → s ≡ statement.If c a b → x ≡ c → y ≡ a → z ≡ b
    → tests ≡ counted (size_of_test x) → m ≡ counted (size_of y) → n ≡ counted (size_of z) → sides ≡ counted (m + n) → counted (tests + sides) ≡ counted (size_of s)
if_counted s x c y a z b tests m n sides is e f g p q r t =
    let size : size_of s ≡ size_of_test c + (size_of a + size_of b) = ap size_of is ∙ in_if c a b in
    let p2 : tests ≡ counted (size_of_test c) = p ∙ ap (λ k. counted (size_of_test k)) e in
    let q2 : m ≡ counted (size_of a) = q ∙ ap (λ k. counted (size_of k)) f in
    let r2 : n ≡ counted (size_of b) = r ∙ ap (λ k. counted (size_of k)) g in
    omega arith

pub loop_counted : (s y a z b : Statement) (m n : ℕ) → s ≡ statement.Loop a b → y ≡ a → z ≡ b → m ≡ counted (size_of y) → n ≡ counted (size_of z) → counted (m + n) ≡ counted (size_of s)
loop_counted s y a z b m n is f g q r =
    let size : size_of s ≡ size_of a + size_of b = ap size_of is ∙ in_loop a b in
    let q2 : m ≡ counted (size_of a) = q ∙ ap (λ k. counted (size_of k)) f in
    let r2 : n ≡ counted (size_of b) = r ∙ ap (λ k. counted (size_of k)) g in
    omega arith

pub switch_counted : (s : Statement) (action : ℕ) (xs all : List Statement) (m : ℕ) → s ≡ statement.Switch action all → xs ≡ all → m ≡ counted (size_of_list xs)
    → counted (1 + m) ≡ counted (size_of s)
switch_counted s action xs all m is e q =
    let size : size_of s ≡ suc (size_of_list all) = ap size_of is ∙ in_switch action all in
    let q2 : m ≡ counted (size_of_list all) = q ∙ ap (λ k. counted (size_of_list k)) e in
    omega arith

pub after_counted : (k : Condition) (y a : Statement) (x c : Condition) (m n : ℕ) → k ≡ condition.After a c → y ≡ a → x ≡ c → m ≡ counted (size_of y) → n ≡ counted (size_of_test x)
    → counted (m + n) ≡ counted (size_of_test k)
after_counted k y a x c m n is f e q p =
    let size : size_of_test k ≡ size_of a + size_of_test c = ap size_of_test is ∙ in_after a c in
    let q2 : m ≡ counted (size_of a) = q ∙ ap (λ i. counted (size_of i)) f in
    let p2 : n ≡ counted (size_of_test c) = p ∙ ap (λ i. counted (size_of_test i)) e in
    omega arith

-- ---- the turns of a counted loop

-- a capped body counts as the whole one
pub times_counted : (turns n : ℕ) → counted (times turns (suc (counted n))) ≡ counted (times turns (suc n))
times_counted zero n = refl
times_counted (suc k) n = joined (times k (suc (counted n))) (times k (suc n)) n (times_counted k n)
  where
    joined : (x y n : ℕ) → counted x ≡ counted y → counted (x + suc (counted n)) ≡ counted (y + suc n)
    joined x y n e = omega arith

pub counted_counted : (s : Statement) (counter : Counter) (y a : Statement) (m : ℕ) → s ≡ statement.Counted counter a → y ≡ a → m ≡ counted (size_of y)
    → counted (suc (suc counter.turns + times counter.turns (suc m))) ≡ counted (size_of s)
counted_counted s counter y a m is f q =
    let size : size_of s ≡ suc (suc counter.turns + times counter.turns (suc (size_of a))) = ap size_of is ∙ in_counted counter a in
    let q2 : m ≡ counted (size_of a) = q ∙ ap (λ k. counted (size_of k)) f in
    let e : times counter.turns (suc m) ≡ times counter.turns (suc (counted (size_of a))) = ap (λ k. times counter.turns (suc k)) q2 in
    let t = times_counted counter.turns (size_of a) in
    omega arith

-- one turn more
pub turn_counted : (turns k body all : ℕ) → all ≡ counted (suc (suc turns + times k (suc body))) → counted (all + counted (1 + body)) ≡ counted (suc (suc turns + times (suc k) (suc body)))
turn_counted turns k body all e = omega (arith, e)
