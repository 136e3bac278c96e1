-- A branch on a local takes the side that its outcome decides.
use Rattle.std.proofs.Common.{◌≡◌, refl, sym, subst, ap, ◌∙◌, Bool, true, false, cond, not, ◌&&◌, ◌==◌, ℕ, zero, suc, ℤ, List, [], ◌∷◌, Option, Some, None, arith}
use Rattle.std.proofs.lemmas.Grind.{common_steps}
use Rattle.std.specs.Prelude.{pos, negsuc, int_le, option_map, option_and_then}
use Rattle.c_program.specs.declared.types.Integer.{Integer as IntegerType}
use Rattle.c_program.specs.declared.types.Integer.TheVariants.{Bool as BoolType, Char, SignedChar, UnsignedChar, Short, UnsignedShort, Int, UnsignedInt, Long, UnsignedLong, LongLong, UnsignedLongLong}
use Rattle.c_program.specs.declared.expression.UnaryOperator.{UnaryOperator}
use Rattle.c_program.specs.declared.expression.UnaryOperator.TheVariants as unary
use Rattle.c_program.specs.declared.expression.BinaryOperator.{BinaryOperator}
use Rattle.c_program.specs.declared.expression.BinaryOperator.TheVariants as binary
use Rattle.c_program.specs.declared.expression.Expr.{Expr, Constant, Local, Chain', Row_of-Link, more_of-Link, end_of-Link, more_of-Expr, end_of-Expr}
use Rattle.c_program.specs.Syntax.{Unary, Convert}
use Rattle.c_program.specs.Types.{is_zero, converted}
use Rattle.c_program.specs.Values.{Value, Number, truth, unary as unary_value}
use Rattle.c_program.specs.Evaluation.{Here, root_of, eval, is_true, on_number, operated, of_two, chained}
use Rattle.c_program.specs.Faults.{is_result}
use Rattle.static_facts.specs.Outcomes.{Test, test, whole_local, local_in, converted_local, equality, right_constant, sides, if_equality, test_in_links, test_not, test_of, same_bool, decided}

-- ---- numbers

too_large : (n : ℕ) → is_result (pos (suc (suc (suc (suc (suc n)))))) ≡ true → ⊥
too_large n r = grind (arith, common_steps)

no_zero : (n : ℕ) → (suc n == 0) ≡ true → ⊥
no_zero n e = grind (arith, common_steps)

-- a result of a library call is small
pub result_cases {ℓ} : (P : ℤ → Type ℓ) → P (pos 0) → P (pos 1) → P (pos 2) → P (pos 3) → P (pos 4) → (z : ℤ) → is_result z ≡ true → P z
result_cases P a b c d e (pos zero) r = a
result_cases P a b c d e (pos (suc zero)) r = b
result_cases P a b c d e (pos (suc (suc zero))) r = c
result_cases P a b c d e (pos (suc (suc (suc zero)))) r = d
result_cases P a b c d e (pos (suc (suc (suc (suc zero))))) r = e
result_cases P a b c d e (pos (suc (suc (suc (suc (suc n)))))) r = absurd (too_large n r)
result_cases P a b c d e (negsuc n) r = absurd (cc)

pub result_int : (z : ℤ) → is_result z ≡ true → converted Int z ≡ z
result_int = result_cases (λ z. converted Int z ≡ z) refl refl refl refl refl

abbrev ZeroKept : IntegerType → ℤ → Type 0
ZeroKept t z = is_zero (converted t z) ≡ is_zero z

zero_kept : (t : IntegerType) (z : ℤ) → is_result z ≡ true → ZeroKept t z
zero_kept BoolType = result_cases (ZeroKept BoolType) refl refl refl refl refl
zero_kept Char = result_cases (ZeroKept Char) refl refl refl refl refl
zero_kept SignedChar = result_cases (ZeroKept SignedChar) refl refl refl refl refl
zero_kept UnsignedChar = result_cases (ZeroKept UnsignedChar) refl refl refl refl refl
zero_kept Short = result_cases (ZeroKept Short) refl refl refl refl refl
zero_kept UnsignedShort = result_cases (ZeroKept UnsignedShort) refl refl refl refl refl
zero_kept Int = result_cases (ZeroKept Int) refl refl refl refl refl
zero_kept UnsignedInt = result_cases (ZeroKept UnsignedInt) refl refl refl refl refl
zero_kept Long = result_cases (ZeroKept Long) refl refl refl refl refl
zero_kept UnsignedLong = result_cases (ZeroKept UnsignedLong) refl refl refl refl refl
zero_kept LongLong = result_cases (ZeroKept LongLong) refl refl refl refl refl
zero_kept UnsignedLongLong = result_cases (ZeroKept UnsignedLongLong) refl refl refl refl refl

abbrev equal : ℤ → ℤ → Bool
equal a b = int_le a b && int_le b a

turned : (a b : Bool) → (a && b) ≡ (b && a)
turned true true = refl
turned true false = refl
turned false true = refl
turned false false = refl

equal_turned : (a b : ℤ) → equal a b ≡ equal b a
equal_turned a b = turned (int_le a b) (int_le b a)

zero_equal : (k : ℤ) → equal (pos 0) k ≡ is_zero k
zero_equal (pos zero) = refl
zero_equal (pos (suc n)) = grind (arith, common_steps)
zero_equal (negsuc n) = refl

is_pos_zero : (a : ℤ) → is_zero a ≡ true → a ≡ pos 0
is_pos_zero (pos zero) e = refl
is_pos_zero (pos (suc n)) e = absurd (no_zero n e)
is_pos_zero (negsuc n) e = absurd (cc)

equal_by_zero : (a k : ℤ) → is_zero a ≡ true → equal a k ≡ is_zero k
equal_by_zero a k e = ap (λ x. equal x k) (is_pos_zero a e) ∙ zero_equal k

same_some : (a b : Bool) → Some a ≡ Some b → a ≡ b
same_some a b e = cc

-- what the outcome decides is so of a value with the outcome
tells : (x k : ℤ) (q succeeded side : Bool) (object : ℕ) → is_zero x ≡ succeeded → decided (test q k object) succeeded ≡ Some side → same_bool q (equal x k) ≡ side
tells x k q true side object z d = ap (same_bool q) (equal_by_zero x k z) ∙ same_some _ _ d
tells x k q false side object z d = go (is_zero k) refl d
  where
    unlike : (q : Bool) → same_bool q false ≡ not q
    unlike true = refl
    unlike false = refl

    go : (b : Bool) → is_zero k ≡ b → cond b (Some (not q)) None ≡ Some side → same_bool q (equal x k) ≡ side
    go true e f = ap (same_bool q) (equal_turned x k ∙ equal_by_zero k x e ∙ z) ∙ unlike q ∙ same_some _ _ f
    go false e f = absurd (cc)

-- ---- operands

module _ (here : Here) (i : ℕ) (z : ℤ) (small : is_result z ≡ true) (holds : here.memory (record { root = root_of here i; path = [] }) ≡ Some (Number z)) where
  same_local : (a b : ℕ) → Some a ≡ Some b → a ≡ b
  same_local a b e = cc

  reads : (object : ℕ) → object ≡ i → here.memory (record { root = root_of here object; path = [] }) ≡ Some (Number z)
  reads object e = subst (λ n. here.memory (record { root = root_of here n; path = [] }) ≡ Some (Number z)) (sym e) holds

  local_value : (e : Expr) (object : ℕ) → local_in e ≡ Some object → object ≡ i → eval here e ≡ Some (Number z)
  local_value (Local own []) object l o = reads own (same_local _ _ l ∙ o)
  local_value (Local own (k ∷ path)) object l o = absurd (cc)
  local_value _ object l o = absurd (cc)

  -- the value of a right operand
  record Right (e : Expr) : Type 0 where
    value : ℤ
    evals : eval here e ≡ Some (Number value)
    same_zero : is_zero value ≡ is_zero z

  right_value : (e : Expr) (object : ℕ) → converted_local e ≡ Some object → object ≡ i → Right e
  right_value (Local own []) object l o = record { value = z; evals = reads own (same_local _ _ l ∙ o); same_zero = refl }
  right_value (Local own (k ∷ path)) object l o = absurd (cc)
  right_value (Convert t e) object l o = record {
    value = converted t z;
    evals = ap (λ (v : Option Value). option_and_then (on_number (λ y. Some (converted t y))) v) (local_value e object l o);
    same_zero = zero_kept t z small;
  }
  right_value _ object l o = absurd (cc)

  -- ---- the branch

  Takes : Value → Bool → Type 0
  Takes v b = is_true here v ≡ Some b

  is_truth : (b : Bool) → is_true here (Number (truth b)) ≡ Some b
  is_truth true = refl
  is_truth false = refl

  same_value : (v w : Value) → Some v ≡ Some w → w ≡ v
  same_value v w e = cc

  -- what a value comes to as a truth value
  abbrev pub Comes_to : Option Value → Bool → Type 0
  Comes_to o b = (v : Value) → o ≡ Some v → (side : Bool) → is_true here v ≡ Some side → side ≡ b

  comes_to : (o : Option Value) (w : Value) (b : Bool) → o ≡ Some w → is_true here w ≡ Some b → Comes_to o b
  comes_to o w b f g v h side k = same_some side b (sym k ∙ ap (is_true here) (same_value w v (sym f ∙ h)) ∙ g)

  compare_value : (op : BinaryOperator) (t : IntegerType) (q : Bool) → equality op ≡ Some q → (a b : ℤ)
      → operated op t (Number a) (Number b) ≡ Some (Number (truth (same_bool q (equal (converted t a) b))))
  compare_value binary.Equal t q e a b = ap (λ p. Some (Number (truth (same_bool p (equal (converted t a) b))))) (same_some true q e)
  compare_value binary.NotEqual t q e a b = ap (λ p. Some (Number (truth (same_bool p (equal (converted t a) b))))) (same_some false q e)
  compare_value _ t q e a b = absurd (cc)

  compared : (op : BinaryOperator) (t : IntegerType) (q : Bool) (o p : Option Value) (a b : ℤ) (side : Bool) → equality op ≡ Some q → o ≡ Some (Number a) → p ≡ Some (Number b)
      → same_bool q (equal (converted t a) b) ≡ side → Comes_to (of_two (operated op t) o p) side
  compared op t q o p a b side e f g h = comes_to _ (Number (truth side)) side
      (ap (λ (v : Option Value). of_two (operated op t) v p) f ∙ ap (λ (w : Option Value). of_two (operated op t) (Some (Number a)) w) g ∙ compare_value op t q e a b
      ∙ ap (λ x. Some (Number (truth x))) h) (is_truth side)

  abbrev pub Decides : Option Test → Option Value → Type 0
  Decides found o = (x : Test) → found ≡ Some x → x.local ≡ i → (side : Bool) → decided x (is_zero z) ≡ Some side → Comes_to o side

  same_test : (x y : Test) → Some x ≡ Some y → x ≡ y
  same_test x y e = cc

  -- the local, and the test that it has
  abbrev TestsLocal : (ℕ → Test) → Option ℕ → Test → Type 0
  TestsLocal f found x = (object : ℕ) × ((found ≡ Some object) × (f object ≡ x))

  mapped : (f : ℕ → Test) (found : Option ℕ) (x : Test) → option_map f found ≡ Some x → TestsLocal f found x
  mapped f None x e = absurd (cc)
  mapped f (Some object) x e = (object, (refl, same_test _ _ e))

  decided_at : (x y : Test) (b side : Bool) → x ≡ y → decided y b ≡ Some side → decided x b ≡ Some side
  decided_at x y b side e d = ap (λ (w : Test). decided w b) e ∙ d

  constant_left : (op : BinaryOperator) (t : IntegerType) (q : Bool) (k : ℤ) (d : Expr) → equality op ≡ Some q
      → Decides (option_map (test q (converted t k)) (converted_local d)) (of_two (operated op t) (Some (Number k)) (eval here d))
  constant_left op t q k d e x f l side c = let m = mapped (test q (converted t k)) (converted_local d) x f in
      let r = right_value d m.0 m.1.0 (ap (λ (w : Test). w.local) m.1.1 ∙ l) in
      compared op t q _ _ k r.value side e refl r.evals
      (ap (same_bool q) (equal_turned (converted t k) r.value) ∙ tells r.value (converted t k) q (is_zero z) side m.0 r.same_zero (decided_at _ _ (is_zero z) side m.1.1 c))

  constant_right : (op : BinaryOperator) (t : IntegerType) (q : Bool) (k : ℤ) (e : Expr) → equality op ≡ Some q
      → Decides (option_map (test q k) (local_in e)) (of_two (operated op t) (eval here e) (Some (Number k)))
  constant_right op t q k e o x f l side c = let m = mapped (test q k) (local_in e) x f in
      compared op t q _ _ z k side o (local_value e m.0 m.1.0 (ap (λ (w : Test). w.local) m.1.1 ∙ l)) refl
      (tells (converted t z) k q (is_zero z) side m.0 (zero_kept t z small) (decided_at _ _ (is_zero z) side m.1.1 c))

  undecided : (o : Option Value) → Decides None o
  undecided o x f l side c = absurd (let g : None ≡ Some x = f in cc)

  right_decides : (op : BinaryOperator) (t : IntegerType) (q : Bool) (e d : Expr) → equality op ≡ Some q → Decides (right_constant e d q) (of_two (operated op t) (eval here e) (eval here d))
  right_decides op t q e (Constant k) o = constant_right op t q k e o
  right_decides op t q e _ o = undecided _

  sides_decide : (op : BinaryOperator) (t : IntegerType) (q : Bool) (e d : Expr) → equality op ≡ Some q → Decides (sides t e d q) (of_two (operated op t) (eval here e) (eval here d))
  sides_decide op t q (Constant k) d o = constant_left op t q k d o
  sides_decide op t q e d o = right_decides op t q e d o

  equality_decides : (op : BinaryOperator) (t : IntegerType) (e d : Expr) (found : Option Bool) → equality op ≡ found
      → Decides (if_equality found (sides t e d)) (of_two (operated op t) (eval here e) (eval here d))
  equality_decides op t e d None f = undecided _
  equality_decides op t e d (Some q) f = sides_decide op t q e d f

  links_decide : {n : _} (e : Expr) (links : Row_of-Link n) → Decides (test_in_links e links) (chained here (eval here e) links)
  links_decide e (more_of-Link op t x (more_of-Expr d end_of-Expr) end_of-Link) = equality_decides op t e d (equality op) refl
  links_decide e _ = undecided _

  not_decides : (op : UnaryOperator) (t : IntegerType) (e : Expr) → Decides (test_not op e) (option_and_then (on_number (unary_value op t)) (eval here e))
  not_decides unary.Not t e x f l side c = let m = mapped (test true (pos 0)) (local_in e) x f in
      comes_to _ (Number (truth (is_zero z))) side (ap (λ (v : Option Value). option_and_then (on_number (unary_value unary.Not t)) v) (local_value e m.0 m.1.0 (ap (λ (w : Test). w.local) m.1.1 ∙ l)))
      (is_truth (is_zero z) ∙ ap Some (sym (equal_turned z (pos 0) ∙ zero_equal z) ∙ tells z (pos 0) true (is_zero z) side m.0 refl (decided_at _ _ (is_zero z) side m.1.1 c)))
  not_decides op t e x f l side c = absurd (let g : None ≡ Some x = f in cc)

  truth_decides : (object : ℕ) (path : List ℕ) → Decides (option_map (test false (pos 0)) (whole_local object path)) (eval here (Local object path))
  truth_decides object path x f l side c = let m = mapped (test false (pos 0)) (whole_local object path) x f in
      comes_to _ (Number z) side (local_value (Local object path) m.0 m.1.0 (ap (λ (w : Test). w.local) m.1.1 ∙ l))
      (ap (λ b. Some (not b)) (sym (equal_turned z (pos 0) ∙ zero_equal z)) ∙ ap Some (tells z (pos 0) false (is_zero z) side m.0 refl (decided_at _ _ (is_zero z) side m.1.1 c)))

  pub test_decides : (e : Expr) → Decides (test_of e) (eval here e)
  test_decides (Local object path) = truth_decides object path
  test_decides (Unary op t e) = not_decides op t e
  test_decides (Chain' x (more_of-Expr e end_of-Expr) y links) = links_decide e links
  test_decides _ = undecided _
