-- Why an expression has no value: the undefined steps that are met in its evaluation.
use Rattle.std.specs.Prelude.{◌≡◌, ◌⊎◌, ℕ, Bool, true, false, nat_lt, ℤ, pos, negsuc, ◌+ℤ◌, ◌-ℤ◌, ◌*ℤ◌, int_div, List, [], ◌∷◌, Option, Some, None, option_map, option_and_then, unwrap_or}
use Rattle.c_program.specs.declared.types.Base.TheVariants.{Structure}
use Rattle.c_program.specs.declared.types.CType.{CType}
use Rattle.c_program.specs.declared.types.Integer.{Integer as IntegerType}
use Rattle.c_program.specs.declared.expression.UnaryOperator.{UnaryOperator}
use Rattle.c_program.specs.declared.expression.UnaryOperator.TheVariants.{Minus}
use Rattle.c_program.specs.declared.expression.BinaryOperator.{BinaryOperator}
use Rattle.c_program.specs.declared.expression.BinaryOperator.TheVariants.{Multiply, Divide, Remainder, Add, Subtract, ShiftLeft, ShiftRight}
use Rattle.c_program.specs.declared.expression.Expr.{Expr, Constant, Object, Local, Path', Chain', All', Any', Row_of-Expr, more_of-Expr, end_of-Expr, Row_of-Step, more_of-Step, end_of-Step, Row_of-Link, more_of-Link, end_of-Link}
use Rattle.c_program.specs.declared.expression.Step.{Step, Indirection, Member}
use Rattle.c_program.specs.Syntax.{Unary, Same, Choose, Convert, Element, Forward, Back}
use Rattle.c_program.specs.Types.{is_zero, is_signed, is_in, bits, converted, same_type, plain_type}
use Rattle.c_program.specs.Values.{Cell, Value, Number, Address, in_type, shifted_left, type_of_cell}
use Rattle.c_program.specs.Evaluation.{Here, root_of, sizes_of, within_bounds, moved_in, is_true, of_two, operated, eval, stepped}

-- ---- uses of an address

abbrev pub is_of_type : Here → CType → Cell → Bool
is_of_type here t cell = unwrap_or (option_map (same_type t) (type_of_cell here.program cell)) false

-- it is null, or dead, or its object has another type
abbrev pub Unusable : Here → CType → Value → Type 0
Unusable here t (Number z) = is_zero z ≡ true
Unusable here t (Address cell) = (here.is_alive cell.root ≡ false) ⊎ (is_of_type here t cell ≡ false)

abbrev pub Dead : Here → Option Value → Type 0
Dead here (Some (Address cell)) = here.is_alive cell.root ≡ false
Dead here _ = ⊥

-- an index is outside an array
abbrev pub IsOutside : List ℕ → ℤ → Type 0
IsOutside [] i = ⊥
IsOutside (n ∷ ns) i = within_bounds (n ∷ ns) i ≡ None

abbrev pub IndexFails : Here → Value → Option Value → Type 0
IndexFails here (Address cell) (Some (Number i)) = (here.is_alive cell.root ≡ false) ⊎ IsOutside (sizes_of (type_of_cell here.program cell)) i
IndexFails here _ _ = ⊥

-- a moved pointer leaves its array, or the object that it leads to, where that is no element
abbrev pub MovesOut : Here → Value → ℤ → Type 0
MovesOut here (Address cell) i = moved_in here cell.root cell.path i ≡ None
MovesOut here (Number z) i = ⊥

abbrev pub MoveFails : Here → CType → Value → Option Value → (ℤ → ℤ) → Type 0
MoveFails here t v (Some (Number i)) way = Unusable here t v ⊎ MovesOut here v (way i)
MoveFails here t v _ way = ⊥

abbrev pub onward : ℤ → ℤ
onward i = i

abbrev pub backward : ℤ → ℤ
backward i = pos 0 -ℤ i

-- ---- arithmetic

-- a signed result leaves its type
abbrev pub LeavesType : IntegerType → ℤ → Type 0
LeavesType t z = in_type t z ≡ None

abbrev pub CountIsOutside : IntegerType → ℤ → Type 0
CountIsOutside t (pos k) = nat_lt k (bits t) ≡ false
CountIsOutside t (negsuc k) = Unit {0}

-- a negative number is shifted left, or leaves its type
abbrev pub ShiftFails : IntegerType → ℤ → ℤ → Type 0
ShiftFails t a (pos k) = shifted_left t a k ≡ None
ShiftFails t a (negsuc k) = ⊥

abbrev pub QuotientFails : IntegerType → ℤ → ℤ → Type 0
QuotientFails t a b = (is_zero b ≡ true) ⊎ ((is_signed t ≡ true) × (is_in t (int_div a b) ≡ false))

abbrev pub ArithmeticFails : BinaryOperator → IntegerType → ℤ → ℤ → Type 0
ArithmeticFails Add t a b = LeavesType t (a +ℤ b)
ArithmeticFails Subtract t a b = LeavesType t (a -ℤ b)
ArithmeticFails Multiply t a b = LeavesType t (a *ℤ b)
ArithmeticFails Divide t a b = QuotientFails t a b
ArithmeticFails Remainder t a b = QuotientFails t a b
ArithmeticFails ShiftLeft t a b = CountIsOutside t b ⊎ ShiftFails t a b
ArithmeticFails ShiftRight t a b = CountIsOutside t b
ArithmeticFails _ t a b = ⊥

abbrev pub OperatorFails : BinaryOperator → IntegerType → Option Value → Option Value → Type 0
OperatorFails op t (Some (Number a)) (Some (Number b)) = ArithmeticFails op t (converted t a) b
OperatorFails op t _ _ = ⊥

abbrev pub NegationFails : UnaryOperator → IntegerType → Option Value → Type 0
NegationFails Minus t (Some (Number z)) = LeavesType t (pos 0 -ℤ z)
NegationFails _ t _ = ⊥

-- ---- operands that are evaluated where another one has a truth

abbrev pub truth_of : Here → Option Value → Option Bool
truth_of here o = option_and_then (is_true here) o

abbrev pub IfTrue : Option Bool → Type 0 → Type 0
IfTrue (Some true) F = F
IfTrue _ F = ⊥

abbrev pub IfFalse : Option Bool → Type 0 → Type 0
IfFalse (Some false) F = F
IfFalse _ F = ⊥

-- ---- expressions

abbrev mutual
  pub Fails : Here → Expr → Type 0
  Fails here (Constant z) = ⊥
  Fails here (Object object) = ⊥
  -- an unset value is read
  Fails here (Local object path) = here.memory (record { root = root_of here object; path = path }) ≡ None
  Fails here (Path' _ (more_of-Expr e end_of-Expr) _ steps) = Fails here e ⊎ FailsAlong here (eval here e) steps
  Fails here (Unary op t e) = Fails here e ⊎ NegationFails op t (eval here e)
  Fails here (Chain' _ (more_of-Expr e end_of-Expr) _ links) = Fails here e ⊎ FailsChained here (eval here e) links
  Fails here (Same a b) = (Fails here a ⊎ Fails here b) ⊎ (Dead here (eval here a) ⊎ Dead here (eval here b))
  Fails here (All' _ es) = AllFail here es
  Fails here (Any' _ es) = AnyFail here es
  Fails here (Choose c a b) = (Fails here c ⊎ Dead here (eval here c)) ⊎ (IfTrue (truth_of here (eval here c)) (Fails here a) ⊎ IfFalse (truth_of here (eval here c)) (Fails here b))
  Fails here (Convert t e) = Fails here e

  -- steps from what an address comes to
  pub FailsAlong : {n : _} → Here → Option Value → Row_of-Step n → Type 0
  FailsAlong here o end_of-Step = ⊥
  FailsAlong here o (more_of-Step step steps) = FailsFrom here o step ⊎ FailsAlong here (option_and_then (λ p. stepped here p step) o) steps

  pub FailsFrom : Here → Option Value → Step → Type 0
  FailsFrom here None step = ⊥
  FailsFrom here (Some v) (Indirection t) = Unusable here t v
  FailsFrom here (Some v) (Member s m) = Unusable here (plain_type (Structure s)) v
  FailsFrom here (Some v) (Element i) = Fails here i ⊎ IndexFails here v (eval here i)
  FailsFrom here (Some v) (Forward t i) = Fails here i ⊎ MoveFails here t v (eval here i) onward
  FailsFrom here (Some v) (Back t i) = Fails here i ⊎ MoveFails here t v (eval here i) backward

  -- operators behind what stands left of them
  pub FailsChained : {n : _} → Here → Option Value → Row_of-Link n → Type 0
  FailsChained here o end_of-Link = ⊥
  FailsChained here o (more_of-Link op t _ (more_of-Expr e end_of-Expr) links) =
      (Fails here e ⊎ OperatorFails op t o (eval here e)) ⊎ FailsChained here (of_two (operated op t) o (eval here e)) links

  pub AllFail : {n : _} → Here → Row_of-Expr n → Type 0
  AllFail here end_of-Expr = ⊥
  AllFail here (more_of-Expr e es) = (Fails here e ⊎ Dead here (eval here e)) ⊎ IfTrue (truth_of here (eval here e)) (AllFail here es)

  pub AnyFail : {n : _} → Here → Row_of-Expr n → Type 0
  AnyFail here end_of-Expr = ⊥
  AnyFail here (more_of-Expr e es) = (Fails here e ⊎ Dead here (eval here e)) ⊎ IfFalse (truth_of here (eval here e)) (AnyFail here es)
