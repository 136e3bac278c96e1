-- The form and the type that each expression and each argument of a text has, as its action asks for them (C11 6.5, 6.8, 7.17, 7.26).
-- So no step of a run has no meaning for want of them: what ends a run is a value, an address or a rule.
use Rattle.std.specs.Prelude.{ℕ, Bool, true, false, not, ◌&&◌, ◌||◌, if◌then◌else◌, ℤ, int_le, List, [], ◌∷◌, Option, Some, None, is_none, option_map, unwrap_or}
use Rattle.std.specs.List.{list_any, list_all}
use Rattle.c_program.specs.declared.types.Integer.{Integer as IntegerType}
use Rattle.c_program.specs.declared.types.Integer.TheVariants.{Bool as BoolType, Int, UnsignedInt, Long, UnsignedLong, LongLong, UnsignedLongLong}
use Rattle.c_program.specs.declared.types.Base.{Base}
use Rattle.c_program.specs.declared.types.Base.TheVariants as base
use Rattle.c_program.specs.declared.types.CType.{CType}
use Rattle.c_program.specs.declared.expression.UnaryOperator.{UnaryOperator}
use Rattle.c_program.specs.declared.expression.UnaryOperator.TheVariants as unary
use Rattle.c_program.specs.declared.expression.BinaryOperator.{BinaryOperator}
use Rattle.c_program.specs.declared.expression.BinaryOperator.TheVariants as binary
use Rattle.c_program.specs.declared.expression.Expr.{Expr, Constant, Object, Local, Path', Chain', All', Any', Row_of-Expr, more_of-Expr, end_of-Expr, Row_of-Step, more_of-Step, end_of-Step, Row_of-Link, more_of-Link, end_of-Link}
use Rattle.c_program.specs.declared.expression.Step.{Step, Indirection, Member}
use Rattle.c_program.specs.declared.action.Local.{Local as LocalOf}
use Rattle.c_program.specs.declared.action.Part.{Part}
use Rattle.c_program.specs.declared.action.AtomicOperation.{AtomicOperation}
use Rattle.c_program.specs.declared.action.AtomicOperation.TheVariants as atomic
use Rattle.c_program.specs.declared.action.AtomicCall.{AtomicCall}
use Rattle.c_program.specs.declared.action.LibraryCall.{LibraryCall}
use Rattle.c_program.specs.declared.action.LibraryCall.TheVariants as lib
use Rattle.c_program.specs.declared.action.Act.{Act}
use Rattle.c_program.specs.declared.action.Act.TheVariants as act
use Rattle.c_program.specs.declared.program.Initial.{Initial}
use Rattle.c_program.specs.declared.program.Object.{Object as ObjectOf}
use Rattle.c_program.specs.declared.program.Function.{Function}
use Rattle.c_program.specs.declared.program.Program.{Program}
use Rattle.c_program.specs.Syntax.{Unary, Same, Choose, Convert, Element, Forward, Back, c_int, act_at, function_at, parameters_at}
use Rattle.c_program.specs.Types.{is_in, least, greatest, is_zero, promoted, common, same_integer, same_bools, same_type, is_scalar, member_type, type_at, declared_type, holds_library}
use Rattle.c_program.specs.Paths.{actions_of}

-- ---- kinds of expressions

pub data Kind : Type 0 where
  -- what no text has
  Wrong : Kind
  -- a constant, or a choice of constants between these two: of each integer type that has them; 0 is the null pointer too
  A_literal : (least greatest : ℤ) → Kind
  -- a number of an integer type
  A_number : (integer : IntegerType) → Kind
  -- an address or null
  A_pointer : Kind
  -- the address of an object that the text uses at a type
  An_address : (c_type : CType) → Kind

-- whether each number of the kind is one of the type
abbrev pub is_number_at : IntegerType → Kind → Bool
is_number_at t (A_literal l g) = is_in t l && is_in t g
is_number_at t (A_number s) = is_in t (least s) && is_in t (greatest s)
is_number_at t _ = false

abbrev pub is_number : Kind → Bool
is_number (A_literal l g) = true
is_number (A_number s) = true
is_number _ = false

abbrev pub is_pointer : Kind → Bool
is_pointer (A_literal l g) = is_zero l && is_zero g
is_pointer A_pointer = true
is_pointer (An_address t) = true
is_pointer _ = false

abbrev pub is_condition : Kind → Bool
is_condition k = is_number k || is_pointer k

abbrev pub is_right : Kind → Bool
is_right Wrong = false
is_right _ = true

abbrev pub kind_if : Bool → Kind → Kind
kind_if b k = if b then k else Wrong

-- ---- types of objects

-- void is no type of an object
abbrev pub is_void_base : Base → Bool
is_void_base base.Void = true
is_void_base _ = false

abbrev pub is_void : CType → Bool
is_void t = is_void_base t.base && same_bools t.pointers []

-- the kind of what a scalar object holds
abbrev pub number_kind : Base → Kind
number_kind (base.Integer t) = A_number t
number_kind (base.Atomic t) = A_number t
number_kind _ = Wrong

abbrev pub kind_in : Base → List Bool → List ℕ → Kind
kind_in b [] [] = number_kind b
kind_in b (p ∷ ps) [] = A_pointer
kind_in b pointers (n ∷ ns) = Wrong

abbrev pub kind_of_type : CType → Kind
kind_of_type t = kind_in t.base t.pointers t.sizes

abbrev pub kind_held : Option CType → Kind
kind_held None = Wrong
kind_held (Some t) = kind_of_type t

abbrev pub address_of : Option CType → Kind
address_of None = Wrong
address_of (Some t) = An_address t

-- what an element of an array is
abbrev pub element_in : CType → List ℕ → Kind
element_in t [] = Wrong
element_in t (n ∷ ns) = An_address (record t { sizes = ns })

abbrev pub element_kind : Kind → Kind
element_kind (An_address t) = element_in t t.sizes
element_kind _ = Wrong

-- a structure that is no library object and holds none
abbrev pub is_structure_base : Base → Bool
is_structure_base (base.Structure s) = true
is_structure_base _ = false

abbrev pub is_structure_in : Base → List Bool → List ℕ → Bool
is_structure_in b [] [] = is_structure_base b
is_structure_in b (p ∷ ps) [] = false
is_structure_in b pointers (n ∷ ns) = false

abbrev pub is_structure : Program → CType → Bool
is_structure program t = is_structure_in t.base t.pointers t.sizes && not (holds_library program t)

-- ---- operators (C11 6.3.1.1, 6.3.1.8, 6.5.3 to 6.5.14)

abbrev pub is_shift : BinaryOperator → Bool
is_shift binary.ShiftLeft = true
is_shift binary.ShiftRight = true
is_shift _ = false

abbrev pub is_comparison : BinaryOperator → Bool
is_comparison binary.Less = true
is_comparison binary.Greater = true
is_comparison binary.LessEqual = true
is_comparison binary.GreaterEqual = true
is_comparison binary.Equal = true
is_comparison binary.NotEqual = true
is_comparison _ = false

-- a type that a constant may have
abbrev pub literal_types : List IntegerType
literal_types = Int ∷ UnsignedInt ∷ Long ∷ UnsignedLong ∷ LongLong ∷ UnsignedLongLong ∷ []

-- the type is that of the kind after promotion
abbrev pub promotes_to : IntegerType → Kind → Bool
promotes_to t (A_literal l g) = same_integer (promoted t) t && (is_in t l && is_in t g)
promotes_to t (A_number s) = same_integer (promoted s) t
promotes_to t _ = false

-- the type is the common type of the kind and of a right operand that has it already
abbrev pub converts_to : IntegerType → Kind → Bool
converts_to t (A_literal l g) = list_any (λ s. (is_in s l && is_in s g) && same_integer (common s t) t) literal_types
converts_to t (A_number s) = same_integer (common s t) t
converts_to t _ = false

abbrev pub unary_kind : UnaryOperator → IntegerType → Kind → Kind
unary_kind unary.Not t k = kind_if (promotes_to t k) (A_number Int)
unary_kind op t k = kind_if (promotes_to t k) (A_number t)

abbrev pub link_kind : BinaryOperator → IntegerType → Kind → Kind → Kind
link_kind op t left right =
    if is_shift op then kind_if (promotes_to t left && is_number right) (A_number t)
    else kind_if (converts_to t left && is_number_at t right) (A_number (if is_comparison op then Int else t))

-- the two values of `?:`
abbrev pub wider : Kind → Kind → Kind
wider (A_number s) k = kind_if (is_number_at s k) (A_number s)
wider _ k = Wrong

abbrev pub joined_numbers : Kind → Kind → Kind
joined_numbers (A_literal a b) (A_literal c d) = A_literal (if int_le a c then a else c) (if int_le b d then d else b)
joined_numbers (A_number s) k = if is_number_at s k then A_number s else wider k (A_number s)
joined_numbers k l = wider l k

abbrev pub joined : Kind → Kind → Kind
joined a b = if is_number a && is_number b then joined_numbers a b else kind_if (is_pointer a && is_pointer b) A_pointer

-- ---- expressions

abbrev mutual
  pub kind_of : Program → Expr → Kind
  kind_of program (Constant z) = A_literal z z
  kind_of program (Object n) = address_of (declared_type program n)
  kind_of program (Local n path) = kind_held (type_at program (declared_type program n) path)
  kind_of program (Path' _ (more_of-Expr e end_of-Expr) _ steps) = kind_along program (kind_of program e) steps
  kind_of program (Unary op t e) = unary_kind op t (kind_of program e)
  kind_of program (Chain' _ (more_of-Expr e end_of-Expr) _ links) = kind_chained program (kind_of program e) links
  kind_of program (Same a b) = kind_if (is_pointer (kind_of program a) && is_pointer (kind_of program b)) (A_number Int)
  kind_of program (All' _ es) = kind_if (are_conditions program es) (A_number Int)
  kind_of program (Any' _ es) = kind_if (are_conditions program es) (A_number Int)
  kind_of program (Choose c a b) = kind_if (is_condition (kind_of program c)) (joined (kind_of program a) (kind_of program b))
  kind_of program (Convert t e) = kind_if (is_number (kind_of program e)) (A_number t)

  pub kind_along : {n : _} → Program → Kind → Row_of-Step n → Kind
  kind_along program k end_of-Step = k
  kind_along program k (more_of-Step step steps) = kind_along program (kind_stepped program k step) steps

  pub kind_stepped : Program → Kind → Step → Kind
  kind_stepped program k (Indirection t) = kind_if (is_pointer k && not (is_void t)) (An_address t)
  kind_stepped program k (Member s m) = kind_if (is_pointer k) (address_of (member_type program s m))
  kind_stepped program k (Element i) = kind_if (is_number (kind_of program i)) (element_kind k)
  kind_stepped program k (Forward t i) = kind_if ((is_pointer k && not (is_void t)) && is_number (kind_of program i)) (An_address t)
  kind_stepped program k (Back t i) = kind_if ((is_pointer k && not (is_void t)) && is_number (kind_of program i)) (An_address t)

  pub kind_chained : {n : _} → Program → Kind → Row_of-Link n → Kind
  kind_chained program k end_of-Link = k
  kind_chained program k (more_of-Link op t _ (more_of-Expr e end_of-Expr) links) = kind_chained program (link_kind op t k (kind_of program e)) links

  pub are_conditions : {n : _} → Program → Row_of-Expr n → Bool
  are_conditions program end_of-Expr = true
  are_conditions program (more_of-Expr e es) = is_condition (kind_of program e) && are_conditions program es

-- ---- where a value goes

-- an object of the type may get a value of the kind as it is
abbrev pub takes_number : Base → Kind → Bool
takes_number (base.Integer t) k = is_number_at t k
takes_number (base.Atomic t) k = is_number_at t k
takes_number _ k = false

abbrev pub takes_in : Base → List Bool → List ℕ → Kind → Bool
takes_in b [] [] k = takes_number b k
takes_in b (p ∷ ps) [] k = is_pointer k
takes_in b pointers (n ∷ ns) k = false

abbrev pub takes : CType → Kind → Bool
takes t k = takes_in t.base t.pointers t.sizes k

-- a local may get it, for which the step converts a number
abbrev pub gets_number : Base → Kind → Bool
gets_number (base.Integer t) k = is_number k
gets_number (base.Atomic t) k = is_number k
gets_number _ k = false

abbrev pub gets_in : Base → List Bool → List ℕ → Kind → Bool
gets_in b [] [] k = gets_number b k
gets_in b (p ∷ ps) [] k = is_pointer k
gets_in b pointers (n ∷ ns) k = false

abbrev pub gets : CType → Kind → Bool
gets t k = gets_in t.base t.pointers t.sizes k

module _ (program : Program) where
  abbrev pub kind : Expr → Kind
  kind e = kind_of program e

  abbrev pub is_place : Expr → Bool
  is_place e = is_pointer (kind e)

  -- the part of the object has this type
  abbrev pub has_type : ℕ → List ℕ → CType → Bool
  has_type object path t = unwrap_or (option_map (same_type t) (type_at program (declared_type program object) path)) false

  abbrev pub local_is : LocalOf → Bool
  local_is local = has_type local.object local.path local.c_type

  abbrev pub local_gets : LocalOf → Kind → Bool
  local_gets local k = local_is local && gets local.c_type k

  abbrev pub into_gets : Option LocalOf → Kind → Bool
  into_gets None k = true
  into_gets (Some local) k = local_gets local k

  -- ---- actions

  abbrev pub part_is_typed : ℕ → Part → Bool
  part_is_typed object part = has_type object part.path part.c_type && (takes part.c_type (kind part.value) || (is_structure program part.c_type && is_place part.value))

  abbrev pub result_of : ℕ → Option CType
  result_of function = option_map (λ f. f.result) (function_at program function)

  abbrev pub arguments_are_typed : List ℕ → List Expr → Bool
  arguments_are_typed [] [] = true
  arguments_are_typed (p ∷ ps) (e ∷ es) = unwrap_or (option_map (λ t. takes t (kind e)) (declared_type program p)) false && arguments_are_typed ps es
  arguments_are_typed _ _ = false

  -- what a thread begins with is a function of type `int (void *)`
  abbrev pub answers_int : ℕ → Bool
  answers_int function = unwrap_or (option_map (same_type c_int) (result_of function)) false

  abbrev pub takes_a_pointer : List ℕ → Bool
  takes_a_pointer (p ∷ []) = unwrap_or (option_map (λ t. takes t A_pointer) (declared_type program p)) false
  takes_a_pointer _ = false

  abbrev pub into_int : Option LocalOf → Bool
  into_int into = into_gets into (A_number Int)

  abbrev pub atomic_is_typed : AtomicCall → AtomicOperation → Option LocalOf → Bool
  atomic_is_typed call atomic.Init into = is_number_at call.integer (kind call.operand) && is_none into
  atomic_is_typed call atomic.Store into = is_number_at call.integer (kind call.operand) && is_none into
  atomic_is_typed call atomic.Load into = into_gets into (A_number call.integer)
  atomic_is_typed call atomic.CompareExchangeStrong into = is_place call.expected && (is_number_at call.integer (kind call.operand) && into_gets into (A_number BoolType))
  atomic_is_typed call atomic.CompareExchangeWeak into = is_place call.expected && (is_number_at call.integer (kind call.operand) && into_gets into (A_number BoolType))
  atomic_is_typed call _ into = is_number_at call.integer (kind call.operand) && into_gets into (A_number call.integer)

  -- the calls without a result have no local for it
  abbrev pub call_is_typed : LibraryCall → Option LocalOf → Bool
  call_is_typed (lib.ThreadCreate o f e) into = (is_place o && is_pointer (kind e)) && ((answers_int f && takes_a_pointer (parameters_at program f)) && into_int into)
  call_is_typed (lib.ThreadJoin o e) into = (is_place o && is_place e) && into_int into
  call_is_typed (lib.ThreadDetach o) into = is_place o && into_int into
  call_is_typed (lib.ThreadExit e) into = is_number_at Int (kind e) && is_none into
  call_is_typed lib.ThreadYield into = is_none into
  call_is_typed (lib.ThreadSleep e) into = is_place e && into_int into
  call_is_typed (lib.TimespecGet e) into = is_place e && into_int into
  call_is_typed (lib.MutexInit e own) into = is_place e && into_int into
  call_is_typed (lib.MutexLock e) into = is_place e && into_int into
  call_is_typed (lib.MutexTryLock e) into = is_place e && into_int into
  call_is_typed (lib.MutexTimedLock e t) into = (is_place e && is_place t) && into_int into
  call_is_typed (lib.MutexUnlock e) into = is_place e && into_int into
  call_is_typed (lib.MutexDestroy e) into = is_place e && is_none into
  call_is_typed (lib.ConditionInit e) into = is_place e && into_int into
  call_is_typed (lib.ConditionDestroy e) into = is_place e && is_none into
  call_is_typed (lib.ConditionSignal e) into = is_place e && into_int into
  call_is_typed (lib.ConditionBroadcast e) into = is_place e && into_int into
  call_is_typed (lib.ConditionWait e d) into = (is_place e && is_place d) && into_int into
  call_is_typed (lib.ConditionTimedWait e d t) into = (is_place e && is_place d) && (is_place t && into_int into)
  call_is_typed (lib.KeyCreate e) into = is_place e && into_int into
  call_is_typed (lib.KeyGet e) into = is_place e && into_gets into A_pointer
  call_is_typed (lib.KeySet e v) into = (is_place e && is_pointer (kind v)) && into_int into
  call_is_typed (lib.KeyDelete e) into = is_place e && is_none into
  call_is_typed (lib.Atomic call) into = is_place call.object && atomic_is_typed call call.operation into

  abbrev pub external_is_typed : Option IntegerType → Option LocalOf → Bool
  external_is_typed None into = is_none into
  external_is_typed (Some t) into = into_gets into (A_number t)

  -- an action of a function with this result
  abbrev pub act_is_typed : CType → Act → Bool
  act_is_typed result (act.Read e t local) = is_place e
      && ((is_scalar t && local_gets local (kind_of_type t)) || (is_structure program t && (local_is local && same_type t local.c_type)))
  act_is_typed result (act.Write e t v) = is_place e && takes t (kind v)
  act_is_typed result (act.Update e t op u v) = (is_place e && not (is_comparison op)) && is_number (link_kind op u (A_number t) (kind v))
  act_is_typed result (act.Assign local e) = local_gets local (kind e)
  act_is_typed result (act.Declare object) = true
  act_is_typed result (act.Copy e t f) = (is_place e && is_place f) && is_structure program t
  act_is_typed result (act.Fill object parts) = list_all (part_is_typed object) parts
  act_is_typed result (act.Touch e t touched) = is_place e && holds_library program t
  act_is_typed result (act.Library call into) = call_is_typed call into
  act_is_typed result (act.External name arguments value into) = list_all (λ e. is_number (kind e)) arguments && external_is_typed value into
  act_is_typed result (act.Call function arguments into) =
      arguments_are_typed (parameters_at program function) arguments && into_gets into (kind_held (result_of function))
  act_is_typed result act.Turn = true
  act_is_typed result (act.Return None) = is_void result
  act_is_typed result (act.Return (Some e)) = takes result (kind e)
  act_is_typed result act.End = true
  act_is_typed result (act.Evaluate e) = is_right (kind e)
  act_is_typed result (act.Branch e into) = is_condition (kind e) && into_int into
  act_is_typed result (act.Switch e clauses) = is_number (kind e)

  -- ---- the program

  abbrev pub initial_is_typed : CType → Initial → Bool
  initial_is_typed whole part = unwrap_or (option_map (λ t. takes t (kind part.value)) (type_at program (Some whole) part.path)) false

  abbrev pub object_is_typed : ObjectOf → Bool
  object_is_typed o = list_all (initial_is_typed o.c_type) o.initial

  abbrev pub is_scalar_object : ℕ → Bool
  is_scalar_object n = unwrap_or (option_map is_scalar (declared_type program n)) false

  abbrev pub function_is_typed : Function → Bool
  function_is_typed f = list_all is_scalar_object f.parameters && list_all (λ n. act_is_typed f.result (act_at program n)) (actions_of f.body)

-- each expression and each argument has the form and the type that its action asks for
abbrev pub is_typed : Program → Bool
is_typed program = (list_all (object_is_typed program) program.objects && answers_int program program.main) && list_all (function_is_typed program) program.functions
