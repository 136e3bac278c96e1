-- Why an action has no meaning, where its request breaks nothing: the undefined steps that are met in its parts.
use Rattle.std.specs.Prelude.{◌≡◌, ◌⊎◌, ℕ, Bool, true, false, ℤ, List, [], ◌∷◌, Option, Some, None}
use Rattle.c_program.specs.declared.types.Base.TheVariants.{Integer, Atomic}
use Rattle.c_program.specs.declared.types.CType.{CType}
use Rattle.c_program.specs.declared.types.Integer.{Integer as IntegerType}
use Rattle.c_program.specs.declared.expression.BinaryOperator.{BinaryOperator}
use Rattle.c_program.specs.declared.expression.Expr.{Expr}
use Rattle.c_program.specs.declared.action.Part.{Part}
use Rattle.c_program.specs.declared.action.AtomicCall.{AtomicCall}
use Rattle.c_program.specs.declared.action.AtomicOperation.{AtomicOperation}
use Rattle.c_program.specs.declared.action.AtomicOperation.TheVariants as atomic
use Rattle.c_program.specs.declared.action.LibraryCall.{LibraryCall}
use Rattle.c_program.specs.declared.action.LibraryCall.TheVariants as lib
use Rattle.c_program.specs.declared.action.Act.{Act}
use Rattle.c_program.specs.declared.action.Act.TheVariants as act
use Rattle.c_program.specs.Syntax.{c_int}
use Rattle.c_program.specs.Types.{is_scalar, plain_type, converted}
use Rattle.c_program.specs.Values.{Cell, Value, Number, Address, part}
use Rattle.c_program.specs.Evaluation.{Here, eval, place_at}
use Rattle.c_program.specs.Requests.{may_write, timespec, mutex_type, condition_type, thread_type, key_type}
use Rattle.type_safety.specs.Causes.{Unusable, Dead, ArithmeticFails, Fails}

-- ---- parts of actions

abbrev pub UnusableAt : Here → CType → Option Value → Type 0
UnusableAt here t None = ⊥
UnusableAt here t (Some v) = Unusable here t v

-- an address has no value, or cannot be used at the type
abbrev pub PlaceFails : Here → CType → Expr → Type 0
PlaceFails here t e = Fails here e ⊎ UnusableAt here t (eval here e)

-- the object is unset
abbrev pub IsUnset : Here → CType → Expr → Type 0
IsUnset here t e = (cell : Cell) × (place_at here t e ≡ Some cell) × (here.memory cell ≡ None)

-- the object is const, or a part of one that is
abbrev pub IsConst : Here → CType → Expr → Type 0
IsConst here t e = (cell : Cell) × (place_at here t e ≡ Some cell) × (may_write here cell ≡ false)

abbrev pub AnyFails : Here → List Expr → Type 0
AnyFails here [] = ⊥
AnyFails here (e ∷ es) = Fails here e ⊎ AnyFails here es

-- an operator on what an object holds and a value
abbrev pub ComputesNothing : Here → CType → Expr → BinaryOperator → IntegerType → Expr → Type 0
ComputesNothing here t e op u v = (cell : Cell) × (old z : ℤ) × (place_at here t e ≡ Some cell) × (here.memory cell ≡ Some (Number old)) × (eval here v ≡ Some (Number z)) × ArithmeticFails op u (converted u old) z

-- a part of a braced initialiser: a value, or a structure by its address
abbrev pub PartFails : Here → Part → Bool → Type 0
PartFails here p true = Fails here p.value
PartFails here p false = PlaceFails here p.c_type p.value

abbrev pub PartsFail : Here → List Part → Type 0
PartsFail here [] = ⊥
PartsFail here (p ∷ parts) = PartsFail here parts ⊎ PartFails here p (is_scalar p.c_type)

-- ---- library calls

-- a time cannot be read
abbrev pub TimeFails : Here → Expr → Type 0
TimeFails here e = PlaceFails here timespec e ⊎ ((time : Cell) × (place_at here timespec e ≡ Some time) × ((here.memory (part 0 time) ≡ None) ⊎ (here.memory (part 1 time) ≡ None)))

-- the pointer of a join is null, or leads to an int that may be written
abbrev pub ResultFails : Here → Option Value → Type 0
ResultFails here (Some (Address cell)) = Unusable here c_int (Address cell) ⊎ (may_write here cell ≡ false)
ResultFails here _ = ⊥

abbrev pub of_object : AtomicCall → CType
of_object call = plain_type (Atomic call.integer)

abbrev pub of_expected : AtomicCall → CType
of_expected call = plain_type (Integer call.integer)

-- a compare and exchange writes one of its objects
abbrev pub CompareFails : Here → AtomicCall → Type 0
CompareFails here call = (IsUnset here (of_object call) call.object ⊎ (PlaceFails here (of_expected call) call.expected ⊎ (IsUnset here (of_expected call) call.expected ⊎ Fails here call.operand)))
    ⊎ (IsConst here (of_object call) call.object ⊎ IsConst here (of_expected call) call.expected)

abbrev pub OperationFails : Here → AtomicCall → AtomicOperation → Type 0
OperationFails here call atomic.Init = Fails here call.operand
OperationFails here call atomic.Store = Fails here call.operand
OperationFails here call atomic.Load = IsUnset here (of_object call) call.object
OperationFails here call atomic.CompareExchangeStrong = CompareFails here call
OperationFails here call atomic.CompareExchangeWeak = CompareFails here call
OperationFails here call _ = IsUnset here (of_object call) call.object ⊎ Fails here call.operand

abbrev pub CallFails : Here → LibraryCall → Type 0
CallFails here (lib.ThreadCreate o f e) = PlaceFails here thread_type o ⊎ Fails here e
CallFails here (lib.ThreadJoin o e) = PlaceFails here thread_type o ⊎ (Fails here e ⊎ ResultFails here (eval here e))
CallFails here (lib.ThreadDetach o) = PlaceFails here thread_type o
CallFails here (lib.ThreadExit e) = Fails here e
CallFails here lib.ThreadYield = ⊥
CallFails here (lib.ThreadSleep e) = TimeFails here e
CallFails here (lib.TimespecGet e) = PlaceFails here timespec e ⊎ IsConst here timespec e
CallFails here (lib.MutexInit e kind) = PlaceFails here mutex_type e
CallFails here (lib.MutexLock e) = PlaceFails here mutex_type e
CallFails here (lib.MutexTryLock e) = PlaceFails here mutex_type e
CallFails here (lib.MutexTimedLock e t) = PlaceFails here mutex_type e ⊎ TimeFails here t
CallFails here (lib.MutexUnlock e) = PlaceFails here mutex_type e
CallFails here (lib.MutexDestroy e) = PlaceFails here mutex_type e
CallFails here (lib.ConditionInit e) = PlaceFails here condition_type e
CallFails here (lib.ConditionDestroy e) = PlaceFails here condition_type e
CallFails here (lib.ConditionSignal e) = PlaceFails here condition_type e
CallFails here (lib.ConditionBroadcast e) = PlaceFails here condition_type e
CallFails here (lib.ConditionWait e d) = PlaceFails here condition_type e ⊎ PlaceFails here mutex_type d
CallFails here (lib.ConditionTimedWait e d t) = PlaceFails here condition_type e ⊎ (PlaceFails here mutex_type d ⊎ TimeFails here t)
CallFails here (lib.KeyCreate e) = PlaceFails here key_type e
CallFails here (lib.KeyGet e) = PlaceFails here key_type e
CallFails here (lib.KeySet e v) = PlaceFails here key_type e ⊎ Fails here v
CallFails here (lib.KeyDelete e) = PlaceFails here key_type e
CallFails here (lib.Atomic call) = PlaceFails here (of_object call) call.object ⊎ (IsConst here (of_object call) call.object ⊎ OperationFails here call call.operation)

-- ---- actions

abbrev pub ActFails : Here → Act → Type 0
ActFails here (act.Read e t local) = PlaceFails here t e ⊎ IsUnset here t e
ActFails here (act.Write e t v) = PlaceFails here t e ⊎ (Fails here v ⊎ IsConst here t e)
ActFails here (act.Update e t op u v) = PlaceFails here (plain_type (Atomic t)) e ⊎ ((IsUnset here (plain_type (Atomic t)) e ⊎ Fails here v)
    ⊎ (ComputesNothing here (plain_type (Atomic t)) e op u v ⊎ IsConst here (plain_type (Atomic t)) e))
ActFails here (act.Assign local e) = Fails here e
ActFails here (act.Declare object) = ⊥
ActFails here (act.Copy e t f) = PlaceFails here t f ⊎ (PlaceFails here t e ⊎ IsConst here t e)
ActFails here (act.Fill object parts) = PartsFail here parts
ActFails here (act.Touch e t touched) = ⊥
ActFails here (act.Library call into) = CallFails here call
ActFails here (act.External name arguments result into) = AnyFails here arguments
ActFails here (act.Call function arguments into) = AnyFails here arguments
ActFails here act.Turn = ⊥
ActFails here (act.Return None) = ⊥
ActFails here (act.Return (Some e)) = Fails here e
ActFails here act.End = ⊥
ActFails here (act.Evaluate e) = Fails here e
ActFails here (act.Branch e into) = Fails here e ⊎ Dead here (eval here e)
ActFails here (act.Switch e clauses) = Fails here e
