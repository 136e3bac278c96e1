-- Which regions the data accesses of an action may touch.
use Rattle.std.specs.Prelude.{◌≡◌, ℕ, Bool, true, false, if◌then◌else◌, List, [], ◌∷◌, ◌++◌, Some, slice_get}
use Rattle.c_program.specs.declared.types.Base.TheVariants.{Integer, Atomic}
use Rattle.c_program.specs.declared.types.CType.{CType}
use Rattle.c_program.specs.declared.expression.Expr.{Expr}
use Rattle.c_program.specs.declared.action.Part.{Part}
use Rattle.c_program.specs.declared.action.AtomicCall.{AtomicCall}
use Rattle.c_program.specs.declared.action.AtomicOperation.{AtomicOperation}
use Rattle.c_program.specs.declared.action.AtomicOperation.TheVariants as atomic
use Rattle.c_program.specs.declared.action.LibraryCall.{LibraryCall}
use Rattle.c_program.specs.declared.action.LibraryCall.TheVariants as lib
use Rattle.c_program.specs.declared.action.Act.{Act}
use Rattle.c_program.specs.declared.action.Act.TheVariants as act
use Rattle.c_program.specs.declared.program.Program.{Program}
use Rattle.c_program.specs.Syntax.{c_int}
use Rattle.c_program.specs.Types.{is_scalar, is_atomic, plain_type}
use Rattle.c_program.specs.Values.{Location}
use Rattle.c_program.specs.Control.{Spot}
use Rattle.c_program.specs.Requests.{timespec}
use Rattle.pointer_targets.specs.Places.{Place, type_of_place, below}
use Rattle.pointer_targets.specs.PointsTo.{MayPointTo, IsOfType}
use Rattle.pointer_targets.specs.Candidates.{LiesAt}

-- an access through an address, at a type
pub record DataAccess : Type 0 where
  pub address : Expr
  pub c_type : CType
  pub writes : Bool
  pub is_atomic : Bool

abbrev pub reads_at : Expr → CType → Bool → DataAccess
reads_at e t is_atomic = record { address = e; c_type = t; writes = false; is_atomic = is_atomic }

abbrev pub writes_at : Expr → CType → Bool → DataAccess
writes_at e t is_atomic = record { address = e; c_type = t; writes = true; is_atomic = is_atomic }

-- ---- of each action

abbrev pub of_object : AtomicCall → CType
of_object call = plain_type (Atomic call.integer)

-- reads, and writes in its turn
abbrev pub changes : AtomicCall → List DataAccess
changes call = reads_at call.object (of_object call) true ∷ writes_at call.object (of_object call) true ∷ []

-- the object that is compared with is read, and written where they differ
abbrev pub compares : AtomicCall → List DataAccess
compares call = changes call ++ (reads_at call.expected (plain_type (Integer call.integer)) false ∷ writes_at call.expected (plain_type (Integer call.integer)) false ∷ [])

abbrev pub atomic_accesses : AtomicCall → AtomicOperation → List DataAccess
atomic_accesses call atomic.Init = writes_at call.object (of_object call) false ∷ []
atomic_accesses call atomic.Load = reads_at call.object (of_object call) true ∷ []
atomic_accesses call atomic.Store = writes_at call.object (of_object call) true ∷ []
atomic_accesses call atomic.CompareExchangeStrong = compares call
atomic_accesses call atomic.CompareExchangeWeak = compares call
atomic_accesses call _ = changes call

abbrev pub call_accesses : LibraryCall → List DataAccess
call_accesses (lib.ThreadJoin o e) = writes_at e c_int false ∷ []
call_accesses (lib.ThreadSleep e) = reads_at e timespec false ∷ []
call_accesses (lib.TimespecGet e) = writes_at e timespec false ∷ []
call_accesses (lib.MutexTimedLock e t) = reads_at t timespec false ∷ []
call_accesses (lib.ConditionTimedWait e d t) = reads_at t timespec false ∷ []
call_accesses (lib.Atomic call) = atomic_accesses call call.operation
call_accesses _ = []

-- a structure that initialises a part is read
abbrev pub part_accesses : List Part → List DataAccess
part_accesses [] = []
part_accesses (p ∷ parts) = if is_scalar p.c_type then part_accesses parts else reads_at p.value p.c_type false ∷ part_accesses parts

abbrev pub data_accesses : Act → List DataAccess
data_accesses (act.Read e t local) = reads_at e t (is_atomic t) ∷ []
data_accesses (act.Write e t v) = writes_at e t (is_atomic t) ∷ []
data_accesses (act.Update e t op u v) = reads_at e (plain_type (Atomic t)) true ∷ writes_at e (plain_type (Atomic t)) true ∷ []
data_accesses (act.Copy e t f) = reads_at f t false ∷ writes_at e t false ∷ []
data_accesses (act.Fill object parts) = part_accesses parts
data_accesses (act.Library call into) = call_accesses call
data_accesses _ = []

-- ---- regions

-- of integer or pointer type
pub record IsData (program : Program) (place : Place) : Type 0 where
  pub own : CType
  pub has_type : type_of_place program place ≡ Some own
  pub is_data : is_scalar own ≡ true

-- a scalar is accessed wherever its address may lead, at whatever type; a structure at its very type, with all its parts
pub data MayAccess (program : Program) (string : List Spot) (spot : Spot) (access : DataAccess) : Location → Type 0 where
  at_scalar : (place : Place) (location : Location) → is_scalar access.c_type ≡ true → MayPointTo program string spot.rounds access.address place
      → IsData program place → LiesAt program place location → MayAccess program string spot access location
  at_part : (place : Place) (path : List ℕ) (location : Location) → is_scalar access.c_type ≡ false → IsOfType program access.c_type place → MayPointTo program string spot.rounds access.address place
      → IsData program (below path place) → LiesAt program (below path place) location → MayAccess program string spot access location

-- an action, in a call string and its rounds, reads or writes the region
pub record MayTouch (program : Program) (string : List Spot) (spot : Spot) (action : Act) (writes atomically : Bool) (location : Location) : Type 0 where
  pub access : DataAccess
  pub number : ℕ
  pub has : slice_get (data_accesses action) number ≡ Some access
  pub as_write : access.writes ≡ writes
  pub as_atomic : access.is_atomic ≡ atomically
  pub region : MayAccess program string spot access location
