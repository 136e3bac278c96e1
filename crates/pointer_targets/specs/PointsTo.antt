-- What an expression may name, and what an object may hold: finite chains of initial values, assignments, bindings of
-- parameters, results and key stores, each in its call string. The order of statements does not count.
use Rattle.std.specs.Prelude.{◌≡◌, ℕ, Bool, true, false, List, [], ◌∷◌, Option, Some, slice_get}
use Rattle.c_program.specs.declared.types.CType.{CType}
use Rattle.c_program.specs.declared.expression.Expr.{Expr, Object, Local, Path', Chain', more_of-Expr, end_of-Expr, Row_of-Step, Row_of-Link, more_of-Link, end_of-Link}
use Rattle.c_program.specs.declared.action.Local.{Local as LocalOf}
use Rattle.c_program.specs.declared.action.Part.{Part}
use Rattle.c_program.specs.declared.action.AtomicCall.{AtomicCall}
use Rattle.c_program.specs.declared.action.AtomicOperation.{AtomicOperation}
use Rattle.c_program.specs.declared.action.AtomicOperation.TheVariants as atomic
use Rattle.c_program.specs.declared.action.LibraryCall.TheVariants as lib
use Rattle.c_program.specs.declared.action.Touched.TheVariants as touched
use Rattle.c_program.specs.declared.action.Act.{Act}
use Rattle.c_program.specs.declared.action.Act.TheVariants as act
use Rattle.c_program.specs.declared.program.Initial.{Initial}
use Rattle.c_program.specs.declared.program.Program.{Program}
use Rattle.c_program.specs.Syntax.{Choose, act_at, parameters_at}
use Rattle.c_program.specs.Types.{is_scalar, same_type, declared_type}
use Rattle.c_program.specs.Values.{steps_of}
use Rattle.c_program.specs.Control.{Round, Spot}
use Rattle.c_program.specs.State.{initial_of}
use Rattle.c_program.specs.Paths.{IsPoint}
use Rattle.pointer_targets.specs.Places.{Site, Place, object_in, place_in, type_of_place, own_place, below, Leads}

-- an action at a point of the program, in dead code too
pub record Stands (program : Program) (string : List Spot) (spot : Spot) (action : Act) : Type 0 where
  pub thread : List Spot
  pub point : IsPoint program thread (record { string = string; spot = spot })
  pub is : act_at program spot.action ≡ action

-- what stands last in the function of a call string: the result
pub record Returns (program : Program) (thread string : List Spot) (spot : Spot) (e : Expr) : Type 0 where
  pub point : IsPoint program thread (record { string = string; spot = spot })
  pub is : act_at program spot.action ≡ act.Return (Some e)

-- what an atomic operation stores is its operand
abbrev pub sets : AtomicOperation → Bool
sets atomic.Init = true
sets atomic.Store = true
sets _ = false

-- a structure is accessed at its very type
abbrev pub IsOfType : Program → CType → Place → Type 0
IsOfType program t place = (own : CType) × ((type_of_place program place ≡ Some own) × (same_type t own ≡ true))

-- parts of an object that are one location
abbrev pub SameSteps : Program → ℕ → List ℕ → List ℕ → Type 0
SameSteps program object path other = steps_of program (declared_type program object) path ≡ steps_of program (declared_type program object) other

abbrev pub has_links : {n : _} → Row_of-Link n → Bool
has_links end_of-Link = false
has_links (more_of-Link op t x row links) = true

mutual
  -- the expression, in a call string and in the turns of the counted loops round it, may have the address of the place
  pub data MayPointTo (program : Program) : List Spot → List Round → Expr → Place → Type 0 where
    object : (string : List Spot) (rounds : List Round) (n : ℕ) → MayPointTo program string rounds (Object n) (place_in program string n [])
    local : (string : List Spot) (rounds : List Round) (n : ℕ) (path : List ℕ) (target : Place) → Holds program (place_in program string n path) target → MayPointTo program string rounds (Local n path) target
    along : (string : List Spot) (rounds : List Round) (x : _) (e : Expr) (y : _) (steps : Row_of-Step _) (from to : Place) → MayPointTo program string rounds e from → Leads program rounds from steps to
        → MayPointTo program string rounds (Path' x (more_of-Expr e end_of-Expr) y steps) to
    -- a chain without operators is its first operand
    alone : (string : List Spot) (rounds : List Round) (x : _) (e : Expr) (y : _) (links : Row_of-Link _) (target : Place) → has_links links ≡ false → MayPointTo program string rounds e target
        → MayPointTo program string rounds (Chain' x (more_of-Expr e end_of-Expr) y links) target
    first : (string : List Spot) (rounds : List Round) (c a b : Expr) (target : Place) → MayPointTo program string rounds a target → MayPointTo program string rounds (Choose c a b) target
    second : (string : List Spot) (rounds : List Round) (c a b : Expr) (target : Place) → MayPointTo program string rounds b target → MayPointTo program string rounds (Choose c a b) target

  -- the object at the first place may hold the address of the second
  pub data Holds (program : Program) : Place → Place → Type 0 where
    initial : (site : Site) (path : List ℕ) (i : ℕ) (part : Initial) (target : Place) → slice_get (initial_of program (object_in site)) i ≡ Some part
        → SameSteps program (object_in site) path part.path → MayPointTo program [] [] part.value target → Holds program (record { site = site; path = path }) target
    -- assignments
    written : (string : List Spot) (spot : Spot) (e v : Expr) (t : CType) (holder target : Place) → Stands program string spot (act.Write e t v)
        → MayPointTo program string spot.rounds e holder → MayPointTo program string spot.rounds v target → Holds program holder target
    assigned : (string : List Spot) (spot : Spot) (local : LocalOf) (e : Expr) (target : Place) → Stands program string spot (act.Assign local e)
        → MayPointTo program string spot.rounds e target → Holds program (own_place string local.object local.path) target
    read : (string : List Spot) (spot : Spot) (e : Expr) (t : CType) (local : LocalOf) (from target : Place) → Stands program string spot (act.Read e t local) → is_scalar t ≡ true
        → MayPointTo program string spot.rounds e from → Holds program from target → Holds program (own_place string local.object local.path) target
    -- of a structure one for each member
    read_whole : (string : List Spot) (spot : Spot) (e : Expr) (t : CType) (local : LocalOf) (from target : Place) (path : List ℕ) → Stands program string spot (act.Read e t local) → is_scalar t ≡ false → IsOfType program t from
        → MayPointTo program string spot.rounds e from → Holds program (below path from) target → Holds program (below path (place_in program string local.object local.path)) target
    copied : (string : List Spot) (spot : Spot) (e f : Expr) (t : CType) (to from target : Place) (path : List ℕ) → Stands program string spot (act.Copy e t f) → IsOfType program t to → IsOfType program t from
        → MayPointTo program string spot.rounds e to → MayPointTo program string spot.rounds f from → Holds program (below path from) target → Holds program (below path to) target
    filled : (string : List Spot) (spot : Spot) (n i : ℕ) (parts : List Part) (part : Part) (path : List ℕ) (target : Place) → Stands program string spot (act.Fill n parts)
        → slice_get parts i ≡ Some part → SameSteps program n path part.path → is_scalar part.c_type ≡ true
        → MayPointTo program string spot.rounds part.value target → Holds program (place_in program string n path) target
    filled_whole : (string : List Spot) (spot : Spot) (n i : ℕ) (parts : List Part) (part : Part) (inner path : List ℕ) (from target : Place) → Stands program string spot (act.Fill n parts)
        → slice_get parts i ≡ Some part → SameSteps program n path part.path → is_scalar part.c_type ≡ false → IsOfType program part.c_type from
        → MayPointTo program string spot.rounds part.value from → Holds program (below inner from) target → Holds program (below inner (place_in program string n path)) target
    -- a structure that holds a library object is copied with its pointers
    taken : (string : List Spot) (spot : Spot) (e : Expr) (t : CType) (local : LocalOf) (from target : Place) (path : List ℕ) → Stands program string spot (act.Touch e t (touched.Read local)) → IsOfType program t from
        → MayPointTo program string spot.rounds e from → Holds program (below path from) target → Holds program (below path (own_place string local.object local.path)) target
    given : (string : List Spot) (spot : Spot) (e : Expr) (t : CType) (local : LocalOf) (to target : Place) (path : List ℕ) → Stands program string spot (act.Touch e t (touched.Write local)) → IsOfType program t to
        → MayPointTo program string spot.rounds e to → Holds program (below path (own_place string local.object local.path)) target → Holds program (below path to) target
    stored : (string : List Spot) (spot : Spot) (call : AtomicCall) (into : Option LocalOf) (holder target : Place) → Stands program string spot (act.Library (lib.Atomic call) into) → sets call.operation ≡ true
        → MayPointTo program string spot.rounds call.object holder → MayPointTo program string spot.rounds call.operand target → Holds program holder target
    loaded : (string : List Spot) (spot : Spot) (call : AtomicCall) (into : LocalOf) (from target : Place) → Stands program string spot (act.Library (lib.Atomic call) (Some into)) → call.operation ≡ atomic.Load
        → MayPointTo program string spot.rounds call.object from → Holds program from target → Holds program (own_place string into.object into.path) target
    -- parameters: of a call, and of the function of a created thread
    passed : (string : List Spot) (spot : Spot) (f i p : ℕ) (arguments : List Expr) (argument : Expr) (into : Option LocalOf) (target : Place) → Stands program string spot (act.Call f arguments into)
        → slice_get (parameters_at program f) i ≡ Some p → slice_get arguments i ≡ Some argument
        → MayPointTo program string spot.rounds argument target → Holds program (own_place (spot ∷ string) p []) target
    handed : (string : List Spot) (spot : Spot) (f p : ℕ) (o argument : Expr) (into : Option LocalOf) (target : Place) → Stands program string spot (act.Library (lib.ThreadCreate o f argument) into)
        → slice_get (parameters_at program f) 0 ≡ Some p
        → MayPointTo program string spot.rounds argument target → Holds program (own_place (spot ∷ string) p []) target
    -- results: of a call, of a thread at a join
    returned : (thread string : List Spot) (call spot : Spot) (f : ℕ) (arguments : List Expr) (into : LocalOf) (e : Expr) (target : Place) → Returns program thread (call ∷ string) spot e
        → act_at program call.action ≡ act.Call f arguments (Some into)
        → MayPointTo program (call ∷ string) spot.rounds e target → Holds program (own_place string into.object into.path) target
    joined : (string : List Spot) (spot : Spot) (o e : Expr) (into : Option LocalOf) (holder target : Place) → Stands program string spot (act.Library (lib.ThreadJoin o e) into)
        → MayPointTo program string spot.rounds e holder → Results program target → Holds program holder target
    -- keys
    got : (string : List Spot) (spot : Spot) (k : Expr) (into : LocalOf) (key target : Place) → Stands program string spot (act.Library (lib.KeyGet k) (Some into))
        → MayPointTo program string spot.rounds k key → Keeps program key target → Holds program (own_place string into.object into.path) target

  -- a key may have the address for some thread
  pub data Keeps (program : Program) : Place → Place → Type 0 where
    set : (string : List Spot) (spot : Spot) (k v : Expr) (into : Option LocalOf) (key target : Place) → Stands program string spot (act.Library (lib.KeySet k v) into)
        → MayPointTo program string spot.rounds k key → MayPointTo program string spot.rounds v target → Keeps program key target

  -- a thread may end with the address
  pub data Results (program : Program) : Place → Type 0 where
    exited : (string : List Spot) (spot : Spot) (e : Expr) (into : Option LocalOf) (target : Place) → Stands program string spot (act.Library (lib.ThreadExit e) into)
        → MayPointTo program string spot.rounds e target → Results program target
    ended : (thread : List Spot) (spot : Spot) (e : Expr) (target : Place) → Returns program thread thread spot e → MayPointTo program thread spot.rounds e target → Results program target
