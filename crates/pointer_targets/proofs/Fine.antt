-- What is asked for and stored fits points-to.
use Rattle.std.proofs.Common.{◌≡◌, ℕ, List, [], ◌∷◌, Option, Some, None}
use Rattle.c_program.specs.declared.expression.Expr.{Expr}
use Rattle.c_program.specs.declared.action.Local.{Local}
use Rattle.c_program.specs.declared.action.LibraryCall.TheVariants as lib
use Rattle.c_program.specs.declared.action.Act.TheVariants as act
use Rattle.c_program.specs.declared.program.Program.{Program}
use Rattle.c_program.specs.Syntax.{act_at, parameters_at}
use Rattle.c_program.specs.Values.{Root, Cell, Value}
use Rattle.c_program.specs.Control.{Spot}
use Rattle.c_program.specs.Requests.{Store, Sets, Copies, Request, Creates, Joins, Sets_key, Gets_key, Turn, Goes, Enters, Leaves, Exits, Ask}
use Rattle.pointer_targets.specs.Places.{Place, own_place, below, place_of}
use Rattle.pointer_targets.specs.PointsTo.{Stands, MayPointTo, Holds, Keeps, Results}
use Rattle.pointer_targets.proofs.Values.{OnAddress, OnOption}

module _ (program : Program) (strings : ℕ → List Spot) (B : Root → Type 0) where
  -- the first may hold the address of the second
  abbrev pub Points : Cell → Cell → Type 0
  Points holder cell = B holder.root × B cell.root × Holds program (place_of strings holder) (place_of strings cell)

  -- the second gets what the first has
  abbrev pub Copied : Cell → Cell → Type 0
  Copied to from = B to.root × B from.root
      × ((path : List ℕ) (target : Place) → Holds program (below path (place_of strings from)) target → Holds program (below path (place_of strings to)) target)

  abbrev pub StoreFine : Store → Type 0
  StoreFine (Sets to v a) = OnAddress (Points to) v
  StoreFine (Copies to from) = Copied to from
  StoreFine _ = Unit {0}

  abbrev pub EachFine : List Store → Type 0
  EachFine [] = Unit {0}
  EachFine (store ∷ stores) = StoreFine store × EachFine stores

  abbrev pub KeptFine : Cell → Cell → Type 0
  KeptFine key cell = B key.root × B cell.root × Keeps program (place_of strings key) (place_of strings cell)

  abbrev pub ResultFine : Cell → Type 0
  ResultFine cell = B cell.root × Results program (place_of strings cell)

  -- ---- what is asked for, at a spot of a call string

  module _ (string : List Spot) (spot : Spot) where
    abbrev pub IntoFine : Option Local → Place → Type 0
    IntoFine None target = Unit {0}
    IntoFine (Some local) target = Holds program (own_place string local.object local.path) target

    abbrev pub Given : Option Local → Cell → Type 0
    Given into cell = B cell.root × IntoFine into (place_of strings cell)

    -- the parameter of what is called, or of the thread that is made
    abbrev pub Passed : ℕ → Cell → Type 0
    Passed p cell = B cell.root × Holds program (own_place (spot ∷ string) p []) (place_of strings cell)

    abbrev pub BoundFine : List ℕ → List Value → Type 0
    BoundFine (p ∷ ps) (v ∷ vs) = OnAddress (Passed p) v × BoundFine ps vs
    BoundFine _ _ = Unit {0}

    -- it is the argument of a creation
    abbrev pub Handed : Cell → Type 0
    Handed cell = (o : Expr) × ((argument : Expr) × ((function : ℕ) × ((into : Option Local) × (Stands program string spot (act.Library (lib.ThreadCreate o function argument) into)
        × MayPointTo program string spot.rounds argument (place_of strings cell)))))

    abbrev pub RequestFine : Option Local → Turn → Request → Type 0
    RequestFine into turn (Creates object function v result) = (turn ≡ Goes) × BoundFine (parameters_at program function) (v ∷ []) × OnAddress Handed v
    RequestFine into turn (Joins object None) = Unit {0}
    RequestFine into turn (Joins object (Some cell)) = B cell.root × ((target : Place) → Results program target → Holds program (place_of strings cell) target)
    RequestFine into turn (Sets_key k v) = OnAddress (KeptFine k) v
    RequestFine into turn (Gets_key k) = (target : Place) → Keeps program (place_of strings k) target → IntoFine into target
    RequestFine into turn _ = Unit {0}

    -- a call whose result goes to the local
    abbrev pub CallsInto : Local → Type 0
    CallsInto local = (function : ℕ) × ((arguments : List Expr) × (act_at program spot.action ≡ act.Call function arguments (Some local)))

    abbrev pub Leaving : Cell → Type 0
    Leaving cell = B cell.root × ((e : Expr) × ((act_at program spot.action ≡ act.Return (Some e)) × MayPointTo program string spot.rounds e (place_of strings cell)))

    abbrev pub TurnFine : Turn → Type 0
    TurnFine Goes = Unit {0}
    TurnFine (Enters function arguments into) = BoundFine (parameters_at program function) arguments × ((local : Local) → into ≡ Some local → CallsInto local)
    TurnFine (Leaves result) = OnOption Leaving result
    TurnFine (Exits result) = OnOption ResultFine result

    pub record AskFine (ask : Ask) : Type 0 where
      pub stores : EachFine ask.stores
      pub result : OnOption (Given ask.into) ask.result
      pub request : RequestFine ask.into ask.turn ask.request
      pub turn : TurnFine ask.turn
