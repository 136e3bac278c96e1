-- The findings of the nineteen guidelines: the table, one row for each kind.
use Rattle.std.specs.Prelude.{◌≡◌, ◌⊎◌, ℕ, ◌<◌, Bool, true, false, List, Option, Some, None}
use Rattle.misra_base.specs.declared.guideline.Guideline.{Guideline}
use Rattle.misra_base.specs.declared.guideline.Guideline.TheVariants.{D5_1, D5_2, D5_3, R15_4, R15_5, R17_7, R17_8, R21_25, R21_26, R22_11, R22_12, R22_13, R22_14, R22_15, R22_16, R22_17, R22_18, R22_19, R22_20}
use Rattle.misra_base.specs.declared.kind.Kind.{Kind}
use Rattle.misra_base.specs.declared.kind.Kind.TheVariants as kinds
use Rattle.misra_base.specs.declared.place.Place.{Place}
use Rattle.c_program.specs.declared.action.Act.{Act}
use Rattle.c_program.specs.declared.program.Storage.TheVariants as storage
use Rattle.c_program.specs.declared.program.Object.{Object}
use Rattle.c_program.specs.declared.program.PlacedName.{PlacedName}
use Rattle.c_program.specs.declared.program.Program.{Program}
use Rattle.c_program.specs.Syntax.{act_at}
use Rattle.c_program.specs.Types.{is_declared}
use Rattle.c_program.specs.Values.{Location}
use Rattle.c_program.specs.Control.{Spot, Point}
use Rattle.c_program.specs.Faults.{Sort, A_mutex, A_condition, A_key, Initialises, Ends_life}
use Rattle.guideline_findings.specs.Ownership.{IsUnlockedUnowned, IsLockedAgain, IsKeptAtEnd, IsDestroyedOwned}
use Rattle.static_facts.specs.Facts.{Facts}
use Rattle.static_facts.specs.Points.{IsReachable}
use Rattle.guideline_findings.specs.Races.{MayRace}
use Rattle.guideline_findings.specs.Graph.{MayBlock}
use Rattle.guideline_findings.specs.Threads.{CreatesOutside, CreatesRepeatedly, ReleasesAgain, ReleasesOutside}
use Rattle.guideline_findings.specs.Lives.{MayBeBefore, MayBeSecond, IsOutside, MayBeDead, MayBeBusy}
use Rattle.guideline_findings.specs.Mutexes.{LocksUntimed, is_wait, WaitsWithSecond}
use Rattle.guideline_findings.specs.Text.{place_of, HasWeakOrder, IsTouch, HoldsLibrary, IsLaterBreak, IsEarlyReturn, IsUnusedCall, ChangesParameter}

-- what a finding names
pub data Subject : Type 0 where
  Nothing_named : Subject
  Named_location : (location : Location) → Subject
  Named : (name : List ℕ) → Subject

abbrev pub unlock_or_wait : Act → Kind
unlock_or_wait action = if_wait (is_wait action)
  where
    if_wait : Bool → Kind
    if_wait true = kinds.Wait
    if_wait false = kinds.Unlock

-- Rules 22.14 and 22.20 share their rows: the one is of mutexes and condition variables, the other of keys
abbrev pub rule_of_sort : Sort → Option Guideline
rule_of_sort A_mutex = Some R22_14
rule_of_sort A_condition = Some R22_14
rule_of_sort A_key = Some R22_20
rule_of_sort _ = None

-- mutexes, condition variables and keys have a life
abbrev pub HasLife : Sort → Type 0
HasLife A_mutex = Unit {0}
HasLife A_condition = Unit {0}
HasLife A_key = Unit {0}
HasLife _ = ⊥

abbrev pub spot_place : Program → Point → Place
spot_place program point = place_of program point.spot.action

-- a guideline's own finding: its place, what it names, its kind, and the place of another access
pub data Found (program : Program) (facts : Facts) : Guideline → Place → Subject → Kind → Option Place → Type 0 where
  race : (s t : List Spot) (p q : Point) (region : Location) → MayRace program facts s p region t q
      → Found program facts D5_1 (spot_place program p) (Named_location region) kinds.Race (Some (spot_place program q))
  cycle : (t : List Spot) (p : Point) (object : Location) → MayBlock program facts t p object
      → Found program facts D5_2 (spot_place program p) (Named_location object) kinds.Cycle None
  creation_outside : (t : List Spot) (p : Point) → CreatesOutside program t p → Found program facts D5_3 (spot_place program p) Nothing_named kinds.Outside None
  creation_repeated : (p : Point) → CreatesRepeatedly program p → Found program facts D5_3 (spot_place program p) Nothing_named kinds.Repeated None
  later_break : (place : Place) → IsLaterBreak program place → Found program facts R15_4 place Nothing_named kinds.Break None
  early_return : (place : Place) → IsEarlyReturn program place → Found program facts R15_5 place Nothing_named kinds.Return None
  unused : (call : PlacedName) → IsUnusedCall program call → Found program facts R17_7 call.place (Named call.name) kinds.Unused None
  parameter : (p : PlacedName) → ChangesParameter program p → Found program facts R17_8 p.place (Named p.name) kinds.Parameter None
  weak_order : (action : ℕ) → HasWeakOrder program action → Found program facts R21_25 (place_of program action) Nothing_named kinds.Order None
  kind : (t : List Spot) (p : Point) (m : Location) → LocksUntimed program facts t p m → Found program facts R21_26 (spot_place program p) (Named_location m) kinds.Kind None
  joined_again : (t : List Spot) (p : Point) (object : Location) → ReleasesAgain program facts t p object
      → Found program facts R22_11 (spot_place program p) (Named_location object) kinds.Again None
  joined_outside : (t : List Spot) (p : Point) (object : Location) → ReleasesOutside program facts.names t p object
      → Found program facts R22_11 (spot_place program p) (Named_location object) kinds.Outside None
  touch : (action : ℕ) → IsTouch program action → Found program facts R22_12 (place_of program action) Nothing_named kinds.Access None
  automatic : (object : Object) → is_declared object ≡ true → HoldsLibrary program storage.Automatic object
      → Found program facts R22_13 object.place (Named object.name) kinds.Automatic None
  thread_storage : (object : Object) → HoldsLibrary program storage.Thread object → Found program facts R22_13 object.place (Named object.name) kinds.Thread None
  before : (rule : Guideline) (sort : Sort) → rule_of_sort sort ≡ Some rule → (t : List Spot) (p : Point) (location : Location) → MayBeBefore program facts t p sort location
      → Found program facts rule (spot_place program p) (Named_location location) kinds.Before None
  second : (rule : Guideline) (sort : Sort) → rule_of_sort sort ≡ Some rule → (t : List Spot) (p : Point) (location : Location) → MayBeSecond program facts t p sort location
      → Found program facts rule (spot_place program p) (Named_location location) kinds.Second None
  made_outside : (rule : Guideline) (sort : Sort) → rule_of_sort sort ≡ Some rule → (t : List Spot) (p : Point) (location : Location)
      → IsOutside program facts.names t p Initialises sort location → Found program facts rule (spot_place program p) (Named_location location) kinds.Outside None
  dead : (sort : Sort) → HasLife sort → (t : List Spot) (p : Point) (location : Location) → MayBeDead program facts t p sort location
      → Found program facts R22_15 (spot_place program p) (Named_location location) kinds.Dead None
  busy : (sort : Sort) → HasLife sort → (p : Point) (location : Location) → MayBeBusy program facts p sort location
      → Found program facts R22_15 (spot_place program p) (Named_location location) kinds.Busy None
  destroyed_outside : (sort : Sort) → HasLife sort → (t : List Spot) (p : Point) (location : Location)
      → IsOutside program facts.names t p Ends_life sort location → Found program facts R22_15 (spot_place program p) (Named_location location) kinds.Outside None
  kept_at_end : (t : List Spot) (p : Point) (m : Location) → IsReachable program t p → IsKeptAtEnd program facts.names t p m
      → Found program facts R22_16 (spot_place program p) (Named_location m) kinds.End None
  destroyed : (t : List Spot) (p : Point) (m : Location) → IsReachable program t p → IsDestroyedOwned program facts.names t p m
      → Found program facts R22_16 (spot_place program p) (Named_location m) kinds.Destroyed None
  given_up : (t : List Spot) (p : Point) (m : Location) → IsReachable program t p → IsUnlockedUnowned program facts.names t p m
      → Found program facts R22_17 (spot_place program p) (Named_location m) (unlock_or_wait (act_at program p.spot.action)) None
  locked_again : (t : List Spot) (p : Point) (m : Location) → IsReachable program t p → IsLockedAgain program facts.names t p m
      → Found program facts R22_18 (spot_place program p) (Named_location m) kinds.Again None
  waited_with_second : (t : List Spot) (p : Point) (c : Location) → WaitsWithSecond program facts t p c
      → Found program facts R22_19 (spot_place program p) (Named_location c) kinds.Second None

-- ---- the dependent findings

-- judged in the text, and with a break of their own
abbrev pub of_text : Guideline → Bool
of_text R21_25 = true
of_text R22_12 = true
of_text R22_13 = true
of_text _ = false

abbrev pub is_semantic : Guideline → Bool
is_semantic R15_4 = false
is_semantic R15_5 = false
is_semantic R17_7 = false
is_semantic R17_8 = false
is_semantic R21_25 = false
is_semantic R22_12 = false
is_semantic R22_13 = false
is_semantic _ = true

abbrev pub IsEarlier : Place → Place → Type 0
IsEarlier a b = (a.line < b.line) ⊎ ((a.line ≡ b.line) × (a.column < b.column))

pub record IsFoundInText (program : Program) (facts : Facts) (place : Place) : Type 0 where
  pub rule : Guideline
  pub judged : of_text rule ≡ true
  pub subject : Subject
  pub kind : Kind
  pub other : Option Place
  pub found : Found program facts rule place subject kind other

pub record IsFirstInText (program : Program) (facts : Facts) (place : Place) : Type 0 where
  pub found : IsFoundInText program facts place
  pub first : (other : Place) → IsFoundInText program facts other → IsEarlier other place → ⊥

-- a finding of the report
pub data Finding (program : Program) (facts : Facts) (guideline : Guideline) : Place → Subject → Kind → Option Place → Type 0 where
  own : (place : Place) (subject : Subject) (kind : Kind) (other : Option Place) → Found program facts guideline place subject kind other
      → Finding program facts guideline place subject kind other
  dependent : (place : Place) → is_semantic guideline ≡ true → IsFirstInText program facts place
      → Finding program facts guideline place Nothing_named kinds.Dependent None

-- the guideline has no finding
abbrev pub IsClean : Program → Facts → Guideline → Type 0
IsClean program facts guideline = (place : Place) (subject : Subject) (kind : Kind) (other : Option Place) → Finding program facts guideline place subject kind other → ⊥
