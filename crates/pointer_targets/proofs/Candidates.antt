-- What arguments lead to is among their candidates.
use Rattle.std.proofs.Common.{◌≡◌, refl, sym, subst, ap, ◌∙◌, true, ◌&&◌, ℕ, ◌<◌, List, [], ◌++◌, Option, Some, None}
use Rattle.c_program.specs.declared.types.CType.{CType}
use Rattle.c_program.specs.declared.expression.Expr.{Expr}
use Rattle.c_program.specs.declared.program.Program.{Program}
use Rattle.c_program.specs.Types.{same_base, same_pointers, same_type, same_numbers}
use Rattle.c_program.specs.Values.{Cell, Address, Location, location_of}
use Rattle.c_program.specs.Control.{Control, Spot, Point, spot_in, string_of, rounds_of}
use Rattle.c_program.specs.Evaluation.{root_of, eval, place_at}
use Rattle.c_program.specs.State.{State, Running, Stand, Frame, top, frames_of, here}
use Rattle.c_program.specs.Faults.{Sort, A_mutex, A_condition, A_key, A_thread}
use Rattle.c_program.specs.Step.{Choice}
use Rattle.c_program.specs.Runs.{IsGoodRun, state_after}
use Rattle.c_program.specs.WellFormed.{IsWellFormed}
use Rattle.c_program.specs.Paths.{IsPoint}
use Rattle.c_program.proofs.Cells.{and_true, numbers_same}
use Rattle.pointer_targets.specs.Places.{Place, place_of}
use Rattle.pointer_targets.specs.PointsTo.{MayPointTo, IsOfType}
use Rattle.pointer_targets.specs.Candidates.{MayMean, MayName, IsCandidateOfType, IsExact, NamesAreSound}
use Rattle.pointer_targets.specs.Laws.{EachAddressIsAllowed, EachKeyIsAllowed, EachResultIsAllowed, EachNameIsAllowed, WhatIsLedToIsACandidate, ExactIsLedTo, WhatIsLedToIsNamed, WhatIsExactIsLedTo}
use Rattle.pointer_targets.specs.LibraryObjects.{LeadsToObject, type_of_sort}
use Rattle.pointer_targets.specs.Names.{Names}
use Rattle.pointer_targets.proofs.Values.{IsBelow, OnAddress, OnOption, below_here, location_same}
use Rattle.pointer_targets.proofs.Evaluated.{Named, evaluated}
use Rattle.pointer_targets.proofs.Fine.{Points, KeptFine}
use Rattle.pointer_targets.proofs.Changes.{KeyFine, StandFine}
use Rattle.pointer_targets.proofs.Asked.{place_is_named, place_typed}
use Rattle.pointer_targets.proofs.Holding.{Holding, below_top, here_string, here_point, here_constant, here_memory}
use Rattle.pointer_targets.proofs.Opening.{holding_run}

no_sizes : (t own : CType) → t.sizes ≡ [] → same_type t own ≡ true → own.sizes ≡ []
no_sizes t own n e = sym (numbers_same t.sizes own.sizes (and_true (same_base t.base own.base && same_pointers t.is_const own.is_const t.pointers own.pointers) (same_numbers t.sizes own.sizes) e).1) ∙ n

no_array : (sort : Sort) → (type_of_sort sort).sizes ≡ []
no_array A_mutex = refl
no_array A_condition = refl
no_array A_key = refl
no_array A_thread = refl

-- ---- what is held

module _ (program : Program) (well : IsWellFormed program) where
  pub cells_allowed : EachAddressIsAllowed program
  cells_allowed run good cell to e = (subst (OnOption (Points program (state_after program run).string (IsBelow (state_after program run).called) cell)) e ((holding_run program well run good).cells cell)).2

  pub keys_allowed : EachKeyIsAllowed program
  keys_allowed run good key to pointers thread k e =
      (subst (OnAddress (KeptFine program (state_after program run).string (IsBelow (state_after program run).called) key)) e
      ((subst (KeyFine program (state_after program run).string (IsBelow (state_after program run).called) key) k ((holding_run program well run good).keys key)) thread)).2

  pub results_allowed : EachResultIsAllowed program
  results_allowed run good thread to e = (subst (StandFine program (state_after program run).string (IsBelow (state_after program run).called)) e ((holding_run program well run good).results thread)).1

  -- ---- what is named

  module _ (run : List Choice) (good : IsGoodRun program run) (t : ℕ) (control : Control) (frames : List Frame) (inside : Option Cell)
      (stands : ((state_after program run).thread t).stand ≡ Running control frames inside) where
    abbrev state : State
    state = state_after program run

    holding : Holding program state
    holding = holding_run program well run good

    own_string : state.string (top (frames_of (state.thread t).stand)) ≡ string_of control ++ (state.thread t).origin
    own_string = ap (λ (s : Stand). state.string (top (frames_of s))) stands ∙ here_string program well run good holding t control frames inside stands

    roots : (n : ℕ) → IsBelow state.called (root_of (here program state t) n)
    roots n = below_here state.called (here program state t) n (subst (λ (s : Stand). top (frames_of s) < state.called) (sym stands) (below_top program well run good holding t control frames inside stands))

    here_named : (e : Expr) → OnOption (Named program state.string (IsBelow state.called) (rounds_of control) (here program state t) refl roots e) (eval (here program state t) e)
    here_named e = evaluated program state.string (IsBelow state.called) (rounds_of control) (here program state t) refl roots
        (here_constant program well run good holding t control frames inside stands) (here_memory program well run good holding t control frames inside stands) e

    abbrev At : Cell → List Spot → Expr → Type 0
    At cell string e = MayPointTo program string (rounds_of control) e (place_of state.string cell)

    pub name_is : (e : Expr) (to : Cell) → eval (here program state t) e ≡ Some (Address to) → At to (string_of control ++ (state.thread t).origin) e
    name_is e to q = subst (λ string. At to string e) own_string
        (subst (OnOption (Named program state.string (IsBelow state.called) (rounds_of control) (here program state t) refl roots e)) q (here_named e)).1

    -- what an argument leads to
    pub led_is : (e : Expr) (type : CType) (to : Cell) → place_at (here program state t) type e ≡ Some to
        → At to (string_of control ++ (state.thread t).origin) e × IsOfType program type (place_of state.string to)
    led_is e type to q = (
      subst (λ string. At to string e) own_string (place_is_named program state.string (IsBelow state.called) (here program state t) refl roots (own_spot 0)
          (here_constant program well run good holding t control frames inside stands) (here_memory program well run good holding t control frames inside stands) e type to q).1,
      place_typed program state.string (IsBelow state.called) (here program state t) refl roots (own_spot 0)
          (here_constant program well run good holding t control frames inside stands) (here_memory program well run good holding t control frames inside stands) e type to q,
    )
      where
        own_spot : ℕ → Spot
        own_spot n = record { action = n; rounds = rounds_of control }

  pub names_allowed : EachNameIsAllowed program
  names_allowed run good t control frames inside stands e to q = name_is run good t control frames inside stands e to q

  -- ---- candidates

  -- a candidate of a type that is no array may be named
  may_be_named : (type : CType) (point : Point) (argument : ℕ) (location : Location) → type.sizes ≡ [] → IsCandidateOfType program type point argument location → MayName program point argument location
  may_be_named type point argument location n c = record {
    place = c.place;
    means = c.means;
    no_array = record { own = c.of_type.0; has_type = c.of_type.1.0; no_sizes = no_sizes type c.of_type.0 n c.of_type.1.1 };
    at = c.at;
  }

  module _ (type : CType) (run : List Choice) (good : IsGoodRun program run) (t : ℕ) (point : Point) (argument : ℕ) (object : Cell) (lead : LeadsToObject program type run t point argument object) where
    abbrev P : Place
    P = place_of (state_after program run).string object

    pub found : MayMean program point argument P × IsOfType program type P
    found = subst (λ (p : Point). MayMean program p argument P × IsOfType program type P) lead.here_is (
      record {
        expression = lead.expression;
        is = record { call = lead.call; into = lead.into; is_call = lead.is_call; has = lead.has };
        names = both.0;
      },
      both.1,
    )
      where
        both : MayPointTo program (string_of lead.control ++ ((state_after program run).thread t).origin) (rounds_of lead.control) lead.expression P × IsOfType program type P
        both = led_is run good t lead.control lead.frames None lead.stands lead.expression type object lead.leads

    pub is_point_there : IsPoint program ((state_after program run).thread t).origin point
    is_point_there = subst (IsPoint program ((state_after program run).thread t).origin) lead.here_is
        (subst (λ string. IsPoint program ((state_after program run).thread t).origin (record { string = string; spot = spot_in lead.control lead.move.action }))
        (here_string program well run good (holding_run program well run good) t lead.control lead.frames None lead.stands)
        (here_point program well run good (holding_run program well run good) t lead.control lead.frames None lead.stands lead.move lead.offers))

    pub candidate : (location : Location) → location_of program object ≡ Some location → IsCandidateOfType program type point argument location
    candidate location e = record { place = P; means = found.0; of_type = found.1; at = location_same program (state_after program run).string object ∙ e }

    -- an object of a type without sizes is no array
    pub exactly : (location : Location) → type.sizes ≡ [] → IsExact program point argument location → location_of program object ≡ Some location
    exactly location n x = sym (location_same program (state_after program run).string object)
        ∙ x.alone P found.0 (record { own = found.1.0; has_type = found.1.1.0; no_sizes = no_sizes type found.1.0 n found.1.1.1 })

  pub candidates_allowed : WhatIsLedToIsACandidate program
  candidates_allowed type run t point argument object location good lead e = candidate type run good t point argument object lead location e

  pub exact_is_led : ExactIsLedTo program
  exact_is_led type run t point argument object location good n lead x = exactly type run good t point argument object lead location n x

  -- ---- by tests

  pub named : WhatIsLedToIsNamed program
  named names sound run t point sort argument object location good lead e = sound.may_name ((state_after program run).thread t).origin point argument location
      (is_point_there (type_of_sort sort) run good t point argument object lead)
      (may_be_named (type_of_sort sort) point argument location (no_array sort) (candidate (type_of_sort sort) run good t point argument object lead location e))

  pub exactly_named : WhatIsExactIsLedTo program
  exactly_named names sound run t point sort argument object location good lead e = exactly (type_of_sort sort) run good t point argument object lead location (no_array sort)
      (sound.is_exact ((state_after program run).thread t).origin point argument location (is_point_there (type_of_sort sort) run good t point argument object lead) e)
