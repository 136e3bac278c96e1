-- Each place that is named or held is of an object of its storage.
use Rattle.std.proofs.Common.{◌≡◌, refl, sym, subst, ap, ◌∙◌, true, false, ℕ, List, Option, Some, None}
use Rattle.std.specs.Prelude.{option_map, unwrap_or}
use Rattle.c_program.specs.declared.types.CType.{CType}
use Rattle.c_program.specs.declared.expression.Expr.{Expr, Row_of-Step, more_of-Step, end_of-Step}
use Rattle.c_program.specs.declared.expression.Step.{Step}
use Rattle.c_program.specs.declared.program.Storage.{Storage}
use Rattle.c_program.specs.declared.program.Storage.TheVariants as storage
use Rattle.c_program.specs.declared.program.Object.{Object as ObjectOf}
use Rattle.c_program.specs.declared.program.Program.{Program}
use Rattle.c_program.specs.Syntax.{object_at}
use Rattle.c_program.specs.Types.{declared_type, holds_library}
use Rattle.c_program.specs.Values.{Root, Static, Of_thread, Of_frame, Location, location_of}
use Rattle.c_program.specs.Control.{Round, Spot}
use Rattle.c_program.specs.Counters.{storage_of}
use Rattle.c_program.specs.Runs.{state_after}
use Rattle.c_program.specs.WellFormed.{IsWellFormed}
use Rattle.pointer_targets.specs.Places.{Site, Of_all, Of_each_thread, Of_string, Place, site_at, place_of, type_of_place, Goes, itself, to_member, to_element, forward_none, forward_to, back_none, back_to, Leads}
use Rattle.pointer_targets.specs.PointsTo
use Rattle.pointer_targets.specs.PointsTo.{MayPointTo, Holds, Keeps, Results}
use Rattle.pointer_targets.specs.Laws.{NoLocalLibrary, holds_locally, StaticIsLedTo}
use Rattle.pointer_targets.proofs.Libraries.{same_some, any_at, whole_holds, same_type_holds}
use Rattle.pointer_targets.proofs.Candidates.{found}

-- a step stays in its object
goes_in : (program : Program) (rounds : List Round) (from to : Place) (step : Step) → Goes program rounds from step to → from.site ≡ to.site
goes_in program rounds from to step (itself place t) = refl
goes_in program rounds from to step (to_member site path s m own t e) = refl
goes_in program rounds from to step (to_element site path i z k b m) = refl
goes_in program rounds from to step (forward_none place t i z e m) = refl
goes_in program rounds from to step (forward_to site path j t i z k b m) = refl
goes_in program rounds from to step (back_none place t i z e m) = refl
goes_in program rounds from to step (back_to site path j t i z k b m) = refl

leads_in : {n : _} (program : Program) (rounds : List Round) (from to : Place) (steps : Row_of-Step n) → Leads program rounds from steps to → from.site ≡ to.site
leads_in program rounds from to end_of-Step l = ap (λ (p : Place). p.site) l
leads_in program rounds from to (more_of-Step step steps) l = goes_in program rounds from l.0 step l.1 ∙ leads_in program rounds l.0 to steps l.2

-- the storage of the object
abbrev pub Fits : Program → Site → Type 0
Fits program (Of_all n) = storage_of program n ≡ storage.Static
Fits program (Of_each_thread n) = storage_of program n ≡ storage.Thread
Fits program (Of_string string n) = storage_of program n ≡ storage.Automatic

module _ (program : Program) where
  object_fits : (string : List Spot) (s : Storage) (n : ℕ) → storage_of program n ≡ s → Fits program (site_at string s n)
  object_fits string storage.Static n e = e
  object_fits string storage.Thread n e = e
  object_fits string storage.Automatic n e = e

  abbrev F : Place → Type 0
  F place = Fits program place.site

  mutual
    pub named_fits : (string : List Spot) (rounds : List Round) (e : Expr) (target : Place) → MayPointTo program string rounds e target → F target
    named_fits string rounds e target (PointsTo.object s r n) = object_fits string _ n refl
    named_fits string rounds e target (PointsTo.local s r n path t h) = held_fits _ _ h
    named_fits string rounds e target (PointsTo.along s r x d y steps from to n l) = subst (Fits program) (leads_in program rounds from target steps l) (named_fits _ _ _ _ n)
    named_fits string rounds e target (PointsTo.alone s r x d y links t h n) = named_fits _ _ _ _ n
    named_fits string rounds e target (PointsTo.first s r c a b t n) = named_fits _ _ _ _ n
    named_fits string rounds e target (PointsTo.second s r c a b t n) = named_fits _ _ _ _ n

    pub held_fits : (holder target : Place) → Holds program holder target → F target
    held_fits holder target (PointsTo.initial site path i part t g e n) = named_fits _ _ _ _ n
    held_fits holder target (PointsTo.written string spot e v t h to s n m) = named_fits _ _ _ _ m
    held_fits holder target (PointsTo.assigned string spot local e t s n) = named_fits _ _ _ _ n
    held_fits holder target (PointsTo.read string spot e t local from to s c n h) = held_fits _ _ h
    held_fits holder target (PointsTo.read_whole string spot e t local from to path s c i n h) = held_fits _ _ h
    held_fits holder target (PointsTo.copied string spot e f t to from target' path s i j n m h) = held_fits _ _ h
    held_fits holder target (PointsTo.filled string spot n i parts part path t s g e c m) = named_fits _ _ _ _ m
    held_fits holder target (PointsTo.filled_whole string spot n i parts part inner path from t s g e c j m h) = held_fits _ _ h
    held_fits holder target (PointsTo.taken string spot e t local from to path s i n h) = held_fits _ _ h
    held_fits holder target (PointsTo.given string spot e t local to target' path s i n h) = held_fits _ _ h
    held_fits holder target (PointsTo.stored string spot call into h t s o n m) = named_fits _ _ _ _ m
    held_fits holder target (PointsTo.loaded string spot call into from t s o n h) = held_fits _ _ h
    held_fits holder target (PointsTo.passed string spot f i p arguments argument into t s a b n) = named_fits _ _ _ _ n
    held_fits holder target (PointsTo.handed string spot f p o argument into t s a n) = named_fits _ _ _ _ n
    held_fits holder target (PointsTo.returned thread string call spot f arguments into e t r c n) = named_fits _ _ _ _ n
    held_fits holder target (PointsTo.joined string spot o e into h t s n r) = result_fits _ r
    held_fits holder target (PointsTo.got string spot k into key t s n h) = kept_fits _ _ h

    pub kept_fits : (key target : Place) → Keeps program key target → F target
    kept_fits key target (PointsTo.set string spot k v into own t s n m) = named_fits _ _ _ _ m

    pub result_fits : (target : Place) → Results program target → F target
    result_fits target (PointsTo.exited string spot e into t s n) = named_fits _ _ _ _ n
    result_fits target (PointsTo.ended thread spot e t r n) = named_fits _ _ _ _ n

-- ---- where no library object is local, each one that is led to is static

module _ (program : Program) (well : IsWellFormed program) (none : NoLocalLibrary program) where
  local_held : (n : ℕ) (object : ObjectOf) → object_at program n ≡ Some object → holds_locally program object ≡ true → ⊥
  local_held n object q h = let e : true ≡ false = sym (any_at program well (holds_locally program) program.objects n object q h) ∙ none in cc

  IsLocal : Storage → Type 0
  IsLocal storage.Static = ⊥
  IsLocal _ = Unit {0}

  -- an object of the storage is not one that holds a library object
  not_held : (n : ℕ) (s : Storage) → storage_of program n ≡ s → IsLocal s → (whole : CType) → declared_type program n ≡ Some whole → holds_library program whole ≡ true → ⊥
  unfolding IsLocal
  not_held n s e l whole d h = go (object_at program n) refl e d
    where
      locally : (object : ObjectOf) (s : Storage) → object.storage ≡ s → IsLocal s → holds_library program object.c_type ≡ true → holds_locally program object ≡ true
      locally object storage.Static e l h = absurd l
      locally object storage.Thread e l h = told e h
        where
          told : object.storage ≡ storage.Thread → holds_library program object.c_type ≡ true → holds_locally program object ≡ true
          told e h = cc
      locally object storage.Automatic e l h = told e h
        where
          told : object.storage ≡ storage.Automatic → holds_library program object.c_type ≡ true → holds_locally program object ≡ true
          told e h = cc

      go : (o : Option ObjectOf) → object_at program n ≡ o → unwrap_or (option_map (λ (x : ObjectOf). x.storage) o) storage.Static ≡ s → option_map (λ (x : ObjectOf). x.c_type) o ≡ Some whole → ⊥
      go None q e d = absurd (cc)
      go (Some object) q e d = local_held n object q (locally object s e l (subst (λ (x : CType). holds_library program x ≡ true) (sym (same_some object.c_type whole d)) h))

  pub static_is_led : (t : CType) → holds_library program t ≡ true → (root : Root) (path : List ℕ) (strings : ℕ → List Spot) → Fits program (place_of strings (record { root = root; path = path })).site
      → (own : CType) → type_of_place program (place_of strings (record { root = root; path = path })) ≡ Some own → holds_library program own ≡ true
      → (location : Location) × (location_of program (record { root = root; path = path }) ≡ Some location)
  unfolding IsLocal
  static_is_led t k (Static n) path strings f own e h = (_, refl)
  static_is_led t k (Of_thread u n) path strings f own e h = let w = whole_holds program well (declared_type program n) path own e h in absurd (not_held n storage.Thread f tt w.0 w.1.0 w.1.1)
  static_is_led t k (Of_frame u n) path strings f own e h = let w = whole_holds program well (declared_type program n) path own e h in absurd (not_held n storage.Automatic f tt w.0 w.1.0 w.1.1)

pub static_led : (program : Program) → IsWellFormed program → StaticIsLedTo program
static_led program well none t h run thread point argument object good lead =
    let f = found program well t run good thread point argument object lead in
    static_is_led program well none t h object.root object.path (state_after program run).string
    (named_fits program point.string point.spot.rounds f.0.expression (place_of (state_after program run).string object) f.0.names)
    f.1.0 f.1.1.0 (same_type_holds program well t f.1.0 f.1.1.1 h)
