-- What the calls of the locked text name, and what its writes access.
use Rattle.std.proofs.Common.{◌≡◌, refl, sym, subst, ap, ◌∙◌, Bool, true, false, ◌&&◌, ◌==◌, ℕ, zero, suc, List, [], ◌∷◌, Option, Some, None, eqb-true}
use Rattle.std.specs.Prelude.{slice_get}
use Rattle.c_program.specs.declared.types.CType.{CType}
use Rattle.c_program.specs.declared.expression.Expr.{Expr, Object}
use Rattle.c_program.specs.declared.action.LibraryCall.{LibraryCall}
use Rattle.c_program.specs.declared.action.LibraryCall.TheVariants as lib
use Rattle.c_program.specs.declared.action.Act.{Act}
use Rattle.c_program.specs.declared.action.Act.TheVariants.{Library}
use Rattle.c_program.specs.Syntax.{act_at}
use Rattle.c_program.specs.Values.{Location}
use Rattle.c_program.specs.Control.{Round, Spot, Point}
use Rattle.c_program.specs.Counters.{arguments_of}
use Rattle.c_program.specs.Paths.{IsPoint}
use Rattle.c_program.specs.Requests.{mutex_type, thread_type}
use Rattle.c_program.proofs.Cells.{and_true}
use Rattle.pointer_targets.specs.Places.{Place, place_in, type_of_place}
use Rattle.pointer_targets.specs.PointsTo
use Rattle.pointer_targets.specs.PointsTo.{MayPointTo}
use Rattle.pointer_targets.specs.Candidates.{MayMean, MayName, IsExact, LiesAt, NamesAreExact}
use Rattle.pointer_targets.specs.Tellings.{Tells}
use Rattle.litmus.specs.Pieces.{m, t, w, null, plain_kind}
use Rattle.silence_samples.specs.Samples.{static}
use Rattle.silence_samples.specs.Locked.{locked_writes, locked_facts, is_whole, is_object}
use Rattle.silence_samples.proofs.LockedPoints.{at, worker, true_false, false_true, none_some, same_some, point_cases}

-- ---- whole objects

whole : (steps : List (Option ℕ)) → is_whole steps ≡ true → steps ≡ []
whole [] e = refl
whole (step ∷ steps) e = false_true e

pub is_it : (o : ℕ) (location : Location) → is_object o location ≡ true → static o ≡ location
is_it o location e = let b = and_true (location.object == o) (is_whole location.steps) e in
    sym (ap (λ (n : ℕ). record { object = n; steps = location.steps }) (eqb-true location.object o b.0) ∙ ap (λ (l : List (Option ℕ)). record { object = o; steps = l }) (whole location.steps b.1))

-- ---- what expressions point to

pub names_object : (string : List Spot) (rounds : List Round) (e : Expr) (place : Place) → MayPointTo locked_writes string rounds e place → (o : ℕ) → e ≡ Object o → place ≡ place_in locked_writes string o []
names_object string rounds e place (PointsTo.object s r n) o q = ap (λ k. place_in locked_writes string k []) (same n o q)
  where
    same : (n o : ℕ) → Object n ≡ Object o → n ≡ o
    same n o q = cc
names_object string rounds e place (PointsTo.local s r n path u h) o q = absurd (cc)
names_object string rounds e place (PointsTo.along s r y d z steps from to n l) o q = absurd (cc)
names_object string rounds e place (PointsTo.alone s r y d z links u h n) o q = absurd (cc)
names_object string rounds e place (PointsTo.first s r c a b u n) o q = absurd (cc)
names_object string rounds e place (PointsTo.second s r c a b u n) o q = absurd (cc)

names_nothing : (string : List Spot) (rounds : List Round) (e : Expr) (place : Place) → MayPointTo locked_writes string rounds e place → e ≡ null → ⊥
names_nothing string rounds e place (PointsTo.object s r n) q = absurd (cc)
names_nothing string rounds e place (PointsTo.local s r n path u h) q = absurd (cc)
names_nothing string rounds e place (PointsTo.along s r y d z steps from to n l) q = absurd (cc)
names_nothing string rounds e place (PointsTo.alone s r y d z links u h n) q = absurd (cc)
names_nothing string rounds e place (PointsTo.first s r c a b u n) q = absurd (cc)
names_nothing string rounds e place (PointsTo.second s r c a b u n) q = absurd (cc)

-- ---- names

pub record AreTold (point : Point) : Type 0 where
  pub may : (argument : ℕ) (location : Location) → Tells (locked_facts.names.may_name point argument location) (MayName locked_writes point argument location)
  pub exact : (argument : ℕ) (location : Location) → Tells (locked_facts.names.is_exact point argument location) (IsExact locked_writes point argument location)

abbrev arguments_in : Act → List Expr
arguments_in (Library call into) = arguments_of call
arguments_in _ = []

record IsPlace (string : List Spot) (o : ℕ) : Type 0 where
  own : CType
  has_type : type_of_place locked_writes (place_in locked_writes string o []) ≡ Some own
  no_sizes : own.sizes ≡ []
  lies : LiesAt locked_writes (place_in locked_writes string o []) (static o)
  self : is_object o (static o) ≡ true

-- a call whose first argument is an object, and each other one a null pointer
module _ (string : List Spot) (n o : ℕ) (call : LibraryCall) (is_call : act_at locked_writes n ≡ Library call None)
    (first : slice_get (arguments_of call) 0 ≡ Some (Object o))
    (others : (k : ℕ) (e : Expr) → slice_get (arguments_of call) (suc k) ≡ Some e → e ≡ null)
    (is : IsPlace string o) where
  by_argument : (argument : ℕ) (e : Expr) (place : Place) → slice_get (arguments_of call) argument ≡ Some e → MayPointTo locked_writes string [] e place
      → (argument ≡ 0) × (place ≡ place_in locked_writes string o [])
  by_argument zero e place has p = (refl, names_object string [] e place p o (same_some e (Object o) (sym has ∙ first)))
  by_argument (suc k) e place has p = absurd (names_nothing string [] e place p (others k e has))

  meant : (argument : ℕ) (place : Place) → MayMean locked_writes (at string n) argument place → (argument ≡ 0) × (place ≡ place_in locked_writes string o [])
  meant argument place a = by_argument argument a.expression place
      (subst (λ l. slice_get l argument ≡ Some a.expression) (ap arguments_in (sym a.is.is_call ∙ is_call)) a.is.has) a.names

  test_true : (argument : ℕ) (location : Location) → argument ≡ 0 → static o ≡ location → (is_object o location && (argument == 0)) ≡ true
  test_true argument location e f = subst (λ k. (is_object o location && (k == 0)) ≡ true) (sym e)
      (subst (λ l. (is_object o l && true) ≡ true) f (subst (λ b. (b && true) ≡ true) (sym is.self) refl))

  may_all : (argument : ℕ) (location : Location) → MayName locked_writes (at string n) argument location → (is_object o location && (argument == 0)) ≡ true
  may_all argument location a = let b = meant argument a.place a.means in
      test_true argument location b.0 (same_some (static o) location (sym is.lies ∙ subst (λ p. LiesAt locked_writes p location) b.1 a.at))

  base : MayName locked_writes (at string n) 0 (static o)
  base = record {
    place = place_in locked_writes string o [];
    means = record { expression = Object o; is = record { call = call; into = None; is_call = is_call; has = first }; names = PointsTo.object string [] o };
    no_array = record { own = is.own; has_type = is.has_type; no_sizes = is.no_sizes };
    at = is.lies;
  }

  may_only : (argument : ℕ) (location : Location) → (is_object o location && (argument == 0)) ≡ true → MayName locked_writes (at string n) argument location
  may_only argument location e = let b = and_true (is_object o location) (argument == 0) e in
      subst (λ k. MayName locked_writes (at string n) k location) (sym (eqb-true argument 0 b.1)) (subst (MayName locked_writes (at string n) 0) (is_it o location b.0) base)

  alone : (argument : ℕ) (location : Location) → (is_object o location && (argument == 0)) ≡ true → (place : Place) → MayMean locked_writes (at string n) argument place
      → LiesAt locked_writes place location
  alone argument location e place a = let b = and_true (is_object o location) (argument == 0) e in
      subst (λ p. LiesAt locked_writes p location) (sym (meant argument place a).1) (subst (LiesAt locked_writes (place_in locked_writes string o [])) (is_it o location b.0) is.lies)

  may_told : (argument : ℕ) (location : Location) → Tells (is_object o location && (argument == 0)) (MayName locked_writes (at string n) argument location)
  may_told argument location = record { all = may_all argument location; only = may_only argument location }

  exact_told : (argument : ℕ) (location : Location) → Tells (is_object o location && (argument == 0)) (IsExact locked_writes (at string n) argument location)
  exact_told argument location = record {
    all = λ a. may_all argument location a.may;
    only = λ e. record { may = may_only argument location e; alone = λ place a no_array. alone argument location e place a };
  }

abbrev is_library : Act → Bool
is_library (Library call into) = true
is_library _ = false

-- no library call
module _ (string : List Spot) (n : ℕ) (none : is_library (act_at locked_writes n) ≡ false) where
  unnamed : (argument : ℕ) (location : Location) → MayName locked_writes (at string n) argument location → ⊥
  unnamed argument location a = true_false (sym (ap is_library a.means.is.is_call) ∙ none)

  none_may : (argument : ℕ) (location : Location) → Tells false (MayName locked_writes (at string n) argument location)
  none_may argument location = record { all = λ a. absurd (unnamed argument location a); only = λ e. false_true e }

  none_exact : (argument : ℕ) (location : Location) → Tells false (IsExact locked_writes (at string n) argument location)
  none_exact argument location = record { all = λ a. absurd (unnamed argument location a.may); only = λ e. false_true e }

no_second : (e d : Expr) (k : ℕ) → slice_get (e ∷ []) (suc k) ≡ Some d → d ≡ null
no_second e d k q = none_some d q

null_second : (e d : Expr) (k : ℕ) → slice_get (e ∷ null ∷ []) (suc k) ≡ Some d → d ≡ null
null_second e d zero q = sym (same_some null d q)
null_second e d (suc k) q = none_some d q

the_mutex : (string : List Spot) → IsPlace string m
the_mutex string = record { own = mutex_type; has_type = refl; no_sizes = refl; lies = refl; self = refl }

the_thread : (string : List Spot) → IsPlace string t
the_thread string = record { own = thread_type; has_type = refl; no_sizes = refl; lies = refl; self = refl }

told_call : (string : List Spot) (n o : ℕ) (call : LibraryCall) (is_call : act_at locked_writes n ≡ Library call None)
    (first : slice_get (arguments_of call) 0 ≡ Some (Object o)) (others : (k : ℕ) (e : Expr) → slice_get (arguments_of call) (suc k) ≡ Some e → e ≡ null) (is : IsPlace string o)
    (same : (argument : ℕ) (location : Location) → (is_object o location && (argument == 0)) ≡ locked_facts.names.may_name (at string n) argument location) → AreTold (at string n)
told_call string n o call is_call first others is same = record {
  may = λ argument location. subst (λ b. Tells b (MayName locked_writes (at string n) argument location)) (same argument location) (may_told string n o call is_call first others is argument location);
  exact = λ argument location. subst (λ b. Tells b (IsExact locked_writes (at string n) argument location)) (same argument location) (exact_told string n o call is_call first others is argument location);
}

told_lock : (string : List Spot) (n : ℕ) → act_at locked_writes n ≡ Library (lib.MutexLock (Object m)) None
    → ((argument : ℕ) (location : Location) → (is_object m location && (argument == 0)) ≡ locked_facts.names.may_name (at string n) argument location) → AreTold (at string n)
told_lock string n e = told_call string n m (lib.MutexLock (Object m)) e refl (λ k d. no_second (Object m) d k) (the_mutex string)

told_unlock : (string : List Spot) (n : ℕ) → act_at locked_writes n ≡ Library (lib.MutexUnlock (Object m)) None
    → ((argument : ℕ) (location : Location) → (is_object m location && (argument == 0)) ≡ locked_facts.names.may_name (at string n) argument location) → AreTold (at string n)
told_unlock string n e = told_call string n m (lib.MutexUnlock (Object m)) e refl (λ k d. no_second (Object m) d k) (the_mutex string)

told_none : (string : List Spot) (n : ℕ) → is_library (act_at locked_writes n) ≡ false
    → ((argument : ℕ) (location : Location) → false ≡ locked_facts.names.may_name (at string n) argument location) → AreTold (at string n)
told_none string n e same = record {
  may = λ argument location. subst (λ b. Tells b (MayName locked_writes (at string n) argument location)) (same argument location) (none_may string n e argument location);
  exact = λ argument location. subst (λ b. Tells b (IsExact locked_writes (at string n) argument location)) (same argument location) (none_exact string n e argument location);
}

all_told : (thread : List Spot) (point : Point) → IsPoint locked_writes thread point → AreTold point
unfolding act_at
all_told = point_cases (λ thread point. AreTold point)
    (told_call [] 4 m (lib.MutexInit (Object m) plain_kind) refl refl (λ k d. no_second (Object m) d k) (the_mutex []) (λ argument location. refl))
    (told_call [] 5 t (lib.ThreadCreate (Object t) w null) refl refl (λ k d. null_second (Object t) d k) (the_thread []) (λ argument location. refl))
    (told_lock [] 6 refl (λ argument location. refl))
    (told_none [] 7 refl (λ argument location. refl))
    (told_unlock [] 8 refl (λ argument location. refl))
    (told_none [] 9 refl (λ argument location. refl))
    (told_lock worker 0 refl (λ argument location. refl))
    (told_none worker 1 refl (λ argument location. refl))
    (told_unlock worker 2 refl (λ argument location. refl))
    (told_none worker 3 refl (λ argument location. refl))

pub names : NamesAreExact locked_writes locked_facts.names
names = record {
  may_name = λ thread point argument location is. (all_told thread point is).may argument location;
  is_exact = λ thread point argument location is. (all_told thread point is).exact argument location;
}
