-- Exact answers of a small program, and what silence says of it.
use Rattle.std.proofs.Common.{◌≡◌, ◌⊎◌, inl, inr, refl, sym, subst, ap, ◌∙◌, Bool, true, false, not, ◌&&◌, ◌==◌, ℕ, zero, suc, List, [], ◌∷◌, Option, Some, None, eqb-true}
use Rattle.std.specs.Prelude.{pos, slice_get}
use Rattle.misra_base.specs.declared.guideline.Guideline.{Guideline}
use Rattle.c_program.specs.declared.expression.Expr.{Expr, Constant, Object}
use Rattle.c_program.specs.declared.action.Local.{Local as LocalOf}
use Rattle.c_program.specs.declared.action.LibraryCall.{LibraryCall}
use Rattle.c_program.specs.declared.action.Act.{Act}
use Rattle.c_program.specs.declared.action.Act.TheVariants as act
use Rattle.c_program.specs.declared.statement.Statement.{Do}
use Rattle.c_program.specs.declared.program.Object.{Object as ObjectOf}
use Rattle.c_program.specs.declared.program.Program.{Program}
use Rattle.c_program.specs.Syntax.{c_int, act_at, body_at, object_at}
use Rattle.c_program.specs.Types.{is_declared, holds_library}
use Rattle.c_program.specs.Values.{Location}
use Rattle.c_program.specs.Control.{Control, Run, Round, Spot, Point, entered}
use Rattle.c_program.specs.Counters.{Counts, has_few_turns}
use Rattle.c_program.specs.Faults.{Sort, A_mutex, A_condition, A_key, A_thread}
use Rattle.c_program.specs.Paths.{LeadsTo, initial as at_main, by_call, by_creation, spots_of, IsPoint}
use Rattle.c_program.specs.WellFormed.{IsWellFormed}
use Rattle.c_program.proofs.Build.{static_object, function, block2}
use Rattle.c_program.proofs.Line.{acting, structures}
use Rattle.c_program.proofs.Members.{In, from_contains}
use Rattle.c_program.proofs.Cells.{and_true}
use Rattle.path_simulation.specs.Tracks.{Comes, at_entry, by_move}
use Rattle.pointer_targets.specs.Places.{Of_all, Place, place_in}
use Rattle.pointer_targets.specs.PointsTo
use Rattle.pointer_targets.specs.PointsTo.{MayPointTo}
use Rattle.pointer_targets.specs.Candidates.{MayName, LiesAt}
use Rattle.pointer_targets.specs.Accesses.{DataAccess, writes_at, at_scalar, at_part, MayTouch, MayAccess}
use Rattle.static_facts.specs.ObjectStates.{ObjectState, Is_unmade, doing_of, Is_live, Is_joined, Is_detached, Is_dead, IsStateOf}
use Rattle.static_facts.specs.ObjectPaths.{Mark, Follows_none, At, ObjectStep, follows_none, passes, moves, leaves, succeeds, fails, may_succeed, may_fail, elsewhere, states, MayBeAlong}
use Rattle.static_facts.specs.ThreadStates.{MayBe, along, made_outside}
use Rattle.static_facts.specs.Lives.{MayLive, in_initial, in_created}
use Rattle.static_facts.specs.Order.{Ordered, in_initial as in_main}
use Rattle.static_facts.specs.Facts.{Facts}
use Rattle.pointer_targets.specs.Tellings.{Tells}
use Rattle.static_facts.specs.Analyses.{AreExact}
use Rattle.soundness.proofs.AllSilence.{silent as all_silent}
use Rattle.soundness.proofs.Halves.{sound}
use Rattle.pointer_targets.specs.Manners.{Manner, MayAccessAt}
use Rattle.static_facts.specs.Points.{is_creation}
use Rattle.guideline_findings.specs.Silence.{IsSilent}

-- static int x; int main(void) { x = 1; return 0; }
abbrev writer : Program
writer = record {
  structures = structures;
  objects = static_object c_int ∷ [];
  functions = function [] (block2 (Do 0) (Do 1)) ∷ [];
  actions = acting (act.Write (Object 0) c_int (Constant (pos 1)) ∷ act.Return (Some (Constant (pos 0))) ∷ []);
  main = 0;
}

counts : (f : ℕ) → Counts writer [] (body_at writer f)
unfolding act_at
counts zero = (refl, (refl, tt))
counts (suc n) = tt

few : (f : ℕ) → has_few_turns 1 (body_at writer f) ≡ true
few zero = refl
few (suc n) = refl

well_formed : IsWellFormed writer
unfolding act_at
well_formed = record {
  differ = refl;
  numbered = refl;
  fit = refl;
  leads_on = refl;
  objects = refl;
  functions = refl;
  actions = refl;
  structures = refl;
  timespec = refl;
  main = refl;
  counts = record { counts = counts; few = few };
  typed = refl;
  declarations = refl;
  fresh = refl;
}

-- ---- its actions: a write, a return, and beyond the table nothing

IsPlainAct : Act → Type 0
IsPlainAct (act.Write e t v) = (e ≡ Object 0) × (t ≡ c_int)
IsPlainAct (act.Return e) = Unit {0}
IsPlainAct act.Turn = Unit {0}
IsPlainAct _ = ⊥

each : (n : ℕ) → IsPlainAct (act_at writer n)
unfolding act_at IsPlainAct
each zero = (refl, refl)
each (suc zero) = tt
each (suc (suc n)) = tt

which : (n : ℕ) (a : Act) → act_at writer n ≡ a → IsPlainAct a
which n a e = subst IsPlainAct e (each n)

no_call : (n : ℕ) (call : LibraryCall) (into : Option LocalOf) → act_at writer n ≡ act.Library call into → ⊥
unfolding IsPlainAct
no_call n call into e = which n _ e

none_done : (sort : Sort) (n : ℕ) → doing_of sort (act_at writer n) ≡ None
unfolding act_at
none_done A_mutex zero = refl
none_done A_mutex (suc zero) = refl
none_done A_mutex (suc (suc n)) = refl
none_done A_condition zero = refl
none_done A_condition (suc zero) = refl
none_done A_condition (suc (suc n)) = refl
none_done A_key zero = refl
none_done A_key (suc zero) = refl
none_done A_key (suc (suc n)) = refl
none_done A_thread zero = refl
none_done A_thread (suc zero) = refl
none_done A_thread (suc (suc n)) = refl

no_creation : (n : ℕ) → is_creation (act_at writer n) ≡ false
unfolding act_at
no_creation zero = refl
no_creation (suc zero) = refl
no_creation (suc (suc n)) = refl

true_false : {A : Type 0} → true ≡ false → A
true_false e = absurd (cc)

none_some : {A B : Type 0} (x : A) → None ≡ Some x → B
none_some x e = absurd (cc)

same_some : {A : Type 0} (a b : A) → Some a ≡ Some b → a ≡ b
same_some a b e = cc

-- ---- its points

abbrev at : ℕ → Point
at n = record { string = []; spot = record { action = n; rounds = [] } }

record OnlyMain (string thread : List Spot) (f : ℕ) : Type 0 where
  no_string : string ≡ []
  no_thread : thread ≡ []
  is_main : f ≡ 0

only_main : (string thread : List Spot) (f : ℕ) → LeadsTo writer string thread f → OnlyMain string thread f
unfolding IsPlainAct
only_main _ _ _ at_main = record { no_string = refl; no_thread = refl; is_main = refl }
only_main _ _ _ (by_call string thread f spot callee arguments result l c e) = absurd (which spot.action _ e)
only_main _ _ _ (by_creation string thread f spot callee object argument result l c e) = absurd (which spot.action _ e)

record IsOneOfTwo (thread : List Spot) (point : Point) : Type 0 where
  initial : thread ≡ []
  is : (point ≡ at 0) ⊎ (point ≡ at 1)

two : (thread : List Spot) (point : Point) → IsPoint writer thread point → IsOneOfTwo thread point
two thread point p = record { initial = m.no_thread; is = go (subst (λ f. In point.spot (spots_of [] (body_at writer f))) m.is_main (from_contains _ _ p.has)) }
  where
    m : OnlyMain point.string thread p.function
    m = only_main point.string thread p.function p.leads

    placed : (n : ℕ) → record { action = n; rounds = [] } ≡ point.spot → point ≡ at n
    placed n e = ap (λ (s : List Spot). record { string = s; spot = point.spot }) m.no_string ∙ ap (λ (s : Spot). record { string = []; spot = s }) (sym e)

    go : In point.spot (spots_of [] (body_at writer 0)) → (point ≡ at 0) ⊎ (point ≡ at 1)
    go (inl e) = inl (placed 0 e)
    go (inr (inl e)) = inr (placed 1 e)
    go (inr (inr e)) = absurd e

-- ---- exact answers

abbrev is_whole : List (Option ℕ) → Bool
is_whole [] = true
is_whole (step ∷ steps) = false

abbrev is_x : Location → Bool
is_x location = (location.object == 0) && is_whole location.steps

abbrev is_unmade : ObjectState → Bool
is_unmade Is_unmade = true
is_unmade _ = false

abbrev facts : Facts
facts = record {
  names = record { may_name = λ point argument location. false; is_exact = λ point argument location. false };
  accesses = λ point region manner. (point.spot.action == 0) && (manner.writes && (not manner.is_atomic && is_x region));
  ordered = λ s p t q. true;
  thread_may_be = λ thread point object state. is_unmade state;
  plain_object = λ thread. None;
  life_may_be = λ thread point sort location state. is_unmade state;
}

-- ---- accesses: the write of x

abbrev x : Location
x = record { object = 0; steps = [] }

abbrev x_place : Place
x_place = record { site = Of_all 0; path = [] }

whole : (steps : List (Option ℕ)) → is_whole steps ≡ true → steps ≡ []
whole [] e = refl
whole (step ∷ steps) e = true_false (sym e)

is_it : (location : Location) → is_x location ≡ true → x ≡ location
is_it location e = let b = and_true (location.object == 0) (is_whole location.steps) e in
    sym (ap (λ (n : ℕ). record { object = n; steps = location.steps }) (eqb-true location.object 0 b.0) ∙ ap (λ (l : List (Option ℕ)). record { object = 0; steps = l }) (whole location.steps b.1))

object_x : (string : List Spot) (rounds : List Round) (e : Expr) (t : Place) → MayPointTo writer string rounds e t → e ≡ Object 0 → t ≡ x_place
object_x string rounds e t (PointsTo.object s r n) q = go n (same n q)
  where
    same : (n : ℕ) → Object n ≡ Object 0 → n ≡ 0
    same n q = cc

    go : (n : ℕ) → n ≡ 0 → place_in writer string n [] ≡ x_place
    go n q = subst (λ k. place_in writer string k [] ≡ x_place) (sym q) refl
object_x string rounds e t (PointsTo.local s r n path u h) q = absurd (cc)
object_x string rounds e t (PointsTo.along s r y d z steps from to n l) q = absurd (cc)
object_x string rounds e t (PointsTo.alone s r y d z links u h n) q = absurd (cc)
object_x string rounds e t (PointsTo.first s r c a b u n) q = absurd (cc)
object_x string rounds e t (PointsTo.second s r c a b u n) q = absurd (cc)

abbrev the_write : DataAccess
the_write = writes_at (Object 0) c_int false

abbrev spot : ℕ → Spot
spot n = record { action = n; rounds = [] }

region_x : (region : Location) → MayAccess writer [] (spot 0) the_write region → is_x region ≡ true
region_x _ (at_scalar place location s n d l) =
    subst (λ y. is_x y ≡ true) (same_some x location (subst (λ q. LiesAt writer q location) (object_x [] [] (Object 0) place n refl) l)) refl
region_x _ (at_part place path location s t n d l) = true_false s

both : (a b c : Bool) → true ≡ a → false ≡ b → c ≡ true → (a && (not b && c)) ≡ true
both a b c e f g = subst (λ y. (y && (not b && c)) ≡ true) e (subst (λ y. (not y && c) ≡ true) f g)

not_false : (b : Bool) → not b ≡ true → false ≡ b
not_false false e = refl
not_false true e = true_false (sym e)

write_touches : (region : Location) (manner : Manner) → Tells (manner.writes && (not manner.is_atomic && is_x region)) (MayTouch writer [] (spot 0) (act_at writer 0) manner.writes manner.is_atomic region)
unfolding act_at
write_touches region manner = record { all = all; only = only }
  where
    one : (number : ℕ) (access : DataAccess) → slice_get (the_write ∷ []) number ≡ Some access → the_write ≡ access
    one zero access e = same_some the_write access e
    one (suc number) access e = none_some access e

    all : MayTouch writer [] (spot 0) (act_at writer 0) manner.writes manner.is_atomic region → (manner.writes && (not manner.is_atomic && is_x region)) ≡ true
    all t = let e = one t.number t.access t.has in
        both manner.writes manner.is_atomic (is_x region) (ap (λ (a : DataAccess). a.writes) e ∙ t.as_write) (ap (λ (a : DataAccess). a.is_atomic) e ∙ t.as_atomic)
        (region_x region (subst (λ a. MayAccess writer [] (spot 0) a region) (sym e) t.region))

    only : (manner.writes && (not manner.is_atomic && is_x region)) ≡ true → MayTouch writer [] (spot 0) (act_at writer 0) manner.writes manner.is_atomic region
    only e = let b = and_true manner.writes (not manner.is_atomic && is_x region) e in let c = and_true (not manner.is_atomic) (is_x region) b.1 in record {
      access = the_write;
      number = 0;
      has = refl;
      as_write = sym b.0;
      as_atomic = not_false manner.is_atomic c.0;
      region = subst (λ y. MayAccess writer [] (spot 0) the_write y) (is_it region c.1) (at_scalar x_place x refl (PointsTo.object [] [] 0) (record { own = c_int; has_type = refl; is_data = refl }) refl);
    }

return_touches : (region : Location) (manner : Manner) → Tells false (MayTouch writer [] (spot 1) (act_at writer 1) manner.writes manner.is_atomic region)
unfolding act_at
return_touches region manner = record { all = λ t. none_some t.access t.has; only = λ e. true_false (sym e) }

accesses : (region : Location) (manner : Manner) (point : Point) → (point ≡ at 0) ⊎ (point ≡ at 1) → Tells (facts.accesses point region manner) (MayAccessAt writer point region manner)
accesses region manner point (inl e) = subst (λ p. Tells (facts.accesses p region manner) (MayAccessAt writer p region manner)) (sym e) (write_touches region manner)
accesses region manner point (inr e) = subst (λ p. Tells (facts.accesses p region manner) (MayAccessAt writer p region manner)) (sym e) (return_touches region manner)

-- ---- states: each object is unmade at both points

abbrev IsUnmadeMark : Mark → Type 0
IsUnmadeMark Follows_none = Unit {0}
IsUnmadeMark (At state outcome) = state ≡ Is_unmade

module _ (sort : Sort) (object : Location) where
  step_unmade : (point : Point) (pair : ℕ) (before behind : Mark) → ObjectStep writer facts.names sort object point pair before behind → IsUnmadeMark before → IsUnmadeMark behind
  step_unmade point pair _ _ follows_none a = tt
  step_unmade point pair _ _ (passes state outcome d f) a = a
  step_unmade point pair _ _ (moves state outcome doing d n m) a = none_some doing (sym (none_done sort point.spot.action) ∙ d)
  step_unmade point pair _ _ (leaves state outcome doing d n m) a = a
  step_unmade point pair _ _ (succeeds state outcome d e) a = none_some _ (sym (none_done sort point.spot.action) ∙ d)
  step_unmade point pair _ _ (fails state outcome d e) a = a
  step_unmade point pair _ _ (may_succeed state outcome d e m) a = none_some _ (sym (none_done sort point.spot.action) ∙ d)
  step_unmade point pair _ _ (may_fail state outcome d e m) a = a
  step_unmade point pair _ _ (elsewhere state outcome d m) a = a

  comes_unmade : (thread : List Spot) (function : ℕ) (control : Control) (mark : Mark) → Comes writer (states writer facts.names sort object) thread function control mark → IsUnmadeMark mark
  comes_unmade thread function _ _ (at_entry mark (inl s)) = subst IsUnmadeMark (sym s.1) refl
  comes_unmade thread function _ _ (at_entry mark (inr s)) = subst IsUnmadeMark (sym s.1) tt
  comes_unmade thread function _ _ (by_move control pair move before behind c m s) = step_unmade _ pair before behind s (comes_unmade thread function control before c)

  along_unmade : (point : Point) (state : ObjectState) → MayBeAlong writer facts.names sort object point state → state ≡ Is_unmade
  along_unmade point state m = comes_unmade [] m.1.function m.1.control (At state m.0) m.1.comes

  abbrev entry : Comes writer (states writer facts.names sort object) [] 0 (entered writer 0) (At Is_unmade None)
  entry = at_entry (At Is_unmade None) (inl (refl, refl))

  at_write : MayBeAlong writer facts.names sort object (at 0) Is_unmade
  at_write = (None, record { function = 0; leads = at_main; control = entered writer 0; move = record { action = 0; left = Run (Do 1) ∷ [] }; comes = entry; offers = (0, refl); here = refl })

  at_return : MayBeAlong writer facts.names sort object (at 1) Is_unmade
  unfolding act_at
  at_return = (
    None,
    record {
      function = 0;
      leads = at_main;
      control = Run (Do 1) ∷ [];
      move = record { action = 1; left = [] };
      comes = by_move (entered writer 0) 0 (record { action = 0; left = Run (Do 1) ∷ [] }) (At Is_unmade None) (At Is_unmade None) entry refl (passes Is_unmade None (none_done sort 0) refl);
      offers = (0, refl);
      here = refl;
    },
  )

  unmade : (point : Point) → (point ≡ at 0) ⊎ (point ≡ at 1) → MayBeAlong writer facts.names sort object point Is_unmade
  unmade point (inl e) = subst (λ p. MayBeAlong writer facts.names sort object p Is_unmade) (sym e) at_write
  unmade point (inr e) = subst (λ p. MayBeAlong writer facts.names sort object p Is_unmade) (sym e) at_return

may_be_unmade : (object : Location) (thread : List Spot) (point : Point) (state : ObjectState) → MayBe writer facts.names object thread point state → state ≡ Is_unmade
may_be_unmade object _ _ _ (along point state s m) = along_unmade A_thread object point state m
may_be_unmade object _ _ _ (made_outside thread point state t m) = true_false (sym m.creation.creates ∙ no_creation m.point.spot.action)

may_live_unmade : (sort : Sort) (object : Location) (thread : List Spot) (point : Point) (state : ObjectState) → MayLive writer facts.names sort object thread point state → state ≡ Is_unmade
may_live_unmade sort object _ _ _ (in_initial point state s m) = along_unmade sort object point state m
may_live_unmade sort object _ _ _ (in_created parent creation point state is m) = may_live_unmade sort object parent creation state m

told_unmade : (state : ObjectState) → state ≡ Is_unmade → is_unmade state ≡ true
told_unmade Is_unmade e = refl
told_unmade Is_live e = absurd (cc)
told_unmade Is_joined e = absurd (cc)
told_unmade Is_detached e = absurd (cc)
told_unmade Is_dead e = absurd (cc)

is_told : (state : ObjectState) → is_unmade state ≡ true → Is_unmade ≡ state
is_told Is_unmade e = refl
is_told Is_live e = true_false (sym e)
is_told Is_joined e = true_false (sym e)
is_told Is_detached e = true_false (sym e)
is_told Is_dead e = true_false (sym e)

unmade_is : (sort : Sort) → IsStateOf sort Is_unmade
unmade_is A_mutex = tt
unmade_is A_condition = tt
unmade_is A_key = tt
unmade_is A_thread = tt

-- ---- all of them

unnamed : (point : Point) (argument : ℕ) (location : Location) → MayName writer point argument location → ⊥
unnamed point argument location m = no_call point.spot.action m.means.is.call m.means.is.into m.means.is.is_call

pub exact : AreExact writer facts
exact = record {
  names = record {
    may_name = λ thread point argument location is. record { all = λ m. absurd (unnamed point argument location m); only = λ e. true_false (sym e) };
    is_exact = λ thread point argument location is. record { all = λ m. absurd (unnamed point argument location m.may); only = λ e. true_false (sym e) };
  };
  accesses = λ thread point region manner is. accesses region manner point (two thread point is).is;
  ordered = λ s t p q first second. record {
    all = λ o. refl;
    only = λ e. subst (λ y. Ordered writer facts.names y p t q) (sym (two s p first).initial) (subst (λ y. Ordered writer facts.names [] p y q) (sym (two t q second).initial) (in_main p q));
  };
  thread_may_be = λ thread point object state is at. record {
    all = λ m. told_unmade state (may_be_unmade object thread point state m);
    only = λ e. subst (λ y. MayBe writer facts.names object y point state) (sym (two thread point is).initial)
        (subst (λ y. MayBe writer facts.names object [] point y) (is_told state e) (along point Is_unmade tt (unmade A_thread object point (two thread point is).is)));
  };
  plain = λ thread object e. none_some object e;
  all_plain = λ thread object p. true_false (sym p.plain.point.creates ∙ no_creation p.creation.spot.action);
  life_may_be = λ thread point sort location state is n at. record {
    all = λ m. told_unmade state (may_live_unmade sort location thread point state m);
    only = λ e. subst (λ y. MayLive writer facts.names sort location y point state) (sym (two thread point is).initial)
        (subst (λ y. MayLive writer facts.names sort location [] point y) (is_told state e) (in_initial point Is_unmade (unmade_is sort) (unmade sort location point (two thread point is).is)));
  };
}

-- so of this program everything follows
pub silent : (guideline : Guideline) → IsSilent writer facts guideline
silent guideline = all_silent writer well_formed facts (sound writer facts exact) guideline
