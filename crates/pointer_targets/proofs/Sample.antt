-- A lock through a pointer names the mutex that the pointer was initialised with, and nothing else.
use Rattle.std.proofs.Common.{◌≡◌, refl, sym, subst, ap, ◌∙◌, ℕ, zero, suc, true, false, List, [], ◌∷◌, Option, Some, None, arith}
use Rattle.std.specs.Prelude.{pos, slice_get}
use Rattle.c_program.specs.declared.types.Base.TheVariants as base
use Rattle.c_program.specs.declared.types.CType.{CType}
use Rattle.c_program.specs.declared.expression.Expr.{Expr, Constant, Object, Local}
use Rattle.c_program.specs.declared.action.Local.{Local as LocalOf}
use Rattle.c_program.specs.declared.action.Act.{Act}
use Rattle.c_program.specs.declared.action.Act.TheVariants as act
use Rattle.c_program.specs.declared.action.LibraryCall.{LibraryCall}
use Rattle.c_program.specs.declared.action.LibraryCall.TheVariants as lib
use Rattle.c_program.specs.declared.program.Initial.{Initial}
use Rattle.c_program.specs.declared.statement.Statement.{Do}
use Rattle.c_program.specs.declared.program.Storage.TheVariants as storage
use Rattle.c_program.specs.declared.program.Program.{Program}
use Rattle.c_program.specs.Syntax.{act_at, body_at}
use Rattle.c_program.specs.Types.{plain_type}
use Rattle.c_program.specs.Values.{Location}
use Rattle.c_program.specs.Control.{Round, Spot, Point}
use Rattle.c_program.specs.Counters.{Counts, has_few_turns, arguments_of}
use Rattle.c_program.specs.Paths.{initial as begins}
use Rattle.c_program.specs.State.{initial_of}
use Rattle.c_program.specs.WellFormed.{IsWellFormed}
use Rattle.c_program.proofs.Build.{nowhere, static_object, function, block3}
use Rattle.c_program.proofs.Line.{acting, structures}
use Rattle.pointer_targets.specs.Places.{Of_all, Of_string, Place, place_in, object_in}
use Rattle.pointer_targets.specs.PointsTo
use Rattle.pointer_targets.specs.PointsTo.{Stands, MayPointTo, Holds, Keeps, Results}
use Rattle.pointer_targets.specs.Candidates.{IsArgument, LiesAt, MayName, IsExact}
use Rattle.pointer_targets.specs.Escapes.{is_static_site, into_static, into_key, into_thread, by_return, by_exit, NoneEscapes}

-- mtx_t *
abbrev pointer : CType
pointer = record { base = base.Mutex; is_const = false; pointers = false ∷ []; sizes = [] }

abbrev local : LocalOf
local = record { object = 2; path = []; c_type = pointer }

-- static mtx_t m; static mtx_t *p = &m; int main(void) { mtx_lock(p); return 0; }
abbrev locker : Program
locker = record {
  structures = structures;
  objects = static_object (plain_type base.Mutex)
      ∷ record { name = []; place = nowhere; storage = storage.Static; c_type = pointer; function = None; initial = record { path = []; value = Object 0 } ∷ [] }
      ∷ record { name = []; place = nowhere; storage = storage.Automatic; c_type = pointer; function = None; initial = [] } ∷ [];
  functions = function [] (block3 (Do 0) (Do 1) (Do 2)) ∷ [];
  actions = acting (act.Read (Object 1) pointer local ∷ act.Library (lib.MutexLock (Local 2 [])) None ∷ act.Return (Some (Constant (pos 0))) ∷ []);
  main = 0;
}

counts : (f : ℕ) → Counts locker [] (body_at locker f)
unfolding act_at
counts zero = (refl, (refl, (refl, tt)))
counts (suc n) = tt

few : (f : ℕ) → has_few_turns 1 (body_at locker f) ≡ true
few zero = refl
few (suc n) = refl

is_well_formed : IsWellFormed locker
unfolding act_at
is_well_formed = record {
  differ = refl;
  numbered = refl;
  fit = refl;
  leads_on = refl;
  objects = refl;
  functions = refl;
  actions = refl;
  structures = refl;
  timespec = refl;
  main = refl;
  counts = record { counts = counts; few = few };
  typed = refl;
  declarations = refl;
  fresh = refl;
}

abbrev m : Place
m = record { site = Of_all 0; path = [] }

abbrev at : ℕ → Spot
at n = record { action = n; rounds = [] }

abbrev lock : Point
lock = record { string = []; spot = at 1 }

-- ---- it may name the mutex

reading : Stands locker [] (at 0) (act.Read (Object 1) pointer local)
unfolding act_at
reading = record { thread = []; point = record { function = 0; leads = begins; has = (0, omega arith, refl) }; is = refl }

abbrev p : Place
p = record { site = Of_all 1; path = [] }

p_holds : Holds locker p m
p_holds = PointsTo.initial (Of_all 1) [] 0 (record { path = []; value = Object 0 }) m refl refl (PointsTo.object [] [] 0)

local_holds : Holds locker (record { site = Of_string [] 2; path = [] }) m
local_holds = PointsTo.read [] (at 0) (Object 1) pointer local p m reading refl (PointsTo.object [] [] 1) p_holds

lock_argument : IsArgument locker lock 0 (Local 2 [])
unfolding act_at
lock_argument = record { call = lib.MutexLock (Local 2 []); into = None; is_call = refl; has = refl }

abbrev location : Location
location = record { object = 0; steps = [] }

may_name : MayName locker lock 0 location
may_name = record {
  place = m;
  means = record { expression = Local 2 []; is = lock_argument; names = PointsTo.local [] [] 2 [] m local_holds };
  no_array = record { own = plain_type base.Mutex; has_type = refl; no_sizes = refl };
  at = refl;
}

-- ---- and nothing else

IsOne : Act → Type 0
IsOne (act.Read e t l) = Unit {0}
IsOne (act.Library (lib.MutexLock e) into) = e ≡ Local 2 []
IsOne (act.Return (Some e)) = e ≡ Constant (pos 0)
IsOne act.Turn = Unit {0}
IsOne _ = ⊥

act_one : (n : ℕ) → IsOne (act_at locker n)
unfolding act_at IsOne
act_one zero = tt
act_one (suc zero) = refl
act_one (suc (suc zero)) = refl
act_one (suc (suc (suc n))) = tt

which : (n : ℕ) (a : Act) → act_at locker n ≡ a → IsOne a
which n a e = subst IsOne e (act_one n)

object_m : (string : List Spot) (rounds : List Round) (e : Expr) (t : Place) → MayPointTo locker string rounds e t → e ≡ Object 0 → t ≡ m
object_m string rounds e t (PointsTo.object s r n) q = go n (same n q)
  where
    same : (n : ℕ) → Object n ≡ Object 0 → n ≡ 0
    same n q = cc

    go : (n : ℕ) → n ≡ 0 → place_in locker string n [] ≡ m
    go n q = subst (λ k. place_in locker string k [] ≡ m) (sym q) refl
object_m string rounds e t (PointsTo.local s r n path u h) q = absurd (cc)
object_m string rounds e t (PointsTo.along s r x d y steps from to n l) q = absurd (cc)
object_m string rounds e t (PointsTo.alone s r x d y links u h n) q = absurd (cc)
object_m string rounds e t (PointsTo.first s r c a b u n) q = absurd (cc)
object_m string rounds e t (PointsTo.second s r c a b u n) q = absurd (cc)

initial_m : (k i : ℕ) (part : Initial) → slice_get (initial_of locker k) i ≡ Some part → part.value ≡ Object 0
initial_m zero i part q = absurd (cc)
initial_m (suc zero) zero part q = ap (λ (x : Initial). x.value) (sym (same _ part q))
  where
    same : (a b : Initial) → Some a ≡ Some b → a ≡ b
    same a b e = cc
initial_m (suc zero) (suc i) part q = absurd (cc)
initial_m (suc (suc zero)) i part q = absurd (cc)
initial_m (suc (suc (suc k))) i part q = absurd (cc)

all_m : (h t : Place) → Holds locker h t → t ≡ m
unfolding IsOne
all_m h t (PointsTo.initial site path i part u g e n) = object_m [] [] part.value t n (initial_m (object_in site) i part g)
all_m h t (PointsTo.read string spot e c l from u s k n d) = all_m from t d
all_m h t (PointsTo.read_whole string spot e c l from u path s k i n d) = all_m _ t d
all_m h t (PointsTo.written string spot e v c x u s n d) = absurd (which spot.action _ s.is)
all_m h t (PointsTo.assigned string spot l e u s n) = absurd (which spot.action _ s.is)
all_m h t (PointsTo.copied string spot e f c to from u path s i j n d k) = absurd (which spot.action _ s.is)
all_m h t (PointsTo.filled string spot n i parts part path u s g e c d) = absurd (which spot.action _ s.is)
all_m h t (PointsTo.filled_whole string spot n i parts part inner path from u s g e c j d k) = absurd (which spot.action _ s.is)
all_m h t (PointsTo.taken string spot e c l from u path s i n d) = absurd (which spot.action _ s.is)
all_m h t (PointsTo.given string spot e c l to u path s i n d) = absurd (which spot.action _ s.is)
all_m h t (PointsTo.stored string spot call into x u s o n d) = absurd (which spot.action _ s.is)
all_m h t (PointsTo.loaded string spot call into from u s o n d) = absurd (which spot.action _ s.is)
all_m h t (PointsTo.passed string spot f i q arguments argument into u s a b n) = absurd (which spot.action _ s.is)
all_m h t (PointsTo.handed string spot f q o argument into u s a n) = absurd (which spot.action _ s.is)
all_m h t (PointsTo.returned thread string call spot f arguments into e u r c n) = absurd (which call.action _ c)
all_m h t (PointsTo.joined string spot o e into x u s n r) = absurd (which spot.action _ s.is)
all_m h t (PointsTo.got string spot k into key u s n d) = absurd (which spot.action _ s.is)

local_m : (string : List Spot) (rounds : List Round) (e : Expr) (t : Place) → MayPointTo locker string rounds e t → e ≡ Local 2 [] → t ≡ m
local_m string rounds e t (PointsTo.object s r n) q = absurd (cc)
local_m string rounds e t (PointsTo.local s r n path u h) q = all_m _ t h
local_m string rounds e t (PointsTo.along s r x d y steps from to n l) q = absurd (cc)
local_m string rounds e t (PointsTo.alone s r x d y links u h n) q = absurd (cc)
local_m string rounds e t (PointsTo.first s r c a b u n) q = absurd (cc)
local_m string rounds e t (PointsTo.second s r c a b u n) q = absurd (cc)

the_argument : (e : Expr) → IsArgument locker lock 0 e → e ≡ Local 2 []
unfolding act_at
the_argument e a = go a.call (same a.call a.into a.is_call) a.has
  where
    same : (call : LibraryCall) (into : Option LocalOf) → act.Library (lib.MutexLock (Local 2 [])) None ≡ act.Library call into → lib.MutexLock (Local 2 []) ≡ call
    same call into q = cc

    go : (call : LibraryCall) → lib.MutexLock (Local 2 []) ≡ call → slice_get (arguments_of call) 0 ≡ Some e → e ≡ Local 2 []
    go call q h = value (ap (λ (c : LibraryCall). slice_get (arguments_of c) 0) q ∙ h)
      where
        value : Some (Local 2 []) ≡ Some e → e ≡ Local 2 []
        value r = cc

exact : IsExact locker lock 0 location
exact = record {
  may = may_name;
  alone = λ place means a. subst (λ x. LiesAt locker x location)
      (sym (local_m [] [] means.expression place means.names (the_argument means.expression means.is))) refl;
}

-- ---- nothing escapes

no_constant : (string : List Spot) (rounds : List Round) (e : Expr) (t : Place) → MayPointTo locker string rounds e t → e ≡ Constant (pos 0) → ⊥
no_constant string rounds e t (PointsTo.object s r n) q = absurd (cc)
no_constant string rounds e t (PointsTo.local s r n path u h) q = absurd (cc)
no_constant string rounds e t (PointsTo.along s r x d y steps from to n l) q = absurd (cc)
no_constant string rounds e t (PointsTo.alone s r x d y links u h n) q = absurd (cc)
no_constant string rounds e t (PointsTo.first s r c a b u n) q = absurd (cc)
no_constant string rounds e t (PointsTo.second s r c a b u n) q = absurd (cc)

no_result : (t : Place) → Results locker t → ⊥
unfolding IsOne
no_result t (PointsTo.exited string spot e into u s n) = which spot.action _ s.is
no_result t (PointsTo.ended thread spot e u r n) = no_constant thread spot.rounds e t n (which spot.action _ r.is)

no_key : (key t : Place) → Keeps locker key t → ⊥
unfolding IsOne
no_key key t (PointsTo.set string spot k v into own u s n d) = which spot.action _ s.is

none_escapes : NoneEscapes locker
unfolding IsOne
none_escapes t (into_static h u e s d) = absurd (let f : true ≡ false = sym (ap (λ (x : Place). is_static_site x.site) (all_m h t d)) ∙ e in cc)
none_escapes t (into_key key u e k) = no_key key t k
none_escapes t (into_thread string spot o argument f into u e s n) = which spot.action _ s.is
none_escapes t (by_return thread string spot d u e r n) = no_constant string spot.rounds d t n (which spot.action _ r.is)
none_escapes t (by_exit u e r) = no_result t r
