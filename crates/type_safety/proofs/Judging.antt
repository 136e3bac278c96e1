-- What a typed action asks for fits, or it has a cause for having no meaning.
use Rattle.std.proofs.Common.{◌≡◌, ◌⊎◌, inl, inr, refl, Bool, true, false, cond, ℕ, ℤ, List, [], ◌∷◌, Option, Some, None}
use Rattle.std.specs.Prelude.{option_and_then}
use Rattle.c_program.specs.declared.types.CType.{CType}
use Rattle.c_program.specs.declared.types.Base.TheVariants as base
use Rattle.c_program.specs.declared.expression.Expr.{Expr}
use Rattle.c_program.specs.declared.action.Local.{Local as LocalOf}
use Rattle.c_program.specs.declared.program.Program.{Program}
use Rattle.c_program.specs.Types.{is_scalar, same_type, declared_type}
use Rattle.c_program.specs.Values.{Cell, Value, type_of_cell}
use Rattle.c_program.specs.Evaluation.{Here, eval, place_at, object_at_type}
use Rattle.c_program.specs.Requests.{Store, Sets, Copies, Request, Creates, Joins, Sets_key, Gets_key, Turn, Goes, Enters, Leaves, Exits, Ask, Asked, Not_so, No_meaning, Asks, with_for, meant_for, if_so, no_value, one_value, further}
use Rattle.c_program.specs.Typing.{Kind, Wrong, A_literal, A_number, A_pointer, An_address, is_number, is_pointer, is_right, kind_of, kind_of_type, has_type, takes_a_pointer, answers_int}
use Rattle.c_program.specs.Syntax.{parameters_at}
use Rattle.type_safety.specs.Fitting.{IsPointer, IsNumber, Fits, MemoryFits}
use Rattle.type_safety.specs.Causes.{is_of_type, Unusable, Fails}
use Rattle.type_safety.specs.ActionCauses.{UnusableAt, PlaceFails}
use Rattle.type_safety.proofs.Comes.{Comes, weaker}
use Rattle.type_safety.proofs.OfKinds.{number_is, pointer_is}
use Rattle.type_safety.proofs.Evaluating.{UsedAt, used, evaluated}

-- ---- what is asked for

module _ (program : Program) where
  -- a value goes to a cell whose type it fits
  abbrev pub CellGets : Cell → Value → Type 0
  CellGets cell v = (own : CType) → type_of_cell program cell ≡ Some own → is_scalar own ≡ true → Fits program (kind_of_type own) v

  -- two objects have one type, but for const
  abbrev pub Alike : Cell → Cell → Type 0
  Alike a b = (t : CType) × (s : CType) × (u : CType) × (type_of_cell program a ≡ Some s) × (type_of_cell program b ≡ Some u) × (same_type t s ≡ true) × (same_type t u ≡ true)

  abbrev pub StoreFits : Store → Type 0
  StoreFits (Sets cell v a) = CellGets cell v
  StoreFits (Copies to from) = Alike to from
  StoreFits _ = Unit {0}

  abbrev pub EachStoreFits : List Store → Type 0
  EachStoreFits [] = Unit {0}
  EachStoreFits (store ∷ stores) = StoreFits store × EachStoreFits stores

  -- a local may get the value
  abbrev pub LocalGets : LocalOf → Value → Type 0
  LocalGets local v = (has_type program local.object local.path local.c_type ≡ true) × Fits program (kind_of_type local.c_type) v

  abbrev pub IntoGets : Option LocalOf → Option Value → Type 0
  IntoGets None v = Unit {0}
  IntoGets (Some local) None = Unit {0}
  IntoGets (Some local) (Some v) = LocalGets local v

  abbrev pub RequestFits : Option LocalOf → Request → Type 0
  RequestFits into (Creates object function v result) = (IsPointer v × (takes_a_pointer program (parameters_at program function) ≡ true)) × (answers_int program function ≡ true)
  RequestFits into (Joins object None) = Unit {0}
  RequestFits into (Joins object (Some cell)) = (v : Value) → IsNumber v → CellGets cell v
  RequestFits into (Sets_key k v) = IsPointer v
  RequestFits into (Gets_key k) = (v : Value) → IsPointer v → IntoGets into (Some v)
  RequestFits into _ = Unit {0}

  abbrev pub ArgumentsFit : List ℕ → List Value → Type 0
  ArgumentsFit (p ∷ ps) (v ∷ vs) = ((t : CType) → declared_type program p ≡ Some t → is_scalar t ≡ true → Fits program (kind_of_type t) v) × ArgumentsFit ps vs
  ArgumentsFit _ _ = Unit {0}

  abbrev pub TurnFits : CType → Turn → Type 0
  TurnFits result Goes = Unit {0}
  TurnFits result (Enters function arguments into) = ArgumentsFit (parameters_at program function) arguments
  TurnFits result (Leaves None) = Unit {0}
  TurnFits result (Leaves (Some v)) = Fits program (kind_of_type result) v
  TurnFits result (Exits None) = Unit {0}
  TurnFits result (Exits (Some v)) = IsNumber v

  pub record AskFits (result : CType) (ask : Ask) : Type 0 where
    pub stores : EachStoreFits ask.stores
    pub given : IntoGets ask.into ask.result
    pub request : RequestFits ask.into ask.request
    pub turn : TurnFits result ask.turn

unfoldable pub Judged : Type 0 → (Ask → Type 0) → Asked → Type 0
Judged F P Not_so = Unit {0}
Judged F P (No_meaning request) = F
Judged F P (Asks ask) = P ask

-- ---- the small words of asking

module _ (F : Type 0) (P : Ask → Type 0) where
  pub with_judged : {A : Type 0} (Q : A → Type 0) (G : Type 0) (request : Request) (o : Option A) (f : A → Asked) → Comes Q G o → (G → F) → ((a : A) → o ≡ Some a → Q a → Judged F P (f a)) → Judged F P (with_for request o f)
  unfolding Judged Comes with_for
  with_judged Q G request None f c g h = g c
  with_judged Q G request (Some a) f c g h = h a refl c

  pub meant_judged : (request : Request) (b : Bool) (x : Asked) → (b ≡ false → F) → (b ≡ true → Judged F P x) → Judged F P (meant_for request b x)
  unfolding Judged meant_for
  meant_judged request true x f h = h refl
  meant_judged request false x f h = f refl

  pub so_judged : (b : Bool) (x : Asked) → (b ≡ true → Judged F P x) → Judged F P (if_so b x)
  unfolding Judged if_so
  so_judged true x h = h refl
  so_judged false x h = tt

  pub none_judged : (values : List ℤ) (x : Asked) → Judged F P x → Judged F P (no_value values x)
  unfolding Judged no_value
  none_judged [] x h = h
  none_judged (z ∷ zs) x h = tt

  pub one_judged : (fits : ℤ → Bool) (values : List ℤ) (f : ℤ → Asked) → ((z : ℤ) → Judged F P (f z)) → Judged F P (one_value fits values f)
  unfolding Judged one_value
  one_judged fits [] f h = tt
  one_judged fits (z ∷ []) f h = so_judged (fits z) (f z) (λ _. h z)
  one_judged fits (z ∷ y ∷ zs) f h = tt

  pub if_judged : (b : Bool) (x y : Asked) → (b ≡ true → Judged F P x) → (b ≡ false → Judged F P y) → Judged F P (cond b x y)
  if_judged true x y h k = h refl
  if_judged false x y h k = k refl

  pub asks_judged : (ask : Ask) → P ask → Judged F P (Asks ask)
  unfolding Judged
  asks_judged ask p = p

  pub further_judged : (G : Type 0) (Q : Ask → Type 0) (x : Asked) (f : Ask → Asked) → Judged G Q x → (G → F) → ((ask : Ask) → Q ask → Judged F P (f ask)) → Judged F P (further x f)
  unfolding Judged further
  further_judged G Q (Asks ask) f h g k = k ask h
  further_judged G Q Not_so f h g k = tt
  further_judged G Q (No_meaning request) f h g k = g h

pub not_asked : (F : Type 0) (P : Ask → Type 0) → Judged F P Not_so
unfolding Judged
not_asked F P = tt

pub widened : (F G : Type 0) (P : Ask → Type 0) (x : Asked) → (F → G) → Judged F P x → Judged G P x
unfolding Judged
widened F G P Not_so f j = tt
widened F G P (No_meaning request) f j = f j
widened F G P (Asks ask) f j = j

-- ---- parts of actions

module _ (here : Here) (memory : MemoryFits here.program here.memory) where
  -- an expression as a place
  unfoldable pub OfType : CType → Cell → Type 0
  OfType t cell = is_of_type here t cell ≡ true

  of_pointer : (k : Kind) → is_pointer k ≡ true → is_right k ≡ true
  of_pointer (A_literal l h) e = refl
  of_pointer A_pointer e = refl
  of_pointer (An_address t) e = refl
  of_pointer (A_number t) e = refl
  of_pointer Wrong e = absurd (cc)

  of_number : (k : Kind) → is_number k ≡ true → is_right k ≡ true
  of_number (A_literal l h) e = refl
  of_number A_pointer e = refl
  of_number (An_address t) e = refl
  of_number (A_number t) e = refl
  of_number Wrong e = absurd (cc)

  pub placed : (t : CType) (e : Expr) → is_pointer (kind_of here.program e) ≡ true → Comes (OfType t) (PlaceFails here t e) (place_at here t e)
  unfolding OfType Comes
  placed t e p = go (eval here e) (evaluated here memory e (of_pointer _ p))
    where
      go : (o : Option Value) → Comes (Fits here.program (kind_of here.program e)) (Fails here e) o → Comes (λ cell. is_of_type here t cell ≡ true) (Fails here e ⊎ UnusableAt here t o) (option_and_then (object_at_type here t) o)
      go None c = inl c
      go (Some v) c = weaker (UsedAt here t v) (λ cell. is_of_type here t cell ≡ true) (Unusable here t v) (Fails here e ⊎ Unusable here t v) (object_at_type here t v) (used here t v (pointer_is here.program _ v p c)) (λ cell u. u.1) inr

  pub pointed : (e : Expr) → is_pointer (kind_of here.program e) ≡ true → Comes IsPointer (Fails here e) (eval here e)
  pointed e p = weaker _ _ _ _ _ (evaluated here memory e (of_pointer _ p)) (λ v f. pointer_is here.program _ v p f) (λ f. f)

  pub numbered : (e : Expr) → is_number (kind_of here.program e) ≡ true → Comes IsNumber (Fails here e) (eval here e)
  numbered e p = weaker _ _ _ _ _ (evaluated here memory e (of_number _ p)) (λ v f. number_is here.program _ v p f) (λ f. f)
