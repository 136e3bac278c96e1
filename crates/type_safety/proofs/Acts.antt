-- Each typed action but a library call asks for what fits, or has a cause.
use Rattle.std.proofs.Common.{◌≡◌, ◌⊎◌, inl, inr, refl, sym, subst, ◌∙◌, Bool, true, false, cond, ◌&&◌, ◌||◌, ◌==◌, ℕ, ℤ, List, [], ◌∷◌, Option, Some, None}
use Rattle.std.specs.Prelude.{option_map, option_and_then, unwrap_or}
use Rattle.std.specs.List.{list_all}
use Rattle.c_program.specs.declared.types.CType.{CType}
use Rattle.c_program.specs.declared.types.Base.TheVariants as base
use Rattle.c_program.specs.declared.types.Integer.{Integer as IntegerType}
use Rattle.c_program.specs.declared.types.Integer.TheVariants.{Int}
use Rattle.c_program.specs.declared.expression.BinaryOperator.{BinaryOperator}
use Rattle.c_program.specs.declared.expression.Expr.{Expr}
use Rattle.c_program.specs.declared.action.Local.{Local as LocalOf}
use Rattle.c_program.specs.declared.action.Part.{Part}
use Rattle.c_program.specs.declared.action.Clause.{Clause}
use Rattle.c_program.specs.Syntax.{parameters_at}
use Rattle.c_program.specs.Types.{is_in, is_scalar, is_atomic, same_type, plain_type, converted, declared_type, holds_library}
use Rattle.c_program.specs.Values.{Cell, Value, Number, arithmetic, truth}
use Rattle.c_program.specs.Evaluation.{Here, whole, eval, eval_all, place_at, object_at_type, is_true}
use Rattle.c_program.specs.Requests.{Load, Store, Sets, Copies, Request, Plain, Declares, Turn, Goes, Enters, Leaves, Ask, Asked, Asks, with_for, meant_for, if_so, no_value, further, may_write, is_initialiser, read_of, reads, number_in, number_of_value, part_at, filled_by, fills, filled, unless_library, external, clause_of, atomic_load}
use Rattle.c_program.specs.Typing.{Kind, Wrong, A_literal, A_number, A_pointer, An_address, is_number, is_pointer, is_condition, is_right, link_kind, kind_of, kind_of_type, takes, has_type, local_is, local_gets, is_structure, part_is_typed, arguments_are_typed, external_is_typed}
use Rattle.c_program.proofs.Cells.{and_true}
use Rattle.c_program.proofs.Logic.{or_false}
use Rattle.type_safety.specs.Fitting.{IsPointer, Fits, MemoryFits}
use Rattle.type_safety.specs.Causes.{is_of_type, Unusable, Dead, Fails}
use Rattle.type_safety.specs.ActionCauses.{UnusableAt, PlaceFails, IsUnset, IsConst, AnyFails, ComputesNothing, PartFails, PartsFail}
use Rattle.type_safety.proofs.Comes.{Comes}
use Rattle.type_safety.proofs.OfKinds.{takes_fits}
use Rattle.type_safety.proofs.Arithmetic.{Done, computed, link_is}
use Rattle.type_safety.proofs.Evaluating.{UsedAt, used, type_of_own, truthful, evaluated}
use Rattle.type_safety.proofs.Judging.{EachStoreFits, IntoGets, RequestFits, ArgumentsFit, TurnFits, AskFits, Judged, with_judged, meant_judged, so_judged, none_judged, one_judged, if_judged, asks_judged, further_judged, widened, OfType, placed, pointed}
use Rattle.type_safety.proofs.Acting.{or_cases, first_side, second_side, both_true, structure_in, takes_right, gets_right, into_fits, cell_gets, two_alike, local_alike, held_at, number_held, number_value}
use Rattle.c_program.specs.Typing.{into_int}

module _ (here : Here) (memory : MemoryFits here.program here.memory) (result : CType) where
  -- what is asked for fits
  abbrev pub Good : Ask → Type 0
  Good = AskFits here.program result

  pub plain_good : (F : Type 0) (loads : List Load) (stores : List Store) → EachStoreFits here.program stores
      → Judged F Good (Asks (record { loads = loads; stores = stores; request = Plain; result = None; into = None; turn = Goes }))
  plain_good F loads stores e = asks_judged F Good _ (record { stores = e; given = tt; request = tt; turn = tt })

  pub gives_good : (F : Type 0) (into : Option LocalOf) (loads : List Load) (stores : List Store) (v : Value) → EachStoreFits here.program stores → IntoGets here.program into (Some v)
      → Judged F Good (Asks (record { loads = loads; stores = stores; request = Plain; result = Some v; into = into; turn = Goes }))
  gives_good F into loads stores v e g = asks_judged F Good _ (record { stores = e; given = g; request = tt; turn = tt })

  pub turns_good : (F : Type 0) (turn : Turn) → TurnFits here.program result turn → Judged F Good (Asks (record { loads = []; stores = []; request = Plain; result = None; into = None; turn = turn }))
  turns_good F turn t = asks_judged F Good _ (record { stores = tt; given = tt; request = tt; turn = t })

  pub bare_good : (F : Type 0) (request : Request) → RequestFits here.program None request → Judged F Good (Asks (record { loads = []; stores = []; request = request; result = None; into = None; turn = Goes }))
  bare_good F request r = asks_judged F Good _ (record { stores = tt; given = tt; request = r; turn = tt })

  scalar_side : (t : CType) (local : LocalOf)
      → ((is_scalar t && local_gets here.program local (kind_of_type t)) || (is_structure here.program t && (local_is here.program local && same_type t local.c_type))) ≡ true
      → is_scalar t ≡ true → local_gets here.program local (kind_of_type t) ≡ true
  scalar_side t local q s = first_side (is_scalar t) (local_gets here.program local (kind_of_type t)) (is_structure here.program t && (local_is here.program local && same_type t local.c_type)) q s
      (λ b. structure_in t.base t.pointers t.sizes (and_true _ _ (and_true (is_structure here.program t) (local_is here.program local && same_type t local.c_type) b).0).0 s)

  structure_side : (t : CType) (local : LocalOf)
      → ((is_scalar t && local_gets here.program local (kind_of_type t)) || (is_structure here.program t && (local_is here.program local && same_type t local.c_type))) ≡ true
      → is_scalar t ≡ false → (local_is here.program local ≡ true) × (same_type t local.c_type ≡ true)
  structure_side t local q s = and_true (local_is here.program local) (same_type t local.c_type) (and_true (is_structure here.program t) (local_is here.program local && same_type t local.c_type)
      (second_side (is_scalar t) (local_gets here.program local (kind_of_type t)) (is_structure here.program t && (local_is here.program local && same_type t local.c_type)) q s)).1

  pub read_good : (e : Expr) (t : CType) (local : LocalOf) (values : List ℤ) → is_pointer (kind_of here.program e) ≡ true
      → ((is_scalar t && local_gets here.program local (kind_of_type t)) || (is_structure here.program t && (local_is here.program local && same_type t local.c_type))) ≡ true
      → Judged (PlaceFails here t e ⊎ IsUnset here t e) Good (no_value values (with_for Plain (place_at here t e) (λ cell. reads here t local cell)))
  unfolding OfType
  read_good e t local values p q = none_judged _ Good values _ (with_judged _ Good (OfType here memory t) (PlaceFails here t e) Plain (place_at here t e) _ (placed here memory t e p) inl (λ cell at o.
      if_judged _ Good (is_scalar t) _ _
      (λ s. with_judged _ Good (Fits here.program (kind_of_type t)) (here.memory cell ≡ None) Plain (here.memory cell) _ (held_at here memory t cell o s) (λ unset. inr (cell, at, unset))
      (λ v _ f. gives_good _ (Some local) _ [] v tt (into_fits here.program (Some local) (kind_of_type t) v (scalar_side t local q s) f)))
      (λ s. plain_good _ _ _ (local_alike here t local cell (structure_side t local q s).0 (structure_side t local q s).1 o, tt))))

  pub write_good : (e : Expr) (t : CType) (v : Expr) (values : List ℤ) → is_pointer (kind_of here.program e) ≡ true → takes t (kind_of here.program v) ≡ true
      → Judged (PlaceFails here t e ⊎ (Fails here v ⊎ IsConst here t e)) Good (no_value values (with_for Plain (place_at here t e) (λ cell. with_for Plain (eval here v) (λ w.
      meant_for Plain (is_initialiser e || may_write here cell) (Asks (record { loads = []; stores = Sets cell w (is_atomic t) ∷ []; request = Plain; result = None; into = None; turn = Goes }))))))
  unfolding OfType
  write_good e t v values p q = none_judged _ Good values _ (with_judged _ Good (OfType here memory t) (PlaceFails here t e) Plain (place_at here t e) _ (placed here memory t e p) inl (λ cell at o.
      with_judged _ Good (Fits here.program (kind_of here.program v)) (Fails here v) Plain (eval here v) _ (evaluated here memory v (takes_right t.base t.pointers t.sizes (kind_of here.program v) q).0) (λ f. inr (inl f)) (λ w _ f.
      meant_judged _ Good Plain _ _ (λ b. inr (inr (cell, at, (or_false _ _ b).1)))
      (λ _. plain_good _ _ _ (cell_gets here t cell w o (takes_fits here.program t.base t.pointers t.sizes (kind_of here.program v) w q f), tt)))))

  pub update_good : (e : Expr) (i : IntegerType) (op : BinaryOperator) (u : IntegerType) (v : Expr) (values : List ℤ) → is_pointer (kind_of here.program e) ≡ true → is_number (link_kind op u (A_number i) (kind_of here.program v)) ≡ true
      → Judged (PlaceFails here (plain_type (base.Atomic i)) e ⊎ ((IsUnset here (plain_type (base.Atomic i)) e ⊎ Fails here v)
      ⊎ (ComputesNothing here (plain_type (base.Atomic i)) e op u v ⊎ IsConst here (plain_type (base.Atomic i)) e))) Good
      (no_value values (with_for Plain (place_at here (plain_type (base.Atomic i)) e) (λ cell. with_for Plain (number_in (here.memory cell)) (λ old. with_for Plain (number_of_value here v) (λ z.
      with_for Plain (arithmetic op u (converted u old) z) (λ new. meant_for Plain (may_write here cell)
      (Asks (record { loads = atomic_load cell ∷ []; stores = Sets cell (Number (converted i new)) true ∷ []; request = Plain; result = None; into = None; turn = Goes }))))))))
  unfolding OfType
  update_good e i op u v values p q = none_judged _ Good values _ (with_judged _ Good (OfType here memory (plain_type (base.Atomic i))) _ Plain _ _ (placed here memory (plain_type (base.Atomic i)) e p) inl (λ cell at o.
      with_judged _ Good _ _ Plain (number_in (here.memory cell)) _ (number_held here memory i base.Atomic cell o refl refl) (λ unset. inr (inl (inl (cell, at, unset)))) (λ old _ h.
      with_judged _ Good _ _ Plain (number_of_value here v) _ (number_value here memory v (link_is here.program op u (A_number i) (kind_of here.program v) (right_number _ q)).1) (λ f. inr (inl (inr f))) (λ z _ w.
      with_judged _ Good Done _ Plain (arithmetic op u (converted u old) z) _ (computed op u (converted u old) z) (λ f. inr (inr (inl (cell, old, z, at, h, w, f)))) (λ new _ _.
      meant_judged _ Good Plain _ _ (λ c. inr (inr (inr (cell, at, c)))) (λ _. plain_good _ _ _ (cell_gets here (plain_type (base.Atomic i)) cell (Number (converted i new)) o tt, tt)))))))
    where
      right_number : (k : Kind) → is_number k ≡ true → is_right k ≡ true
      right_number (A_literal l h) e = refl
      right_number (A_number t) e = refl
      right_number Wrong e = absurd (cc)
      right_number A_pointer e = refl
      right_number (An_address t) e = refl

  pub assign_good : (local : LocalOf) (e : Expr) (values : List ℤ) → local_gets here.program local (kind_of here.program e) ≡ true
      → Judged (Fails here e) Good (no_value values (with_for Plain (eval here e) (λ v. Asks (record { loads = []; stores = []; request = Plain; result = Some v; into = Some local; turn = Goes }))))
  assign_good local e values q = none_judged _ Good values _ (with_judged _ Good (Fits here.program (kind_of here.program e)) (Fails here e) Plain (eval here e) _
      (evaluated here memory e (gets_right local.c_type.base local.c_type.pointers local.c_type.sizes (kind_of here.program e) (and_true _ _ q).1)) (λ f. f)
      (λ v _ f. gives_good _ (Some local) [] [] v tt (into_fits here.program (Some local) (kind_of here.program e) v q f)))

  pub copy_good : (e : Expr) (t : CType) (f : Expr) (values : List ℤ) → is_pointer (kind_of here.program e) ≡ true → is_pointer (kind_of here.program f) ≡ true
      → Judged (PlaceFails here t f ⊎ (PlaceFails here t e ⊎ IsConst here t e)) Good (no_value values (with_for Plain (place_at here t f) (λ from. with_for Plain (place_at here t e) (λ to.
      meant_for Plain (is_initialiser e || may_write here to) (Asks (record { loads = read_of from ∷ []; stores = Copies to from ∷ []; request = Plain; result = None; into = None; turn = Goes }))))))
  unfolding OfType
  copy_good e t f values p q = none_judged _ Good values _ (with_judged _ Good (OfType here memory t) (PlaceFails here t f) Plain (place_at here t f) _ (placed here memory t f q) inl (λ from _ o.
      with_judged _ Good (OfType here memory t) (PlaceFails here t e) Plain (place_at here t e) _ (placed here memory t e p) (λ g. inr (inl g)) (λ to at u.
      meant_judged _ Good Plain _ _ (λ b. inr (inr (to, at, (or_false _ _ b).1))) (λ _. plain_good _ _ _ (two_alike here t to from u o, tt)))))

  -- ---- braced initialisers

  value_fails : (p : Part) (b : Bool) → Fails here p.value → PartFails here p b
  value_fails p true f = f
  value_fails p false f = inl f

  by_address : (F : Type 0) (t : CType) (cell : Cell) (ask : Ask) (o : Option Value) → is_of_type here t cell ≡ true → Good ask → Comes IsPointer F o
      → Judged (F ⊎ UnusableAt here t o) Good (with_for Plain o (λ v. with_for Plain (object_at_type here t v) (λ from.
      Asks (record ask { loads = read_of from ∷ ask.loads; stores = Copies cell from ∷ ask.stores }))))
  unfolding Comes Judged with_for
  by_address F t cell ask None at g c = inl c
  by_address F t cell ask (Some v) at g c = with_judged (F ⊎ Unusable here t v) Good (UsedAt here t v) (Unusable here t v) Plain (object_at_type here t v)
      (λ from. Asks (record ask { loads = read_of from ∷ ask.loads; stores = Copies cell from ∷ ask.stores })) (used here t v c) inr
      (λ from _ u. record { stores = (two_alike here t cell from at u.1, g.stores); given = g.given; request = g.request; turn = g.turn })

  part_good : (object : ℕ) (p : Part) (ask : Ask) → part_is_typed here.program object p ≡ true → Good ask
      → Judged (PartFails here p (is_scalar p.c_type)) Good (with_for Plain (eval here p.value) (λ v. filled_by here (whole here object) p ask v))
  part_good object p ask t g = go (is_scalar p.c_type) refl
    where
      typed : has_type here.program object p.path p.c_type ≡ true
      typed = (and_true _ _ t).0

      at : is_of_type here p.c_type (part_at (whole here object) p) ≡ true
      at = subst (λ o. unwrap_or (option_map (same_type p.c_type) o) false ≡ true) (sym (type_of_own here object p.path)) typed

      go : (b : Bool) → is_scalar p.c_type ≡ b → Judged (PartFails here p b) Good (with_for Plain (eval here p.value) (λ v.
          cond b (Asks (record ask { stores = Sets (part_at (whole here object) p) v false ∷ ask.stores }))
          (with_for Plain (object_at_type here p.c_type v) (λ from. Asks (record ask { loads = read_of from ∷ ask.loads; stores = Copies (part_at (whole here object) p) from ∷ ask.stores })))))
      go true s = or_cases _ _ (and_true _ _ t).1
          (λ k. with_judged _ Good (Fits here.program (kind_of here.program p.value)) (Fails here p.value) Plain (eval here p.value) _
          (evaluated here memory p.value (takes_right p.c_type.base p.c_type.pointers p.c_type.sizes (kind_of here.program p.value) k).0) (λ f. f)
          (λ v _ f. asks_judged _ Good _ (record {
            stores = (cell_gets here p.c_type (part_at (whole here object) p) v at (takes_fits here.program p.c_type.base p.c_type.pointers p.c_type.sizes (kind_of here.program p.value) v k f), g.stores);
            given = g.given;
            request = g.request;
            turn = g.turn;
          })))
          (λ k. absurd (structure_in p.c_type.base p.c_type.pointers p.c_type.sizes (and_true _ _ (and_true _ _ k).0).0 s))
      go false s = or_cases _ _ (and_true _ _ t).1
          (λ k. absurd (let f : false ≡ true = sym s ∙ (takes_right p.c_type.base p.c_type.pointers p.c_type.sizes (kind_of here.program p.value) k).1 in cc))
          (λ k. by_address (Fails here p.value) p.c_type (part_at (whole here object) p) ask (eval here p.value) at g (pointed here memory p.value (and_true _ _ k).1))

  fills_good : (object : ℕ) (parts : List Part) → list_all (part_is_typed here.program object) parts ≡ true → Judged (PartsFail here parts) Good (fills here (whole here object) parts)
  fills_good object [] t = plain_good _ [] [] tt
  fills_good object (p ∷ parts) t = let q = and_true _ _ t in further_judged _ Good (PartsFail here parts) Good (fills here (whole here object) parts) _ (fills_good object parts q.1) inl
      (λ ask g. widened (PartFails here p (is_scalar p.c_type)) _ Good _ inr (part_good object p ask q.0 g))

  -- ---- an automatic object that holds a library object

  pub unless_good : (F : Type 0) (object : ℕ) (x : Asked) → Judged F Good x → Judged F Good (unless_library here object x)
  unless_good F object x j = if_judged F Good (unwrap_or (option_map (holds_library here.program) (declared_type here.program object)) false) _ x (λ _. bare_good F Declares tt) (λ _. j)

  pub fill_good : (object : ℕ) (parts : List Part) (values : List ℤ) → list_all (part_is_typed here.program object) parts ≡ true
      → Judged (PartsFail here parts) Good (no_value values (unless_library here object (filled here object parts)))
  fill_good object parts values t = none_judged _ Good values _ (unless_good _ object _ (further_judged _ Good (PartsFail here parts) Good (fills here (whole here object) parts) _ (fills_good object parts t) (λ f. f)
      (λ ask g. asks_judged _ Good _ (record { stores = (tt, g.stores); given = g.given; request = g.request; turn = g.turn }))))

  -- ---- calls of functions

  abbrev pub AllFit : List Expr → List Value → Type 0
  AllFit [] [] = Unit {0}
  AllFit (e ∷ es) (v ∷ vs) = Fits here.program (kind_of here.program e) v × AllFit es vs
  AllFit _ _ = ⊥

  all_evaluated : (es : List Expr) → list_all (λ e. is_right (kind_of here.program e)) es ≡ true → Comes (AllFit es) (AnyFails here es) (eval_all here es)
  unfolding Comes
  all_evaluated [] r = tt
  all_evaluated (e ∷ es) r = let p = and_true _ _ r in go (eval here e) (eval_all here es) (evaluated here memory e p.0) (all_evaluated es p.1)
    where
      go : (o : Option Value) (os : Option (List Value)) → Comes (Fits here.program (kind_of here.program e)) (Fails here e) o → Comes (AllFit es) (AnyFails here es) os
          → Comes (AllFit (e ∷ es)) (Fails here e ⊎ AnyFails here es) (option_and_then (λ v. option_map (λ vs. v ∷ vs) os) o)
      go None os c d = inl c
      go (Some v) None c d = inr d
      go (Some v) (Some vs) c d = (c, d)

  numbers_right : (es : List Expr) → list_all (λ e. is_number (kind_of here.program e)) es ≡ true → list_all (λ e. is_right (kind_of here.program e)) es ≡ true
  numbers_right [] n = refl
  numbers_right (e ∷ es) n = let p = and_true _ _ n in both_true _ _ (right (kind_of here.program e) p.0) (numbers_right es p.1)
    where
      right : (k : Kind) → is_number k ≡ true → is_right k ≡ true
      right (A_literal l h) e = refl
      right (A_number t) e = refl
      right Wrong e = absurd (cc)
      right A_pointer e = refl
      right (An_address t) e = refl

  arguments_right : (ps : List ℕ) (es : List Expr) → arguments_are_typed here.program ps es ≡ true → list_all (λ e. is_right (kind_of here.program e)) es ≡ true
  arguments_right [] [] a = refl
  arguments_right [] (e ∷ es) a = absurd (cc)
  arguments_right (p ∷ ps) [] a = absurd (cc)
  arguments_right (p ∷ ps) (e ∷ es) a = let q = and_true _ _ a in both_true _ _ (right (declared_type here.program p) q.0) (arguments_right ps es q.1)
    where
      right : (o : Option CType) → unwrap_or (option_map (λ t. takes t (kind_of here.program e)) o) false ≡ true → is_right (kind_of here.program e) ≡ true
      right None g = absurd (cc)
      right (Some t) g = (takes_right t.base t.pointers t.sizes (kind_of here.program e) g).0

  arguments_fit : (ps : List ℕ) (es : List Expr) (vs : List Value) → arguments_are_typed here.program ps es ≡ true → AllFit es vs → ArgumentsFit here.program ps vs
  arguments_fit [] [] vs a f = tt
  arguments_fit [] (e ∷ es) vs a f = absurd (cc)
  arguments_fit (p ∷ ps) [] vs a f = absurd (cc)
  arguments_fit (p ∷ ps) (e ∷ es) [] a f = tt
  arguments_fit (p ∷ ps) (e ∷ es) (v ∷ vs) a f = let q = and_true _ _ a in ((λ t g s. own t (subst (λ o. unwrap_or (option_map (λ t. takes t (kind_of here.program e)) o) false ≡ true) g q.0)), arguments_fit ps es vs q.1 f.1)
    where
      own : (t : CType) → takes t (kind_of here.program e) ≡ true → Fits here.program (kind_of_type t) v
      own t k = takes_fits here.program t.base t.pointers t.sizes (kind_of here.program e) v k f.0

  pub call_good : (function : ℕ) (arguments : List Expr) (into : Option LocalOf) (values : List ℤ) → arguments_are_typed here.program (parameters_at here.program function) arguments ≡ true
      → Judged (AnyFails here arguments) Good (no_value values (with_for Plain (eval_all here arguments) (λ vs. Asks (record { loads = []; stores = []; request = Plain; result = None; into = None; turn = Enters function vs into }))))
  call_good function arguments into values a = none_judged _ Good values _ (with_judged _ Good (AllFit arguments) (AnyFails here arguments) Plain (eval_all here arguments) _
      (all_evaluated arguments (arguments_right (parameters_at here.program function) arguments a)) (λ f. f)
      (λ vs _ f. turns_good _ (Enters function vs into) (arguments_fit (parameters_at here.program function) arguments vs a f)))

  value_given : (value : Option IntegerType) (into : Option LocalOf) (values : List ℤ) → external_is_typed here.program value into ≡ true → Judged ⊥ Good (external values value into)
  value_given None into values t = none_judged ⊥ Good values _ (plain_good ⊥ [] [] tt)
  value_given (Some i) into values t = one_judged ⊥ Good (is_in i) values _ (λ z. gives_good ⊥ into [] [] (Number z) tt (into_fits here.program into (A_number i) (Number z) t tt))

  pub external_good : (arguments : List Expr) (value : Option IntegerType) (into : Option LocalOf) (values : List ℤ) → list_all (λ e. is_number (kind_of here.program e)) arguments ≡ true → external_is_typed here.program value into ≡ true
      → Judged (AnyFails here arguments) Good (further (external values value into) (λ ask. with_for Plain (eval_all here arguments) (λ vs. Asks ask)))
  external_good arguments value into values n t = further_judged _ Good ⊥ Good (external values value into) _ (value_given value into values t) (λ f. absurd f) (λ ask g.
      with_judged _ Good (AllFit arguments) (AnyFails here arguments) Plain (eval_all here arguments) _ (all_evaluated arguments (numbers_right arguments n)) (λ f. f) (λ vs _ _. asks_judged _ Good ask g))

  pub return_good : (e : Expr) (values : List ℤ) → takes result (kind_of here.program e) ≡ true
      → Judged (Fails here e) Good (no_value values (with_for Plain (eval here e) (λ v. Asks (record { loads = []; stores = []; request = Plain; result = None; into = None; turn = Leaves (Some v) }))))
  return_good e values k = none_judged _ Good values _ (with_judged _ Good (Fits here.program (kind_of here.program e)) (Fails here e) Plain (eval here e) _
      (evaluated here memory e (takes_right result.base result.pointers result.sizes (kind_of here.program e) k).0) (λ f. f)
      (λ v _ f. turns_good _ (Leaves (Some v)) (takes_fits here.program result.base result.pointers result.sizes (kind_of here.program e) v k f)))

  pub evaluate_good : (e : Expr) (values : List ℤ) → is_right (kind_of here.program e) ≡ true
      → Judged (Fails here e) Good (no_value values (with_for Plain (eval here e) (λ v. Asks (record { loads = []; stores = []; request = Plain; result = None; into = None; turn = Goes }))))
  evaluate_good e values r = none_judged _ Good values _ (with_judged _ Good (Fits here.program (kind_of here.program e)) (Fails here e) Plain (eval here e) _ (evaluated here memory e r) (λ f. f) (λ v _ f. plain_good _ [] [] tt))

  of_condition : (k : Kind) → is_condition k ≡ true → is_right k ≡ true
  of_condition (A_literal l h) e = refl
  of_condition (A_number t) e = refl
  of_condition Wrong e = absurd (cc)
  of_condition A_pointer e = refl
  of_condition (An_address t) e = refl

  pub branch_good : (e : Expr) (into : Option LocalOf) (pair : ℕ) (values : List ℤ) → is_condition (kind_of here.program e) ≡ true → into_int here.program into ≡ true
      → Judged (Fails here e ⊎ Dead here (eval here e)) Good (no_value values (with_for Plain (option_and_then (is_true here) (eval here e)) (λ b. if_so (pair == (cond b 0 1))
      (Asks (record { loads = []; stores = []; request = Plain; result = Some (Number (truth b)); into = into; turn = Goes })))))
  branch_good e into pair values c t = none_judged _ Good values _ (with_judged _ Good (λ b. option_and_then (is_true here) (eval here e) ≡ Some b) (Fails here e ⊎ Dead here (eval here e)) Plain (option_and_then (is_true here) (eval here e)) _
      (truthful here (kind_of here.program e) (eval here e) (Fails here e) c (evaluated here memory e (of_condition _ c))) (λ f. f)
      (λ b _ _. so_judged _ Good _ _ (λ _. gives_good _ into [] [] (Number (truth b)) tt (into_fits here.program into (A_number Int) (Number (truth b)) t tt))))

  pub switch_good : (e : Expr) (clauses : List Clause) (pair : ℕ) (values : List ℤ) → is_number (kind_of here.program e) ≡ true
      → Judged (Fails here e) Good (no_value values (with_for Plain (number_of_value here e) (λ z. if_so (pair == clause_of z clauses) (Asks (record { loads = []; stores = []; request = Plain; result = None; into = None; turn = Goes })))))
  switch_good e clauses pair values n = none_judged _ Good values _ (with_judged _ Good _ (Fails here e) Plain (number_of_value here e) _ (number_value here memory e n) (λ f. f) (λ z _ _. so_judged _ Good _ _ (λ _. plain_good _ [] [] tt)))
