-- Each typed library call asks for what fits, or has a cause.
use Rattle.std.proofs.Common.{◌≡◌, ◌⊎◌, inl, inr, refl, sym, subst, ap, ◌∙◌, Bool, true, false, not, ◌&&◌, ◌||◌, ℕ, zero, suc, ℤ, List, [], ◌∷◌, Option, Some, None, eqb-true}
use Rattle.std.specs.Prelude.{option_map, option_and_then, unwrap_or, is_some}
use Rattle.std.specs.List.{list_all}
use Rattle.c_program.specs.declared.types.CType.{CType}
use Rattle.c_program.specs.declared.types.Base.{Base}
use Rattle.c_program.specs.declared.types.Base.TheVariants as base
use Rattle.c_program.specs.declared.types.Integer.{Integer as IntegerType}
use Rattle.c_program.specs.declared.types.Integer.TheVariants.{Int}
use Rattle.c_program.specs.declared.expression.Expr.{Expr}
use Rattle.c_program.specs.declared.action.Local.{Local as LocalOf}
use Rattle.c_program.specs.declared.program.Program.{Program}
use Rattle.c_program.specs.Syntax.{c_int}
use Rattle.c_program.specs.Types.{is_in, same_base, same_pointers, same_numbers, same_type, plain_type, converted}
use Rattle.c_program.specs.Values.{Cell, Value, Number, Address, type_of_cell, truth}
use Rattle.c_program.specs.Evaluation.{Here, whole, eval, place_at, object_at_type}
use Rattle.c_program.specs.Requests.{Load, Store, Request, Plain, Goes, Ask, Asked, Not_so, Asks, with_for, meant_for, no_value, may_write, number_in, number_of_value}
use Rattle.c_program.specs.Typing.{Kind, Wrong, A_literal, A_number, A_pointer, An_address, is_number, is_pointer, is_number_at, kind_of, kind_in, kind_of_type, into_gets}
use Rattle.c_program.proofs.Cells.{and_true}
use Rattle.type_safety.specs.Fitting.{IsPointer, IsNumber, Fits, MemoryFits}
use Rattle.type_safety.specs.Causes.{is_of_type, Unusable, Fails}
use Rattle.type_safety.specs.ActionCauses.{PlaceFails, IsUnset, IsConst}
use Rattle.type_safety.proofs.Comes.{Comes}
use Rattle.type_safety.proofs.Shapes.{from_own}
use Rattle.type_safety.proofs.Evaluating.{UsedAt, used}
use Rattle.type_safety.proofs.Judging.{CellGets, IntoGets, RequestFits, AskFits, Judged, with_judged, meant_judged, so_judged, none_judged, one_judged, if_judged, asks_judged, widened, OfType, placed, pointed, numbered}
use Rattle.type_safety.proofs.Acting.{into_fits, into_none, cell_gets, held_at, number_held, number_value}
use Rattle.c_program.specs.Typing.{into_int}
use Rattle.c_program.specs.declared.types.Integer.TheVariants.{Bool as BoolType, Long}
use Rattle.c_program.specs.declared.types.Member.{Member}
use Rattle.c_program.specs.declared.types.Structure.{Structure}
use Rattle.c_program.specs.declared.action.AtomicOperation.{AtomicOperation}
use Rattle.c_program.specs.declared.action.AtomicOperation.TheVariants as atomic
use Rattle.c_program.specs.declared.action.AtomicCall.{AtomicCall}
use Rattle.c_program.specs.declared.action.LibraryCall.{LibraryCall}
use Rattle.c_program.specs.declared.action.LibraryCall.TheVariants as lib
use Rattle.std.specs.Prelude.{slice_get}
use Rattle.c_program.specs.Types.{const_too, made_const, member_type, part_in, part_of_base}
use Rattle.c_program.specs.Values.{null, part}
use Rattle.c_program.specs.WellFormed.{is_long, is_timespec, starts_with_timespec}
use Rattle.c_program.specs.Requests.{Weakens, Creates, Joins, Detaches, Inits, Locks, Tries, Tries_timed, Unlocks, Destroys, Opens, Signals, Waits, Closes, Makes_key, Sets_key, Deletes_key, Exits, one_value, until, timespec, is_time, time_told, compared, compares, is_answer, has_answer, operated, atomic_asks, is_store, is_sequential, atomic_call, result_at, library_asks, success, mutex_type, condition_type, thread_type, key_type}
use Rattle.c_program.specs.Typing.{atomic_is_typed, call_is_typed}
use Rattle.type_safety.specs.ActionCauses.{TimeFails, ResultFails, of_object, of_expected, CompareFails, OperationFails, CallFails}
use Rattle.type_safety.proofs.Acts.{plain_good, gives_good, turns_good, bare_good}

at_number : (i : IntegerType) (k : Kind) → is_number_at i k ≡ true → is_number k ≡ true
at_number i (A_literal l h) e = refl
at_number i (A_number t) e = refl
at_number i Wrong e = absurd (cc)
at_number i A_pointer e = absurd (cc)
at_number i (An_address t) e = absurd (cc)

-- ---- the members of a time

long_number : (program : Program) (t : CType) (c : Bool) (z : ℤ) → same_type t (plain_type (base.Integer Long)) ≡ true → Fits program (kind_of_type (const_too c t)) (Number z)
long_number program t c z e = go c (from_own program t (plain_type (base.Integer Long)) (Number z) e tt)
  where
    made : (b : Base) (x : Bool) (pointers : List Bool) (sizes : List ℕ) → Fits program (kind_in b pointers sizes) (Number z)
        → Fits program (kind_of_type (made_const (record { base = b; is_const = x; pointers = pointers; sizes = sizes }) pointers)) (Number z)
    made b x [] sizes f = f
    made b x (p ∷ ps) [] f = f
    made b x (p ∷ ps) (n ∷ ns) f = f

    go : (c : Bool) → Fits program (kind_of_type t) (Number z) → Fits program (kind_of_type (const_too c t)) (Number z)
    go true f = made t.base t.is_const t.pointers t.sizes f
    go false f = f

in_time : (program : Program) (structures : List Structure) (k : ℕ) (c : Bool) (z : ℤ) (own : CType) → starts_with_timespec program structures ≡ true
    → option_map (const_too c) (option_and_then (λ (structure : Structure). option_map (λ (member : Member). member.c_type) (slice_get structure.members k)) (slice_get structures 0)) ≡ Some own
    → Fits program (kind_of_type own) (Number z)
in_time program [] k c z own t e = absurd (cc)
in_time program (structure ∷ structures) k c z own t e = members structure.members k t e
  where
    own_is : (m : Member) → is_long program m ≡ true → Some (const_too c m.c_type) ≡ Some own → Fits program (kind_of_type own) (Number z)
    own_is m l e = subst (λ t. Fits program (kind_of_type t) (Number z)) (same _ _ e) (long_number program m.c_type c z l)
      where
        same : (a b : CType) → Some a ≡ Some b → a ≡ b
        same a b e = cc

    members : (all : List Member) (k : ℕ) → is_timespec program all ≡ true → option_map (const_too c) (option_map (λ (member : Member). member.c_type) (slice_get all k)) ≡ Some own → Fits program (kind_of_type own) (Number z)
    members (a ∷ b ∷ []) zero t e = own_is a (and_true _ _ t).0 e
    members (a ∷ b ∷ []) (suc zero) t e = own_is b (and_true _ _ t).1 e
    members (a ∷ b ∷ []) (suc (suc k)) t e = absurd (cc)
    members [] k t e = absurd (cc)
    members (a ∷ []) k t e = absurd (cc)
    members (a ∷ b ∷ m ∷ all) k t e = absurd (cc)

time_in : (program : Program) (k : ℕ) (z : ℤ) (own whole : CType) (b : Base) (pointers : List Bool) (sizes : List ℕ) → same_base (base.Structure 0) b ≡ true → same_pointers false whole.is_const [] pointers ≡ true → same_numbers [] sizes ≡ true
    → whole.base ≡ b → starts_with_timespec program program.structures ≡ true → part_in program whole pointers sizes k ≡ Some own → Fits program (kind_of_type own) (Number z)
time_in program k z own whole (base.Structure r) [] [] e p q g t f = in_time program program.structures k whole.is_const z own t
    (ap (λ r. option_map (const_too whole.is_const) (member_type program r k)) (eqb-true 0 r e) ∙ (sym (ap (λ x. part_of_base program whole.is_const x k) g) ∙ f))
time_in program k z own whole base.Void pointers sizes e p q g t f = absurd (cc)
time_in program k z own whole (base.Integer i) pointers sizes e p q g t f = absurd (cc)
time_in program k z own whole (base.Atomic i) pointers sizes e p q g t f = absurd (cc)
time_in program k z own whole base.Mutex pointers sizes e p q g t f = absurd (cc)
time_in program k z own whole base.Condition pointers sizes e p q g t f = absurd (cc)
time_in program k z own whole base.Thread pointers sizes e p q g t f = absurd (cc)
time_in program k z own whole base.Key pointers sizes e p q g t f = absurd (cc)
time_in program k z own whole b (x ∷ xs) sizes e p q g t f = absurd (cc)
time_in program k z own whole b pointers (n ∷ ns) e p q g t f = absurd (cc)

module _ (here : Here) (timed : starts_with_timespec here.program here.program.structures ≡ true) where
  part_gets : (time : Cell) (k : ℕ) (z : ℤ) → is_of_type here timespec time ≡ true → CellGets here.program (part k time) (Number z)
  part_gets time k z e own f s = go (type_of_cell here.program time) refl e f
    where
      go : (o : Option CType) → type_of_cell here.program time ≡ o → unwrap_or (option_map (same_type timespec) o) false ≡ true
          → option_and_then (λ t. part_in here.program t t.pointers t.sizes k) o ≡ Some own → Fits here.program (kind_of_type own) (Number z)
      go None g e f = absurd (cc)
      go (Some whole) g e f = let p = and_true _ _ e in let q = and_true _ _ p.0 in time_in here.program k z own whole whole.base whole.pointers whole.sizes q.0 q.1 p.1 refl timed f

  module _ (memory : MemoryFits here.program here.memory) (result : CType) where
    abbrev G : Ask → Type 0
    G = AskFits here.program result

    asks_good : (F : Type 0) (into : Option LocalOf) (v : Value) (request : Request) → IntoGets here.program into (Some v) → RequestFits here.program into request
        → Judged F G (Asks (record { loads = []; stores = []; request = request; result = Some v; into = into; turn = Goes }))
    asks_good F into v request g r = asks_judged F G _ (record { stores = tt; given = g; request = r; turn = tt })

    -- ---- calls on one object

    int_call : (t : CType) (e : Expr) (into : Option LocalOf) (values : List ℤ) (request : Cell → ℤ → Request) → is_pointer (kind_of here.program e) ≡ true → into_int here.program into ≡ true
        → ((c : Cell) (z : ℤ) → RequestFits here.program into (request c z))
        → Judged (PlaceFails here t e) G (one_value (is_in Int) values (λ z. with_for Plain (place_at here t e) (λ c. Asks (record { loads = []; stores = []; request = request c z; result = Some (Number z); into = into; turn = Goes }))))
    int_call t e into values request p q r = one_judged _ G _ values _ (λ z. with_judged _ G (OfType here memory t) (PlaceFails here t e) Plain (place_at here t e) _ (placed here memory t e p) (λ f. f)
        (λ c _ _. asks_good _ into (Number z) (request c z) (into_fits here.program into (A_number Int) (Number z) q tt) (r c z)))

    sure_call : (t : CType) (e : Expr) (into : Option LocalOf) (values : List ℤ) (request : Cell → Request) → is_pointer (kind_of here.program e) ≡ true → into_int here.program into ≡ true
        → ((c : Cell) → RequestFits here.program into (request c))
        → Judged (PlaceFails here t e) G (no_value values (with_for Plain (place_at here t e) (λ c. Asks (record { loads = []; stores = []; request = request c; result = Some success; into = into; turn = Goes }))))
    sure_call t e into values request p q r = none_judged _ G values _ (with_judged _ G (OfType here memory t) (PlaceFails here t e) Plain (place_at here t e) _ (placed here memory t e p) (λ f. f)
        (λ c _ _. asks_good _ into success (request c) (into_fits here.program into (A_number Int) success q tt) (r c)))

    bare_call : (t : CType) (e : Expr) (values : List ℤ) (request : Cell → Request) → is_pointer (kind_of here.program e) ≡ true → ((c : Cell) → RequestFits here.program None (request c))
        → Judged (PlaceFails here t e) G (no_value values (with_for Plain (place_at here t e) (λ c. Asks (record { loads = []; stores = []; request = request c; result = None; into = None; turn = Goes }))))
    bare_call t e values request p r = none_judged _ G values _ (with_judged _ G (OfType here memory t) (PlaceFails here t e) Plain (place_at here t e) _ (placed here memory t e p) (λ f. f) (λ c _ _. bare_good here memory result _ (request c) (r c)))

    -- ---- times

    one_unset : (a b : Option Value) → (is_some a && is_some b) ≡ false → (a ≡ None) ⊎ (b ≡ None)
    one_unset None b e = inl refl
    one_unset (Some v) None e = inr refl
    one_unset (Some v) (Some w) e = absurd (cc)

    until_good : (F : Type 0) (request : Request) (e : Expr) (f : List Load → Asked) → is_pointer (kind_of here.program e) ≡ true → (TimeFails here e → F) → ((loads : List Load) → Judged F G (f loads)) → Judged F G (until here request e f)
    until_good F request e f p h g = with_judged F G (OfType here memory timespec) (PlaceFails here timespec e) request (place_at here timespec e) _ (placed here memory timespec e p) (λ x. h (inl x))
        (λ time at _. meant_judged F G request _ _ (λ b. h (inr (time, at, one_unset _ _ b))) (λ _. g _))

    not_so : (F : Type 0) → Judged F G Not_so
    unfolding Judged
    not_so F = tt

    told_good : (F : Type 0) (into : Option LocalOf) (time : Cell) (values : List ℤ) → into_int here.program into ≡ true → is_of_type here timespec time ≡ true → Judged F G (time_told into time values)
    told_good F into time (s ∷ n ∷ r ∷ []) q o = gives_good here memory result F into [] _ (Number r) (part_gets time 0 s o, (part_gets time 1 n o, tt)) (into_fits here.program into (A_number Int) (Number r) q tt)
    told_good F into time [] q o = not_so F
    told_good F into time (s ∷ []) q o = not_so F
    told_good F into time (s ∷ n ∷ []) q o = not_so F
    told_good F into time (s ∷ n ∷ r ∷ x ∷ xs) q o = not_so F

    -- ---- threads

    join_good : (object : Cell) (into : Option LocalOf) (F : Type 0) (o : Option Value) → into_int here.program into ≡ true → Comes IsPointer F o
        → Judged (F ⊎ ResultFails here o) G (result_at here object o (λ to. Asks (record { loads = []; stores = []; request = Joins object to; result = Some success; into = into; turn = Goes })))
    unfolding Comes Judged
    join_good object into F None q c = inl c
    join_good object into F (Some (Number z)) q c = record { stores = tt; given = into_fits here.program into (A_number Int) success q tt; request = tt; turn = tt }
    join_good object into F (Some (Address cell)) q c =
        with_judged (F ⊎ ResultFails here (Some (Address cell))) G (UsedAt here c_int (Address cell)) (Unusable here c_int (Address cell)) (Joins object None) (object_at_type here c_int (Address cell))
        (λ to. meant_for (Joins object None) (may_write here to) (Asks (record { loads = []; stores = []; request = Joins object (Some to); result = Some success; into = into; turn = Goes })))
        (used here c_int (Address cell) tt) (λ u. inr (inl u))
        (λ to _ u. meant_judged (F ⊎ ResultFails here (Some (Address cell))) G (Joins object None) (may_write here to) _ (λ b. inr (inr (subst (λ x. may_write here x ≡ false) (sym (same cell to u.0)) b)))
        (λ _. record { stores = tt; given = into_fits here.program into (A_number Int) success q tt; request = λ v n. cell_gets here c_int to v u.1 n; turn = tt }))
      where
        same : (a b : Cell) → Address a ≡ Address b → a ≡ b
        same a b e = cc

    -- ---- atomic operations

    exchange_good : (call : AtomicCall) (into : Option LocalOf) (cell : Cell) (new : ℤ → ℤ → ℤ) → is_of_type here (of_object call) cell ≡ true → place_at here (of_object call) call.object ≡ Some cell
        → is_number_at call.integer (kind_of here.program call.operand) ≡ true → into_gets here.program into (A_number call.integer) ≡ true
        → Judged (IsUnset here (of_object call) call.object ⊎ Fails here call.operand) G (operated here call into cell new)
    exchange_good call into cell new o at p q = with_judged _ G _ _ Plain (number_in (here.memory cell)) _ (number_held here memory call.integer base.Atomic cell o refl refl) (λ unset. inl (cell, at, unset)) (λ old _ _.
        with_judged _ G _ _ Plain (number_of_value here call.operand) _ (number_value here memory call.operand (at_number call.integer _ p)) inr (λ z _ _.
        gives_good here memory result _ into _ _ (Number old) (cell_gets here (of_object call) cell (Number (converted call.integer (new old z))) o tt, tt) (into_fits here.program into (A_number call.integer) (Number old) q tt)))

    compared_good : (F : Type 0) (call : AtomicCall) (into : Option LocalOf) (cell expected : Cell) (old wanted : ℤ) (b : Bool) → is_of_type here (of_object call) cell ≡ true → is_of_type here (of_expected call) expected ≡ true
        → into_gets here.program into (A_number BoolType) ≡ true → (may_write here cell ≡ false → F) → (may_write here expected ≡ false → F) → Judged F G (compared here into cell expected old wanted b)
    compared_good F call into cell expected old wanted true o u q f g = meant_judged F G Plain (may_write here cell) _ f (λ _.
        gives_good here memory result F into _ _ (Number (truth true)) (cell_gets here (of_object call) cell (Number wanted) o tt, tt) (into_fits here.program into (A_number BoolType) (Number (truth true)) q tt))
    compared_good F call into cell expected old wanted false o u q f g = meant_judged F G Plain (may_write here expected) _ g (λ _.
        gives_good here memory result F into _ _ (Number (truth false)) (cell_gets here (of_expected call) expected (Number old) u tt, tt) (into_fits here.program into (A_number BoolType) (Number (truth false)) q tt))

    compare_good : (call : AtomicCall) (into : Option LocalOf) (cell : Cell) (values : List ℤ) → is_of_type here (of_object call) cell ≡ true → place_at here (of_object call) call.object ≡ Some cell
        → is_pointer (kind_of here.program call.expected) ≡ true → is_number_at call.integer (kind_of here.program call.operand) ≡ true → into_gets here.program into (A_number BoolType) ≡ true
        → Judged (CompareFails here call) G (with_for Plain (number_in (here.memory cell)) (λ old. compares here call into cell old values))
    unfolding OfType
    compare_good call into cell values o at p n q = with_judged _ G _ _ Plain (number_in (here.memory cell)) _ (number_held here memory call.integer base.Atomic cell o refl refl) (λ unset. inl (inl (cell, at, unset))) (λ old _ _.
        with_judged _ G (OfType here memory (of_expected call)) (PlaceFails here (of_expected call) call.expected) Plain (place_at here (of_expected call) call.expected) _ (placed here memory (of_expected call) call.expected p) (λ f. inl (inr (inl f))) (λ expected there u.
        with_judged _ G _ _ Plain (number_in (here.memory expected)) _ (number_held here memory call.integer base.Integer expected u refl refl) (λ unset. inl (inr (inr (inl (expected, there, unset))))) (λ held _ _.
        with_judged _ G _ _ Plain (number_of_value here call.operand) _ (number_value here memory call.operand (at_number call.integer _ n)) (λ f. inl (inr (inr (inr f)))) (λ wanted _ _.
        so_judged _ G (is_answer call.operation values) _ (λ _. compared_good _ call into cell expected old wanted _ o u q (λ c. inr (inl (cell, at, c))) (λ c. inr (inr (expected, there, c))))))))

    operation_good : (call : AtomicCall) (operation : AtomicOperation) (into : Option LocalOf) (cell : Cell) (values : List ℤ) → is_of_type here (of_object call) cell ≡ true → place_at here (of_object call) call.object ≡ Some cell
        → atomic_is_typed here.program call operation into ≡ true → Judged (OperationFails here call operation) G (atomic_asks here call into values cell operation)
    operation_good call atomic.Init into cell values o at t = let p = and_true _ _ t in
        with_judged _ G IsNumber _ Plain (eval here call.operand) _ (numbered here memory call.operand (at_number call.integer _ p.0)) (λ f. f) (λ v _ n. plain_good here memory result _ _ _ (cell_gets here (of_object call) cell v o n, tt))
    operation_good call atomic.Store into cell values o at t = let p = and_true _ _ t in
        with_judged _ G IsNumber _ Plain (eval here call.operand) _ (numbered here memory call.operand (at_number call.integer _ p.0)) (λ f. f) (λ v _ n. plain_good here memory result _ _ _ (cell_gets here (of_object call) cell v o n, tt))
    operation_good call atomic.Load into cell values o at t =
        with_judged _ G (Fits here.program (kind_of_type (of_object call))) _ Plain (here.memory cell) _ (held_at here memory (of_object call) cell o refl) (λ unset. (cell, at, unset))
        (λ v _ n. gives_good here memory result _ into _ _ v tt (into_fits here.program into (A_number call.integer) v t n))
    operation_good call atomic.CompareExchangeStrong into cell values o at t = let p = and_true _ _ t in let q = and_true _ _ p.1 in compare_good call into cell values o at p.0 q.0 q.1
    operation_good call atomic.CompareExchangeWeak into cell values o at t = let p = and_true _ _ t in let q = and_true _ _ p.1 in compare_good call into cell values o at p.0 q.0 q.1
    operation_good call atomic.Exchange into cell values o at t = let p = and_true _ _ t in exchange_good call into cell _ o at p.0 p.1
    operation_good call atomic.FetchAdd into cell values o at t = let p = and_true _ _ t in exchange_good call into cell _ o at p.0 p.1
    operation_good call atomic.FetchSubtract into cell values o at t = let p = and_true _ _ t in exchange_good call into cell _ o at p.0 p.1
    operation_good call atomic.FetchOr into cell values o at t = let p = and_true _ _ t in exchange_good call into cell _ o at p.0 p.1
    operation_good call atomic.FetchXor into cell values o at t = let p = and_true _ _ t in exchange_good call into cell _ o at p.0 p.1
    operation_good call atomic.FetchAnd into cell values o at t = let p = and_true _ _ t in exchange_good call into cell _ o at p.0 p.1

    not_or : (a b : Bool) → (not a || b) ≡ false → b ≡ false
    not_or true b e = e
    not_or false b e = absurd (cc)

    atomic_good : (call : AtomicCall) (into : Option LocalOf) (values : List ℤ) → is_pointer (kind_of here.program call.object) ≡ true → atomic_is_typed here.program call call.operation into ≡ true
        → Judged (PlaceFails here (of_object call) call.object ⊎ (IsConst here (of_object call) call.object ⊎ OperationFails here call call.operation)) G (atomic_call here call into values)
    unfolding OfType
    atomic_good call into values p t = so_judged _ G (has_answer call.operation values) _ (λ _. if_judged _ G (list_all is_sequential call.orders) _ _
        (λ _. with_judged _ G (OfType here memory (of_object call)) (PlaceFails here (of_object call) call.object) Plain (place_at here (of_object call) call.object) _ (placed here memory (of_object call) call.object p) inl (λ cell at o.
        meant_judged _ G Plain (not (is_store call.operation) || may_write here cell) _ (λ b. inr (inl (cell, at, not_or (is_store call.operation) (may_write here cell) b)))
        (λ _. widened _ _ G _ (λ f. inr (inr f)) (operation_good call call.operation into cell values o at t))))
        (λ _. bare_good here memory result _ Weakens tt))

    timespec_good : (e : Expr) (into : Option LocalOf) (values : List ℤ) → is_pointer (kind_of here.program e) ≡ true → into_int here.program into ≡ true
        → Judged (PlaceFails here timespec e ⊎ IsConst here timespec e) G (with_for Plain (place_at here timespec e) (λ time. meant_for Plain (may_write here time) (time_told into time values)))
    unfolding OfType
    timespec_good e into values p q = with_judged _ G (OfType here memory timespec) (PlaceFails here timespec e) Plain (place_at here timespec e) _ (placed here memory timespec e p) inl
        (λ time at o. meant_judged _ G Plain (may_write here time) _ (λ b. inr (time, at, b)) (λ _. told_good _ into time values q o))

    -- ---- all library calls

    two_objects : (t u : CType) (e d : Expr) (values : List ℤ) (request : Cell → Cell → Request) → is_pointer (kind_of here.program e) ≡ true → is_pointer (kind_of here.program d) ≡ true → ((c m : Cell) → RequestFits here.program None (request c m))
        → Judged (PlaceFails here t e ⊎ PlaceFails here u d) G (no_value values (with_for Plain (place_at here t e) (λ c. with_for Plain (place_at here u d) (λ m.
        Asks (record { loads = []; stores = []; request = request c m; result = None; into = None; turn = Goes })))))
    two_objects t u e d values request p q r = none_judged _ G values _ (with_judged _ G (OfType here memory t) (PlaceFails here t e) Plain (place_at here t e) _ (placed here memory t e p) inl (λ c _ _.
        with_judged _ G (OfType here memory u) (PlaceFails here u d) Plain (place_at here u d) _ (placed here memory u d q) inr (λ m _ _. bare_good here memory result _ (request c m) (r c m))))

    pub library_good : (call : LibraryCall) (into : Option LocalOf) (values : List ℤ) → call_is_typed here.program call into ≡ true → Judged (CallFails here call) G (library_asks here call into values)
    library_good (lib.ThreadCreate o f e) into values t = let a = and_true _ _ t in let p = and_true _ _ a.0 in let b = and_true _ _ a.1 in let q = and_true _ _ b.0 in
        one_judged _ G _ values _ (λ z. with_judged _ G (OfType here memory thread_type) (PlaceFails here thread_type o) Plain (place_at here thread_type o) _ (placed here memory thread_type o p.0) inl (λ object _ _.
        with_judged _ G IsPointer (Fails here e) (Creates object f null z) (eval here e) _ (pointed here memory e p.1) inr (λ v _ k.
        asks_good _ into (Number z) (Creates object f v z) (into_fits here.program into (A_number Int) (Number z) b.1 tt) ((k, q.1), q.0))))
    library_good (lib.ThreadJoin o e) into values t = let a = and_true _ _ t in let p = and_true _ _ a.0 in
        none_judged _ G values _ (with_judged _ G (OfType here memory thread_type) (PlaceFails here thread_type o) Plain (place_at here thread_type o) _ (placed here memory thread_type o p.0) inl (λ object _ _.
        widened _ _ G _ inr (join_good object into (Fails here e) (eval here e) a.1 (pointed here memory e p.1))))
    library_good (lib.ThreadDetach o) into values t = let p = and_true _ _ t in sure_call thread_type o into values Detaches p.0 p.1 (λ c. tt)
    library_good (lib.ThreadExit e) into values t = let p = and_true _ _ t in none_judged _ G values _ (with_judged _ G IsNumber (Fails here e) Plain (eval here e) _ (numbered here memory e (at_number Int _ p.0)) (λ f. f)
        (λ v _ n. turns_good here memory result _ (Exits (Some v)) n))
    library_good lib.ThreadYield into values t = none_judged _ G values _ (plain_good here memory result _ [] [] tt)
    library_good (lib.ThreadSleep e) into values t = let p = and_true _ _ t in one_judged _ G _ values _ (λ z. until_good _ Plain e _ p.0 (λ f. f) (λ loads. gives_good here memory result _ into loads [] (Number z) tt (into_fits here.program into (A_number Int) (Number z) p.1 tt)))
    library_good (lib.TimespecGet e) into values t = let p = and_true _ _ t in so_judged _ G (is_time values) _ (λ _. timespec_good e into values p.0 p.1)
    library_good (lib.MutexInit e own) into values t = let p = and_true _ _ t in int_call mutex_type e into values (λ c z. Inits c own z) p.0 p.1 (λ c z. tt)
    library_good (lib.MutexLock e) into values t = let p = and_true _ _ t in sure_call mutex_type e into values Locks p.0 p.1 (λ c. tt)
    library_good (lib.MutexTryLock e) into values t = let p = and_true _ _ t in int_call mutex_type e into values Tries p.0 p.1 (λ c z. tt)
    library_good (lib.MutexTimedLock e u) into values t = let a = and_true _ _ t in let p = and_true _ _ a.0 in one_judged _ G _ values _ (λ z.
        with_judged _ G (OfType here memory mutex_type) (PlaceFails here mutex_type e) Plain (place_at here mutex_type e) _ (placed here memory mutex_type e p.0) inl (λ m _ _.
        until_good _ (Tries_timed m z) u _ p.1 inr (λ loads. asks_judged _ G (record { loads = loads; stores = []; request = Tries_timed m z; result = Some (Number z); into = into; turn = Goes })
        (record { stores = tt; given = into_fits here.program into (A_number Int) (Number z) a.1 tt; request = tt; turn = tt }))))
    library_good (lib.MutexUnlock e) into values t = let p = and_true _ _ t in sure_call mutex_type e into values Unlocks p.0 p.1 (λ c. tt)
    library_good (lib.MutexDestroy e) into values t = bare_call mutex_type e values Destroys (and_true _ _ t).0 (λ c. tt)
    library_good (lib.ConditionInit e) into values t = let p = and_true _ _ t in int_call condition_type e into values Opens p.0 p.1 (λ c z. tt)
    library_good (lib.ConditionDestroy e) into values t = bare_call condition_type e values Closes (and_true _ _ t).0 (λ c. tt)
    library_good (lib.ConditionSignal e) into values t = let p = and_true _ _ t in sure_call condition_type e into values Signals p.0 p.1 (λ c. tt)
    library_good (lib.ConditionBroadcast e) into values t = let p = and_true _ _ t in sure_call condition_type e into values Signals p.0 p.1 (λ c. tt)
    library_good (lib.ConditionWait e d) into values t = let p = and_true _ _ (and_true _ _ t).0 in two_objects condition_type mutex_type e d values Waits p.0 p.1 (λ c m. tt)
    library_good (lib.ConditionTimedWait e d u) into values t = let a = and_true _ _ t in let p = and_true _ _ a.0 in let b = and_true _ _ a.1 in none_judged _ G values _
        (with_judged _ G (OfType here memory condition_type) (PlaceFails here condition_type e) Plain (place_at here condition_type e) _ (placed here memory condition_type e p.0) inl (λ c _ _.
        with_judged _ G (OfType here memory mutex_type) (PlaceFails here mutex_type d) Plain (place_at here mutex_type d) _ (placed here memory mutex_type d p.1) (λ f. inr (inl f)) (λ m _ _.
        until_good _ (Waits c m) u _ b.0 (λ f. inr (inr f)) (λ loads. asks_judged _ G (record { loads = loads; stores = []; request = Waits c m; result = None; into = None; turn = Goes })
        (record { stores = tt; given = tt; request = tt; turn = tt })))))
    library_good (lib.KeyCreate e) into values t = let p = and_true _ _ t in int_call key_type e into values Makes_key p.0 p.1 (λ c z. tt)
    library_good (lib.KeyGet e) into values t = let p = and_true _ _ t in none_judged _ G values _ (with_judged _ G (OfType here memory key_type) (PlaceFails here key_type e) Plain (place_at here key_type e) _ (placed here memory key_type e p.0) (λ f. f)
        (λ k _ _. asks_judged _ G _ (record { stores = tt; given = into_none here.program into; request = λ v n. into_fits here.program into A_pointer v p.1 n; turn = tt })))
    library_good (lib.KeySet e v) into values t = let a = and_true _ _ t in let p = and_true _ _ a.0 in none_judged _ G values _
        (with_judged _ G (OfType here memory key_type) (PlaceFails here key_type e) Plain (place_at here key_type e) _ (placed here memory key_type e p.0) inl (λ k _ _.
        with_judged _ G IsPointer (Fails here v) (Sets_key k null) (eval here v) _ (pointed here memory v p.1) inr (λ w _ n. asks_good _ into success (Sets_key k w) (into_fits here.program into (A_number Int) success a.1 tt) n)))
    library_good (lib.KeyDelete e) into values t = bare_call key_type e values Deletes_key (and_true _ _ t).0 (λ c. tt)
    library_good (lib.Atomic call) into values t = let p = and_true _ _ t in atomic_good call into values p.0 p.1
