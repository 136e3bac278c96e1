-- What an action asks to load and store, it may touch: by all actions.
use Rattle.std.proofs.Common.{◌≡◌, refl, subst, ap, ◌∙◌, Bool, true, false, cond, ◌&&◌, ℕ, suc, ℤ, List, [], ◌∷◌, Option, Some, None}
use Rattle.std.specs.List.{list_all}
use Rattle.std.specs.Prelude.{option_map, option_and_then, unwrap_or, slice_get}
use Rattle.c_program.specs.declared.types.Integer.{Integer as IntegerType}
use Rattle.c_program.specs.declared.types.CType.{CType}
use Rattle.c_program.specs.declared.types.Base.TheVariants.{Integer, Atomic}
use Rattle.c_program.specs.declared.expression.Expr.{Expr}
use Rattle.c_program.specs.declared.action.Local.{Local as LocalOf}
use Rattle.c_program.specs.declared.action.Part.{Part}
use Rattle.c_program.specs.declared.action.AtomicCall.{AtomicCall}
use Rattle.c_program.specs.declared.action.AtomicOperation.{AtomicOperation}
use Rattle.c_program.specs.declared.action.AtomicOperation.TheVariants as atomic
use Rattle.c_program.specs.declared.action.LibraryCall.{LibraryCall}
use Rattle.c_program.specs.declared.action.LibraryCall.TheVariants as lib
use Rattle.c_program.specs.declared.action.Act.{Act}
use Rattle.c_program.specs.declared.action.Act.TheVariants as act
use Rattle.c_program.specs.declared.program.Object.{Object as ObjectOf}
use Rattle.c_program.specs.declared.program.Storage.{Storage}
use Rattle.c_program.specs.declared.program.Storage.TheVariants as storage
use Rattle.c_program.specs.declared.program.Program.{Program}
use Rattle.c_program.specs.Syntax.{c_int, object_at}
use Rattle.c_program.specs.Types.{converted, is_scalar, is_atomic, plain_type}
use Rattle.c_program.specs.Values.{Root, Cell, Value, Number, Address, part, is_static}
use Rattle.c_program.specs.Evaluation.{Here, root_in, root_of, whole, object_at_type, eval, place_at}
use Rattle.c_program.specs.Control.{Spot}
use Rattle.c_program.specs.Requests.{Load, Store, Sets, Copies, Clears, Zeroes, Request, Plain, Weakens, Joins, Tries_timed, Waits, atomic_load, read_of, timespec, gives, Turn, Goes, Enters, Leaves, Exits, Ask, Asked, Asks, asked, with_for, fills, filled_by, reads, compared, compares, operated, atomic_asks, library_asks, result_at, time_told, external, leaves, is_sequential, unless_library, until, retakes}
use Rattle.c_program.specs.Counters.{is_constant_in, constant_in}
use Rattle.c_program.specs.WellFormed.{is_automatic, act_is_known, type_is_known, is_known}
use Rattle.c_program.proofs.Asks.{EachAsk, with_each, so_each, meant_each, none_each, one_each, if_each, further_each, unless_each}
use Rattle.c_program.proofs.Cells.{and_true}
use Rattle.pointer_targets.specs.Places.{place_of}
use Rattle.pointer_targets.specs.PointsTo.{Holds}
use Rattle.pointer_targets.specs.Accesses.{DataAccess, reads_at, writes_at, of_object, data_accesses, call_accesses, atomic_accesses, part_accesses}
use Rattle.pointer_targets.proofs.Values.{OnOption}
use Rattle.pointer_targets.proofs.Asked.{place_is_named, place_typed}
use Rattle.pointer_targets.proofs.Regions.{Reaches}

module _ (program : Program) (strings : ℕ → List Spot) (string : List Spot) (spot : Spot) (action : Act) where
  -- an access of the action reaches the cell
  pub record Touched (writes atomically : Bool) (cell : Cell) : Type 0 where
    pub access : DataAccess
    pub number : ℕ
    pub has : slice_get (data_accesses action) number ≡ Some access
    pub as_write : access.writes ≡ writes
    pub as_atomic : access.is_atomic ≡ atomically
    pub reaches : Reaches program strings string spot access cell

  abbrev pub IsStatic : Cell → Type 0
  IsStatic cell = is_static cell ≡ true

  abbrev pub StoreTouched : Store → Type 0
  StoreTouched (Sets to v a) = IsStatic to → Touched true a to
  StoreTouched (Copies to from) = IsStatic to → Touched true false to
  StoreTouched (Clears object) = IsStatic object → ⊥
  StoreTouched (Zeroes object) = IsStatic object → ⊥

  abbrev pub EachLoad : List Load → Type 0
  EachLoad [] = Unit {0}
  EachLoad (load ∷ loads) = Touched false load.is_atomic load.from × EachLoad loads

  abbrev pub EachStore : List Store → Type 0
  EachStore [] = Unit {0}
  EachStore (store ∷ stores) = StoreTouched store × EachStore stores

  abbrev pub RequestTouched : Request → Type 0
  RequestTouched (Joins object (Some cell)) = Touched true false cell
  RequestTouched _ = Unit {0}

  pub record AskTouched (ask : Ask) : Type 0 where
    pub loads : EachLoad ask.loads
    pub stores : EachStore ask.stores
    pub request : RequestTouched ask.request

module _ (program : Program) (strings : ℕ → List Spot) (B : Root → Type 0) (here : Here) (own : here.program ≡ program) (there : (n : ℕ) → B (root_of here n)) (spot : Spot)
    (constant : (i : Expr) → is_constant_in spot.rounds i ≡ true → eval here i ≡ constant_in program spot.rounds i)
    (memory : (cell : Cell) → B cell.root → OnOption (λ to. B to.root × Holds program (place_of strings cell) (place_of strings to)) (here.memory cell)) where
  abbrev string : List Spot
  string = strings here.frame

  abbrev T : Act → Bool → Bool → Cell → Type 0
  T action writes atomically cell = Touched program strings string spot action writes atomically cell

  abbrev P : Act → Ask → Type 0
  P action ask = AskTouched program strings string spot action ask

  direct : (e : Expr) (t : CType) (w a : Bool) (cell : Cell) → place_at here t e ≡ Some cell → Reaches program strings string spot (record { address = e; c_type = t; writes = w; is_atomic = a }) cell
  direct e t w a cell q = record {
    base = cell;
    outer = [];
    root = refl;
    path = refl;
    names = (place_is_named program strings B here own there spot constant memory e t cell q).1;
    typed = place_typed program strings B here own there spot constant memory e t cell q;
    whole = λ s. refl;
  }

  -- one of the numbers of a time
  in_time : (e : Expr) (w a : Bool) (time : Cell) (k : ℕ) → place_at here timespec e ≡ Some time → Reaches program strings string spot (record { address = e; c_type = timespec; writes = w; is_atomic = a }) (part k time)
  in_time e w a time k q = record {
    base = time;
    outer = k ∷ [];
    root = refl;
    path = refl;
    names = (place_is_named program strings B here own there spot constant memory e timespec time q).1;
    typed = place_typed program strings B here own there spot constant memory e timespec time q;
    whole = λ s. absurd (cc);
  }

  touch : (action : Act) (e : Expr) (t : CType) (w a : Bool) (number : ℕ) → slice_get (data_accesses action) number ≡ Some (record { address = e; c_type = t; writes = w; is_atomic = a })
      → (cell : Cell) → place_at here t e ≡ Some cell → T action w a cell
  touch action e t w a number h cell q = record { access = record { address = e; c_type = t; writes = w; is_atomic = a }; number = number; has = h; as_write = refl; as_atomic = refl; reaches = direct e t w a cell q }

  touch_time : (action : Act) (e : Expr) (w : Bool) (number : ℕ) → slice_get (data_accesses action) number ≡ Some (record { address = e; c_type = timespec; writes = w; is_atomic = false })
      → (time : Cell) (k : ℕ) → place_at here timespec e ≡ Some time → T action w false (part k time)
  touch_time action e w number h time k q = record { access = record { address = e; c_type = timespec; writes = w; is_atomic = false }; number = number; has = h; as_write = refl; as_atomic = refl; reaches = in_time e w false time k q }

  -- ---- own locals are automatic

  automatic_so : (n : ℕ) (path : List ℕ) → is_automatic program n ≡ true → is_static (record { root = root_of here n; path = path }) ≡ true → ⊥
  automatic_so n path e s = go (object_at program n) refl (subst (λ p. is_static (record { root = root_in here (unwrap_or (option_map (λ (o : ObjectOf). o.storage) (object_at p n)) storage.Static) n; path = path }) ≡ true) own s)
    where
      told : (o : ObjectOf) → object_at program n ≡ Some o → o.storage ≡ storage.Static → false ≡ true
      told o q r = cc

      none : object_at program n ≡ None → false ≡ true
      none q = cc

      by_storage : (o : ObjectOf) → object_at program n ≡ Some o → (s : Storage) → o.storage ≡ s → is_static (record { root = root_in here s n; path = path }) ≡ true → ⊥
      by_storage o q storage.Static r s = absurd (let f = told o q r in cc)
      by_storage o q storage.Thread r s = absurd (cc)
      by_storage o q storage.Automatic r s = absurd (cc)

      go : (o : Option ObjectOf) → object_at program n ≡ o → is_static (record { root = root_in here (unwrap_or (option_map (λ (o : ObjectOf). o.storage) o) storage.Static) n; path = path }) ≡ true → ⊥
      go None q s = absurd (let f = none q in cc)
      go (Some o) q s = by_storage o q o.storage refl s

  -- ---- forms of asking

  plain_touched : (action : Act) (loads : List Load) (stores : List Store) (result : Option Value) (into : Option LocalOf) (turn : Turn) → EachLoad program strings string spot action loads → EachStore program strings string spot action stores
      → P action (record { loads = loads; stores = stores; request = Plain; result = result; into = into; turn = turn })
  plain_touched action loads stores result into turn l s = record { loads = l; stores = s; request = tt }

  request_touched : (action : Act) (loads : List Load) (request : Request) (result : Option Value) (into : Option LocalOf) → EachLoad program strings string spot action loads → RequestTouched program strings string spot action request
      → P action (record { loads = loads; stores = []; request = request; result = result; into = into; turn = Goes })
  request_touched action loads request result into l r = record { loads = l; stores = tt; request = r }

  -- ---- braced initialisers

  module _ (n : ℕ) (all : List Part) (local : is_automatic program n ≡ true) where
    abbrev F : Act
    F = act.Fill n all

    -- the structures among some parts are among all of them
    Among : List Part → Type 0
    Among parts = (i : ℕ) (access : DataAccess) → slice_get (part_accesses parts) i ≡ Some access → (j : ℕ) × (slice_get (data_accesses F) j ≡ Some access)

    filled_touched : (p : Part) (parts : List Part) → Among (p ∷ parts) → (ask : Ask) (v : Value) → eval here p.value ≡ Some v → P F ask → EachAsk (P F) (filled_by here (whole here n) p ask v)
    unfolding EachAsk Among
    filled_touched p parts among ask v q a = go (is_scalar p.c_type) refl
      where
        go : (b : Bool) → is_scalar p.c_type ≡ b → EachAsk (P F) (cond b (Asks (record ask { stores = Sets (record { root = root_of here n; path = p.path }) v false ∷ ask.stores }))
            (with_for Plain (object_at_type here p.c_type v) (λ from. Asks (record ask { loads = read_of from ∷ ask.loads; stores = Copies (record { root = root_of here n; path = p.path }) from ∷ ask.stores }))))
        go true s = record { loads = a.loads; stores = ((λ z. absurd (automatic_so n p.path local z)), a.stores); request = a.request }
        go false s = with_each (P F) Plain (object_at_type here p.c_type v) _ (λ from r. let m = among 0 (reads_at p.value p.c_type false) (ap (λ b. slice_get (cond b (part_accesses parts) (reads_at p.value p.c_type false ∷ part_accesses parts)) 0) s) in record {
          loads = (touch F p.value p.c_type false false m.0 m.1 from (ap (option_and_then (object_at_type here p.c_type)) q ∙ r), a.loads);
          stores = ((λ z. absurd (automatic_so n p.path local z)), a.stores);
          request = a.request;
        })

    further_parts : (p : Part) (parts : List Part) → Among (p ∷ parts) → Among parts
    unfolding Among
    further_parts p parts among i access e = go (is_scalar p.c_type) refl
      where
        go : (b : Bool) → is_scalar p.c_type ≡ b → (j : ℕ) × (slice_get (data_accesses F) j ≡ Some access)
        go true s = among i access (ap (λ b. slice_get (cond b (part_accesses parts) (reads_at p.value p.c_type false ∷ part_accesses parts)) i) s ∙ e)
        go false s = among (suc i) access (ap (λ b. slice_get (cond b (part_accesses parts) (reads_at p.value p.c_type false ∷ part_accesses parts)) (suc i)) s ∙ e)

    fills_touched : (parts : List Part) → Among parts → EachAsk (P F) (fills here (whole here n) parts)
    unfolding EachAsk
    fills_touched [] among = plain_touched F [] [] None None Goes tt tt
    fills_touched (p ∷ parts) among = further_each (P F) (P F) (fills here (whole here n) parts) _ (fills_touched parts (further_parts p parts among))
        (λ ask a. with_each (P F) Plain (eval here p.value) _ (λ v q. filled_touched p parts among ask v q a))

  -- ---- calls

  external_touched : (action : Act) (values : List ℤ) (t : Option IntegerType) (into : Option LocalOf) → EachAsk (P action) (external values t into)
  unfolding EachAsk
  external_touched action values None into = none_each (P action) values _ (plain_touched action [] [] None None Goes tt tt)
  external_touched action values (Some t) into = one_each (P action) _ values _ (λ z. plain_touched action [] [] _ into Goes tt tt)

  leaves_touched : (result : Option Expr) → EachAsk (P (act.Return result)) (leaves here result)
  unfolding EachAsk
  leaves_touched None = plain_touched (act.Return None) [] [] None None (Leaves None) tt tt
  leaves_touched (Some e) = with_each (P (act.Return (Some e))) _ _ _ (λ v q. plain_touched (act.Return (Some e)) [] [] None None (Leaves (Some v)) tt tt)

  result_touched : (action : Act) (e : Expr) (object : Cell) (g : Option Cell → Asked) → EachAsk (P action) (g None) → ((cell : Cell) → place_at here c_int e ≡ Some cell → EachAsk (P action) (g (Some cell))) → EachAsk (P action) (result_at here object (eval here e) g)
  unfolding EachAsk
  result_touched action e object g h k = go (eval here e) refl
    where
      go : (o : Option Value) → eval here e ≡ o → EachAsk (P action) (result_at here object o g)
      go None q = tt
      go (Some (Number z)) q = h
      go (Some (Address cell)) q = with_each (P action) _ (object_at_type here c_int (Address cell)) _ (λ c r. meant_each (P action) _ _ _ (k c (ap (option_and_then (object_at_type here c_int)) q ∙ r)))

  told_touched : (action : Act) (e : Expr) (h : slice_get (data_accesses action) 0 ≡ Some (writes_at e timespec false)) (into : Option LocalOf) (time : Cell) (values : List ℤ) → place_at here timespec e ≡ Some time → EachAsk (P action) (time_told into time values)
  unfolding EachAsk
  told_touched action e h into time (s ∷ n ∷ r ∷ []) q = plain_touched action [] _ _ into Goes tt ((λ z. touch_time action e true 0 h time 0 q), ((λ z. touch_time action e true 0 h time 1 q), tt))
  told_touched action e h into time [] q = tt
  told_touched action e h into time (s ∷ []) q = tt
  told_touched action e h into time (s ∷ n ∷ []) q = tt
  told_touched action e h into time (s ∷ n ∷ r ∷ x ∷ zs) q = tt

  until_touched : (action : Act) (e : Expr) → slice_get (data_accesses action) 0 ≡ Some (reads_at e timespec false) → (request : Request) (g : List Load → Asked)
      → ((loads : List Load) → EachLoad program strings string spot action loads → EachAsk (P action) (g loads)) → EachAsk (P action) (until here request e g)
  unfolding EachAsk
  until_touched action e h request g k = with_each (P action) request (place_at here timespec e) _ (λ time q. meant_each (P action) _ _ _
      (k _ (touch_time action e false 0 h time 0 q, (touch_time action e false 0 h time 1 q, tt))))

  -- ---- atomic operations

  module _ (call : AtomicCall) (into : Option LocalOf) where
    abbrev L : Act
    L = act.Library (lib.Atomic call) into

    at_operation : (operation : AtomicOperation) (number : ℕ) (access : DataAccess) → call.operation ≡ operation → slice_get (atomic_accesses call operation) number ≡ Some access → slice_get (data_accesses L) number ≡ Some access
    at_operation operation number access o h = ap (λ op. slice_get (atomic_accesses call op) number) o ∙ h

    abbrev Leads : Cell → Type 0
    Leads cell = place_at here (of_object call) call.object ≡ Some cell

    operated_touched : (cell : Cell) (new : ℤ → ℤ → ℤ) → Leads cell → slice_get (data_accesses L) 0 ≡ Some (reads_at call.object (of_object call) true) → slice_get (data_accesses L) 1 ≡ Some (writes_at call.object (of_object call) true)
        → EachAsk (P L) (operated here call into cell new)
    unfolding EachAsk
    operated_touched cell new q r w = with_each (P L) _ _ _ (λ old _. with_each (P L) _ _ _ (λ z _. plain_touched L _ _ _ into Goes
        (touch L call.object (of_object call) false true 0 r cell q, tt) ((λ s. touch L call.object (of_object call) true true 1 w cell q), tt)))

    compared_touched : (cell expected : Cell) (old wanted : ℤ) (b : Bool) → Leads cell → place_at here (plain_type (Integer call.integer)) call.expected ≡ Some expected
        → ((number : ℕ) (access : DataAccess) → slice_get (Rattle.pointer_targets.specs.Accesses.compares call) number ≡ Some access → slice_get (data_accesses L) number ≡ Some access)
        → EachAsk (P L) (compared here into cell expected old wanted b)
    unfolding EachAsk
    compared_touched cell expected old wanted true q r h = meant_each (P L) _ _ _ (plain_touched L _ _ _ into Goes
        (touch L call.object (of_object call) false true 0 (h 0 _ refl) cell q, (touch L call.expected (plain_type (Integer call.integer)) false false 2 (h 2 _ refl) expected r, tt))
        ((λ s. touch L call.object (of_object call) true true 1 (h 1 _ refl) cell q), tt))
    compared_touched cell expected old wanted false q r h = meant_each (P L) _ _ _ (plain_touched L _ _ _ into Goes
        (touch L call.object (of_object call) false true 0 (h 0 _ refl) cell q, (touch L call.expected (plain_type (Integer call.integer)) false false 2 (h 2 _ refl) expected r, tt))
        ((λ s. touch L call.expected (plain_type (Integer call.integer)) true false 3 (h 3 _ refl) expected r), tt))

    compares_touched : (cell : Cell) (old : ℤ) (values : List ℤ) → Leads cell
        → ((number : ℕ) (access : DataAccess) → slice_get (Rattle.pointer_targets.specs.Accesses.compares call) number ≡ Some access → slice_get (data_accesses L) number ≡ Some access)
        → EachAsk (P L) (compares here call into cell old values)
    unfolding EachAsk
    compares_touched cell old values q h = with_each (P L) _ _ _ (λ expected r. with_each (P L) _ _ _ (λ held _. with_each (P L) _ _ _ (λ wanted _.
        so_each (P L) _ _ (λ _. compared_touched cell expected old wanted _ q r h))))

    atomic_touched : (values : List ℤ) (cell : Cell) (operation : AtomicOperation) → call.operation ≡ operation → Leads cell → EachAsk (P L) (atomic_asks here call into values cell operation)
    unfolding EachAsk
    atomic_touched values cell atomic.Init o q = with_each (P L) _ _ _ (λ v _. plain_touched L [] _ None None Goes tt ((λ s. touch L call.object (of_object call) true false 0 (at_operation atomic.Init 0 _ o refl) cell q), tt))
    atomic_touched values cell atomic.Load o q = with_each (P L) _ _ _ (λ v _. plain_touched L _ [] _ into Goes (touch L call.object (of_object call) false true 0 (at_operation atomic.Load 0 _ o refl) cell q, tt) tt)
    atomic_touched values cell atomic.Store o q = with_each (P L) _ _ _ (λ v _. plain_touched L [] _ None None Goes tt ((λ s. touch L call.object (of_object call) true true 0 (at_operation atomic.Store 0 _ o refl) cell q), tt))
    atomic_touched values cell atomic.Exchange o q = operated_touched cell _ q (at_operation atomic.Exchange 0 _ o refl) (at_operation atomic.Exchange 1 _ o refl)
    atomic_touched values cell atomic.FetchAdd o q = operated_touched cell _ q (at_operation atomic.FetchAdd 0 _ o refl) (at_operation atomic.FetchAdd 1 _ o refl)
    atomic_touched values cell atomic.FetchSubtract o q = operated_touched cell _ q (at_operation atomic.FetchSubtract 0 _ o refl) (at_operation atomic.FetchSubtract 1 _ o refl)
    atomic_touched values cell atomic.FetchOr o q = operated_touched cell _ q (at_operation atomic.FetchOr 0 _ o refl) (at_operation atomic.FetchOr 1 _ o refl)
    atomic_touched values cell atomic.FetchXor o q = operated_touched cell _ q (at_operation atomic.FetchXor 0 _ o refl) (at_operation atomic.FetchXor 1 _ o refl)
    atomic_touched values cell atomic.FetchAnd o q = operated_touched cell _ q (at_operation atomic.FetchAnd 0 _ o refl) (at_operation atomic.FetchAnd 1 _ o refl)
    atomic_touched values cell atomic.CompareExchangeStrong o q = with_each (P L) _ _ _ (λ old _. compares_touched cell old _ q (λ number access h. at_operation atomic.CompareExchangeStrong number access o h))
    atomic_touched values cell atomic.CompareExchangeWeak o q = with_each (P L) _ _ _ (λ old _. compares_touched cell old _ q (λ number access h. at_operation atomic.CompareExchangeWeak number access o h))

  -- ---- library calls

  library_touched : (call : LibraryCall) (into : Option LocalOf) (values : List ℤ) → EachAsk (P (act.Library call into)) (library_asks here call into values)
  unfolding EachAsk
  library_touched (lib.ThreadCreate o function e) into values = one_each (P (act.Library (lib.ThreadCreate o function e) into)) _ values _ (λ z. with_each _ _ _ _ (λ object _. with_each _ _ _ _ (λ v _. request_touched _ [] _ _ into tt tt)))
  library_touched (lib.ThreadJoin o e) into values = none_each (P (act.Library (lib.ThreadJoin o e) into)) values _ (with_each _ _ _ _ (λ object _.
      result_touched (act.Library (lib.ThreadJoin o e) into) e object _ (request_touched _ [] (Joins object None) _ into tt tt)
      (λ to q. request_touched _ [] (Joins object (Some to)) _ into tt (touch (act.Library (lib.ThreadJoin o e) into) e c_int true false 0 refl to q))))
  library_touched (lib.ThreadDetach o) into values = none_each (P (act.Library (lib.ThreadDetach o) into)) values _ (with_each _ _ _ _ (λ object _. request_touched _ [] _ _ into tt tt))
  library_touched (lib.ThreadExit e) into values = none_each (P (act.Library (lib.ThreadExit e) into)) values _ (with_each _ _ _ _ (λ v _. plain_touched _ [] [] None None (Exits (Some v)) tt tt))
  library_touched lib.ThreadYield into values = none_each (P (act.Library lib.ThreadYield into)) values _ (plain_touched _ [] [] None None Goes tt tt)
  library_touched (lib.ThreadSleep e) into values = one_each (P (act.Library (lib.ThreadSleep e) into)) _ values _ (λ z. until_touched (act.Library (lib.ThreadSleep e) into) e refl Plain (λ loads. gives into loads [] (Number z)) (λ loads l. plain_touched _ loads [] _ into Goes l tt))
  library_touched (lib.TimespecGet e) into values = so_each (P (act.Library (lib.TimespecGet e) into)) _ _ (λ _. with_each _ _ _ _ (λ time q. meant_each _ _ _ _ (told_touched (act.Library (lib.TimespecGet e) into) e refl into time values q)))
  library_touched (lib.MutexInit e kind) into values = one_each (P (act.Library (lib.MutexInit e kind) into)) _ values _ (λ z. with_each _ _ _ _ (λ m _. request_touched _ [] _ _ into tt tt))
  library_touched (lib.MutexLock e) into values = none_each (P (act.Library (lib.MutexLock e) into)) values _ (with_each _ _ _ _ (λ m _. request_touched _ [] _ _ into tt tt))
  library_touched (lib.MutexTryLock e) into values = one_each (P (act.Library (lib.MutexTryLock e) into)) _ values _ (λ z. with_each _ _ _ _ (λ m _. request_touched _ [] _ _ into tt tt))
  library_touched (lib.MutexTimedLock e t) into values = one_each (P (act.Library (lib.MutexTimedLock e t) into)) _ values _ (λ z. with_each _ _ _ _ (λ m _. until_touched (act.Library (lib.MutexTimedLock e t) into) t refl (Tries_timed m z)
      (λ loads. Asks (record { loads = loads; stores = []; request = Tries_timed m z; result = Some (Number z); into = into; turn = Goes })) (λ loads l. request_touched _ loads (Tries_timed m z) (Some (Number z)) into l tt)))
  library_touched (lib.MutexUnlock e) into values = none_each (P (act.Library (lib.MutexUnlock e) into)) values _ (with_each _ _ _ _ (λ m _. request_touched _ [] _ _ into tt tt))
  library_touched (lib.MutexDestroy e) into values = none_each (P (act.Library (lib.MutexDestroy e) into)) values _ (with_each _ _ _ _ (λ m _. request_touched _ [] _ None None tt tt))
  library_touched (lib.ConditionInit e) into values = one_each (P (act.Library (lib.ConditionInit e) into)) _ values _ (λ z. with_each _ _ _ _ (λ c _. request_touched _ [] _ _ into tt tt))
  library_touched (lib.ConditionDestroy e) into values = none_each (P (act.Library (lib.ConditionDestroy e) into)) values _ (with_each _ _ _ _ (λ c _. request_touched _ [] _ None None tt tt))
  library_touched (lib.ConditionSignal e) into values = none_each (P (act.Library (lib.ConditionSignal e) into)) values _ (with_each _ _ _ _ (λ c _. request_touched _ [] _ _ into tt tt))
  library_touched (lib.ConditionBroadcast e) into values = none_each (P (act.Library (lib.ConditionBroadcast e) into)) values _ (with_each _ _ _ _ (λ c _. request_touched _ [] _ _ into tt tt))
  library_touched (lib.ConditionWait e d) into values = none_each (P (act.Library (lib.ConditionWait e d) into)) values _ (with_each _ _ _ _ (λ c _. with_each _ _ _ _ (λ m _. request_touched _ [] _ None None tt tt)))
  library_touched (lib.ConditionTimedWait e d t) into values = none_each (P (act.Library (lib.ConditionTimedWait e d t) into)) values _ (with_each _ _ _ _ (λ c _. with_each _ _ _ _ (λ m _. until_touched (act.Library (lib.ConditionTimedWait e d t) into) t refl (Waits c m)
      (λ loads. Asks (record { loads = loads; stores = []; request = Waits c m; result = None; into = None; turn = Goes })) (λ loads l. request_touched _ loads (Waits c m) None None l tt))))
  library_touched (lib.KeyCreate e) into values = one_each (P (act.Library (lib.KeyCreate e) into)) _ values _ (λ z. with_each _ _ _ _ (λ k _. request_touched _ [] _ _ into tt tt))
  library_touched (lib.KeyGet e) into values = none_each (P (act.Library (lib.KeyGet e) into)) values _ (with_each _ _ _ _ (λ k _. request_touched _ [] _ None into tt tt))
  library_touched (lib.KeySet e v) into values = none_each (P (act.Library (lib.KeySet e v) into)) values _ (with_each _ _ _ _ (λ k _. with_each _ _ _ _ (λ x _. request_touched _ [] _ _ into tt tt)))
  library_touched (lib.KeyDelete e) into values = none_each (P (act.Library (lib.KeyDelete e) into)) values _ (with_each _ _ _ _ (λ k _. request_touched _ [] _ None None tt tt))
  library_touched (lib.Atomic call) into values = so_each (P (act.Library (lib.Atomic call) into)) _ _ (λ _. if_each (P (act.Library (lib.Atomic call) into)) (list_all is_sequential call.orders) _ _
      (with_each _ _ _ _ (λ cell q. meant_each _ _ _ _ (atomic_touched call into values cell call.operation refl q)))
      (request_touched _ [] Weakens None None tt tt))

  -- ---- all actions

  declared_touched : (action : Act) (object : ℕ) (x : Asked) → EachAsk (P action) x → EachAsk (P action) (unless_library here object x)
  unfolding EachAsk
  declared_touched action object x h = unless_each (P action) here object x (request_touched action [] _ None None tt tt) h

  reads_touched : (e : Expr) (t : CType) (local : LocalOf) (cell : Cell) → is_automatic program local.object ≡ true → place_at here t e ≡ Some cell → EachAsk (P (act.Read e t local)) (reads here t local cell)
  unfolding EachAsk
  reads_touched e t local cell k q = go (is_scalar t) refl
    where
      go : (b : Bool) → is_scalar t ≡ b → EachAsk (P (act.Read e t local)) (cond b (with_for Plain (here.memory cell) (λ v. gives (Some local) (record { from = cell; is_atomic = is_atomic t } ∷ []) [] v))
          (Asks (record { loads = read_of cell ∷ []; stores = Copies (record { root = root_of here local.object; path = local.path }) cell ∷ []; request = Plain; result = None; into = None; turn = Goes })))
      go true s = with_each (P (act.Read e t local)) _ _ _ (λ v _. plain_touched (act.Read e t local) _ [] _ (Some local) Goes (touch (act.Read e t local) e t false (is_atomic t) 0 refl cell q, tt) tt)
      go false s = plain_touched (act.Read e t local) _ _ None None Goes (touch (act.Read e t local) e t false false 0 (ap (λ b. Some (reads_at e t b)) (not_atomic (is_scalar t) _ s)) cell q, tt)
          ((λ z. absurd (automatic_so local.object local.path k z)), tt)
        where
          not_atomic : (a b : Bool) → a ≡ false → (a && b) ≡ false
          not_atomic false b e = refl
          not_atomic true b e = absurd (cc)

  pub action_touched : (action : Act) → act_is_known program action ≡ true → (pair : ℕ) (values : List ℤ) → EachAsk (P action) (asked here action pair values)
  unfolding EachAsk Among
  action_touched (act.Read e t local) k pair values = none_each (P (act.Read e t local)) values _ (with_each _ _ _ _ (λ cell q. reads_touched e t local cell (and_true _ _ (and_true (type_is_known program t) _ (and_true (is_known program e) _ k).1).1).0 q))
  action_touched (act.Write e t v) k pair values = none_each (P (act.Write e t v)) values _ (with_each _ _ _ _ (λ cell q. with_each _ _ _ _ (λ x _.
      meant_each _ _ _ _ (plain_touched (act.Write e t v) [] (Sets cell x (is_atomic t) ∷ []) None None Goes tt ((λ s. touch (act.Write e t v) e t true (is_atomic t) 0 refl cell q), tt)))))
  action_touched (act.Update e t op u v) k pair values = none_each (P (act.Update e t op u v)) values _ (with_each _ _ _ _ (λ cell q. with_each _ _ _ _ (λ old _. with_each _ _ _ _ (λ z _. with_each _ _ _ _ (λ new _.
      meant_each _ _ _ _ (plain_touched (act.Update e t op u v) (atomic_load cell ∷ []) (Sets cell (Number (converted t new)) true ∷ []) None None Goes
      (touch (act.Update e t op u v) e (plain_type (Atomic t)) false true 0 refl cell q, tt) ((λ s. touch (act.Update e t op u v) e (plain_type (Atomic t)) true true 1 refl cell q), tt)))))))
  action_touched (act.Assign local e) k pair values = none_each (P (act.Assign local e)) values _ (with_each _ _ _ _ (λ v _. plain_touched _ [] [] _ (Some local) Goes tt tt))
  action_touched (act.Declare object) k pair values = none_each (P (act.Declare object)) values _ (declared_touched (act.Declare object) object _ (plain_touched _ [] (Clears (whole here object) ∷ []) None None Goes tt ((λ z. automatic_so object [] k z), tt)))
  action_touched (act.Copy e t d) k pair values = none_each (P (act.Copy e t d)) values _ (with_each _ _ _ _ (λ from q. with_each _ _ _ _ (λ to r.
      meant_each _ _ _ _ (plain_touched (act.Copy e t d) (read_of from ∷ []) (Copies to from ∷ []) None None Goes (touch (act.Copy e t d) d t false false 0 refl from q, tt) ((λ s. touch (act.Copy e t d) e t true false 1 refl to r), tt)))))
  action_touched (act.Fill object parts) k pair values = let l = (and_true (is_automatic program object) _ k).0 in none_each (P (act.Fill object parts)) values _ (declared_touched (act.Fill object parts) object _
      (further_each (P (act.Fill object parts)) (P (act.Fill object parts)) (fills here (whole here object) parts) _ (fills_touched object parts l parts (λ i access h. (i, h)))
      (λ ask a. record { loads = a.loads; stores = ((λ z. automatic_so object [] l z), a.stores); request = a.request })))
  action_touched (act.Touch e t what) k pair values = none_each (P (act.Touch e t what)) values _ (request_touched _ [] _ None None tt tt)
  action_touched (act.Library call into) k pair values = library_touched call into values
  action_touched (act.External name arguments result into) k pair values = further_each (P (act.External name arguments result into)) (P (act.External name arguments result into)) (external values result into) _
      (external_touched (act.External name arguments result into) values result into) (λ ask a. with_each _ _ _ _ (λ vs _. a))
  action_touched (act.Call function arguments into) k pair values = none_each (P (act.Call function arguments into)) values _ (with_each _ _ _ _ (λ vs q. plain_touched _ [] [] None None (Enters function vs into) tt tt))
  action_touched act.Turn k pair values = none_each (P act.Turn) values _ (plain_touched _ [] [] None None Goes tt tt)
  action_touched (act.Return result) k pair values = none_each (P (act.Return result)) values _ (leaves_touched result)
  action_touched act.End k pair values = none_each (P act.End) values _ (plain_touched _ [] [] None None (Leaves None) tt tt)
  action_touched (act.Evaluate e) k pair values = none_each (P (act.Evaluate e)) values _ (with_each _ _ _ _ (λ v _. plain_touched _ [] [] None None Goes tt tt))
  action_touched (act.Branch e into) k pair values = none_each (P (act.Branch e into)) values _ (with_each _ _ _ _ (λ b _. so_each _ _ _ (λ _. plain_touched _ [] [] _ into Goes tt tt)))
  action_touched (act.Switch e clauses) k pair values = none_each (P (act.Switch e clauses)) values _ (with_each _ _ _ _ (λ z _. so_each _ _ _ (λ _. plain_touched _ [] [] None None Goes tt tt)))

-- the second step of a wait
pub retakes_touched : (program : Program) (strings : ℕ → List Spot) (calls : List Spot) (spot : Spot) (action : Act) (m : Cell) (values : List ℤ)
    → EachAsk (AskTouched program strings calls spot action) (retakes action m values)
unfolding EachAsk
retakes_touched program strings calls spot (act.Library (lib.ConditionWait e d) into) m values = none_each (AskTouched program strings calls spot (act.Library (lib.ConditionWait e d) into)) values _ (record { loads = tt; stores = tt; request = tt })
retakes_touched program strings calls spot (act.Library (lib.ConditionTimedWait e d t) into) m values = one_each (AskTouched program strings calls spot (act.Library (lib.ConditionTimedWait e d t) into)) _ values _ (λ z. record { loads = tt; stores = tt; request = tt })
retakes_touched program strings calls spot _ m values = tt
