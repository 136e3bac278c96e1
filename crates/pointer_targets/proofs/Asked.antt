-- What each action asks for fits points-to: by all actions.
use Rattle.std.proofs.Common.{◌≡◌, refl, sym, subst, ap, ◌∙◌, Bool, true, false, cond, ◌&&◌, ℕ, suc, zero, ℤ, List, [], ◌∷◌, Option, Some, None}
use Rattle.std.specs.List.{list_all}
use Rattle.std.specs.Prelude.{option_map, option_and_then, unwrap_or, slice_get}
use Rattle.c_program.specs.declared.types.Integer.{Integer as IntegerType}
use Rattle.c_program.specs.declared.types.CType.{CType}
use Rattle.c_program.specs.declared.types.Base.TheVariants.{Atomic}
use Rattle.c_program.specs.declared.expression.Expr.{Expr}
use Rattle.c_program.specs.declared.action.Local.{Local as LocalOf}
use Rattle.c_program.specs.declared.action.Part.{Part}
use Rattle.c_program.specs.declared.action.AtomicCall.{AtomicCall}
use Rattle.c_program.specs.declared.action.AtomicOperation.{AtomicOperation}
use Rattle.c_program.specs.declared.action.AtomicOperation.TheVariants as atomic
use Rattle.c_program.specs.declared.action.LibraryCall.{LibraryCall}
use Rattle.c_program.specs.declared.action.LibraryCall.TheVariants as lib
use Rattle.c_program.specs.declared.action.Act.{Act}
use Rattle.c_program.specs.declared.action.Act.TheVariants as act
use Rattle.c_program.specs.declared.program.Program.{Program}
use Rattle.c_program.specs.Syntax.{c_int, act_at, parameters_at}
use Rattle.c_program.specs.Types.{converted, is_scalar, is_atomic, same_type, plain_type}
use Rattle.c_program.specs.Values.{Root, Cell, Value, Number, Address, null, type_of_cell}
use Rattle.c_program.specs.Evaluation.{Here, root_of, whole, object_at_type, eval, eval_all, place_at}
use Rattle.c_program.specs.Control.{Spot}
use Rattle.c_program.specs.Requests.{Load, Store, Sets, Copies, Clears, Request, Plain, Weakens, Tries_timed, Waits, Gets_key, Sets_key, key_type, asks, success, atomic_load, read_of, gives, Turn, Goes, Enters, Leaves, Exits, Ask, Asked, Asks, asked, with_for, fills, filled_by, reads, compared, compares, operated, exchanged, atomic_asks, library_asks, result_at, time_told, external, leaves, is_sequential, unless_library, until, retakes}
use Rattle.c_program.specs.Counters.{is_constant_in, constant_in}
use Rattle.c_program.proofs.Asks.{EachAsk, with_each, so_each, meant_each, none_each, one_each, if_each, further_each, unless_each}
use Rattle.pointer_targets.specs.Places.{Place, own_place, place_in, below, place_of}
use Rattle.pointer_targets.specs.PointsTo.{Stands, MayPointTo, Holds, written, assigned, read, read_whole, copied, filled, filled_whole, stored, loaded, passed, handed, joined, got, set, exited, sets, IsOfType}
use Rattle.pointer_targets.proofs.Values.{OnAddress, OnOption, on_map, place_here, own_type, has_type, and_right}
use Rattle.pointer_targets.proofs.Evaluated.{evaluated}
use Rattle.pointer_targets.proofs.Fine.{Points, EachFine, IntoFine, Given, Passed, BoundFine, Handed, RequestFine, Leaving, TurnFine, AskFine, ResultFine, KeptFine}

OnCell : (Cell → Type 0) → Option Cell → Type 0
OnCell Q None = Unit {0}
OnCell Q (Some cell) = Q cell

module _ (program : Program) (strings : ℕ → List Spot) (B : Root → Type 0) (here : Here) (own : here.program ≡ program) (there : (n : ℕ) → B (root_of here n)) (spot : Spot)
    (constant : (i : Expr) → is_constant_in spot.rounds i ≡ true → eval here i ≡ constant_in program spot.rounds i)
    (memory : (cell : Cell) → B cell.root → OnOption (λ to. B to.root × Holds program (place_of strings cell) (place_of strings to)) (here.memory cell)) where
  abbrev string : List Spot
  string = strings here.frame

  abbrev N : Expr → Cell → Type 0
  N e cell = B cell.root × MayPointTo program string spot.rounds e (place_of strings cell)

  abbrev P : Ask → Type 0
  P ask = AskFine program strings B string spot ask

  abbrev place : Cell → Place
  place cell = place_of strings cell

  value_named : (e : Expr) → OnOption (N e) (eval here e)
  value_named e = evaluated program strings B spot.rounds here own there constant memory e

  at_type_named : (e : Expr) (t : CType) (v : Value) → OnAddress (N e) v → OnCell (N e) (object_at_type here t v)
  unfolding OnCell
  at_type_named e t (Number z) n = tt
  at_type_named e t (Address cell) n = go _
    where
      go : (b : Bool) → OnCell (N e) (cond b (Some cell) None)
      go true = n
      go false = tt

  from_type : (e : Expr) (t : CType) (v : Value) (cell : Cell) → OnAddress (N e) v → object_at_type here t v ≡ Some cell → N e cell
  unfolding OnCell
  from_type e t v cell n q = subst (OnCell (N e)) q (at_type_named e t v n)

  place_named : (e : Expr) (t : CType) → OnCell (N e) (place_at here t e)
  unfolding OnCell
  place_named e t = go (eval here e) (value_named e)
    where
      go : (o : Option Value) → OnOption (N e) o → OnCell (N e) (option_and_then (object_at_type here t) o)
      go None n = tt
      go (Some v) n = at_type_named e t v n

  pub place_is_named : (e : Expr) (t : CType) (cell : Cell) → place_at here t e ≡ Some cell → N e cell
  unfolding OnCell
  place_is_named e t cell q = subst (OnCell (N e)) q (place_named e t)

  with_place : (request : Request) (t : CType) (e : Expr) (g : Cell → Asked) → ((cell : Cell) → N e cell → EachAsk P (g cell)) → EachAsk P (with_for request (place_at here t e) g)
  with_place request t e g h = with_each P request (place_at here t e) g (λ cell q. h cell (place_is_named e t cell q))

  -- what an address leads to has the type
  type_typed : (t : CType) (v : Value) (cell : Cell) → object_at_type here t v ≡ Some cell → IsOfType program t (place cell)
  type_typed t (Number z) cell q = absurd (cc)
  type_typed t (Address own_cell) cell q = go _ refl q
    where
      same : (a b : Cell) → Some a ≡ Some b → a ≡ b
      same a b e = cc

      go : (b : Bool) → (here.is_alive own_cell.root && unwrap_or (option_map (same_type t) (type_of_cell here.program own_cell)) false) ≡ b → cond b (Some own_cell) None ≡ Some cell → IsOfType program t (place cell)
      go true e q = let f = has_type program strings B spot.rounds here own t (type_of_cell here.program own_cell) (and_right program strings B spot.rounds here own _ _ e) in
          subst (λ c. IsOfType program t (place c)) (same own_cell cell q) (f.0, (sym (own_type program strings B spot.rounds here own own_cell) ∙ f.1.0, f.1.1))
      go false e q = absurd (cc)

  pub place_typed : (e : Expr) (t : CType) (cell : Cell) → place_at here t e ≡ Some cell → IsOfType program t (place cell)
  place_typed e t cell q = go (eval here e) q
    where
      go : (o : Option Value) → option_and_then (object_at_type here t) o ≡ Some cell → IsOfType program t (place cell)
      go None q = absurd (cc)
      go (Some v) q = type_typed t v cell q

  with_typed : (request : Request) (t : CType) (e : Expr) (g : Cell → Asked) → ((cell : Cell) → N e cell → IsOfType program t (place cell) → EachAsk P (g cell)) → EachAsk P (with_for request (place_at here t e) g)
  with_typed request t e g h = with_each P request (place_at here t e) g (λ cell q. h cell (place_is_named e t cell q) (place_typed e t cell q))

  with_value : (request : Request) (e : Expr) (g : Value → Asked) → ((v : Value) → OnAddress (N e) v → EachAsk P (g v)) → EachAsk P (with_for request (eval here e) g)
  with_value request e g h = with_each P request (eval here e) g (λ v q. h v (subst (OnOption (N e)) q (value_named e)))

  abbrev Has : Cell → Cell → Type 0
  Has cell to = B to.root × Holds program (place cell) (place to)

  with_memory : (request : Request) (cell : Cell) (g : Value → Asked) → B cell.root → ((v : Value) → OnAddress (Has cell) v → EachAsk P (g v)) → EachAsk P (with_for request (here.memory cell) g)
  with_memory request cell g l h = with_each P request (here.memory cell) g (λ v q. h v (subst (OnOption (Has cell)) q (memory cell l)))

  -- ---- forms of asking

  plain_fine : (loads : List Load) (stores : List Store) → EachFine program strings B stores
      → P (record { loads = loads; stores = stores; request = Plain; result = None; into = None; turn = Goes })
  plain_fine loads stores e = record { stores = e; result = tt; request = tt; turn = tt }

  gives_fine : (loads : List Load) (stores : List Store) (into : Option LocalOf) (v : Value) → EachFine program strings B stores → OnAddress (Given program strings B string spot into) v
      → P (record { loads = loads; stores = stores; request = Plain; result = Some v; into = into; turn = Goes })
  gives_fine loads stores into v e p = record { stores = e; result = p; request = tt; turn = tt }

  turns_fine : (turn : Turn) → TurnFine program strings B string spot turn → P (record { loads = []; stores = []; request = Plain; result = None; into = None; turn = turn })
  turns_fine turn t = record { stores = tt; result = tt; request = tt; turn = t }

  request_fine : (loads : List Load) (request : Request) (result : Option Value) (into : Option LocalOf) → RequestFine program strings B string spot into Goes request
      → OnOption (Given program strings B string spot into) result → P (record { loads = loads; stores = []; request = request; result = result; into = into; turn = Goes })
  request_fine loads request result into r v = record { stores = tt; result = v; request = r; turn = tt }

  -- ---- reads and writes

  own_place_is : (n : ℕ) (path : List ℕ) → place (record { root = root_of here n; path = path }) ≡ place_in program string n path
  own_place_is n path = place_here strings here n path ∙ ap (λ p. place_in p string n path) own

  reads_fine : (e : Expr) (t : CType) (local : LocalOf) (cell : Cell) → Stands program string spot (act.Read e t local) → N e cell → IsOfType program t (place cell) → EachAsk P (reads here t local cell)
  unfolding EachAsk
  reads_fine e t local cell s n k = go (is_scalar t) refl
    where
      go : (b : Bool) → is_scalar t ≡ b → EachAsk P (cond b (with_for Plain (here.memory cell) (λ v. gives (Some local) (record { from = cell; is_atomic = is_atomic t } ∷ []) [] v))
          (Asks (record { loads = read_of cell ∷ []; stores = Copies (record { root = root_of here local.object; path = local.path }) cell ∷ []; request = Plain; result = None; into = None; turn = Goes })))
      go true q = with_memory Plain cell _ n.0 (λ v m. gives_fine _ [] (Some local) v tt
          (on_map (Has cell) (Given program strings B string spot (Some local)) (λ to h. (h.0, read string spot e t local (place cell) (place to) s q n.1 h.1)) v m))
      go false q = plain_fine _ _ (
        (
          there local.object,
          n.0,
          λ path target h.
              subst (λ p. Holds program (below path p) target) (sym (own_place_is local.object local.path)) (read_whole string spot e t local (place cell) target path s q k n.1 h),
        ),
        tt,
      )

  -- ---- braced initialisers

  module _ (n : ℕ) (all : List Part) (s : Stands program string spot (act.Fill n all)) where
    Within : List Part → Type 0
    Within parts = (i : ℕ) (p : Part) → slice_get parts i ≡ Some p → (j : ℕ) × (slice_get all j ≡ Some p)

    part_place : (p : Part) → place (record { root = root_of here n; path = p.path }) ≡ place_in program string n p.path
    part_place p = own_place_is n p.path

    filled_fine : (p : Part) (j : ℕ) → slice_get all j ≡ Some p → (ask : Ask) (v : Value) → OnAddress (N p.value) v → P ask → EachAsk P (filled_by here (whole here n) p ask v)
    unfolding EachAsk
    filled_fine p j at ask v m a = go (is_scalar p.c_type) refl
      where
        go : (b : Bool) → is_scalar p.c_type ≡ b → EachAsk P (cond b (Asks (record ask { stores = Sets (record { root = root_of here n; path = p.path }) v false ∷ ask.stores }))
            (with_for Plain (object_at_type here p.c_type v) (λ from. Asks (record ask { loads = read_of from ∷ ask.loads; stores = Copies (record { root = root_of here n; path = p.path }) from ∷ ask.stores }))))
        go true q = record {
          stores = (
            on_map (N p.value) (Points program strings B (record { root = root_of here n; path = p.path })) (λ cell h. (
              there n,
              h.0,
              subst (λ x. Holds program x (place cell)) (sym (part_place p)) (filled string spot n j all p p.path (place cell) s at refl q h.1),
            )) v m,
            a.stores,
          );
          result = a.result;
          request = a.request;
          turn = a.turn;
        }
        go false q = with_each P Plain (object_at_type here p.c_type v) _ (λ from r. let h = from_type p.value p.c_type v from m r in record {
          stores = (
            (
              there n,
              h.0,
              λ path target k.
                  subst (λ x. Holds program (below path x) target) (sym (part_place p)) (filled_whole string spot n j all p path p.path (place from) target s at refl q (type_typed p.c_type v from r) h.1 k),
            ),
            a.stores,
          );
          result = a.result;
          request = a.request;
          turn = a.turn;
        })

    fills_fine : (parts : List Part) → Within parts → EachAsk P (fills here (whole here n) parts)
    unfolding EachAsk Within
    fills_fine [] w = plain_fine [] [] tt
    fills_fine (p ∷ parts) w = further_each P P (fills here (whole here n) parts) _ (fills_fine parts (λ i q e. w (suc i) q e))
        (λ ask a. with_value Plain p.value _ (λ v m. filled_fine p (w zero p refl).0 (w zero p refl).1 ask v m a))

  -- ---- calls

  -- the arguments, each at its parameter
  bound_fine : (ps : List ℕ) (es : List Expr) → ((i p : ℕ) (e : Expr) → slice_get ps i ≡ Some p → slice_get es i ≡ Some e → (target : Place) → MayPointTo program string spot.rounds e target → Holds program (own_place (spot ∷ string) p []) target)
      → (vs : List Value) → eval_all here es ≡ Some vs → BoundFine program strings B string spot ps vs
  bound_fine ps [] h [] q = none ps
    where
      none : (ps : List ℕ) → BoundFine program strings B string spot ps []
      none [] = tt
      none (p ∷ ps) = tt
  bound_fine ps [] h (v ∷ vs) q = absurd (cc)
  bound_fine ps (e ∷ es) h vs q = go (eval here e) (eval_all here es) (value_named e) refl q (λ qs g ws k. bound_fine qs es g ws k)
    where
      Rest : Type 0
      Rest = (qs : List ℕ) → ((i p : ℕ) (d : Expr) → slice_get qs i ≡ Some p → slice_get es i ≡ Some d → (target : Place) → MayPointTo program string spot.rounds d target → Holds program (own_place (spot ∷ string) p []) target)
          → (ws : List Value) → eval_all here es ≡ Some ws → BoundFine program strings B string spot qs ws

      same_list : (v : Value) (vs ws : List Value) → Some (v ∷ vs) ≡ Some ws → v ∷ vs ≡ ws
      same_list v vs ws q = cc

      both_fine : (ps : List ℕ) → ((i p : ℕ) (d : Expr) → slice_get ps i ≡ Some p → slice_get (e ∷ es) i ≡ Some d → (target : Place) → MayPointTo program string spot.rounds d target → Holds program (own_place (spot ∷ string) p []) target)
          → (v : Value) (vs : List Value) → OnAddress (N e) v → ((qs : List ℕ) → ((i p : ℕ) (d : Expr) → slice_get qs i ≡ Some p → slice_get es i ≡ Some d → (target : Place) → MayPointTo program string spot.rounds d target → Holds program (own_place (spot ∷ string) p []) target) → BoundFine program strings B string spot qs vs)
          → BoundFine program strings B string spot ps (v ∷ vs)
      both_fine [] h v vs n k = tt
      both_fine (p ∷ ps) h v vs n k = (on_map (N e) (Passed program strings B string spot p) (λ cell m. (m.0, h zero p e refl refl (place cell) m.1)) v n, k ps (λ i p d a b. h (suc i) p d a b))

      go : (o : Option Value) (os : Option (List Value)) → OnOption (N e) o → eval_all here es ≡ os → option_and_then (λ v. option_map (λ ws. v ∷ ws) os) o ≡ Some vs → Rest → BoundFine program strings B string spot ps vs
      go None os n k r rest = absurd (cc)
      go (Some v) None n k r rest = absurd (cc)
      go (Some v) (Some ws) n k r rest = subst (BoundFine program strings B string spot ps) (same_list v ws vs r) (both_fine ps h v ws n (λ qs g. rest qs g ws k))

  external_fine : (values : List ℤ) (t : Option IntegerType) (into : Option LocalOf) → EachAsk P (external values t into)
  unfolding EachAsk
  external_fine values None into = none_each P values _ (plain_fine [] [] tt)
  external_fine values (Some t) into = one_each P _ values _ (λ z. gives_fine [] [] into (Number z) tt tt)

  leaves_fine : (result : Option Expr) → act_at program spot.action ≡ act.Return result → EachAsk P (leaves here result)
  unfolding EachAsk
  leaves_fine None s = turns_fine (Leaves None) tt
  leaves_fine (Some e) s = with_value _ e _ (λ v n. turns_fine (Leaves (Some v)) (on_map (N e) (Leaving program strings B string spot) (λ cell m. (m.0, (e, (s, m.1)))) v n))

  result_fine : (object : Cell) (e : Expr) (g : Option Cell → Asked) → EachAsk P (g None) → ((cell : Cell) → N e cell → EachAsk P (g (Some cell))) → EachAsk P (result_at here object (eval here e) g)
  unfolding EachAsk
  result_fine object e g h k = go (eval here e) (value_named e)
    where
      go : (o : Option Value) → OnOption (N e) o → EachAsk P (result_at here object o g)
      go None n = tt
      go (Some (Number z)) n = h
      go (Some (Address cell)) n = with_each P _ (object_at_type here c_int (Address cell)) _
          (λ c q. meant_each P _ _ _ (k c (from_type e c_int (Address cell) c n q)))

  told_fine : (into : Option LocalOf) (time : Cell) (values : List ℤ) → EachAsk P (time_told into time values)
  unfolding EachAsk
  told_fine into time (s ∷ n ∷ r ∷ []) = gives_fine [] _ into (Number r) (tt, (tt, tt)) tt
  told_fine into time [] = tt
  told_fine into time (s ∷ []) = tt
  told_fine into time (s ∷ n ∷ []) = tt
  told_fine into time (s ∷ n ∷ r ∷ q ∷ zs) = tt

  until_fine : (request : Request) (e : Expr) (g : List Load → Asked) → ((loads : List Load) → EachAsk P (g loads)) → EachAsk P (until here request e g)
  unfolding EachAsk
  until_fine request e g h = with_each P _ _ _ (λ time q. meant_each P _ _ _ (h _))

  -- ---- atomic operations

  exchanged_fine : (into : Option LocalOf) (cell : Cell) (old new : ℤ) → EachAsk P (exchanged into cell old new)
  unfolding EachAsk
  exchanged_fine into cell old new = gives_fine _ _ into (Number old) (tt, tt) tt

  compared_fine : (into : Option LocalOf) (cell expected : Cell) (old wanted : ℤ) (b : Bool) → EachAsk P (compared here into cell expected old wanted b)
  unfolding EachAsk
  compared_fine into cell expected old wanted true = meant_each P _ _ _ (gives_fine _ _ into _ (tt, tt) tt)
  compared_fine into cell expected old wanted false = meant_each P _ _ _ (gives_fine _ _ into _ (tt, tt) tt)

  compares_fine : (call : AtomicCall) (into : Option LocalOf) (cell : Cell) (old : ℤ) (values : List ℤ) → EachAsk P (compares here call into cell old values)
  unfolding EachAsk
  compares_fine call into cell old values = with_each P _ _ _ (λ expected _. with_each P _ _ _ (λ held _. with_each P _ _ _ (λ wanted _.
      so_each P _ _ (λ _. compared_fine into cell expected old wanted _))))

  operated_fine : (call : AtomicCall) (into : Option LocalOf) (cell : Cell) (new : ℤ → ℤ → ℤ) → EachAsk P (operated here call into cell new)
  unfolding EachAsk
  operated_fine call into cell new = with_each P _ _ _ (λ old _. with_each P _ _ _ (λ z _. exchanged_fine into cell old _))

  module _ (call : AtomicCall) (into : Option LocalOf) (s : Stands program string spot (act.Library (lib.Atomic call) into)) where
    loaded_into : (cell to : Cell) (own : Option LocalOf) → into ≡ own → call.operation ≡ atomic.Load → N call.object cell → Has cell to → IntoFine program strings B string spot own (place to)
    loaded_into cell to None q o n h = tt
    loaded_into cell to (Some local) q o n h = loaded string spot call local (place cell) (place to) (subst (λ i. Stands program string spot (act.Library (lib.Atomic call) i)) q s) o n.1 h.1

    atomic_fine : (values : List ℤ) (cell : Cell) (operation : AtomicOperation) → call.operation ≡ operation → N call.object cell → EachAsk P (atomic_asks here call into values cell operation)
    unfolding EachAsk
    atomic_fine values cell atomic.Init o n = with_value _ call.operand _ (λ v m. plain_fine [] _ (
      on_map (N call.operand) (Points program strings B cell)
          (λ to h. (n.0, h.0, stored string spot call into (place cell) (place to) s (ap sets o) n.1 h.1)) v m,
      tt,
    ))
    atomic_fine values cell atomic.Load o n = with_memory _ cell _ n.0 (λ v m. gives_fine _ [] into v tt (on_map (Has cell) (Given program strings B string spot into) (λ to h. (h.0, loaded_into cell to into refl o n h)) v m))
    atomic_fine values cell atomic.Store o n = with_value _ call.operand _ (λ v m. plain_fine [] _ (
      on_map (N call.operand) (Points program strings B cell)
          (λ to h. (n.0, h.0, stored string spot call into (place cell) (place to) s (ap sets o) n.1 h.1)) v m,
      tt,
    ))
    atomic_fine values cell atomic.Exchange o n = operated_fine call into cell _
    atomic_fine values cell atomic.FetchAdd o n = operated_fine call into cell _
    atomic_fine values cell atomic.FetchSubtract o n = operated_fine call into cell _
    atomic_fine values cell atomic.FetchOr o n = operated_fine call into cell _
    atomic_fine values cell atomic.FetchXor o n = operated_fine call into cell _
    atomic_fine values cell atomic.FetchAnd o n = operated_fine call into cell _
    atomic_fine values cell _ o n = with_each P _ _ _ (λ old _. compares_fine call into cell old _)

  -- ---- library calls

  got_into : (k : Expr) (key : Cell) (into : Option LocalOf) → Stands program string spot (act.Library (lib.KeyGet k) into) → N k key → RequestFine program strings B string spot into Goes (Gets_key key)
  got_into k key None s n target h = tt
  got_into k key (Some local) s n target h = got string spot k local (place key) target s n.1 h

  handed_fine : (o argument : Expr) (f : ℕ) (into : Option LocalOf) → Stands program string spot (act.Library (lib.ThreadCreate o f argument) into) → (v : Value) → OnAddress (N argument) v → (ps : List ℕ) → parameters_at program f ≡ ps
      → BoundFine program strings B string spot ps (v ∷ [])
  handed_fine o argument f into s v n [] q = tt
  handed_fine o argument f into s v n (p ∷ ps) q = (
    on_map (N argument) (Passed program strings B string spot p)
        (λ cell m. (m.0, handed string spot f p o argument into (place cell) s (ap (λ l. slice_get l 0) q) m.1)) v n,
    none ps,
  )
    where
      none : (ps : List ℕ) → BoundFine program strings B string spot ps []
      none [] = tt
      none (p ∷ ps) = tt

  library_fine : (call : LibraryCall) (into : Option LocalOf) (values : List ℤ) → Stands program string spot (act.Library call into) → EachAsk P (library_asks here call into values)
  unfolding EachAsk
  library_fine (lib.ThreadCreate o function e) into values s = one_each P _ values _ (λ z. with_each P _ _ _ (λ object _. with_value _ e _ (λ v n.
      request_fine [] _ _ into (refl, handed_fine o e function into s v n _ refl, on_map (N e) (Handed program strings B string spot) (λ cell m. (o, (e, (function, (into, (s, m.1)))))) v n) tt)))
  library_fine (lib.ThreadJoin o e) into values s = none_each P values _ (with_each P _ _ _ (λ object _.
      result_fine object e _ (request_fine [] _ _ into tt tt) (λ to n. request_fine [] _ _ into (n.0, λ target r. joined string spot o e into (place to) target s n.1 r) tt)))
  library_fine (lib.ThreadDetach o) into values s = none_each P values _ (with_each P _ _ _ (λ object _. request_fine [] _ _ into tt tt))
  library_fine (lib.ThreadExit e) into values s = none_each P values _ (with_value _ e _ (λ v n. turns_fine (Exits (Some v))
      (on_map (N e) (ResultFine program strings B) (λ cell m. (m.0, exited string spot e into (place cell) s m.1)) v n)))
  library_fine lib.ThreadYield into values s = none_each P values _ (plain_fine [] [] tt)
  library_fine (lib.ThreadSleep e) into values s = one_each P _ values _ (λ z. until_fine Plain e (λ loads. gives into loads [] (Number z)) (λ loads. gives_fine loads [] into (Number z) tt tt))
  library_fine (lib.TimespecGet e) into values s = so_each P _ _ (λ _. with_each P _ _ _ (λ time _. meant_each P _ _ _ (told_fine into time values)))
  library_fine (lib.MutexInit e kind) into values s = one_each P _ values _ (λ z. with_each P _ _ _ (λ m _. request_fine [] _ _ into tt tt))
  library_fine (lib.MutexLock e) into values s = none_each P values _ (with_each P _ _ _ (λ m _. request_fine [] _ _ into tt tt))
  library_fine (lib.MutexTryLock e) into values s = one_each P _ values _ (λ z. with_each P _ _ _ (λ m _. request_fine [] _ _ into tt tt))
  library_fine (lib.MutexTimedLock e t) into values s = one_each P _ values _ (λ z. with_each P _ _ _ (λ m _. until_fine (Tries_timed m z) t
      (λ loads. Asks (record { loads = loads; stores = []; request = Tries_timed m z; result = Some (Number z); into = into; turn = Goes })) (λ loads. request_fine loads (Tries_timed m z) (Some (Number z)) into tt tt)))
  library_fine (lib.MutexUnlock e) into values s = none_each P values _ (with_each P _ _ _ (λ m _. request_fine [] _ _ into tt tt))
  library_fine (lib.MutexDestroy e) into values s = none_each P values _ (with_each P _ _ _ (λ m _. request_fine [] _ None None tt tt))
  library_fine (lib.ConditionInit e) into values s = one_each P _ values _ (λ z. with_each P _ _ _ (λ c _. request_fine [] _ _ into tt tt))
  library_fine (lib.ConditionDestroy e) into values s = none_each P values _ (with_each P _ _ _ (λ c _. request_fine [] _ None None tt tt))
  library_fine (lib.ConditionSignal e) into values s = none_each P values _ (with_each P _ _ _ (λ c _. request_fine [] _ _ into tt tt))
  library_fine (lib.ConditionBroadcast e) into values s = none_each P values _ (with_each P _ _ _ (λ c _. request_fine [] _ _ into tt tt))
  library_fine (lib.ConditionWait e d) into values s = none_each P values _ (with_each P _ _ _ (λ c _. with_each P _ _ _ (λ m _. request_fine [] _ None None tt tt)))
  library_fine (lib.ConditionTimedWait e d t) into values s = none_each P values _ (with_each P _ _ _ (λ c _. with_each P _ _ _ (λ m _. until_fine (Waits c m) t
      (λ loads. Asks (record { loads = loads; stores = []; request = Waits c m; result = None; into = None; turn = Goes })) (λ loads. request_fine loads (Waits c m) None None tt tt))))
  library_fine (lib.KeyCreate e) into values s = one_each P _ values _ (λ z. with_each P _ _ _ (λ k _. request_fine [] _ _ into tt tt))
  library_fine (lib.KeyGet e) into values s = none_each P values _ (with_place Plain key_type e (λ k. Asks (record { loads = []; stores = []; request = Gets_key k; result = None; into = into; turn = Goes }))
      (λ k n. request_fine [] (Gets_key k) None into (got_into e k into s n) tt))
  library_fine (lib.KeySet e v) into values s = none_each P values _ (with_place Plain key_type e (λ k. with_for (Sets_key k null) (eval here v) (λ x. asks into success (Sets_key k x)))
      (λ k n. with_value (Sets_key k null) v (λ x. asks into success (Sets_key k x)) (λ x m. request_fine [] (Sets_key k x) (Some success) into
      (on_map (N v) (KeptFine program strings B k) (λ cell h. (n.0, h.0, set string spot e v into (place k) (place cell) s n.1 h.1)) x m) tt)))
  library_fine (lib.KeyDelete e) into values s = none_each P values _ (with_each P _ _ _ (λ k _. request_fine [] _ None None tt tt))
  library_fine (lib.Atomic call) into values s = so_each P _ _ (λ _. if_each P (list_all is_sequential call.orders) _ _
      (with_place _ (plain_type (Atomic call.integer)) call.object _ (λ cell n. meant_each P _ _ _ (atomic_fine call into s values cell call.operation refl n)))
      (request_fine [] Weakens None None tt tt))

  -- ---- all actions

  declared_fine : (object : ℕ) (x : Asked) → EachAsk P x → EachAsk P (unless_library here object x)
  unfolding EachAsk
  declared_fine object x h = unless_each P here object x (request_fine [] _ None None tt tt) h

  pub action_fine : (action : Act) (pair : ℕ) (values : List ℤ) → Stands program string spot action → EachAsk P (asked here action pair values)
  unfolding EachAsk Within
  action_fine (act.Read e t local) pair values s = none_each P values _ (with_typed _ t e _ (λ cell n k. reads_fine e t local cell s n k))
  action_fine (act.Write e t v) pair values s = none_each P values _ (with_place _ t e _ (λ cell n. with_value _ v _ (λ x m.
      meant_each P _ _ _ (plain_fine [] (Sets cell x (is_atomic t) ∷ []) (
        on_map (N v) (Points program strings B cell)
            (λ to h. (n.0, h.0, written string spot e v t (place cell) (place to) s n.1 h.1)) x m,
        tt,
      )))))
  action_fine (act.Update e t op u v) pair values s = none_each P values _ (with_each P _ _ _ (λ cell _. with_each P _ _ _ (λ old _. with_each P _ _ _ (λ z _. with_each P _ _ _ (λ new _.
      meant_each P _ _ _ (plain_fine (atomic_load cell ∷ []) (Sets cell (Number (converted t new)) true ∷ []) (tt, tt)))))))
  action_fine (act.Assign local e) pair values s = none_each P values _ (with_value _ e _ (λ v n. gives_fine [] [] (Some local) v tt
      (on_map (N e) (Given program strings B string spot (Some local)) (λ to h. (h.0, assigned string spot local e (place to) s h.1)) v n)))
  action_fine (act.Declare object) pair values s = none_each P values _ (declared_fine object _ (plain_fine [] (Clears (whole here object) ∷ []) (tt, tt)))
  action_fine (act.Copy e t d) pair values s = none_each P values _ (with_typed _ t d _ (λ from n j. with_typed _ t e _ (λ to m k.
      meant_each P _ _ _ (plain_fine (read_of from ∷ []) (Copies to from ∷ []) ((m.0, n.0, λ path target h. copied string spot e d t (place to) (place from) target path s k j m.1 n.1 h), tt)))))
  action_fine (act.Fill object parts) pair values s = none_each P values _ (declared_fine object _
      (further_each P P (fills here (whole here object) parts) _ (fills_fine object parts s parts (λ i p q. (i, q)))
      (λ ask a. record { stores = (tt, a.stores); result = a.result; request = a.request; turn = a.turn })))
  action_fine (act.Touch e t what) pair values s = none_each P values _ (request_fine [] _ None None tt tt)
  action_fine (act.Library call into) pair values s = library_fine call into values s
  action_fine (act.External name arguments result into) pair values s = further_each P P (external values result into) _ (external_fine values result into) (λ ask a. with_each P _ _ _ (λ vs _. a))
  action_fine (act.Call function arguments into) pair values s = none_each P values _ (with_each P _ _ _ (λ vs q. turns_fine (Enters function vs into) (
    bound_fine (parameters_at program function) arguments (λ i p e a b target n. passed string spot function i p arguments e into target s a b n) vs q,
    λ local r. (function, (arguments, s.is ∙ ap (act.Call function arguments) r)),
  )))
  action_fine act.Turn pair values s = none_each P values _ (plain_fine [] [] tt)
  action_fine (act.Return result) pair values s = none_each P values _ (leaves_fine result s.is)
  action_fine act.End pair values s = none_each P values _ (turns_fine (Leaves None) tt)
  action_fine (act.Evaluate e) pair values s = none_each P values _ (with_each P _ _ _ (λ v _. plain_fine [] [] tt))
  action_fine (act.Branch e into) pair values s = none_each P values _ (with_each P _ _ _ (λ b _. so_each P _ _ (λ _. gives_fine [] [] into _ tt tt)))
  action_fine (act.Switch e clauses) pair values s = none_each P values _ (with_each P _ _ _ (λ z _. so_each P _ _ (λ _. plain_fine [] [] tt)))

-- the second step of a wait
pub retakes_fine : (program : Program) (strings : ℕ → List Spot) (B : Root → Type 0) (calls : List Spot) (spot : Spot) (action : Act) (m : Cell) (values : List ℤ)
    → EachAsk (AskFine program strings B calls spot) (retakes action m values)
unfolding EachAsk
retakes_fine program strings B calls spot (act.Library (lib.ConditionWait e d) into) m values = none_each (AskFine program strings B calls spot) values _ (record { stores = tt; result = tt; request = tt; turn = tt })
retakes_fine program strings B calls spot (act.Library (lib.ConditionTimedWait e d t) into) m values = one_each (AskFine program strings B calls spot) _ values _ (λ z. record { stores = tt; result = tt; request = tt; turn = tt })
retakes_fine program strings B calls spot _ m values = tt
