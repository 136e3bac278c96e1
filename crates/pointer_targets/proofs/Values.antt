-- The value of an expression is an address that points-to allows.
use Rattle.std.proofs.Common.{◌≡◌, refl, sym, subst, ap, ◌∙◌, Bool, true, false, cond, ◌&&◌, ℕ, ◌<◌, ℤ, List, [], ◌∷◌, Option, Some, None}
use Rattle.std.specs.Prelude.{option_map, option_and_then, unwrap_or, pos, ◌-ℤ◌, ◌+ℤ◌}
use Rattle.c_program.specs.declared.types.Base.TheVariants.{Structure}
use Rattle.c_program.specs.declared.types.CType.{CType}
use Rattle.c_program.specs.declared.expression.Expr.{Expr, Row_of-Expr, more_of-Expr, end_of-Expr, Row_of-Step, more_of-Step, end_of-Step, Row_of-Link, more_of-Link, end_of-Link}
use Rattle.c_program.specs.declared.expression.Step.{Step, Indirection, Member}
use Rattle.c_program.specs.declared.program.Storage.{Storage}
use Rattle.c_program.specs.declared.program.Storage.TheVariants as storage
use Rattle.c_program.specs.declared.program.Program.{Program}
use Rattle.c_program.specs.Syntax.{Element, Forward, Back}
use Rattle.c_program.specs.Types.{is_zero, same_type, plain_type, type_at, declared_type}
use Rattle.c_program.specs.Values.{Root, Static, Of_thread, Of_frame, Cell, Value, Number, Address, object_of, part, location_of, type_of_cell}
use Rattle.c_program.specs.Evaluation.{Here, root_in, root_of, object_at_type, at_part, sizes_of, within_bounds, element, moved_in, moved_by, forward, back, is_comparable, is_true, same, on_number, on_numbers, both, either, choose, of_two, operated, eval, along, stepped, chained, all_of, any_of}
use Rattle.c_program.specs.Control.{Round, Spot}
use Rattle.c_program.specs.Requests.{number_in}
use Rattle.c_program.specs.Counters.{is_constant_in, constant_in}
use Rattle.pointer_targets.specs.Places.{Site, Place, object_in, site_at, place_in, site_of, place_of, location_of_place, known_index, MayBe, Goes, itself, to_member, to_element, forward_none, forward_to, back_none, back_to, Leads}

-- ---- addresses

-- the call of an automatic object was made
abbrev pub IsBelow : ℕ → Root → Type 0
IsBelow called (Of_frame frame own) = frame < called
IsBelow called _ = Unit {0}

abbrev pub OnAddress : (Cell → Type 0) → Value → Type 0
OnAddress Q (Number z) = Unit {0}
OnAddress Q (Address cell) = Q cell

abbrev pub OnOption : (Cell → Type 0) → Option Value → Type 0
OnOption Q None = Unit {0}
OnOption Q (Some v) = OnAddress Q v

pub on_map : (Q R : Cell → Type 0) → ((cell : Cell) → Q cell → R cell) → (v : Value) → OnAddress Q v → OnAddress R v
on_map Q R f (Number z) q = tt
on_map Q R f (Address cell) q = f cell q

pub option_on_map : (Q R : Cell → Type 0) → ((cell : Cell) → Q cell → R cell) → (o : Option Value) → OnOption Q o → OnOption R o
option_on_map Q R f None q = tt
option_on_map Q R f (Some v) q = on_map Q R f v q

-- ---- values that are no addresses

module _ (Q : Cell → Type 0) where
  pub on_if : (b : Bool) (x y : Option Value) → OnOption Q x → OnOption Q y → OnOption Q (cond b x y)
  on_if true x y p q = p
  on_if false x y p q = q

  on_numbered : (o : Option ℤ) → OnOption Q (option_map Number o)
  on_numbered None = tt
  on_numbered (Some z) = tt

  pub on_then : (o : Option Value) (g : Value → Option Value) → ((v : Value) → o ≡ Some v → OnOption Q (g v)) → OnOption Q (option_and_then g o)
  on_then None g h = tt
  on_then (Some v) g h = h v refl

  pub on_two : (o p : Option Value) (g : Value → Value → Option Value) → ((v w : Value) → OnOption Q (g v w)) → OnOption Q (of_two g o p)
  on_two None p g h = tt
  on_two (Some v) None g h = tt
  on_two (Some v) (Some w) g h = h v w

  pub number_on : (g : ℤ → Option ℤ) (v : Value) → OnOption Q (on_number g v)
  number_on g (Number z) = on_numbered (g z)
  number_on g (Address cell) = tt

  pub numbers_on : (g : ℤ → ℤ → Option ℤ) (v w : Value) → OnOption Q (on_numbers g v w)
  numbers_on g (Number z) w = number_on (g z) w
  numbers_on g (Address cell) w = tt

  both_on : (a : Option Bool) (b : Option Value) → OnOption Q b → OnOption Q (both a b)
  both_on None b p = tt
  both_on (Some true) b p = p
  both_on (Some false) b p = tt

  either_on : (a : Option Bool) (b : Option Value) → OnOption Q b → OnOption Q (either a b)
  either_on None b p = tt
  either_on (Some true) b p = tt
  either_on (Some false) b p = p

  pub choose_on : (c : Option Bool) (a b : Option Value) → OnOption Q a → OnOption Q b → OnOption Q (choose c a b)
  choose_on None a b p q = tt
  choose_on (Some true) a b p q = p
  choose_on (Some false) a b p q = q

  pub same_on : (here : Here) (v w : Value) → OnOption Q (same here v w)
  same_on here v w = on_if (is_comparable here v && is_comparable here w) _ None tt tt

  pub all_on : {n : _} (here : Here) (es : Row_of-Expr n) → OnOption Q (all_of here es)
  all_on here end_of-Expr = tt
  all_on here (more_of-Expr e es) = both_on (option_and_then (is_true here) (eval here e)) (all_of here es) (all_on here es)

  pub any_on : {n : _} (here : Here) (es : Row_of-Expr n) → OnOption Q (any_of here es)
  any_on here end_of-Expr = tt
  any_on here (more_of-Expr e es) = either_on (option_and_then (is_true here) (eval here e)) (any_of here es) (any_on here es)

  -- a chain with an operator is a number
  pub number_chained : {n : _} (here : Here) (o : Option Value) (links : Row_of-Link n) → OnOption Q o → OnOption Q (chained here o links)
  number_chained here o end_of-Link p = p
  number_chained here o (more_of-Link op t x (more_of-Expr e end_of-Expr) links) p =
      number_chained here (of_two (operated op t) o (eval here e)) links (on_two o (eval here e) (operated op t) (λ v w. numbers_on _ v w))

-- ---- places

pub object_same : (strings : ℕ → List Spot) (root : Root) → object_in (site_of strings root) ≡ object_of root
object_same strings (Static own) = refl
object_same strings (Of_thread thread own) = refl
object_same strings (Of_frame frame own) = refl

pub location_same : (program : Program) (strings : ℕ → List Spot) (cell : Cell) → location_of_place program (place_of strings cell) ≡ location_of program cell
location_same program strings cell = go cell.root cell.path
  where
    go : (root : Root) (path : List ℕ) → location_of_place program (place_of strings (record { root = root; path = path })) ≡ location_of program (record { root = root; path = path })
    go (Static own) path = refl
    go (Of_thread thread own) path = refl
    go (Of_frame frame own) path = refl

site_in_storage : (strings : ℕ → List Spot) (here : Here) (s : Storage) (n : ℕ) → site_of strings (root_in here s n) ≡ site_at (strings here.frame) s n
site_in_storage strings here storage.Static n = refl
site_in_storage strings here storage.Thread n = refl
site_in_storage strings here storage.Automatic n = refl

pub place_here : (strings : ℕ → List Spot) (here : Here) (n : ℕ) (path : List ℕ)
    → place_of strings (record { root = root_of here n; path = path }) ≡ place_in here.program (strings here.frame) n path
place_here strings here n path = ap (λ (s : Site). record { site = s; path = path }) (site_in_storage strings here _ n)

below_in_storage : (called : ℕ) (here : Here) (s : Storage) (n : ℕ) → here.frame < called → IsBelow called (root_in here s n)
below_in_storage called here storage.Static n l = tt
below_in_storage called here storage.Thread n l = tt
below_in_storage called here storage.Automatic n l = l

pub below_here : (called : ℕ) (here : Here) (n : ℕ) → here.frame < called → IsBelow called (root_of here n)
below_here called here n l = below_in_storage called here _ n l

-- ---- indexes

pub may_be : (program : Program) (rounds : List Round) (here : Here) (i : Expr) (z : ℤ) → (is_constant_in rounds i ≡ true → eval here i ≡ constant_in program rounds i)
    → eval here i ≡ Some (Number z) → MayBe (known_index program rounds i) z
may_be program rounds here i z c e = go (is_constant_in rounds i) refl
  where
    go : (b : Bool) → is_constant_in rounds i ≡ b → MayBe (cond b (number_in (constant_in program rounds i)) None) z
    go true q = subst (λ o. MayBe o z) (ap number_in (sym e ∙ c q)) refl
    go false q = tt

-- ---- steps

module _ (program : Program) (strings : ℕ → List Spot) (B : Root → Type 0) (rounds : List Round) (here : Here) (own : here.program ≡ program) where
  -- a call that was made, and a place to which the step leads
  abbrev Gone : Place → Step → Cell → Type 0
  Gone from step cell = B cell.root × Goes program rounds from step (place_of strings cell)

  abbrev sizes : Cell → List ℕ
  sizes cell = sizes_of (type_of_cell here.program cell)

  pub own_type : (cell : Cell) → type_of_cell here.program cell ≡ type_at program (declared_type program (object_in (site_of strings cell.root))) cell.path
  own_type cell = ap (λ p. type_of_cell p cell) own ∙ ap (λ n. type_at program (declared_type program n) cell.path) (sym (object_same strings cell.root))

  at_type_on : (Q : Cell → Type 0) (t : CType) (cell : Cell) → Q cell → OnOption Q (option_map Address (object_at_type here t (Address cell)))
  at_type_on Q t cell q = go _
    where
      go : (b : Bool) → OnOption Q (option_map Address (cond b (Some cell) None))
      go true = q
      go false = tt

  pub has_type : (t : CType) (found : Option CType) → unwrap_or (option_map (same_type t) found) false ≡ true → (got : CType) × ((found ≡ Some got) × (same_type t got ≡ true))
  has_type t None e = absurd (cc)
  has_type t (Some got) e = (got, (refl, e))

  pub and_right : (a b : Bool) → (a && b) ≡ true → b ≡ true
  and_right true b e = e
  and_right false b e = absurd (cc)

  member_on : (s m : ℕ) (cell : Cell) → B cell.root → OnOption (Gone (place_of strings cell) (Member s m)) (option_map (λ c. at_part c m) (object_at_type here (plain_type (Structure s)) (Address cell)))
  member_on s m cell l = go _ refl
    where
      go : (b : Bool) → (here.is_alive cell.root && unwrap_or (option_map (same_type (plain_type (Structure s))) (type_of_cell here.program cell)) false) ≡ b
          → OnOption (Gone (place_of strings cell) (Member s m)) (option_map (λ c. at_part c m) (cond b (Some cell) None))
      go true e = let h = has_type (plain_type (Structure s)) (type_of_cell here.program cell) (and_right _ _ e) in
          (l, to_member (site_of strings cell.root) cell.path s m h.0 (sym (own_type cell) ∙ h.1.0) h.1.1)
      go false e = tt

  -- the part of an array at a number, where the bounds allow it
  part_on : (Q : Cell → Type 0) (cell : Cell) (o : Option ℕ) → ((k : ℕ) → o ≡ Some k → Q (part k cell)) → OnOption Q (option_map (at_part cell) o)
  part_on Q cell None h = tt
  part_on Q cell (Some k) h = h k refl

  module _ (i : Expr) (constant : is_constant_in rounds i ≡ true → eval here i ≡ constant_in program rounds i) where
    element_on : (cell : Cell) (w : Value) → eval here i ≡ Some w → B cell.root → OnOption (Gone (place_of strings cell) (Element i)) (element here (Address cell) w)
    element_on cell (Address d) e l = tt
    element_on cell (Number z) e l = on_if (Gone (place_of strings cell) (Element i)) (here.is_alive cell.root) _ None
        (part_on (Gone (place_of strings cell) (Element i)) cell _ (λ k q. (
          l,
          to_element (site_of strings cell.root) cell.path i z k (ap (λ o. within_bounds (sizes_of o) z) (sym (own_type cell)) ∙ q) (λ a. may_be program rounds here i z constant e),
        ))) tt

    moved_on : (Q : Cell → Type 0) (root : Root) (path : List ℕ) (z : ℤ)
        → ((j k : ℕ) (rest : List ℕ) → path ≡ j ∷ rest → within_bounds (sizes (record { root = root; path = rest })) (pos j +ℤ z) ≡ Some k → Q (record { root = root; path = k ∷ rest }))
        → OnOption Q (moved_in here root path z)
    moved_on Q root [] z h = tt
    moved_on Q root (j ∷ rest) z h = part_on Q (record { root = root; path = rest }) _ (λ k q. h j k rest refl q)

    moved_by_on : (Q : Cell → Type 0) (t : CType) (cell : Cell) (z : ℤ) → (is_zero z ≡ true → Q cell)
        → ((j k : ℕ) (rest : List ℕ) → cell.path ≡ j ∷ rest → within_bounds (sizes (record { root = cell.root; path = rest })) (pos j +ℤ z) ≡ Some k → Q (record { root = cell.root; path = k ∷ rest }))
        → OnOption Q (moved_by here t (Address cell) z)
    moved_by_on Q t cell z h k = go _
      where
        at_zero : (b : Bool) → is_zero z ≡ b → OnOption Q (cond b (Some (Address cell)) (moved_in here cell.root cell.path z))
        at_zero true e = h e
        at_zero false e = moved_on Q cell.root cell.path z k

        go : (b : Bool) → OnOption Q (option_and_then (λ (c : Cell). cond (is_zero z) (Some (Address cell)) (moved_in here c.root c.path z)) (cond b (Some cell) None))
        go true = at_zero (is_zero z) refl
        go false = tt

    forward_on : (t : CType) (cell : Cell) (w : Value) → eval here i ≡ Some w → B cell.root → OnOption (Gone (place_of strings cell) (Forward t i)) (forward here t (Address cell) w)
    forward_on t cell (Address d) e l = tt
    forward_on t cell (Number z) e l = moved_by_on (Gone (place_of strings cell) (Forward t i)) t cell z
        (λ q. (l, forward_none (place_of strings cell) t i z q (may_be program rounds here i z constant e)))
        (λ j k rest p q. (
          l,
          subst (λ path. Goes program rounds (record { site = site_of strings cell.root; path = path }) (Forward t i) (record { site = site_of strings cell.root; path = k ∷ rest })) (sym p)
              (forward_to (site_of strings cell.root) rest j t i z k
              (ap (λ o. within_bounds (sizes_of o) (pos j +ℤ z)) (sym (own_type (record { root = cell.root; path = rest }))) ∙ q) (λ a. may_be program rounds here i z constant e)),
        ))

    back_on : (t : CType) (cell : Cell) (w : Value) → eval here i ≡ Some w → B cell.root → OnOption (Gone (place_of strings cell) (Back t i)) (back here t (Address cell) w)
    back_on t cell (Address d) e l = tt
    back_on t cell (Number z) e l = moved_by_on (Gone (place_of strings cell) (Back t i)) t cell (pos 0 -ℤ z)
        (λ q. (l, back_none (place_of strings cell) t i z q (may_be program rounds here i z constant e)))
        (λ j k rest p q. (
          l,
          subst (λ path. Goes program rounds (record { site = site_of strings cell.root; path = path }) (Back t i) (record { site = site_of strings cell.root; path = k ∷ rest })) (sym p)
              (back_to (site_of strings cell.root) rest j t i z k
              (ap (λ o. within_bounds (sizes_of o) (pos j +ℤ (pos 0 -ℤ z))) (sym (own_type (record { root = cell.root; path = rest }))) ∙ q) (λ a. may_be program rounds here i z constant e)),
        ))

  -- an index that is a constant has the value that its rounds give it
  abbrev pub IndexKnown : Step → Type 0
  IndexKnown (Element i) = is_constant_in rounds i ≡ true → eval here i ≡ constant_in program rounds i
  IndexKnown (Forward t i) = is_constant_in rounds i ≡ true → eval here i ≡ constant_in program rounds i
  IndexKnown (Back t i) = is_constant_in rounds i ≡ true → eval here i ≡ constant_in program rounds i
  IndexKnown _ = Unit {0}

  stepped_on : (cell : Cell) (step : Step) → IndexKnown step → B cell.root → OnOption (Gone (place_of strings cell) step) (stepped here (Address cell) step)
  stepped_on cell (Indirection t) k l = at_type_on (Gone (place_of strings cell) (Indirection t)) t cell (l, itself (place_of strings cell) t)
  stepped_on cell (Member s m) k l = member_on s m cell l
  stepped_on cell (Element i) k l = on_then (Gone (place_of strings cell) (Element i)) (eval here i) _ (λ w q. element_on i k cell w q l)
  stepped_on cell (Forward t i) k l = on_then (Gone (place_of strings cell) (Forward t i)) (eval here i) _ (λ w q. forward_on i k t cell w q l)
  stepped_on cell (Back t i) k l = on_then (Gone (place_of strings cell) (Back t i)) (eval here i) _ (λ w q. back_on i k t cell w q l)

  stepped_number : (Q : Cell → Type 0) (z : ℤ) (step : Step) → OnOption Q (stepped here (Number z) step)
  stepped_number Q z (Indirection t) = tt
  stepped_number Q z (Member s m) = tt
  stepped_number Q z (Element i) = on_then Q (eval here i) _ (λ w q. tt)
  stepped_number Q z (Forward t i) = on_then Q (eval here i) _ (λ w q. moved w)
    where
      moved : (w : Value) → OnOption Q (forward here t (Number z) w)
      moved (Number i) = tt
      moved (Address d) = tt
  stepped_number Q z (Back t i) = on_then Q (eval here i) _ (λ w q. moved w)
    where
      moved : (w : Value) → OnOption Q (back here t (Number z) w)
      moved (Number i) = tt
      moved (Address d) = tt

  -- a place that may be meant, and the places to which steps lead from it
  abbrev pub At : (Place → Type 0) → Cell → Type 0
  At P cell = B cell.root × P (place_of strings cell)

  abbrev Through : {n : _} → (Place → Type 0) → Row_of-Step n → Place → Type 0
  Through P steps to = (from : Place) × (P from × Leads program rounds from steps to)

  abbrev pub IndexesKnown : {n : _} → Row_of-Step n → Type 0
  IndexesKnown end_of-Step = Unit {0}
  IndexesKnown (more_of-Step step steps) = IndexKnown step × IndexesKnown steps

  pub along_on : {n : _} (P : Place → Type 0) (o : Option Value) (steps : Row_of-Step n) → IndexesKnown steps → OnOption (At P) o → OnOption (At (Through P steps)) (along here o steps)
  along_on P o end_of-Step k p = option_on_map (At P) (At (Through P end_of-Step)) (λ cell q. (q.0, (place_of strings cell, (q.1, refl)))) o p
  along_on P o (more_of-Step step steps) k p =
      option_on_map (At (Through Next steps)) (At (Through P (more_of-Step step steps)))
      (λ cell q. (q.0, (q.1.1.0.0, (q.1.1.0.1.0, (q.1.0, q.1.1.0.1.1, q.1.1.1)))))
      (along here (option_and_then (λ v. stepped here v step) o) steps) (along_on Next _ steps k.1 (once o p))
    where
      Next : Place → Type 0
      Next to = (from : Place) × (P from × Goes program rounds from step to)

      by_value : (v : Value) → OnAddress (At P) v → OnOption (At Next) (stepped here v step)
      by_value (Number z) q = stepped_number (At Next) z step
      by_value (Address cell) q = option_on_map (Gone (place_of strings cell) step) (At Next) (λ c g. (g.0, (place_of strings cell, (q.1, g.1)))) _ (stepped_on cell step k.0 q.0)

      once : (o : Option Value) → OnOption (At P) o → OnOption (At Next) (option_and_then (λ v. stepped here v step) o)
      once None q = tt
      once (Some v) q = by_value v q
