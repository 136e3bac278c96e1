-- Each address that an expression comes to is one that points-to lets it name.
use Rattle.std.proofs.Common.{◌≡◌, refl, sym, subst, ap, ◌∙◌, Bool, true, false, ℕ, List, [], Option, Some}
use Rattle.std.specs.Prelude.{option_and_then}
use Rattle.c_program.specs.declared.expression.Expr.{Expr, Constant, Object, Local, Path', Chain', All', Any', more_of-Expr, end_of-Expr, Row_of-Step, more_of-Step, end_of-Step, Row_of-Link, more_of-Link, end_of-Link}
use Rattle.c_program.specs.declared.expression.Step.{Step, Indirection, Member}
use Rattle.c_program.specs.declared.program.Program.{Program}
use Rattle.c_program.specs.Syntax.{Unary, Same, Choose, Convert, Element, Forward, Back}
use Rattle.c_program.specs.Types.{converted}
use Rattle.c_program.specs.Values.{Root, Cell, Value, unary}
use Rattle.c_program.specs.Evaluation.{Here, root_of, whole, on_number, is_true, of_two, operated, eval, chained}
use Rattle.c_program.specs.Control.{Round, Spot}
use Rattle.c_program.specs.Counters.{is_constant_in, constant_in}
use Rattle.c_program.specs.WellFormed.{is_initial, is_constant, is_constant_step, are_constant_steps}
use Rattle.c_program.proofs.Cells.{and_true}
use Rattle.pointer_targets.specs.Places.{place_in, place_of}
use Rattle.pointer_targets.specs.PointsTo.{MayPointTo, object, local, along as led_along, alone, first, second, has_links, Holds}
use Rattle.pointer_targets.proofs.Values.{OnOption, option_on_map, on_then, on_two, number_on, numbers_on, choose_on, same_on, all_on, any_on, number_chained, place_here, IndexKnown, IndexesKnown, along_on}

-- ---- chains

linked : {n : _} (Q : Cell → Type 0) (here : Here) (o : Option Value) (links : Row_of-Link n) → has_links links ≡ true → OnOption Q (chained here o links)
linked Q here o end_of-Link h = absurd (cc)
linked Q here o (more_of-Link op t x (more_of-Expr e end_of-Expr) links) h =
    number_chained Q here (of_two (operated op t) o (eval here e)) links (on_two Q o (eval here e) (operated op t) (λ v w. numbers_on Q _ v w))

unlinked : {n : _} (Q : Cell → Type 0) (here : Here) (o : Option Value) (links : Row_of-Link n) → has_links links ≡ false → OnOption Q o → OnOption Q (chained here o links)
unlinked Q here o end_of-Link h q = q
unlinked Q here o (more_of-Link op t x row links) h q = absurd (cc)

module _ (program : Program) (strings : ℕ → List Spot) (B : Root → Type 0) (rounds : List Round) (here : Here) (own : here.program ≡ program) (there : (n : ℕ) → B (root_of here n)) where
  abbrev string : List Spot
  string = strings here.frame

  -- the call of the address was made, and the expression may name it
  abbrev pub Named : Expr → Cell → Type 0
  Named e cell = B cell.root × MayPointTo program string rounds e (place_of strings cell)

  own_place_is : (n : ℕ) (path : List ℕ) → place_of strings (record { root = root_of here n; path = path }) ≡ place_in program string n path
  own_place_is n path = place_here strings here n path ∙ ap (λ p. place_in p string n path) own

  object_named : (n : ℕ) → Named (Object n) (whole here n)
  object_named n = (there n, subst (MayPointTo program string rounds (Object n)) (sym (own_place_is n [])) (object string rounds n))

  path_named : (x : _) (e : Expr) (y : _) (steps : Row_of-Step _) → OnOption (Named e) (eval here e) → IndexesKnown program strings B rounds here own steps
      → OnOption (Named (Path' x (more_of-Expr e end_of-Expr) y steps)) (eval here (Path' x (more_of-Expr e end_of-Expr) y steps))
  path_named x e y steps p k = option_on_map _ (Named (Path' x (more_of-Expr e end_of-Expr) y steps))
      (λ cell q. (q.0, led_along string rounds x e y steps q.1.0 (place_of strings cell) q.1.1.0 q.1.1.1)) _
      (along_on program strings B rounds here own (MayPointTo program string rounds e) (eval here e) steps k p)

  -- ---- initial values

  constant_index : (i : Expr) → is_constant program i ≡ true → is_constant_in rounds i ≡ true → eval here i ≡ constant_in program rounds i
  constant_index (Constant z) c k = refl
  constant_index _ c k = absurd (cc)

  constant_step : (step : Step) → is_constant_step program step ≡ true → IndexKnown program strings B rounds here own step
  constant_step (Indirection t) c = tt
  constant_step (Member s m) c = tt
  constant_step (Element i) c = constant_index i c
  constant_step (Forward t i) c = constant_index i c
  constant_step (Back t i) c = constant_index i c

  constant_steps : {n : _} (steps : Row_of-Step n) → are_constant_steps program steps ≡ true → IndexesKnown program strings B rounds here own steps
  constant_steps end_of-Step c = tt
  constant_steps (more_of-Step step steps) c = let d = and_true _ _ c in (constant_step step d.0, constant_steps steps d.1)

  pub initial_named : (e : Expr) → is_initial program e ≡ true → OnOption (Named e) (eval here e)
  initial_named (Constant z) c = tt
  initial_named (Object n) c = object_named n
  initial_named (Path' x (more_of-Expr e end_of-Expr) y steps) c = let d = and_true _ _ c in path_named x e y steps (initial_named e d.0) (constant_steps steps d.1)
  initial_named _ c = absurd (cc)

  -- ---- all expressions

  module _ (constant : (i : Expr) → is_constant_in rounds i ≡ true → eval here i ≡ constant_in program rounds i)
      (memory : (cell : Cell) → B cell.root → OnOption (λ to. B to.root × Holds program (place_of strings cell) (place_of strings to)) (here.memory cell)) where
    known : (step : Step) → IndexKnown program strings B rounds here own step
    known (Indirection t) = tt
    known (Member s m) = tt
    known (Element i) = constant i
    known (Forward t i) = constant i
    known (Back t i) = constant i

    all_known : {n : _} (steps : Row_of-Step n) → IndexesKnown program strings B rounds here own steps
    all_known end_of-Step = tt
    all_known (more_of-Step step steps) = (known step, all_known steps)

    local_named : (n : ℕ) (path : List ℕ) → OnOption (Named (Local n path)) (here.memory (record { root = root_of here n; path = path }))
    local_named n path = option_on_map _ (Named (Local n path))
        (λ cell q. (q.0, local string rounds n path (place_of strings cell) (subst (λ p. Holds program p (place_of strings cell)) (own_place_is n path) q.1))) _
        (memory (record { root = root_of here n; path = path }) (there n))

    chain_named : (x : _) (e : Expr) (y : _) (links : Row_of-Link _) → OnOption (Named e) (eval here e)
        → OnOption (Named (Chain' x (more_of-Expr e end_of-Expr) y links)) (chained here (eval here e) links)
    chain_named x e y links p = go (has_links links) refl
      where
        go : (b : Bool) → has_links links ≡ b → OnOption (Named (Chain' x (more_of-Expr e end_of-Expr) y links)) (chained here (eval here e) links)
        go true h = linked _ here (eval here e) links h
        go false h = unlinked _ here (eval here e) links h (option_on_map (Named e) (Named (Chain' x (more_of-Expr e end_of-Expr) y links))
            (λ cell q. (q.0, alone string rounds x e y links (place_of strings cell) h q.1)) _ p)

    pub evaluated : (e : Expr) → OnOption (Named e) (eval here e)
    evaluated (Constant z) = tt
    evaluated (Object n) = object_named n
    evaluated (Local n path) = local_named n path
    evaluated (Path' x (more_of-Expr e end_of-Expr) y steps) = path_named x e y steps (evaluated e) (all_known steps)
    evaluated (Unary op t e) = on_then _ (eval here e) (on_number (unary op t)) (λ v q. number_on _ (unary op t) v)
    evaluated (Chain' x (more_of-Expr e end_of-Expr) y links) = chain_named x e y links (evaluated e)
    evaluated (Same a b) = on_two _ (eval here a) (eval here b) _ (λ v w. same_on _ here v w)
    evaluated (All' x es) = all_on _ here es
    evaluated (Any' x es) = any_on _ here es
    evaluated (Choose c a b) = choose_on (Named (Choose c a b)) (option_and_then (is_true here) (eval here c)) (eval here a) (eval here b)
        (option_on_map (Named a) (Named (Choose c a b)) (λ cell q. (q.0, first string rounds c a b (place_of strings cell) q.1)) _ (evaluated a))
        (option_on_map (Named b) (Named (Choose c a b)) (λ cell q. (q.0, second string rounds c a b (place_of strings cell) q.1)) _ (evaluated b))
    evaluated (Convert t e) = on_then _ (eval here e) (on_number (λ z. Some (converted t z))) (λ v q. number_on _ (λ z. Some (converted t z)) v)
