-- How the steps of a tree go on.
use Rattle.std.proofs.Common.{◌≡◌, ◌<◌, ◌≤◌, ◌+◌, ℕ, suc, true, false, List, [], ◌∷◌, ◌++◌, length, drop, get_or, reverse, Some, slice_get, refl, sym, subst, ap, ◌∙◌, append_assoc, arith}
use Rattle.std.proofs.lemmas.Grind.{common_steps}
use Rattle.std.proofs.lemmas.List.{reverse-append, length-map}
use Rattle.std.proofs.Math.Seq.{drop-cons}
use Rattle.ll_core.specs.declared.production.Production.{Production}
use Rattle.ll_core.specs.declared.reductions.Event.{Event}
use Rattle.ll_core.specs.declared.reductions.Event.TheVariants.{Shift, Reduce}
use Rattle.ll_core.specs.declared.reductions.Pending.{Pending}
use Rattle.ll_core.specs.declared.reductions.Pending.TheVariants.{Symbol, Close}
use Rattle.ll_core.specs.Trees.{Forest, Empty, Leaf, Node, IsForest, right_of, leftmost, is_left}
use Rattle.ll_core.specs.Postorder.{postorder, symbols_of, events_of, pending_of, GoesOn}
use Rattle.ll_core.proofs.Forests.{join, leftmost-join, IsForest-join}
use Rattle.ll_core.proofs.Shifts.{is_left-numbered}

-- one more step
more : (old : List Event) (e : Event) (rest all : List Event) → old ++ e ∷ rest ≡ all → (old ++ e ∷ []) ++ rest ≡ all
more old e rest all h = append_assoc old (e ∷ []) rest ∙ h

pub closes : (g : List Production) (numbers : List ℕ) (i : ℕ) (events new : List Event) (n : ℕ) (ps : List Pending) → new ≡ events ++ Reduce n ∷ []
    → GoesOn g numbers i events (Close n ∷ ps) → GoesOn g numbers i new ps
closes g numbers i events new n ps is_new h = record {
  tree = h.tree;
  left = h.left;
  derived = h.derived;
  order = h.order;
  trees = h.trees;
  numbers_left = h.numbers_left;
  events_are = rw is_new (more events (Reduce n) (events_of ps h.left) (postorder h.tree) h.events_are);
}

pub shifts : (g : List Production) (numbers : List ℕ) (i : ℕ) (events new : List Event) (x : ℕ) (ps : List Pending) → new ≡ events ++ Shift ∷ [] → is_left g x ≡ false
    → GoesOn g numbers i events (Symbol x ∷ ps) → GoesOn g numbers i new ps
shifts g numbers i events new x ps is_new token h = here h.left h.trees h.numbers_left h.events_are
  where
    absurd_bool : true ≡ false → ⊥
    absurd_bool e = cc

    here : (left : Forest) → IsForest g (x ∷ symbols_of ps) left → drop i numbers ≡ leftmost left → events ++ events_of (Symbol x ∷ ps) left ≡ postorder h.tree → GoesOn g numbers i new ps
    here Empty trees rest are = absurd trees
    here (Leaf t others) trees rest are = record {
      tree = h.tree;
      left = others;
      derived = h.derived;
      order = h.order;
      trees = trees.2;
      numbers_left = rest;
      events_are = rw is_new (more events Shift (events_of ps others) (postorder h.tree) are);
    }
    here (Node n c others) trees rest are = absurd (absurd_bool (sym (ap (is_left g) (sym trees.2) ∙ is_left-numbered g n trees.0 trees.1) ∙ token))

symbols_pending : (xs : List ℕ) (ps : List Pending) → symbols_of (pending_of xs ++ ps) ≡ xs ++ symbols_of ps
symbols_pending [] ps = refl
symbols_pending (x ∷ xs) ps = ap (λ ys. x ∷ ys) (symbols_pending xs ps)

events_pending : (g : List Production) (xs : List ℕ) (ps : List Pending) (c others : Forest) → IsForest g xs c
    → events_of (pending_of xs ++ ps) (join c others) ≡ postorder c ++ events_of ps others
events_pending g [] ps Empty others d = refl
events_pending g [] ps (Leaf t o) others d = absurd d
events_pending g [] ps (Node n c o) others d = absurd d
events_pending g (x ∷ xs) ps Empty others d = absurd d
events_pending g (x ∷ xs) ps (Leaf t o) others d = ap (λ es. Shift ∷ es) (events_pending g xs ps o others d.2)
events_pending g (x ∷ xs) ps (Node n c o) others d =
    ap (λ es. postorder c ++ Reduce n ∷ es) (events_pending g xs ps o others d.4) ∙ sym (append_assoc (postorder c) (Reduce n ∷ postorder o) (events_of ps others))

-- the next production expands the symbol
pub record Expands (g : List Production) (numbers : List ℕ) (i : ℕ) (events : List Event) (ps : List Pending) : Type 0 where
  pub production : Production
  pub in_range : i < length numbers
  pub found : slice_get g (get_or numbers i 0) ≡ Some production
  pub goes : GoesOn g numbers (i + 1) events (pending_of (right_of production) ++ Close (get_or numbers i 0) ∷ ps)

pub expands : (g : List Production) (numbers : List ℕ) (i : ℕ) (events : List Event) (x : ℕ) (ps : List Pending) → is_left g x ≡ true
    → GoesOn g numbers i events (Symbol x ∷ ps) → Expands g numbers i events ps
expands g numbers i events x ps left h = here h.left h.trees h.numbers_left h.events_are
  where
    absurd_bool : false ≡ true → ⊥
    absurd_bool e = cc

    first_same : {a b : ℕ} {xs ys : List ℕ} → a ∷ xs ≡ b ∷ ys → a ≡ b
    first_same e = cc

    others_same : {a b : ℕ} {xs ys : List ℕ} → a ∷ xs ≡ b ∷ ys → xs ≡ ys
    others_same e = cc

    here : (f : Forest) → IsForest g (x ∷ symbols_of ps) f → drop i numbers ≡ leftmost f → events ++ events_of (Symbol x ∷ ps) f ≡ postorder h.tree → Expands g numbers i events ps
    here Empty trees rest are = absurd trees
    here (Leaf t others) trees rest are = absurd (absurd_bool (sym trees.1.0 ∙ left))
    here (Node n c others) trees rest are =
        let more_left : length (drop i numbers) ≡ 1 + length (leftmost c ++ leftmost others) = ap length rest ∙ omega arith in
        let in_range : i < length numbers = grind (arith, common_steps, more_left) in
        let one : get_or numbers i 0 ∷ drop (suc i) numbers ≡ n ∷ (leftmost c ++ leftmost others) = sym (drop-cons numbers i 0 in_range) ∙ rest in
        let here_is : get_or numbers i 0 ≡ n = first_same one in
        let next : i + 1 ≡ suc i = omega arith in
        let behind : drop (i + 1) numbers ≡ leftmost (join c others) = ap (λ (k : ℕ). drop k numbers) next ∙ others_same one ∙ sym (leftmost-join c others) in
        record {
          production = trees.0;
          in_range = in_range;
          found = rw here_is trees.1;
          goes = record {
            tree = h.tree;
            left = join c others;
            derived = h.derived;
            order = h.order;
            trees = rw (symbols_pending (right_of trees.0) (Close (get_or numbers i 0) ∷ ps)) (IsForest-join g (right_of trees.0) (symbols_of ps) c others trees.3 trees.4);
            numbers_left = behind;
            events_are = rw (here_is, events_pending g (right_of trees.0) (Close n ∷ ps) c others trees.3) are;
          };
        }

-- what stands last is taken first
pub popped : (items rest : List Pending) (e : Pending) → items ≡ rest ++ e ∷ [] → reverse items ≡ e ∷ reverse rest
popped items rest e h = ap reverse h ∙ reverse-append rest (e ∷ [])

pub taken : (g : List Production) (numbers : List ℕ) (i : ℕ) (events : List Event) (items rest : List Pending) (e same : Pending) → items ≡ rest ++ e ∷ [] → e ≡ same
    → GoesOn g numbers i events (reverse items) → GoesOn g numbers i events (same ∷ reverse rest)
taken g numbers i events items rest e same is_last is_e h =
    subst (λ (p : Pending). GoesOn g numbers i events (p ∷ reverse rest)) is_e (subst (λ (ps : List Pending). GoesOn g numbers i events ps) (popped items rest e is_last) h)

same_some : {A : Type 0} {x y : A} → Some x ≡ Some y → x ≡ y
same_some e = cc

-- the symbols of a production stand in the place of its left side, before the step that closes it
pub pushed_goes : (g : List Production) (numbers : List ℕ) (i : ℕ) (events : List Event) (rest closed items : List Pending) (p : Production)
    → slice_get g (get_or numbers i 0) ≡ Some p → closed ≡ rest ++ Close (get_or numbers i 0) ∷ [] → reverse items ≡ pending_of (right_of p) ++ reverse closed
    → Expands g numbers i events (reverse rest) → GoesOn g numbers (i + 1) events (reverse items)
pushed_goes g numbers i events rest closed items p found is_closed is_items next =
    let same : next.production ≡ p = same_some (sym next.found ∙ found) in
    let all : pending_of (right_of next.production) ++ Close (get_or numbers i 0) ∷ reverse rest ≡ reverse items =
    ap (λ (q : Production). pending_of (right_of q) ++ Close (get_or numbers i 0) ∷ reverse rest) same
    ∙ ap (λ (ps : List Pending). pending_of (right_of p) ++ ps) (sym (popped closed rest (Close (get_or numbers i 0)) is_closed)) ∙ sym is_items in
    subst (λ (ps : List Pending). GoesOn g numbers (i + 1) events ps) all next.goes

pub pushed_size : (p : Production) (rest closed items : List Pending) (e : Pending) → p.length ≤ 12 → closed ≡ rest ++ e ∷ []
    → reverse items ≡ pending_of (right_of p) ++ reverse closed → length items ≤ 13 + length rest
pushed_size p rest closed items e short is_closed is_items =
    let size : length (reverse items) ≡ length (pending_of (right_of p) ++ reverse closed) = ap length is_items in
    let below : length closed ≡ length (rest ++ e ∷ []) = ap length is_closed in
    let right : length (pending_of (right_of p)) ≡ length (right_of p) = length-map (right_of p) (λ x. Symbol x) in
    let few : length (right_of p) ≤ p.length = grind (arith, common_steps) in
    grind (arith, common_steps, size, below, right, few, short)
