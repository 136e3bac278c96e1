-- The steps of a tree on a stack leave the values of the tree.
use Rattle.std.proofs.Common.{◌≡◌, ◌≤◌, ◌+◌, ℕ, List, [], ◌∷◌, ◌++◌, take, drop, length, reverse, Some, slice_get, refl, sym, ap, ◌∙◌, append_assoc, append-nil, length-append, arith}
use Rattle.std.proofs.Math.Seq.{take-append_seam, drop-append_seam}
use Rattle.std.proofs.lemmas.List.{reverse-append, reverse-reverse, length-reverse}
use Rattle.ll_core.specs.declared.production.Production.{Production}
use Rattle.ll_core.specs.declared.reductions.Event.{Event}
use Rattle.ll_core.specs.declared.reductions.Event.TheVariants.{Reduce}
use Rattle.ll_core.specs.Trees.{Forest, Empty, Leaf, Node, IsForest, leaves, right_of}
use Rattle.ll_core.specs.Postorder.{postorder}
use Rattle.ll_core.specs.Folds.{fold_forest, run_steps, size_in}

pub turned : {A : Type 0} (vs : List A) (y : A) (stack : List A) → reverse vs ++ y ∷ stack ≡ reverse (y ∷ vs) ++ stack
turned vs y stack = sym (ap (λ ws. ws ++ stack) (reverse-append (y ∷ []) vs) ∙ append_assoc (reverse vs) (y ∷ []) stack)

module _ {A : Type 0} (node : ℕ → List A → A) (g : List Production) where
  -- the tokens that are left, and one value for each root
  pub record LeavesOver (xs : List ℕ) (f : Forest) (ts : List A) : Type 0 where
    pub rest : length (fold_forest node f ts).rest + length (leaves f) ≡ length ts
    pub count : length (fold_forest node f ts).values ≡ length xs

  left_over : (xs : List ℕ) (f : Forest) (ts : List A) → IsForest g xs f → length (leaves f) ≤ length ts → LeavesOver xs f ts
  left_over [] Empty ts d few = record { rest = omega arith; count = refl }
  left_over [] (Leaf t o) ts d few = absurd d
  left_over [] (Node n c o) ts d few = absurd d
  left_over (x ∷ xs) Empty ts d few = absurd d
  left_over (x ∷ xs) (Leaf t o) [] d few = absurd (omega (arith, few))
  left_over (x ∷ xs) (Leaf t o) (y ∷ ys) d few =
      let later = left_over xs o ys d.2 (omega (arith, few)) in
      let rest = later.rest in
      let count = later.count in
      record { rest = omega (arith, rest); count = omega (arith, count) }
  left_over (x ∷ xs) (Node n c o) ts d few =
      let all : length (leaves c ++ leaves o) ≡ length (leaves c) + length (leaves o) = length-append (leaves c) (leaves o) in
      let inner = left_over (right_of d.0) c ts d.3 (omega (arith, few, all)) in
      let inner_rest = inner.rest in
      let outer = left_over xs o (fold_forest node c ts).rest d.4 (omega (arith, few, all, inner_rest)) in
      let rest = outer.rest in
      let count = outer.count in
      record { rest = omega (arith, rest, inner_rest, all); count = omega (arith, count) }

  size_found : (n : ℕ) (p : Production) → slice_get g n ≡ Some p → size_in g n ≡ length (right_of p)
  size_found n p found = rw found refl

  -- running the steps of a forest puts its values on the stack
  pub ran : (xs : List ℕ) (f : Forest) (es : List Event) (stack ts : List A) → IsForest g xs f → length (leaves f) ≤ length ts
      → run_steps node g (postorder f ++ es) stack ts ≡ run_steps node g es (reverse (fold_forest node f ts).values ++ stack) (fold_forest node f ts).rest
  ran [] Empty es stack ts d few = refl
  ran [] (Leaf t o) es stack ts d few = absurd d
  ran [] (Node n c o) es stack ts d few = absurd d
  ran (x ∷ xs) Empty es stack ts d few = absurd d
  ran (x ∷ xs) (Leaf t o) es stack [] d few = absurd (omega (arith, few))
  ran (x ∷ xs) (Leaf t o) es stack (y ∷ ys) d few =
      let vs = (fold_forest node o ys).values in
      let on_top : reverse vs ++ y ∷ stack ≡ reverse (y ∷ vs) ++ stack = turned vs y stack in
      ran xs o es (y ∷ stack) ys d.2 (omega (arith, few))
      ∙ ap (λ (st : List A). run_steps node g es st (fold_forest node o ys).rest) on_top
  ran (x ∷ xs) (Node n c o) es stack ts d few =
      let all : length (leaves c ++ leaves o) ≡ length (leaves c) + length (leaves o) = length-append (leaves c) (leaves o) in
      let inner = left_over (right_of d.0) c ts d.3 (omega (arith, few, all)) in
      let inner_rest = inner.rest in
      let cv = (fold_forest node c ts).values in
      let cr = (fold_forest node c ts).rest in
      let ov = (fold_forest node o cr).values in
      let size : size_in g n ≡ length (reverse cv) = size_found n d.0 d.1 ∙ sym inner.count ∙ sym (length-reverse cv) in
      let taken : reverse (take (size_in g n) (reverse cv ++ stack)) ≡ cv =
      ap (λ (k : ℕ). reverse (take k (reverse cv ++ stack))) size ∙ ap reverse (take-append_seam (reverse cv) stack) ∙ reverse-reverse cv in
      let kept : drop (size_in g n) (reverse cv ++ stack) ≡ stack = ap (λ (k : ℕ). drop k (reverse cv ++ stack)) size ∙ drop-append_seam (reverse cv) stack in
      let on_top : reverse ov ++ node n cv ∷ stack ≡ reverse (node n cv ∷ ov) ++ stack = turned ov (node n cv) stack in
      ap (λ (events : List Event). run_steps node g events stack ts) (append_assoc (postorder c) (Reduce n ∷ postorder o) es)
      ∙ ran (right_of d.0) c (Reduce n ∷ postorder o ++ es) stack ts d.3 (omega (arith, few, all))
      ∙ ap (λ (vs : List A). run_steps node g (postorder o ++ es) (node n vs ∷ drop (size_in g n) (reverse cv ++ stack)) cr) taken
      ∙ ap (λ (st : List A). run_steps node g (postorder o ++ es) (node n cv ∷ st) cr) kept
      ∙ ran xs o es (node n cv ∷ stack) cr d.4 (omega (arith, few, all, inner_rest))
      ∙ ap (λ (st : List A). run_steps node g es st (fold_forest node o cr).rest) on_top

  -- the steps of a whole tree leave its value
  pub ran_tree : (x : ℕ) (f : Forest) (ts : List A) → IsForest g (x ∷ []) f → length (leaves f) ≤ length ts
      → run_steps node g (postorder f) [] ts ≡ reverse (fold_forest node f ts).values
  ran_tree x f ts d few =
      ap (λ (events : List Event). run_steps node g events [] ts) (sym (append-nil (postorder f))) ∙ ran (x ∷ []) f [] [] ts d few
      ∙ append-nil (reverse (fold_forest node f ts).values)
