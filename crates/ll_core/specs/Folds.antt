-- What is made of a derivation tree from its leaves up, and by its steps on a stack.
use Rattle.std.specs.Prelude.{ℕ, List, [], ◌∷◌, take, drop, length, reverse, Option, None, Some, slice_get}
use Rattle.ll_core.specs.declared.production.Production.{Production}
use Rattle.ll_core.specs.declared.reductions.Event.{Event}
use Rattle.ll_core.specs.declared.reductions.Event.TheVariants.{Shift, Reduce}
use Rattle.ll_core.specs.Trees.{Forest, Empty, Leaf, Node, right_of}

-- how many symbols the right side of a production has
abbrev pub size_in : List Production → ℕ → ℕ
size_in grammar number = size (slice_get grammar number)
  where
    size : Option Production → ℕ
    size None = 0
    size (Some p) = length (right_of p)

module _ {A : Type 0} (node : ℕ → List A → A) where
  -- the values of trees side by side, and the values of tokens that they leave: a leaf takes the next of these
  pub record Folded : Type 0 where
    pub values : List A
    pub rest : List A

  -- a leaf takes the first value, and gives what it leaves to the others
  abbrev pub with_leaf : List A → Folded → Folded
  with_leaf [] others = others
  with_leaf (t ∷ ts) others = record { values = t ∷ others.values; rest = others.rest }

  abbrev pub fold_forest : Forest → List A → Folded
  fold_forest Empty tokens = record { values = []; rest = tokens }
  fold_forest (Leaf token others) tokens = with_leaf tokens (fold_forest others (drop 1 tokens))
  fold_forest (Node number children others) tokens =
      let inner = fold_forest children tokens in
      let outer = fold_forest others inner.rest in
      record { values = node number inner.values ∷ outer.values; rest = outer.rest }

  -- the steps on a stack, whose top is first
  abbrev pub run_steps : List Production → List Event → (stack tokens : List A) → List A
  run_steps grammar [] stack tokens = stack
  run_steps grammar (Shift ∷ events) stack [] = stack
  run_steps grammar (Shift ∷ events) stack (t ∷ ts) = run_steps grammar events (t ∷ stack) ts
  run_steps grammar (Reduce number ∷ events) stack tokens =
      run_steps grammar events (node number (reverse (take (size_in grammar number) stack)) ∷ drop (size_in grammar number) stack) tokens
