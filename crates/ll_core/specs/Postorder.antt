-- The steps that make a derivation tree from its leaves up.
use Rattle.std.specs.Prelude.{◌≡◌, ℕ, List, [], ◌∷◌, ◌++◌, drop, map}
use Rattle.ll_core.specs.declared.production.Production.{Production}
use Rattle.ll_core.specs.declared.reductions.Event.{Event}
use Rattle.ll_core.specs.declared.reductions.Event.TheVariants.{Shift, Reduce}
use Rattle.ll_core.specs.declared.reductions.Pending.{Pending}
use Rattle.ll_core.specs.declared.reductions.Pending.TheVariants.{Symbol, Close}
use Rattle.ll_core.specs.Trees.{Forest, Empty, Leaf, Node, IsForest, leftmost}
use Rattle.ll_core.specs.Sentences.{IsDerivation}

-- a step for each token and, behind those of its parts, for each production
abbrev pub postorder : Forest → List Event
postorder Empty = []
postorder (Leaf token others) = Shift ∷ postorder others
postorder (Node number children others) = postorder children ++ Reduce number ∷ postorder others

-- some tree of this leftmost derivation has these steps
abbrev pub IsPostorder : List Production → List ℕ → List Event → Type 0
IsPostorder grammar numbers events = (tree : Forest) × IsDerivation grammar tree × (leftmost tree ≡ numbers) × (events ≡ postorder tree)

-- ---- what is pending, the first of it first

abbrev pub symbols_of : List Pending → List ℕ
symbols_of [] = []
symbols_of (Symbol x ∷ ps) = x ∷ symbols_of ps
symbols_of (Close n ∷ ps) = symbols_of ps

-- the steps that are left, where these are the trees of the pending symbols
abbrev pub events_of : List Pending → Forest → List Event
events_of [] f = []
events_of (Close n ∷ ps) f = Reduce n ∷ events_of ps f
events_of (Symbol x ∷ ps) Empty = []
events_of (Symbol x ∷ ps) (Leaf token others) = Shift ∷ events_of ps others
events_of (Symbol x ∷ ps) (Node number children others) = postorder children ++ Reduce number ∷ events_of ps others

abbrev pub pending_of : List ℕ → List Pending
pending_of symbols = map (λ x. Symbol x) symbols

-- the steps so far and those that are left are all of some tree
pub record GoesOn (grammar : List Production) (numbers : List ℕ) (i : ℕ) (events : List Event) (pending : List Pending) : Type 0 where
  pub tree : Forest
  pub left : Forest
  pub derived : IsDerivation grammar tree
  pub order : leftmost tree ≡ numbers
  pub trees : IsForest grammar (symbols_of pending) left
  pub numbers_left : drop i numbers ≡ leftmost left
  pub events_are : events ++ events_of pending left ≡ postorder tree
