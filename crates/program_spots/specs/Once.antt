-- Lists in which nothing stands twice.
use Rattle.std.specs.Prelude.{◌≡◌, ℕ, List, Some, slice_get}

abbrev pub StandsOnce : {A : Type 0} → List A → Type 0
StandsOnce {A = A} xs = (a b : ℕ) (x : A) → slice_get xs a ≡ Some x → slice_get xs b ≡ Some x → a ≡ b
