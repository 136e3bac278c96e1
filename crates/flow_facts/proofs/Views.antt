-- Numbered points as points of the text.
use Rattle.std.proofs.Common.{◌≡◌, ◌<◌, ℕ, zero, suc, refl, sym, ap, List, [], ◌∷◌, length, slice_get, get_or, Some, arith}
use Rattle.control_flow.specs.declared.flow.Spot.{Spot as SpotOf}
use Rattle.control_flow.specs.Labels.{spot_in_list, spot_of}

-- the spot of a node is what the table has
pub spot_there : (spots : List SpotOf) (n : ℕ) (s : SpotOf) → n < length spots → s ≡ get_or spots n s → spot_in_list spots n ≡ spot_of s
spot_there [] n s l e = absurd (omega arith)
spot_there (x ∷ xs) zero s l e = ap spot_of (sym e)
spot_there (x ∷ xs) (suc n) s l e = spot_there xs n s (omega arith) e

pub item_there : {A : Type 0} → (xs : List A) (n : ℕ) → n < length xs → (x : A) × (slice_get xs n ≡ Some x)
item_there [] n l = absurd (omega arith)
item_there (x ∷ xs) zero l = (x, refl)
item_there (x ∷ xs) (suc n) l = item_there xs n (omega arith)
