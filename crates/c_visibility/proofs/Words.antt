-- A set of texts as the list of its texts.
use Rattle.std.proofs.Common.{◌≡◌, ℕ, Bool, true, false, ◌||◌, List, [], ◌∷◌, ◌++◌, map, length, Option, Some, None, ◌∙◌, refl, sym, ap}
use Rattle.std.proofs.lemmas.List.{map-append, length-map}
use Rattle.std.specs.Prelude.{if◌then◌else◌, cond, not, nat_lt, position, ◌+◌}
use Rattle.std.specs.List.{list_any, position_or_len, prefix_len}
use Rattle.std.specs.Str.{bytes_eq}
use Rattle.std.specs.declared.vec.Vec.{Vec}
use Rattle.std.specs.declared.alloc.Global.{Global}

abbrev pub items : Vec ℕ Global → List ℕ
items v = v.items

pub any_in : (word : List ℕ) (keys : List (Vec ℕ Global)) → list_any (λ k. bytes_eq word (items k)) keys ≡ list_any (bytes_eq word) (map items keys)
any_in word [] = refl
any_in word (k ∷ ks) = ap (λ (b : Bool). bytes_eq word (items k) || b) (any_in word ks)

pub inserted : (keys : List (Vec ℕ Global)) (w : Vec ℕ Global)
    → map items (if list_any (λ k. bytes_eq (items w) (items k)) keys then keys else keys ++ w ∷ [])
    ≡ (if list_any (bytes_eq (items w)) (map items keys) then map items keys else map items keys ++ items w ∷ [])
inserted keys w = rw (← any_in (items w) keys) (here (list_any (λ k. bytes_eq (items w) (items k)) keys))
  where
    here : (b : Bool) → map items (if b then keys else keys ++ w ∷ []) ≡ (if b then map items keys else map items keys ++ items w ∷ [])
    here true = refl
    here false = map-append items keys (w ∷ [])

prefix_in : (word : List ℕ) (keys : List (Vec ℕ Global))
    → prefix_len (λ k. not (bytes_eq word (items k))) keys ≡ prefix_len (λ text. not (bytes_eq word text)) (map items keys)
prefix_in word [] = refl
prefix_in word (k ∷ ks) = ap (λ n. cond (not (bytes_eq word (items k))) (1 + n) 0) (prefix_in word ks)

pub position_in : (word : List ℕ) (keys : List (Vec ℕ Global)) → position (λ k. bytes_eq word (items k)) keys ≡ position (bytes_eq word) (map items keys)
position_in word keys =
    ap (λ n. cond (nat_lt n (length keys)) (Some n) None) (prefix_in word keys)
    ∙ ap (λ m. cond (nat_lt (position_or_len (bytes_eq word) (map items keys)) m) (Some (position_or_len (bytes_eq word) (map items keys))) None)
    (sym (length-map keys items))
