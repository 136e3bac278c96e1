-- Reading so many values one after the other, as a loop does.
use Rattle.std.proofs.Common.{◌≡◌, ◌∙◌, ◌+◌, ◌-◌, ◌≤◌, ◌<◌, ℕ, suc, List, [], ◌∷◌, ◌++◌, Option, Some, None, refl, ap, sym, append_assoc, arith}
use Rattle.std.specs.Option.{option_map}
use Rattle.std.proofs.lemmas.List.{append-nil}
use Rattle.desk_coding.specs.Codings.{Coding, many_front}
use Rattle.desk_coding.specs.Taking.{Misses}
use Rattle.desk_coding.specs.declared.stop.TakeStop.{TakeStop}
use Rattle.desk_coding.specs.declared.stop.TakeStop.TheVariants as stops

-- what was read before, and what is still read
abbrev pub with_front : {X : Type 0} → List X → Option (List X × List ℕ) → Option (List X × List ℕ)
with_front front read = option_map (λ x. (front ++ x.0, x.1)) read

regroup : {X : Type 0} (front : List X) (x : X) (read : Option (List X × List ℕ)) → with_front front (option_map (λ y. (x ∷ y.0, y.1)) read) ≡ with_front (front ++ x ∷ []) read
regroup front x (Some y) = ap (λ ys. Some (ys, y.1)) (simp append_assoc refl)
regroup front x None = refl

pub goes_on : {X : Type 0} (coding : Coding X) (front : List X) (count i : ℕ) (bytes : List ℕ) (x : X) (after : List ℕ) (total : Option (List X × List ℕ)) → i < count
    → coding.front bytes ≡ Some (x, after) → with_front front (many_front coding (count - i) bytes) ≡ total
    → with_front (front ++ x ∷ []) (many_front coding (count - (i + 1)) after) ≡ total
unfolding many_front
goes_on coding front count i bytes x after total lt h so_far =
    let k : count - i ≡ suc (count - (i + 1)) = omega arith in
    let one : with_front front (many_front coding (count - i) bytes) ≡ with_front (front ++ x ∷ []) (many_front coding (count - (i + 1)) after) = rw (k, h) (regroup front x (many_front coding (count - (i + 1)) after)) in
    sym one ∙ so_far

pub ends : {X : Type 0} (coding : Coding X) (e : TakeStop) (front : List X) (count i : ℕ) (bytes : List ℕ) (total : Option (List X × List ℕ)) → i < count → Misses e (coding.front bytes)
    → with_front front (many_front coding (count - i) bytes) ≡ total → Misses e total
unfolding many_front
ends coding stops.Memory front count i bytes total lt h so_far = tt
ends coding stops.NoCoding front count i bytes total lt h so_far =
    let k : count - i ≡ suc (count - (i + 1)) = omega arith in
    let one : with_front front (many_front coding (count - i) bytes) ≡ None = rw (k, h) refl in
    sym so_far ∙ one

pub is_done : {X : Type 0} (coding : Coding X) (front : List X) (count i : ℕ) (bytes : List ℕ) (total : Option (List X × List ℕ)) → count ≤ i
    → with_front front (many_front coding (count - i) bytes) ≡ total → total ≡ Some (front, bytes)
unfolding many_front
is_done coding front count i bytes total le so_far =
    let k : count - i ≡ 0 = omega arith in
    let one : with_front front (many_front coding (count - i) bytes) ≡ Some (front, bytes) = rw k (ap (λ xs. Some (xs, bytes)) (append-nil front)) in
    sym so_far ∙ one
