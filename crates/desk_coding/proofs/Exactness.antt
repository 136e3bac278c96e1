-- What is read in front of bytes is written so, and what is written so is read.
use Rattle.std.proofs.Common.{◌≡◌, ◌∙◌, ◌+◌, ◌<◌, ◌≤◌, ◌^◌, ℕ, zero, suc, Bool, true, false, cond, eqb, ltb, List, [], ◌∷◌, ◌++◌, length, get_or, take, drop, Option, Some, None, refl, ap, sym, subst, append_assoc, arith, inl, inr}
use Rattle.std.specs.Prelude.{◌&&◌}
use Rattle.std.specs.Int.{w32, w64, from_be_bytes, to_be_bytes}
use Rattle.std.specs.List.{find, flat_map, list_all}
use Rattle.std.specs.Option.{option_and_then, option_map}
use Rattle.std.proofs.lemmas.Bool.{cases_lt, eq-eqb, eqb-true, le-ltb, ltb-false, ltb-true, lt-ltb}
use Rattle.std.proofs.lemmas.List.{drop_at, take_at, take-append-drop, length-append, length-take, get_or-drop, get_or-take, get_or_past}
use Rattle.std.proofs.lemmas.List.Concat.{flat_map-cons}
use Rattle.std.proofs.lemmas.Nat.{be_bytes_4, be_bytes_8, from_be_bytes-to_be_bytes_4, from_be_bytes-to_be_bytes_8}
use Rattle.std.proofs.lemmas.Option.{same_Some}
use Rattle.desk_coding.specs.Codings.{Coding, number32, number64, split, text, both, fields, variant, variant_front, optional, optional_front, optional_written, many_front, exactly, listed}

abbrev pub IsBytes : List ℕ → Type 0
IsBytes bytes = (i : ℕ) → get_or bytes i 0 < 256

pub bytes_behind : (front rest bytes : List ℕ) → bytes ≡ front ++ rest → IsBytes bytes → IsBytes rest
bytes_behind front rest bytes is fits i =
    let here : drop (length front) bytes ≡ rest = rw is (drop_at front rest (length front) refl) in
    rw (← here, get_or-drop) (fits (length front + i))

pub bytes_rest : (b : ℕ) (bytes : List ℕ) → IsBytes (b ∷ bytes) → IsBytes bytes
bytes_rest b bytes fits i = fits (suc i)

bytes_taken : (n : ℕ) (bytes : List ℕ) → IsBytes bytes → IsBytes (take n bytes)
bytes_taken n bytes fits i =
    elim (cases_lt i n) [
      | inl lt ↦ rw (get_or-take n bytes i 0 lt) (fits i)
      | inr le ↦ rw (get_or_past (take n bytes) i 0 (omega (arith, length-take n bytes))) (omega arith)
    ]

pub record Exact {X : Type 0} (coding : Coding X) : Type 0 where
  pub again : (x : X) (rest : List ℕ) → coding.fits x ≡ true → coding.front (coding.written x ++ rest) ≡ Some (x, rest)
  pub takes : (bytes : List ℕ) (x : X) (rest : List ℕ) → IsBytes bytes → coding.front bytes ≡ Some (x, rest)
      → (bytes ≡ coding.written x ++ rest) × (coding.fits x ≡ true)

-- ---- tools

pub both_left : (a b : Bool) → (a && b) ≡ true → a ≡ true
both_left true b e = refl
both_left false b e = e

pub both_right : (a b : Bool) → (a && b) ≡ true → b ≡ true
both_right true b e = e
both_right false b e = cc

pub both_true : (a b : Bool) → a ≡ true → b ≡ true → (a && b) ≡ true
both_true true b e f = f
both_true false b e f = e

pub then_some : {A B : Type 0} (f : A → Option B) (o : Option A) (y : B) → option_and_then f o ≡ Some y → (x : A) × (o ≡ Some x) × (f x ≡ Some y)
then_some f (Some x) y e = (x, refl, e)
then_some f None y e = absurd cc

pub map_some : {A B : Type 0} (f : A → B) (o : Option A) (y : B) → option_map f o ≡ Some y → (x : A) × (o ≡ Some x) × (f x ≡ y)
map_some f (Some x) y e = (x, refl, cc)
map_some f None y e = absurd cc

guard_some : {A : Type 0} (b : Bool) (x y : A) → cond b None (Some x) ≡ Some y → (b ≡ false) × (x ≡ y)
guard_some true x y e = absurd cc
guard_some false x y e = (refl, cc)

-- ---- numbers

taken32 : (bytes : List ℕ) (n : ℕ) (rest : List ℕ) → IsBytes bytes → number32.front bytes ≡ Some (n, rest)
    → (bytes ≡ number32.written n ++ rest) × (number32.fits n ≡ true)
unfolding number32
taken32 bytes n rest fits e =
    let g = guard_some (ltb (length bytes) 4) (from_be_bytes w32 (take 4 bytes), drop 4 bytes) (n, rest) e in
    let long : 4 ≤ length bytes = ltb-false _ _ g.0 in
    let len : length (take 4 bytes) ≡ 4 = omega (arith, length-take 4 bytes) in
    let at = bytes_taken 4 bytes fits in
    let below : from_be_bytes w32 (take 4 bytes) < 2 ^ 32 = omega (arith, at 0, at 1, at 2, at 3) in
    let front : to_be_bytes w32 (from_be_bytes w32 (take 4 bytes)) ≡ take 4 bytes = be_bytes_4 (take 4 bytes) _ len at refl in
    subst (λ (y : ℕ × List ℕ). (bytes ≡ to_be_bytes w32 y.0 ++ y.1) × (ltb y.0 (2 ^ 32) ≡ true)) g.1
    (sym (take-append-drop 4 bytes) ∙ ap (λ (t : List ℕ). t ++ drop 4 bytes) (sym front), lt-ltb _ _ below)

again32 : (n : ℕ) (rest : List ℕ) → number32.fits n ≡ true → number32.front (number32.written n ++ rest) ≡ Some (n, rest)
unfolding number32
again32 n rest fits =
    let long : ltb (length (to_be_bytes w32 n ++ rest)) 4 ≡ false = le-ltb _ _ (omega (arith, length-append (to_be_bytes w32 n) rest)) in
    let value : from_be_bytes w32 (take 4 (to_be_bytes w32 n ++ rest)) ≡ n = ap (from_be_bytes w32) (take_at (to_be_bytes w32 n) rest 4 refl) ∙ from_be_bytes-to_be_bytes_4 n (ltb-true _ _ fits) in
    let behind : drop 4 (to_be_bytes w32 n ++ rest) ≡ rest = drop_at (to_be_bytes w32 n) rest 4 refl in
    rw long (ap (λ (k : ℕ). Some (k, drop 4 (to_be_bytes w32 n ++ rest))) value ∙ ap (λ (r : List ℕ). Some (n, r)) behind)

pub exact_number32 : Exact number32
exact_number32 = record { again = again32; takes = taken32 }

taken64 : (bytes : List ℕ) (n : ℕ) (rest : List ℕ) → IsBytes bytes → number64.front bytes ≡ Some (n, rest)
    → (bytes ≡ number64.written n ++ rest) × (number64.fits n ≡ true)
unfolding number64
taken64 bytes n rest fits e =
    let g = guard_some (ltb (length bytes) 8) (from_be_bytes w64 (take 8 bytes), drop 8 bytes) (n, rest) e in
    let long : 8 ≤ length bytes = ltb-false _ _ g.0 in
    let len : length (take 8 bytes) ≡ 8 = omega (arith, length-take 8 bytes) in
    let at = bytes_taken 8 bytes fits in
    let below : from_be_bytes w64 (take 8 bytes) < 2 ^ 64 = omega (arith, at 0, at 1, at 2, at 3, at 4, at 5, at 6, at 7) in
    let front : to_be_bytes w64 (from_be_bytes w64 (take 8 bytes)) ≡ take 8 bytes = be_bytes_8 (take 8 bytes) _ len at refl in
    subst (λ (y : ℕ × List ℕ). (bytes ≡ to_be_bytes w64 y.0 ++ y.1) × (ltb y.0 (2 ^ 64) ≡ true)) g.1
    (sym (take-append-drop 8 bytes) ∙ ap (λ (t : List ℕ). t ++ drop 8 bytes) (sym front), lt-ltb _ _ below)

again64 : (n : ℕ) (rest : List ℕ) → number64.fits n ≡ true → number64.front (number64.written n ++ rest) ≡ Some (n, rest)
unfolding number64
again64 n rest fits =
    let long : ltb (length (to_be_bytes w64 n ++ rest)) 8 ≡ false = le-ltb _ _ (omega (arith, length-append (to_be_bytes w64 n) rest)) in
    let value : from_be_bytes w64 (take 8 (to_be_bytes w64 n ++ rest)) ≡ n = ap (from_be_bytes w64) (take_at (to_be_bytes w64 n) rest 8 refl) ∙ from_be_bytes-to_be_bytes_8 n (ltb-true _ _ fits) in
    let behind : drop 8 (to_be_bytes w64 n ++ rest) ≡ rest = drop_at (to_be_bytes w64 n) rest 8 refl in
    rw long (ap (λ (k : ℕ). Some (k, drop 8 (to_be_bytes w64 n ++ rest))) value ∙ ap (λ (r : List ℕ). Some (n, r)) behind)

pub exact_number64 : Exact number64
exact_number64 = record { again = again64; takes = taken64 }

-- ---- texts

fits64 : (n : ℕ) → number64.fits n ≡ ltb n (2 ^ 64)
unfolding number64
fits64 n = refl

taken_text : (bytes words rest : List ℕ) → IsBytes bytes → text.front bytes ≡ Some (words, rest) → (bytes ≡ text.written words ++ rest) × (text.fits words ≡ true)
unfolding text
taken_text bytes words rest fits e =
    let m = then_some (λ n. split n.0 n.1) (number64.front bytes) (words, rest) e in
    let t = taken64 bytes m.0.0 m.0.1 fits m.1 in
    let g = guard_some (ltb (length m.0.1) m.0.0) (take m.0.0 m.0.1, drop m.0.0 m.0.1) (words, rest) m.2 in
    let long : m.0.0 ≤ length m.0.1 = ltb-false _ _ g.0 in
    let len : length (take m.0.0 m.0.1) ≡ m.0.0 = omega (arith, length-take m.0.0 m.0.1) in
    let whole : bytes ≡ (number64.written (length (take m.0.0 m.0.1)) ++ take m.0.0 m.0.1) ++ drop m.0.0 m.0.1 =
    t.0 ∙ ap (λ (z : List ℕ). number64.written m.0.0 ++ z) (sym (take-append-drop m.0.0 m.0.1))
    ∙ sym (append_assoc (number64.written m.0.0) (take m.0.0 m.0.1) (drop m.0.0 m.0.1))
    ∙ ap (λ (k : ℕ). (number64.written k ++ take m.0.0 m.0.1) ++ drop m.0.0 m.0.1) (sym len) in
    let small : ltb (length (take m.0.0 m.0.1)) (2 ^ 64) ≡ true = ap (λ (k : ℕ). ltb k (2 ^ 64)) len ∙ sym (fits64 m.0.0) ∙ t.1 in
    subst (λ (y : List ℕ × List ℕ). (bytes ≡ (number64.written (length y.0) ++ y.0) ++ y.1) × (ltb (length y.0) (2 ^ 64) ≡ true)) g.1 (whole, small)

again_text : (words rest : List ℕ) → text.fits words ≡ true → text.front (text.written words ++ rest) ≡ Some (words, rest)
unfolding text
again_text words rest fits =
    let long : ltb (length (words ++ rest)) (length words) ≡ false = le-ltb _ _ (omega (arith, length-append words rest)) in
    let first : number64.front ((number64.written (length words) ++ words) ++ rest) ≡ Some (length words, words ++ rest) =
    ap number64.front (append_assoc (number64.written (length words)) words rest) ∙ again64 (length words) (words ++ rest) (fits64 (length words) ∙ fits) in
    rw (first, long, take_at words rest (length words) refl, drop_at words rest (length words) refl) refl

pub exact_text : Exact text
exact_text = record { again = again_text; takes = taken_text }

-- ---- one behind the other

pub exact_both : {A B : Type 0} {a : Coding A} {b : Coding B} → Exact a → Exact b → Exact (both a b)
exact_both {a = a} {b = b} first second = record {
  again = λ p rest fits.
      ap (both a b).front (append_assoc (a.written p.0) (b.written p.1) rest)
      ∙ rw (first.again p.0 (b.written p.1 ++ rest) (both_left (a.fits p.0) (b.fits p.1) fits), second.again p.1 rest (both_right (a.fits p.0) (b.fits p.1) fits)) refl;
  takes = λ bytes p rest is e.
      let m = then_some (λ x. option_map (λ y. ((x.0, y.0), y.1)) (b.front x.1)) (a.front bytes) (p, rest) e in
      let n = map_some (λ y. ((m.0.0, y.0), y.1)) (b.front m.0.1) (p, rest) m.2 in
      let ta = first.takes bytes m.0.0 m.0.1 is m.1 in
      let tb = second.takes m.0.1 n.0.0 n.0.1 (bytes_behind (a.written m.0.0) m.0.1 bytes ta.0 is) n.1 in
      let whole : bytes ≡ (a.written m.0.0 ++ b.written n.0.0) ++ n.0.1 =
      ta.0 ∙ ap (λ (z : List ℕ). a.written m.0.0 ++ z) tb.0 ∙ sym (append_assoc (a.written m.0.0) (b.written n.0.0) n.0.1) in
      subst (λ y. (bytes ≡ (a.written y.0.0 ++ b.written y.0.1) ++ y.1) × ((a.fits y.0.0 && b.fits y.0.1) ≡ true)) n.2
      (whole, both_true (a.fits m.0.0) (b.fits n.0.0) ta.1 tb.1);
}

pub exact_fields : {X P : Type 0} (parts : X → P) (made : P → X) {coding : Coding P} → ((x : X) → made (parts x) ≡ x) → ((p : P) → parts (made p) ≡ p)
    → Exact coding → Exact (fields parts made coding)
exact_fields parts made {coding = coding} there back exact = record {
  again = λ x rest fits. rw (exact.again (parts x) rest fits, there x) refl;
  takes = λ bytes x rest is e.
      let m = map_some (λ p. (made p.0, p.1)) (coding.front bytes) (x, rest) e in
      let t = exact.takes bytes m.0.0 m.0.1 is m.1 in
      subst (λ y. (bytes ≡ coding.written (parts y.0) ++ y.1) × (coding.fits (parts y.0) ≡ true)) m.2 (rw (back m.0.0) t);
}

-- ---- variants

found_here : {X : Type 0} (b : Bool) (p : X → Bool) (y x : X) (others : Option X) → p y ≡ b → cond b (Some y) others ≡ Some x → (others ≡ Some x → p x ≡ true) → p x ≡ true
found_here true p y x others is e later = subst (λ z. p z ≡ true) (same_Some y x e) is
found_here false p y x others is e later = later e

found_passes : {X : Type 0} (p : X → Bool) (xs : List X) (x : X) → find p xs ≡ Some x → p x ≡ true
found_passes p [] x e = absurd cc
found_passes p (y ∷ ys) x e = found_here (p y) p y x (find p ys) refl e (found_passes p ys x)

taken_variant : {X : Type 0} (number : X → ℕ) (all : List X) (bytes : List ℕ) (x : X) (rest : List ℕ) → variant_front number all bytes ≡ Some (x, rest)
    → (bytes ≡ number x ∷ rest) × (true ≡ true)
taken_variant number all [] x rest e = absurd cc
taken_variant number all (byte ∷ bytes) x rest e =
    let m = map_some (λ y. (y, bytes)) (find (λ y. eqb (number y) byte) all) (x, rest) e in
    let is : number m.0 ≡ byte = eqb-true _ _ (found_passes (λ y. eqb (number y) byte) all m.0 m.1) in
    subst (λ y. (byte ∷ bytes ≡ number y.0 ∷ y.1) × (true ≡ true)) m.2 (ap (λ (b : ℕ). b ∷ bytes) (sym is), refl)

pub exact_variant : {X : Type 0} (number : X → ℕ) (all : List X) → ((x : X) → find (λ y. eqb (number y) (number x)) all ≡ Some x) → Exact (variant number all)
exact_variant number all found = record {
  again = λ x rest fits. rw (found x) refl;
  takes = λ bytes x rest is e. taken_variant number all bytes x rest e;
}

-- ---- options

again_optional : {X : Type 0} (coding : Coding X) → Exact coding → (o : Option X) (rest : List ℕ) → (optional coding).fits o ≡ true
    → optional_front coding (optional_written coding o ++ rest) ≡ Some (o, rest)
again_optional coding exact None rest fits = refl
again_optional coding exact (Some x) rest fits = rw (exact.again x rest fits) refl

taken_optional : {X : Type 0} (coding : Coding X) → Exact coding → (bytes : List ℕ) (o : Option X) (rest : List ℕ) → IsBytes bytes → optional_front coding bytes ≡ Some (o, rest)
    → (bytes ≡ optional_written coding o ++ rest) × ((optional coding).fits o ≡ true)
taken_optional coding exact [] o rest is e = absurd cc
taken_optional coding exact (zero ∷ bytes) o rest is e =
    subst (λ y. (0 ∷ bytes ≡ optional_written coding y.0 ++ y.1) × ((optional coding).fits y.0 ≡ true)) (same_Some (None, bytes) (o, rest) e) (refl, refl)
taken_optional coding exact (suc zero ∷ bytes) o rest is e =
    let m = map_some (λ x. (Some x.0, x.1)) (coding.front bytes) (o, rest) e in
    let t = exact.takes bytes m.0.0 m.0.1 (bytes_rest 1 bytes is) m.1 in
    subst (λ y. (1 ∷ bytes ≡ optional_written coding y.0 ++ y.1) × ((optional coding).fits y.0 ≡ true)) m.2 (ap (λ (z : List ℕ). 1 ∷ z) t.0, t.1)
taken_optional coding exact (suc (suc flag) ∷ bytes) o rest is e = absurd cc

pub exact_optional : {X : Type 0} {coding : Coding X} → Exact coding → Exact (optional coding)
exact_optional {coding = coding} exact = record { again = again_optional coding exact; takes = taken_optional coding exact }

-- ---- lists

again_many : {X : Type 0} (coding : Coding X) → Exact coding → (xs : List X) (rest : List ℕ) → list_all coding.fits xs ≡ true
    → many_front coding (length xs) (flat_map coding.written xs ++ rest) ≡ Some (xs, rest)
unfolding many_front
again_many coding exact [] rest fits = refl
again_many coding exact (x ∷ xs) rest fits =
    let regrouped : flat_map coding.written (x ∷ xs) ++ rest ≡ coding.written x ++ (flat_map coding.written xs ++ rest) =
    ap (λ (z : List ℕ). z ++ rest) (flat_map-cons coding.written x xs) ∙ append_assoc (coding.written x) (flat_map coding.written xs) rest in
    let first : coding.fits x ≡ true = both_left (coding.fits x) (list_all coding.fits xs) fits in
    let others : list_all coding.fits xs ≡ true = both_right (coding.fits x) (list_all coding.fits xs) fits in
    ap (many_front coding (suc (length xs))) regrouped
    ∙ rw (exact.again x (flat_map coding.written xs ++ rest) first, again_many coding exact xs rest others) refl

abbrev AreTaken : {X : Type 0} → Coding X → ℕ → List ℕ → List X × List ℕ → Type 0
AreTaken coding n bytes y = (bytes ≡ flat_map coding.written y.0 ++ y.1) × (length y.0 ≡ n) × (list_all coding.fits y.0 ≡ true)

taken_many : {X : Type 0} (coding : Coding X) → Exact coding → (n : ℕ) (bytes : List ℕ) (xs : List X) (rest : List ℕ) → IsBytes bytes
    → many_front coding n bytes ≡ Some (xs, rest) → AreTaken coding n bytes (xs, rest)
unfolding many_front
taken_many coding exact zero bytes xs rest is e = subst (AreTaken coding 0 bytes) (same_Some ([], bytes) (xs, rest) e) (refl, refl, refl)
taken_many coding exact (suc n) bytes xs rest is e =
    let m = then_some (λ x. option_map (λ ys. (x.0 ∷ ys.0, ys.1)) (many_front coding n x.1)) (coding.front bytes) (xs, rest) e in
    let k = map_some (λ ys. (m.0.0 ∷ ys.0, ys.1)) (many_front coding n m.0.1) (xs, rest) m.2 in
    let first = exact.takes bytes m.0.0 m.0.1 is m.1 in
    let others = taken_many coding exact n m.0.1 k.0.0 k.0.1 (bytes_behind (coding.written m.0.0) m.0.1 bytes first.0 is) k.1 in
    let whole : bytes ≡ flat_map coding.written (m.0.0 ∷ k.0.0) ++ k.0.1 =
    first.0 ∙ ap (λ (z : List ℕ). coding.written m.0.0 ++ z) others.0 ∙ sym (append_assoc (coding.written m.0.0) (flat_map coding.written k.0.0) k.0.1)
    ∙ ap (λ (z : List ℕ). z ++ k.0.1) (sym (flat_map-cons coding.written m.0.0 k.0.0)) in
    subst (AreTaken coding (suc n) bytes) k.2 (whole, ap suc others.1, both_true (coding.fits m.0.0) (list_all coding.fits k.0.0) first.1 others.2)

pub exact_listed : {X : Type 0} {coding : Coding X} → Exact coding → Exact (listed coding)
exact_listed {coding = coding} exact = record {
  again = λ xs rest fits.
      let short : ltb (length xs) (2 ^ 64) ≡ true = both_left (ltb (length xs) (2 ^ 64)) (list_all coding.fits xs) fits in
      let each : list_all coding.fits xs ≡ true = both_right (ltb (length xs) (2 ^ 64)) (list_all coding.fits xs) fits in
      ap (listed coding).front (append_assoc (number64.written (length xs)) (flat_map coding.written xs) rest)
      ∙ rw (again64 (length xs) (flat_map coding.written xs ++ rest) (fits64 (length xs) ∙ short)) (again_many coding exact xs rest each);
  takes = λ bytes xs rest is e.
      let m = then_some (λ n. many_front coding n.0 n.1) (number64.front bytes) (xs, rest) e in
      let first = taken64 bytes m.0.0 m.0.1 is m.1 in
      let others = taken_many coding exact m.0.0 m.0.1 xs rest (bytes_behind (number64.written m.0.0) m.0.1 bytes first.0 is) m.2 in
      let whole : bytes ≡ (number64.written (length xs) ++ flat_map coding.written xs) ++ rest =
      first.0 ∙ ap (λ (z : List ℕ). number64.written m.0.0 ++ z) others.0
      ∙ sym (append_assoc (number64.written m.0.0) (flat_map coding.written xs) rest)
      ∙ ap (λ (k : ℕ). (number64.written k ++ flat_map coding.written xs) ++ rest) (sym others.1) in
      let short : ltb (length xs) (2 ^ 64) ≡ true = ap (λ (k : ℕ). ltb k (2 ^ 64)) others.1 ∙ sym (fits64 m.0.0) ∙ first.1 in
      (whole, both_true (ltb (length xs) (2 ^ 64)) (list_all coding.fits xs) short others.2);
}

pub exact_exactly : {X : Type 0} (n : ℕ) {coding : Coding X} → Exact coding → Exact (exactly n coding)
exact_exactly n {coding = coding} exact = record {
  again = λ xs rest fits.
      let count : length xs ≡ n = eqb-true _ _ (both_left (eqb (length xs) n) (list_all coding.fits xs) fits) in
      let each : list_all coding.fits xs ≡ true = both_right (eqb (length xs) n) (list_all coding.fits xs) fits in
      ap (λ (k : ℕ). many_front coding k (flat_map coding.written xs ++ rest)) (sym count) ∙ again_many coding exact xs rest each;
  takes = λ bytes xs rest is e.
      let t = taken_many coding exact n bytes xs rest is e in
      (t.0, both_true (eqb (length xs) n) (list_all coding.fits xs) (eq-eqb _ _ t.1) t.2);
}
