-- How values are written as bytes, and what stands at the front of bytes. A number of 32 bits is four bytes and one of 64 bits
-- eight, the highest first. A text is its length and its bytes, a list its count and its items, an array its items alone, and an
-- option the byte 0, or 1 and the value.
use Rattle.std.specs.Prelude.{ℕ, zero, suc, Bool, true, ◌&&◌, ◌==◌, ◌^◌, nat_lt, if◌then◌else◌, List, [], ◌∷◌, ◌++◌, length, take, drop, Option, Some, None}
use Rattle.std.specs.Int.{w32, w64, from_be_bytes, to_be_bytes}
use Rattle.std.specs.List.{find, flat_map, list_all}
use Rattle.std.specs.Option.{option_and_then, option_map, option_map_or}

pub record Coding (X : Type 0) : Type 0 where
  -- the bytes of a value
  pub written : X → List ℕ
  -- the value at the front, and what stands behind it
  pub front : List ℕ → Option (X × List ℕ)
  -- whether a value has bytes of this form
  pub fits : X → Bool

unfoldable pub number32 : Coding ℕ
number32 = record {
  written = to_be_bytes w32;
  front = λ bytes. if nat_lt (length bytes) 4 then None else Some (from_be_bytes w32 (take 4 bytes), drop 4 bytes);
  fits = λ n. nat_lt n (2 ^ 32);
}

unfoldable pub number64 : Coding ℕ
number64 = record {
  written = to_be_bytes w64;
  front = λ bytes. if nat_lt (length bytes) 8 then None else Some (from_be_bytes w64 (take 8 bytes), drop 8 bytes);
  fits = λ n. nat_lt n (2 ^ 64);
}

-- so many bytes
abbrev pub split : ℕ → List ℕ → Option (List ℕ × List ℕ)
split n bytes = if nat_lt (length bytes) n then None else Some (take n bytes, drop n bytes)

unfoldable pub text : Coding (List ℕ)
text = record {
  written = λ bytes. number64.written (length bytes) ++ bytes;
  front = λ bytes. option_and_then (λ n. split n.0 n.1) (number64.front bytes);
  fits = λ bytes. nat_lt (length bytes) (2 ^ 64);
}

-- one behind the other
abbrev pub both : {A B : Type 0} → Coding A → Coding B → Coding (A × B)
both first second = record {
  written = λ p. first.written p.0 ++ second.written p.1;
  front = λ bytes. option_and_then (λ a. option_map (λ b. ((a.0, b.0), b.1)) (second.front a.1)) (first.front bytes);
  fits = λ p. first.fits p.0 && second.fits p.1;
}

-- a value by its fields
abbrev pub fields : {X P : Type 0} → (X → P) → (P → X) → Coding P → Coding X
fields parts made coding = record {
  written = λ x. coding.written (parts x);
  front = λ bytes. option_map (λ p. (made p.0, p.1)) (coding.front bytes);
  fits = λ x. coding.fits (parts x);
}

-- the byte of a variant is its place, from 0
abbrev pub variant_front : {X : Type 0} → (X → ℕ) → List X → List ℕ → Option (X × List ℕ)
variant_front number all [] = None
variant_front number all (byte ∷ bytes) = option_map (λ x. (x, bytes)) (find (λ x. number x == byte) all)

abbrev pub variant : {X : Type 0} → (X → ℕ) → List X → Coding X
variant number all = record {
  written = λ x. number x ∷ [];
  front = variant_front number all;
  fits = λ x. true;
}

abbrev pub optional_written : {X : Type 0} → Coding X → Option X → List ℕ
optional_written coding None = 0 ∷ []
optional_written coding (Some x) = 1 ∷ coding.written x

abbrev pub optional_front : {X : Type 0} → Coding X → List ℕ → Option (Option X × List ℕ)
optional_front coding [] = None
optional_front coding (zero ∷ bytes) = Some (None, bytes)
optional_front coding (suc zero ∷ bytes) = option_map (λ x. (Some x.0, x.1)) (coding.front bytes)
optional_front coding (suc (suc flag) ∷ bytes) = None

abbrev pub optional : {X : Type 0} → Coding X → Coding (Option X)
optional coding = record {
  written = optional_written coding;
  front = optional_front coding;
  fits = λ o. option_map_or coding.fits o true;
}

-- so many, one behind the other
unfoldable pub many_front : {X : Type 0} → Coding X → ℕ → List ℕ → Option (List X × List ℕ)
many_front coding zero bytes = Some ([], bytes)
many_front coding (suc n) bytes =
    option_and_then (λ x. option_map (λ xs. (x.0 ∷ xs.0, xs.1)) (many_front coding n x.1)) (coding.front bytes)

abbrev pub exactly : {X : Type 0} → ℕ → Coding X → Coding (List X)
exactly n coding = record {
  written = flat_map coding.written;
  front = many_front coding n;
  fits = λ xs. (length xs == n) && list_all coding.fits xs;
}

abbrev pub listed : {X : Type 0} → Coding X → Coding (List X)
listed coding = record {
  written = λ xs. number64.written (length xs) ++ flat_map coding.written xs;
  front = λ bytes. option_and_then (λ n. many_front coding n.0 n.1) (number64.front bytes);
  fits = λ xs. nat_lt (length xs) (2 ^ 64) && list_all coding.fits xs;
}

-- all of the bytes
abbrev pub ended : {X : Type 0} → X × List ℕ → Option X
ended read = if length read.1 == 0 then Some read.0 else None

abbrev pub whole : {X : Type 0} → Coding X → List ℕ → Option X
whole coding bytes = option_and_then ended (coding.front bytes)
