-- What a call answers that reads from the front of bytes.
use Rattle.std.specs.Prelude.{◌≡◌, ◌≢◌, ℕ, true, List, [], ◌∷◌, Option, Some, None, Result, Ok, Err}
use Rattle.desk_coding.specs.Codings.{Coding}
use Rattle.desk_coding.specs.declared.stop.TakeStop.{TakeStop}
use Rattle.desk_coding.specs.declared.stop.TakeStop.TheVariants as stops

abbrev pub Misses : {Y : Type 0} → TakeStop → Option Y → Type 0
Misses stops.NoCoding read = read ≡ None
Misses stops.Memory read = Unit {0}

-- what is read, or nothing is, unless there was no memory
abbrev pub Gives : {X Y : Type 0} → (X → Y) → Result X TakeStop → Option Y → Type 0
Gives seen (Ok x) read = read ≡ Some (seen x)
Gives seen (Err stop) read = Misses stop read

abbrev pub byte_front : List ℕ → Option (ℕ × List ℕ)
byte_front [] = None
byte_front (byte ∷ bytes) = Some (byte, bytes)

-- the value whose coding the bytes are, and None exactly where they are the coding of none
abbrev pub Takes : {X : Type 0} → Coding X → List ℕ → Option X → Type 0
Takes coding bytes (Some x) = (coding.fits x ≡ true) × (bytes ≡ coding.written x)
Takes {X = X} coding bytes None = (x : X) → coding.fits x ≡ true → bytes ≢ coding.written x
