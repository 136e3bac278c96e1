-- What holds of a coding whose values are read as they were written.
use Rattle.std.specs.Prelude.{◌≡◌, ◌<◌, ℕ, true, List, Some, get_or}
use Rattle.desk_coding.specs.Codings.{Coding, whole}
use Rattle.desk_coding.specs.Rows.{change, kept}

-- each value that fits is read from its bytes, whatever value that is
abbrev pub IsReadAgain : {X : Type 0} → Coding X → Type 0
IsReadAgain {X = X} coding = (x : X) → coding.fits x ≡ true → whole coding (coding.written x) ≡ Some x

-- what is read has no other bytes
abbrev pub HasOneCoding : {X : Type 0} → Coding X → Type 0
HasOneCoding {X = X} coding = (bytes : List ℕ) (x : X) → ((i : ℕ) → get_or bytes i 0 < 256) → whole coding bytes ≡ Some x → bytes ≡ coding.written x

abbrev pub WhatIsPutIsTaken : Type 0
WhatIsPutIsTaken = IsReadAgain kept × IsReadAgain change

abbrev pub WhatIsTakenWasPut : Type 0
WhatIsTakenWasPut = HasOneCoding kept × HasOneCoding change
