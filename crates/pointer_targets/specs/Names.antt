-- What an analysis of pointers answers of the arguments of library calls: tests, whose meaning stands in Candidates.
use Rattle.std.specs.Prelude.{◌≡◌, ℕ, Bool, true}
use Rattle.c_program.specs.Values.{Location}
use Rattle.c_program.specs.Control.{Point}

pub record Names : Type 0 where
  pub may_name : Point → ℕ → Location → Bool
  pub is_exact : Point → ℕ → Location → Bool

-- an argument at a point, by its number from 0, may name the location
abbrev pub MayName : Names → Point → ℕ → Location → Type 0
MayName names point argument location = names.may_name point argument location ≡ true

-- it names this static location and nothing else
abbrev pub IsExact : Names → Point → ℕ → Location → Type 0
IsExact names point argument location = names.is_exact point argument location ≡ true
