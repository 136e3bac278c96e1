-- The first fault of a phase: the one with the least place, of several at one place the one with the least code, and of
-- several limits that one name passes the first in their order.
use Rattle.std.specs.Prelude.{◌≡◌, ◌⊎◌, ℕ, Bool, false, ◌==◌, nat_lt, if◌then◌else◌, List, [], ◌∷◌, Option, Some, None, codes}
use Rattle.misra_base.specs.declared.refusal.Refusal.{Refusal}
use Rattle.misra_base.specs.declared.refusal.CheckStop.{CheckStop}
use Rattle.misra_base.specs.declared.refusal.CheckStop.TheVariants.{Refused, Memory}
use Rattle.c_faults.specs.declared.fault.Limit.{Limit as TheLimit}
use Rattle.c_faults.specs.declared.fault.Limit.TheVariants.{Functions, Objects, Mutexes, Conditions, Threads, Keys}
use Rattle.c_faults.specs.declared.fault.FaultName.{FaultName}
use Rattle.c_faults.specs.declared.fault.FaultName.TheVariants.{Text, Limit}
use Rattle.c_faults.specs.declared.fault.Fault.{Fault}

-- limits in their order
abbrev pub rank : FaultName → ℕ
rank (Text text) = 0
rank (Limit Functions) = 1
rank (Limit Objects) = 2
rank (Limit Mutexes) = 3
rank (Limit Conditions) = 4
rank (Limit Threads) = 5
rank (Limit Keys) = 6

-- by two numbers, and where they are equal by what follows
abbrev pub less_or : ℕ → ℕ → Bool → Bool
less_or m n follows = if m == n then follows else nat_lt m n

abbrev pub is_earlier : Fault → Fault → Bool
is_earlier a b =
    less_or a.place.line b.place.line
    (less_or a.place.column b.place.column (less_or a.code b.code (nat_lt (rank a.name) (rank b.name))))

abbrev pub earlier : Fault → Option Fault → Fault
earlier fault None = fault
earlier fault (Some other) = if is_earlier fault other then fault else other

abbrev pub first_behind : Option Fault → List Fault → Option Fault
first_behind first [] = first
first_behind first (fault ∷ faults) = first_behind (Some (earlier fault first)) faults

abbrev pub first_fault : List Fault → Option Fault
first_fault = first_behind None

-- ---- what the first fault is, in other words

abbrev pub IsOneOf : Fault → List Fault → Type 0
IsOneOf fault [] = ⊥
IsOneOf fault (f ∷ fs) = (fault ≡ f) ⊎ IsOneOf fault fs

abbrev pub NoneBefore : Fault → List Fault → Type 0
NoneBefore fault [] = Unit {0}
NoneBefore fault (f ∷ fs) = (is_earlier f fault ≡ false) × NoneBefore fault fs

-- one of the faults, before which no other stands
pub record IsFirst (faults : List Fault) (fault : Fault) : Type 0 where
  pub is_one : IsOneOf fault faults
  pub none_before : NoneBefore fault faults

-- ---- the refusal

abbrev pub limit_word : TheLimit → List ℕ
limit_word Functions = codes "functions"
limit_word Objects = codes "objects"
limit_word Mutexes = codes "mutexes"
limit_word Conditions = codes "conditions"
limit_word Threads = codes "threads"
limit_word Keys = codes "keys"

abbrev pub name_text : FaultName → List ℕ
name_text (Text text) = text
name_text (Limit limit) = limit_word limit

abbrev pub refusal_of : Fault → Refusal
refusal_of fault = record { code = fault.code; place = fault.place; name = name_text fault.name }

-- a refusal tells the first of the faults
pub record IsRefusalOf (faults : List Fault) (refusal : Refusal) : Type 0 where
  pub fault : Fault
  pub is_first : IsFirst faults fault
  pub told : refusal ≡ refusal_of fault

-- how a phase with these faults stops: by the first of them, or for want of memory
abbrev pub StopsBy : List Fault → CheckStop → Type 0
StopsBy faults (Refused refusal) = IsRefusalOf faults refusal
StopsBy faults Memory = Unit {0}
