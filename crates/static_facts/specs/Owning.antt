-- When a mark of the depths of a mutex agrees with a run.
use Rattle.std.specs.Prelude.{◌≡◌, ◌⊎◌, ℕ, ◌<◌, ◌+◌, Bool, true, false, ◌&&◌, ◌==◌, if◌then◌else◌, ℤ, min, List, [], ◌∷◌, ◌++◌, length, Option, Some, None}
use Rattle.c_program.specs.declared.program.Program.{Program}
use Rattle.c_program.specs.declared.program.Storage.TheVariants.{Automatic}
use Rattle.c_program.specs.Types.{is_zero}
use Rattle.c_program.specs.Values.{Cell, Value, Number, Of_frame, same_cell}
use Rattle.c_program.specs.Control.{Control, Spot, string_of}
use Rattle.c_program.specs.State.{State, Stand, Running, Frame, depth_of, inside_of, top}
use Rattle.c_program.specs.Faults.{is_result}
use Rattle.c_program.specs.Counters.{IsUnaddressed, is_into, storage_of}
use Rattle.c_program.specs.Step.{Choice}
use Rattle.c_program.specs.Runs.{state_after}
use Rattle.static_facts.specs.Outcomes.{Remembered}
use Rattle.static_facts.specs.Depths.{Mark}

-- ---- the depth

abbrev pub level_of : Cell → Option Cell → ℕ
level_of c None = 0
level_of c (Some m) = if same_cell m c then 1 else 0

-- how deep a thread owns a mutex, with the level that it takes again where it waits
abbrev pub depth_with_wait : Cell → State → ℕ → ℕ
depth_with_wait c state thread = depth_of thread (state.mutex c) + level_of c (inside_of (state.thread thread).stand)

-- ---- the remembered outcome

abbrev pub behind_call : List Spot → List Spot
behind_call [] = []
behind_call (spot ∷ string) = string

-- the open call of this number stands at this height of the call string, and the call above it gives the local nothing
abbrev pub HasFrame : ℕ → ℕ → List Spot → List Frame → ℕ → Type 0
HasFrame height local string [] f = ⊥
HasFrame height local string (frame ∷ frames) f = ((length string ≡ height) × (frame.number ≡ f))
    ⊎ ((height < length string) × (((is_into local frame.result && (top frames == f)) ≡ false) × HasFrame height local (behind_call string) frames f))

-- the local has a value with the outcome
pub record HasOutcome (program : Program) (memory : Cell → Option Value) (string : List Spot) (frames : List Frame) (r : Remembered) : Type 0 where
  pub call : ℕ
  pub number : ℤ
  pub frame : HasFrame r.height r.local string frames call
  pub holds : memory (record { root = Of_frame call r.local; path = [] }) ≡ Some (Number number)
  pub is_answer : is_result number ≡ true
  pub is_so : is_zero number ≡ r.succeeded
  pub automatic : storage_of program r.local ≡ Automatic
  pub unaddressed : IsUnaddressed program r.local

abbrev pub OutcomeAt : Program → (Cell → Option Value) → List Spot → List Frame → Option Remembered → Type 0
OutcomeAt program memory string frames None = Unit {0}
OutcomeAt program memory string frames (Some r) = HasOutcome program memory string frames r

abbrev pub OutcomeIn : Program → (Cell → Option Value) → List Spot → Stand → Option Remembered → Type 0
OutcomeIn program memory origin (Running control frames inside) outcome = OutcomeAt program memory (string_of control ++ origin) frames outcome
OutcomeIn program memory origin _ outcome = Unit {0}

-- ---- both

pub record AgreesIn (program : Program) (c : Cell) (state : State) (thread : ℕ) (mark : Mark) : Type 0 where
  pub depth : mark.depth ≡ min (depth_with_wait c state thread) 8
  pub outcome : OutcomeIn program state.memory (state.thread thread).origin (state.thread thread).stand mark.outcome

abbrev pub Agrees : Program → Cell → ℕ → List Choice → Mark → Type 0
Agrees program c thread run mark = AgreesIn program c (state_after program run) thread mark
