-- When a mark of the states of an object agrees with a run.
use Rattle.std.specs.Prelude.{◌≡◌, false, ℕ, ◌==◌, List, Option}
use Rattle.c_program.specs.declared.program.Program.{Program}
use Rattle.c_program.specs.Values.{Cell}
use Rattle.c_program.specs.Faults.{Sort}
use Rattle.c_program.specs.Step.{Choice}
use Rattle.c_program.specs.Runs.{state_after}
use Rattle.static_facts.specs.Outcomes.{Remembered}
use Rattle.static_facts.specs.Owning.{OutcomeIn}
use Rattle.static_facts.specs.ObjectStates.{ObjectState}
use Rattle.static_facts.specs.ObjectPaths.{Mark, Follows_none, At}
use Rattle.static_facts.specs.Seen.{seen}

pub record AgreesAt (program : Program) (sort : Sort) (object : Cell) (thread : ℕ) (run : List Choice) (state : ObjectState) (outcome : Option Remembered) : Type 0 where
  pub initial : thread ≡ 0
  pub has : state ≡ seen program sort object run
  pub remembers : OutcomeIn program (state_after program run).memory ((state_after program run).thread thread).origin ((state_after program run).thread thread).stand outcome

abbrev pub Agrees : Program → Sort → Cell → ℕ → List Choice → Mark → Type 0
Agrees program sort object thread run Follows_none = (thread == 0) ≡ false
Agrees program sort object thread run (At state outcome) = AgreesAt program sort object thread run state outcome
