-- Happens before and races of a program's runs, as clocks tell them (C11 5.1.2.4).
use Rattle.std.specs.Prelude.{◌≡◌, ℕ, ◌<◌, true, ◌↔◌, List, ◌∷◌, length}
use Rattle.misra_base.specs.declared.guideline.Guideline.TheVariants.{D5_1}
use Rattle.c_program.specs.declared.program.Program.{Program}
use Rattle.c_program.specs.Values.{Cell, is_static, is_data_cell}
use Rattle.c_program.specs.Step.{Choice}
use Rattle.c_program.specs.Runs.{IsGoodRun}
use Rattle.c_program.specs.Happens as meaning
use Rattle.c_program.specs.Breaks.{BreaksBy}
use Rattle.vector_clocks.specs.Happens.{Before}
use Rattle.vector_clocks.specs.Clocks.{steps_of}
use Rattle.vector_clocks.specs.Kept.{Lists, ListsValues, HasRival}
use Rattle.vector_clocks.specs.Threads.{thread_at, kept_after, clock_at}
use Rattle.run_clocks.specs.Moments.{run_of, RacesOnData}

abbrev pub BeforeIsOfSteps : Program → Type 0
BeforeIsOfSteps program = (run : List Choice) (i j : ℕ) → IsGoodRun program run → j < length run → (meaning.Before program run i j ↔ Before (run_of program run) i j)

abbrev pub RacesAreOfSteps : Program → Type 0
RacesAreOfSteps program = (choice : Choice) (earlier : List Choice) → IsGoodRun program earlier
    → (BreaksBy D5_1 program choice earlier ↔ RacesOnData program (choice ∷ earlier) (length earlier))

-- the mutexes that each step takes, and the cells that it reads atomically, but for those whose value no atomic write made
pub record Heard (program : Program) (run : List Choice) : Type 0 where
  pub takes : ℕ → List Cell
  pub reads : ℕ → List Cell
  pub are_taken : (n : ℕ) → Lists (run_of program run n).takes (takes n)
  pub are_read : (n : ℕ) → ListsValues (run_of program run) n (reads n)

abbrev pub EachRunIsHeard : Program → Type 0
EachRunIsHeard program = (run : List Choice) → Heard program run

-- each thread counts its steps; a step is told by its thread and its number there, from 0
abbrev pub ClocksTellBefore : Program → Type 0
ClocksTellBefore program = (run : List Choice) (heard : Heard program run) (i n : ℕ) → IsGoodRun program run → i < n → n < length run
    → (meaning.Before program run i n
    ↔ (steps_of (thread_at (run_of program run)) (run_of program run i).thread i
    < clock_at (run_of program run) heard.takes heard.reads n (run_of program run i).thread))

abbrev pub ClocksTellRaces : Program → Type 0
ClocksTellRaces program = (choice : Choice) (earlier : List Choice) (heard : Heard program (choice ∷ earlier)) → IsGoodRun program earlier
    → (BreaksBy D5_1 program choice earlier
    ↔ ((cell : Cell) × (is_static cell ≡ true) × (is_data_cell program cell ≡ true)
    × HasRival (kept_after (run_of program (choice ∷ earlier)) heard.takes heard.reads (length earlier)) (run_of program (choice ∷ earlier) (length earlier))
    (clock_at (run_of program (choice ∷ earlier)) heard.takes heard.reads (length earlier)) cell))
