-- What a step of a program does, as clocks follow it.
use Rattle.std.specs.Prelude.{◌≡◌, ℕ, ◌<◌, true, false, not, ◌&&◌, List, Option, Some, None}
use Rattle.c_program.specs.declared.program.Program.{Program}
use Rattle.c_program.specs.Values.{Cell, is_static, is_data_cell}
use Rattle.c_program.specs.Step.{Choice}
use Rattle.c_program.specs.Runs.{Moment, moment_at}
use Rattle.c_program.specs.Happens.{reads, writes, reads_atomically, writes_atomically, releases, takes, made_thread, joined_thread, state_at}
use Rattle.vector_clocks.specs.Steps.{Step, Run}
use Rattle.vector_clocks.specs.Happens.{RacesAt}

abbrev pub step_of : Program → Moment → Step Cell
step_of program moment = record {
  thread = moment.choice.thread;
  makes = made_thread moment.effect.sync (state_at program moment).made;
  joins = joined_thread moment.effect.sync;
  releases = λ m. releases moment.effect.sync moment.choice.thread ((state_at program moment).mutex m) m;
  takes = takes moment.effect.sync;
  reads_plainly = λ cell. reads moment.effect cell && not (reads_atomically moment.effect cell);
  writes_plainly = λ cell. writes moment.effect cell && not (writes_atomically moment.effect cell);
  reads_atomically = reads_atomically moment.effect;
  writes_atomically = writes_atomically moment.effect;
}

abbrev pub idle : Step Cell
idle = record {
  thread = 0;
  makes = None;
  joins = None;
  releases = λ m. false;
  takes = λ m. false;
  reads_plainly = λ cell. false;
  writes_plainly = λ cell. false;
  reads_atomically = λ cell. false;
  writes_atomically = λ cell. false;
}

abbrev pub step_at : Program → Option Moment → Step Cell
step_at program None = idle
step_at program (Some moment) = step_of program moment

abbrev pub run_of : Program → List Choice → Run Cell
run_of program choices n = step_at program (moment_at program choices n)

-- the first n steps have a meaning
abbrev pub HasMoments : Program → List Choice → ℕ → Type 0
HasMoments program choices n = (i : ℕ) → i < n → (moment : Moment) × (moment_at program choices i ≡ Some moment)

-- the step at n races on a cell of a static data object
abbrev pub RacesOnData : Program → List Choice → ℕ → Type 0
RacesOnData program choices n = (cell : Cell) × (is_static cell ≡ true) × (is_data_cell program cell ≡ true) × RacesAt (run_of program choices) n cell
