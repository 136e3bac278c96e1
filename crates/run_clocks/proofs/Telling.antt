-- The laws: happens before and races of a program's runs, by clocks.
use Rattle.std.proofs.Common.{◌∷◌, length}
use Rattle.c_program.specs.declared.program.Program.{Program}
use Rattle.c_program.specs.Values.{Cell}
use Rattle.vector_clocks.proofs.Threads.{before_by_clock, races_by_clock}
use Rattle.run_clocks.specs.Moments.{run_of}
use Rattle.run_clocks.specs.Laws.{BeforeIsOfSteps, RacesAreOfSteps, ClocksTellBefore, ClocksTellRaces}
use Rattle.run_clocks.proofs.Moments.{before_steps, before_moments}
use Rattle.run_clocks.proofs.Breaking.{breaks_races, moments}

pub before_is_of_steps : (program : Program) → BeforeIsOfSteps program
before_is_of_steps program run i j good below = (before_steps program run, before_moments program run (length run) (moments program run good) below)

pub races_are_of_steps : (program : Program) → RacesAreOfSteps program
races_are_of_steps program choice earlier good = breaks_races program choice earlier good

pub clocks_tell_before : (program : Program) → ClocksTellBefore program
clocks_tell_before program run heard i n good earlier below =
    let steps = before_is_of_steps program run i n good below in
    let clocks = before_by_clock (run_of program run) heard.takes heard.reads heard.are_taken heard.are_read i n earlier in
    (λ before. clocks.0 (steps.0 before), λ told. steps.1 (clocks.1 told))

pub clocks_tell_races : (program : Program) → ClocksTellRaces program
clocks_tell_races program choice earlier heard good =
    let steps = races_are_of_steps program choice earlier good in
    let run = run_of program (choice ∷ earlier) in
    let clocks : (cell : Cell) → _ = λ cell. races_by_clock run heard.takes heard.reads heard.are_taken heard.are_read (length earlier) cell in (
      λ breaks. (let race = steps.0 breaks in (race.0, race.1, race.2, (clocks race.0).0 race.3)),
      λ rival. steps.1 (rival.0, rival.1, rival.2, (clocks rival.0).1 rival.3),
    )
