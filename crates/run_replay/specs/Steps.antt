-- What is told of a step: its thread, the place of its action, and the function that the thread runs.
use Rattle.std.specs.Prelude.{ℕ, List, [], ◌∷◌, Option, Some, None, option_map, option_and_then, slice_get}
use Rattle.misra_base.specs.declared.place.Place.{Place}
use Rattle.c_program.specs.declared.action.Act.{Act}
use Rattle.c_program.specs.declared.action.Act.TheVariants.{Library, Call}
use Rattle.c_program.specs.declared.action.LibraryCall.TheVariants.{ThreadCreate}
use Rattle.c_program.specs.declared.program.Program.{Program}
use Rattle.c_program.specs.Syntax.{act_at, function_at}
use Rattle.c_program.specs.Control.{Spot, move_at}
use Rattle.c_program.specs.State.{State, control_of, string_at}
use Rattle.c_program.specs.Step.{Choice}

-- the function that an action enters, in its own thread or in one that it makes
abbrev pub entered_by : Act → Option ℕ
entered_by (Call function arguments result) = Some function
entered_by (Library (ThreadCreate object function argument) result) = Some function
entered_by _ = None

-- the function behind the last call or creation of a call string
abbrev pub running_in : Program → List Spot → Option ℕ
running_in program [] = Some program.main
running_in program (spot ∷ string) = entered_by (act_at program spot.action)

-- the name of the function that a thread runs
abbrev pub running : Program → State → ℕ → Option (List ℕ)
running program state thread =
    option_and_then (λ function. option_map (λ f. f.name) (function_at program function)) (running_in program (string_at (state.thread thread)))

-- the place of the action that a choice takes
abbrev pub place_of : Program → State → Choice → Option Place
place_of program state choice = option_and_then (λ move. option_map (λ action. action.place) (slice_get program.actions move.action))
    (move_at (control_of (state.thread choice.thread).stand) choice.pair)
