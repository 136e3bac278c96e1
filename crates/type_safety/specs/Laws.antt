-- In a run of a program as a text gives it, each undefined step is one of the closed list.
use Rattle.std.specs.Prelude.{◌≡◌, true, List, Option, Some, None}
use Rattle.std.specs.List.{Contains}
use Rattle.misra_base.specs.declared.guideline.Guideline.{Guideline}
use Rattle.c_program.specs.declared.program.Program.{Program}
use Rattle.c_program.specs.Syntax.{act_at}
use Rattle.c_program.specs.Values.{Cell}
use Rattle.c_program.specs.Control.{Control, Move, move_at}
use Rattle.c_program.specs.State.{State, Running, Frame, here}
use Rattle.c_program.specs.Requests.{Request, Ask, Asks}
use Rattle.c_program.specs.Faults.{is_broken, has_no_thread, ending_guidelines}
use Rattle.c_program.specs.Effects.{lacks_result}
use Rattle.c_program.specs.Step.{Choice, Undefined, asked_by}
use Rattle.c_program.specs.Runs.{IsGoodRun, state_after, outcome_of}
use Rattle.c_program.specs.Breaks.{request_by}
use Rattle.c_program.specs.WellFormed.{IsWellFormed}
use Rattle.type_safety.specs.Fitting.{MemoryFits}
use Rattle.type_safety.specs.ActionCauses.{ActFails}

pub data IsListed (program : Program) (state : State) (choice : Choice) : Type 0 where
  -- a part of the action meets an undefined step
  in_a_part : (control : Control) (frames : List Frame) (move : Move) → (state.thread choice.thread).stand ≡ Running control frames None → move_at control choice.pair ≡ Some move
      → ActFails (here program state choice.thread) (act_at program move.action) → IsListed program state choice
  -- the step breaks a rule
  by_a_break : (request : Request) (guideline : Guideline) → request_by program state choice ≡ Some request → Contains ending_guidelines guideline
      → is_broken program state choice.thread request guideline ≡ true → IsListed program state choice
  -- a thread object that holds no thread is joined or detached, or one whose thread has no result, which the join writes
  without_a_thread : (request : Request) → request_by program state choice ≡ Some request → has_no_thread state request ≡ true → IsListed program state choice
  -- a function ends without its result, which is used
  without_a_result : (control : Control) (frames : List Frame) (inside : Option Cell) (move : Move) (ask : Ask) → (state.thread choice.thread).stand ≡ Running control frames inside
      → move_at control choice.pair ≡ Some move → asked_by program state choice move inside ≡ Asks ask → lacks_result frames ask.turn ≡ true → IsListed program state choice

abbrev pub EachUndefinedStepIsListed : Program → Type 0
EachUndefinedStepIsListed program = IsWellFormed program → (run : List Choice) → IsGoodRun program run → (choice : Choice)
    → outcome_of program choice run ≡ Undefined → IsListed program (state_after program run) choice

-- in each run cells of integer type hold numbers, and those of pointer type addresses or null
abbrev pub MemoryIsTyped : Program → Type 0
MemoryIsTyped program = IsWellFormed program → (run : List Choice) → IsGoodRun program run → MemoryFits program (state_after program run).memory
