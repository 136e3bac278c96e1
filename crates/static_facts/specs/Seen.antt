-- What the initial thread has done with a library object in a run.
use Rattle.std.specs.Prelude.{Bool, true, false, ℕ, ◌==◌, if◌then◌else◌, List, [], ◌∷◌, Option, Some, None}
use Rattle.c_program.specs.declared.program.Program.{Program}
use Rattle.c_program.specs.Values.{Cell}
use Rattle.c_program.specs.State.{Mark, Unmarked, Joined, Detached}
use Rattle.c_program.specs.Faults.{Sort, A_mutex, A_condition, A_key, A_thread}
use Rattle.c_program.specs.Effects.{Sync, Makes, Marks, Starts, Kills, Starts_condition, Kills_condition, Starts_key, Kills_key, Effect}
use Rattle.c_program.specs.Step.{Choice, Outcome, Does}
use Rattle.c_program.specs.Runs.{outcome_of}
use Rattle.c_program.specs.Laws.{accesses_object}
use Rattle.static_facts.specs.ObjectStates.{ObjectState, Is_unmade, Doing, Begins, Joins_it, Detaches_it, Ends_it, changed_by}

abbrev pub when : Bool → Doing → Option Doing
when true doing = Some doing
when false doing = None

abbrev pub mark_use : Mark → Bool → Option Doing
mark_use Joined accessed = when accessed Joins_it
mark_use Detached accessed = when accessed Detaches_it
mark_use Unmarked accessed = None

-- what a step does with objects of a sort, and whether it accesses this one
abbrev pub use_by : Sync → Sort → Bool → Option Doing
use_by (Makes object function) A_thread accessed = when accessed Begins
use_by (Marks thread mark) A_thread accessed = mark_use mark accessed
use_by (Starts mutex kind) A_mutex accessed = when accessed Begins
use_by (Kills mutex) A_mutex accessed = when accessed Ends_it
use_by (Starts_condition condition) A_condition accessed = when accessed Begins
use_by (Kills_condition condition) A_condition accessed = when accessed Ends_it
use_by (Starts_key key) A_key accessed = when accessed Begins
use_by (Kills_key key) A_key accessed = when accessed Ends_it
use_by sync sort accessed = None

abbrev pub use_with : Effect → Sort → Cell → Option Doing
use_with effect sort cell = use_by effect.sync sort (accesses_object effect cell)

abbrev pub seen_after : Outcome → ℕ → Sort → Cell → ObjectState → ObjectState
seen_after (Does move effect) thread sort cell state = if thread == 0 then changed_by (use_with effect sort cell) state else state
seen_after _ thread sort cell state = state

-- the state to which the steps of the initial thread have brought the object
unfoldable pub seen : Program → Sort → Cell → List Choice → ObjectState
seen program sort cell [] = Is_unmade
seen program sort cell (choice ∷ run) = seen_after (outcome_of program choice run) choice.thread sort cell (seen program sort cell run)
