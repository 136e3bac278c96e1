-- What the initial thread has done with a thread object never makes it dead.
use Rattle.std.proofs.Common.{◌≡◌, refl, subst, Bool, true, false, cond, ◌==◌, ℕ, List, [], ◌∷◌, Option, Some, None}
use Rattle.c_program.specs.declared.program.Program.{Program}
use Rattle.c_program.specs.Values.{Cell}
use Rattle.c_program.specs.State.{Mark, Unmarked, Joined, Detached}
use Rattle.c_program.specs.Faults.{A_thread}
use Rattle.c_program.specs.Effects.{Sync, Makes, Marks}
use Rattle.c_program.specs.Step.{Choice, Outcome, No_step, Undefined, Does}
use Rattle.c_program.specs.Runs.{outcome_of}
use Rattle.c_program.specs.Laws.{accesses_object}
use Rattle.static_facts.specs.ObjectStates.{ObjectState, Is_unmade, Is_live, Is_joined, Is_detached, Is_dead, IsStateOf, Doing, Begins, Joins_it, Detaches_it, if_live, changed_by}
use Rattle.static_facts.specs.Seen.{when, mark_use, use_by, seen_after, seen}

abbrev IsAlive : ObjectState → Type 0
IsAlive state = IsStateOf A_thread state

then_live : (state new : ObjectState) → IsAlive state → IsAlive new → IsAlive (if_live state new)
then_live Is_live new a b = b
then_live Is_unmade new a b = a
then_live Is_joined new a b = a
then_live Is_detached new a b = a
then_live Is_dead new a b = a

begins : (b : Bool) (state : ObjectState) → IsAlive state → IsAlive (changed_by (when b Begins) state)
begins true state a = tt
begins false state a = a

joins : (b : Bool) (state : ObjectState) → IsAlive state → IsAlive (changed_by (when b Joins_it) state)
joins true state a = then_live state Is_joined a tt
joins false state a = a

detaches : (b : Bool) (state : ObjectState) → IsAlive state → IsAlive (changed_by (when b Detaches_it) state)
detaches true state a = then_live state Is_detached a tt
detaches false state a = a

marked : (mark : Mark) (b : Bool) (state : ObjectState) → IsAlive state → IsAlive (changed_by (mark_use mark b) state)
marked Joined b state a = joins b state a
marked Detached b state a = detaches b state a
marked Unmarked b state a = a

used : (sync : Sync) (b : Bool) (state : ObjectState) → IsAlive state → IsAlive (changed_by (use_by sync A_thread b) state)
used (Makes object f) b state a = begins b state a
used (Marks thread mark) b state a = marked mark b state a
used _ b state a = a

behind : (o : Outcome) (thread : ℕ) (cell : Cell) (state : ObjectState) → IsAlive state → IsAlive (seen_after o thread A_thread cell state)
behind No_step thread cell state a = a
behind Undefined thread cell state a = a
behind (Does move effect) thread cell state a = by_main (thread == 0)
  where
    by_main : (b : Bool) → IsAlive (cond b (changed_by (use_by effect.sync A_thread (accesses_object effect cell)) state) state)
    by_main true = used effect.sync (accesses_object effect cell) state a
    by_main false = a

pub seen_alive : (program : Program) (cell : Cell) (run : List Choice) → IsStateOf A_thread (seen program A_thread cell run)
unfolding seen
seen_alive program cell [] = tt
seen_alive program cell (choice ∷ run) = behind (outcome_of program choice run) choice.thread cell (seen program A_thread cell run) (seen_alive program cell run)
