-- The plain case: each thread has a lane of its own. Then a step is named by its thread and its number in it, and what is kept is a function of the run.
use Rattle.std.specs.Prelude.{ℕ, zero, suc, List}
use Rattle.vector_clocks.specs.Steps.{Run}
use Rattle.vector_clocks.specs.Clocks.{Counts, ticked}
use Rattle.vector_clocks.specs.Kept.{Kept, opening, known, moved}

abbrev pub thread_at : {Cell : Type 0} → Run Cell → ℕ → ℕ
thread_at run i = (run i).thread

-- after the first n steps, where the step at i takes and reads atomically these
abbrev pub kept_after : {Cell : Type 0} → Run Cell → (ℕ → List Cell) → (ℕ → List Cell) → ℕ → Kept Cell
kept_after run takes reads zero = opening
kept_after run takes reads (suc n) = moved (kept_after run takes reads n) (run n) (run n).thread
    (ticked (run n).thread (known (kept_after run takes reads n) (run n) (takes n) (reads n)))

-- what the step at n knows of the earlier ones
abbrev pub clock_at : {Cell : Type 0} → Run Cell → (ℕ → List Cell) → (ℕ → List Cell) → ℕ → Counts
clock_at run takes reads n = known (kept_after run takes reads n) (run n) (takes n) (reads n)
