-- The clock of a step tells exactly which earlier steps happen before it, each named by its thread and its number there.
use Rattle.std.proofs.Common.{ℕ, zero, suc, ◌<◌, ◌↔◌, List}
use Rattle.vector_clocks.specs.Steps.{Run}
use Rattle.vector_clocks.specs.Happens.{Before, directly, in_thread, RacesAt}
use Rattle.vector_clocks.specs.Clocks.{KeepsItsLane, steps_of}
use Rattle.vector_clocks.specs.Kept.{Lists, ListsValues, Follows, HasRival}
use Rattle.vector_clocks.specs.Threads.{thread_at, kept_after, clock_at}
use Rattle.vector_clocks.proofs.Following.{follows_on}
use Rattle.vector_clocks.proofs.Knowing.{follows_nothing, knows}
use Rattle.vector_clocks.proofs.Racing.{races}

module _ {Cell : Type 0} (run : Run Cell) (takes reads : ℕ → List Cell)
    (taken : (n : ℕ) → Lists (run n).takes (takes n)) (read : (n : ℕ) → ListsValues run n (reads n)) where
  by_threads : (n : ℕ) → KeepsItsLane run (thread_at run) n
  by_threads n i l e = directly i n l (in_thread i n e)

  follows : (n : ℕ) → Follows run (thread_at run) n (kept_after run takes reads n)
  follows zero = follows_nothing run (thread_at run)
  follows (suc n) = let f = follows n in
      follows_on run (thread_at run) n (kept_after run takes reads n) _ (by_threads n) f (knows run (thread_at run) n (kept_after run takes reads n) (takes n) (reads n) (taken n) (read n) f)

  pub before_by_clock : (i n : ℕ) → i < n → Before run i n ↔ (steps_of (thread_at run) (run i).thread i < clock_at run takes reads n (run i).thread)
  before_by_clock i n l = (knows run (thread_at run) n (kept_after run takes reads n) (takes n) (reads n) (taken n) (read n) (follows n)).exact i l

  pub races_by_clock : (n : ℕ) (cell : Cell) → RacesAt run n cell ↔ HasRival (kept_after run takes reads n) (run n) (clock_at run takes reads n) cell
  races_by_clock n cell = races run (thread_at run) n (clock_at run takes reads n)
      (knows run (thread_at run) n (kept_after run takes reads n) (takes n) (reads n) (taken n) (read n) (follows n)) (kept_after run takes reads n) cell (follows n)
