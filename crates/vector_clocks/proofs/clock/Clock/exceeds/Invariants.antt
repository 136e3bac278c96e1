use Rattle.std.proofs.Common.{ℕ, ◌≤◌, ◌<◌}
use Rattle.vector_clocks.specs.Held.{counts_of}
use Rattle.vector_clocks.proofs.clock.Clock.exceeds.Given as goal

abbrev pub invariant-loop-lane : goal.invariant-loop-lane
invariant-loop-lane l = (k : ℕ) → k < l.lane → counts_of l.self k ≤ counts_of l.other k
