use Rattle.std.proofs.Common.{◌≡◌, ℕ, ◌≤◌, ◌<◌, max, vec_len}
use Rattle.vector_clocks.specs.Held.{counts_of}
use Rattle.vector_clocks.proofs.clock.Clock.join.Given as goal

abbrev pub invariant-loop-lane : goal.invariant-loop-lane
invariant-loop-lane l = record {
  room : vec_len l.other.counts ≤ vec_len l.self.counts;
  done : (k : ℕ) → k < l.lane → counts_of l.self k ≡ max (counts_of l.fn.self k) (counts_of l.other k);
  ahead : (k : ℕ) → l.lane ≤ k → counts_of l.self k ≡ counts_of l.fn.self k;
}
