use Rattle.std.proofs.Common.{◌≡◌, ℕ, ◌<◌, ◌↔◌, true, false, get_or, vec_len}
use Rattle.vector_clocks.specs.Happens.{RacesAt}
use Rattle.vector_clocks.specs.Events.{run_of}
use Rattle.vector_clocks.specs.Held.{HasFollowed}
use Rattle.vector_clocks.proofs.whole.races.Given as goal

abbrev pub invariant-loop-event : goal.invariant-loop-event
invariant-loop-event l = record {
  follows : HasFollowed (run_of l.events) l.event-index l.detector;
  len : vec_len l.races ≡ l.event-index;
  exact : (n : ℕ) → n < l.event-index → (get_or l.races.items n false ≡ true) ↔ ((cell : ℕ) × RacesAt (run_of l.events) n cell);
}
