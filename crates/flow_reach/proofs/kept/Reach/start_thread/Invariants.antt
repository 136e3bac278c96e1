use Rattle.std.proofs.Common.{◌≡◌, ℕ, ◌<◌, true}
use Rattle.flow_reach.specs.Searches.{IsMarked, Grows, IsSound}
use Rattle.flow_reach.proofs.kept.Reach.start_thread.Given as goal

abbrev pub invariant-loop-state : goal.invariant-loop-state
invariant-loop-state g l = record {
  grows : Grows l.fn.self l.self;
  sound : IsSound l.points.graph (g.T.Track.transitions l.track) l.self;
  end : l.state-end ≡ l.fn.self.size;
  done : (state : ℕ) → state < l.state → (g.T.Track.transitions l.track).start l.thread state ≡ true → IsMarked l.self l.entry state;
}
