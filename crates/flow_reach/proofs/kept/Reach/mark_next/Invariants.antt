use Rattle.std.proofs.Common.{◌≡◌, ℕ, ◌<◌, true}
use Rattle.flow_reach.specs.Searches.{IsMarked, Grows, IsSound}
use Rattle.flow_reach.proofs.kept.Reach.mark_next.Given as goal

abbrev pub invariant-loop-after : goal.invariant-loop-after
invariant-loop-after g l = record {
  grows : Grows l.fn.self l.self;
  sound : IsSound l.points.graph (g.T.Track.transitions l.track) l.self;
  end : l.after-end ≡ l.fn.self.size;
  done : (after : ℕ) → after < l.after → (g.T.Track.transitions l.track).step l.from.point l.next l.from.state after ≡ true → IsMarked l.self l.next after;
}
