use Rattle.std.proofs.Common.{◌≡◌, ℕ, ◌<◌, true, length}
use Rattle.flow_points.specs.PointLists.{point_at, next_points}
use Rattle.flow_reach.specs.Paths.{LeadsBy}
use Rattle.flow_reach.specs.Searches.{IsMarked, Grows, IsSound}
use Rattle.flow_reach.proofs.kept.Reach.expand.Given as goal

abbrev pub invariant-loop-k : goal.invariant-loop-k
invariant-loop-k g l = record {
  end : l.k-end ≡ length (next_points l.points.graph (point_at l.points.graph l.from.point));
  grows : Grows l.fn.self l.self;
  sound : IsSound l.points.graph (g.T.Track.transitions l.track) l.self;
  done : (k : ℕ) → k < l.k → (next after : ℕ) → LeadsBy l.points.graph l.from.point k next → (g.T.Track.transitions l.track).step l.from.point next l.from.state after ≡ true
      → IsMarked l.self next after;
}
