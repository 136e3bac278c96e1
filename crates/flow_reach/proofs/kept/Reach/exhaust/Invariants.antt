use Rattle.std.proofs.Common.{ℕ}
use Rattle.flow_reach.specs.Searches.{IsMarked, IsSound, IsClosed, IsFine, Suits, effort}
use Rattle.flow_reach.proofs.kept.Reach.exhaust.Given as goal

abbrev pub invariant-loop-from : goal.invariant-loop-from
invariant-loop-from g l = record {
  suits : Suits l.points.graph (g.T.Track.states l.track) l.self;
  sound : IsSound l.points.graph (g.T.Track.transitions l.track) l.self;
  closed : IsClosed l.points.graph (g.T.Track.transitions l.track) l.self;
  fine : IsFine l.self;
  kept : (point state : ℕ) → IsMarked l.fn.self point state → IsMarked l.self point state;
}

abbrev pub decreases-loop-from : goal.decreases-loop-from
decreases-loop-from g l = effort l.self
