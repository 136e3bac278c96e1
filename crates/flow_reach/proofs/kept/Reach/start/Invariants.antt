use Rattle.std.proofs.Common.{◌≡◌, ℕ, ◌<◌, true}
use Rattle.flow_points.specs.Threads.{count_of_threads}
use Rattle.flow_reach.specs.Paths.{Begins}
use Rattle.flow_reach.specs.Searches.{IsMarked, Grows, IsSound}
use Rattle.flow_reach.proofs.kept.Reach.start.Given as goal

abbrev pub invariant-loop-thread : goal.invariant-loop-thread
invariant-loop-thread g l = record {
  grows : Grows l.fn.self l.self;
  sound : IsSound l.points.graph (g.T.Track.transitions l.track) l.self;
  end : l.thread-end ≡ count_of_threads l.points.graph;
  done : (thread : ℕ) → thread < l.thread → (entry state : ℕ) → Begins l.points.graph thread entry → (g.T.Track.transitions l.track).start thread state ≡ true → IsMarked l.self entry state;
}
