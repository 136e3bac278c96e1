use Rattle.std.proofs.Common.{◌≡◌, true, ℕ, subst, below_more}
use Rattle.flow_points.specs.Threads.{entry_point}
use Rattle.flow_reach.specs.Paths.{Begins}
use Rattle.flow_reach.specs.Searches.{IsMarked}
use Rattle.flow_reach.proofs.Marks.{grows_on}
use Rattle.flow_reach.proofs.kept.Reach.start.Goals as goal

pub loop-thread-preserved : goal.loop-thread-preserved
loop-thread-preserved g c =
    let track = g.T.Track.transitions c.args.track.now in
    let graph = c.args.points.now.graph in
    let inv = c.loop-thread.invariant in
    record {
      grows = grows_on c.args.self.now c.loop-thread.self c.start_thread.new.self inv.grows c.in_ok-start_thread.ensures.grows;
      sound = c.in_ok-start_thread.ensures.sound;
      end = inv.end;
      done = below_more (λ k. (entry state : ℕ) → Begins graph k entry → track.start k state ≡ true → IsMarked c.start_thread.new.self entry state) c.loop-thread.thread
          (λ k l entry state b s. c.in_ok-start_thread.ensures.grows.kept entry state (inv.done k l entry state b s))
          (λ entry state b s. subst (λ n. IsMarked c.start_thread.new.self n state)
          (c.numbered.ensures.one (entry_point graph c.loop-thread.thread) c.entry.result entry c.entry.ensures b.there)
          (c.in_ok-start_thread.ensures.done state s));
    }
