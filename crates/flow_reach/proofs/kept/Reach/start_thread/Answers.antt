use Rattle.std.proofs.Common.{◌≡◌, true, refl, below_more}
use Rattle.flow_reach.specs.Searches.{IsMarked}
use Rattle.flow_reach.proofs.Marks.{grows_on}
use Rattle.flow_reach.proofs.kept.Reach.start_thread.Goals as goal

pub loop-state-preserved : goal.loop-state-preserved
loop-state-preserved g c =
    let track = g.T.Track.transitions c.args.track.now in
    let inv = c.loop-state.invariant in
    record {
      grows = grows_on c.args.self.now c.loop-state.self c.start_step.new.self inv.grows c.in_ok-start_step.ensures.grows;
      sound = c.in_ok-start_step.ensures.sound;
      end = refl;
      done = below_more (λ k. track.start c.args.thread k ≡ true → IsMarked c.start_step.new.self c.args.entry k) c.loop-state.state
          (λ k l s. c.in_ok-start_step.ensures.grows.kept c.args.entry k (inv.done k l s)) c.in_ok-start_step.ensures.done;
    }
