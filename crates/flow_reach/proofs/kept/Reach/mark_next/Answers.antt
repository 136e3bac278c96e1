use Rattle.std.proofs.Common.{◌≡◌, true, refl, below_more}
use Rattle.flow_reach.specs.Searches.{IsMarked}
use Rattle.flow_reach.proofs.Marks.{grows_on}
use Rattle.flow_reach.proofs.kept.Reach.mark_next.Goals as goal

pub loop-after-preserved : goal.loop-after-preserved
loop-after-preserved g c =
    let track = g.T.Track.transitions c.args.track.now in
    let inv = c.loop-after.invariant in
    record {
      grows = grows_on c.args.self.now c.loop-after.self c.mark_step.new.self inv.grows c.in_ok-mark_step.ensures.grows;
      sound = c.in_ok-mark_step.ensures.sound;
      end = refl;
      done = below_more (λ k. track.step c.args.from.point c.args.next c.args.from.state k ≡ true → IsMarked c.mark_step.new.self c.args.next k) c.loop-after.after
          (λ k l s. c.in_ok-mark_step.ensures.grows.kept c.args.next k (inv.done k l s)) c.in_ok-mark_step.ensures.done;
    }
