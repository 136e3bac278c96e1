use Rattle.std.proofs.Common.{◌≡◌, ◌∙◌, ℕ, ◌<◌, true, sym, subst, below_more, length, arith}
use Rattle.std.proofs.lemmas.Option.{slice_get_within}
use Rattle.flow_points.specs.PointLists.{point_at, next_points}
use Rattle.flow_reach.specs.Paths.{LeadsBy}
use Rattle.flow_reach.specs.Searches.{IsMarked}
use Rattle.flow_reach.proofs.Marks.{grows_on}
use Rattle.flow_reach.proofs.kept.Reach.expand.Goals as goal

pub loop-k-preserved : goal.loop-k-preserved
loop-k-preserved g c =
    let graph = c.args.points.now.graph in
    let track = g.T.Track.transitions c.args.track.now in
    let from = c.args.from in
    let inv = c.loop-k.invariant in
    record {
      end = inv.end;
      grows = grows_on c.args.self.now c.loop-k.self c.mark_next.new.self inv.grows c.in_ok-mark_next.ensures.grows;
      sound = c.in_ok-mark_next.ensures.sound;
      done = below_more
          (λ k. (next after : ℕ) → LeadsBy graph from.point k next → track.step from.point next from.state after ≡ true → IsMarked c.mark_next.new.self next after)
          c.loop-k.k
          (λ k l next after b s. c.in_ok-mark_next.ensures.grows.kept next after (inv.done k l next after b s))
          (λ next after b s.
          let same : next ≡ c.next_at.result = c.numbered.ensures.one b.goal next c.next_at.result b.there (c.next_at.ensures ∙ b.move) in
          subst (λ n. IsMarked c.mark_next.new.self n after) (sym same)
          (c.in_ok-mark_next.ensures.done after (subst (λ n. track.step from.point n from.state after ≡ true) same s)));
    }

pub returns-clause-done : goal.returns-clause-done
returns-clause-done g c next after l s =
    let within : l.0 < length (next_points c.args.points.now.graph (point_at c.args.points.now.graph c.args.from.point)) = slice_get_within _ l.0 l.1.goal l.1.move in
    c.loop-k.invariant.done l.0 (omega (arith, within, c.loop-k.invariant.end, c.loop-k-test.false, c.loop-k.auto.k-end)) next after l.1 s
