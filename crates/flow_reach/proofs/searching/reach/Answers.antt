use Rattle.std.proofs.Common.{ℕ, ◌<◌, sym, subst}
use Rattle.flow_reach.proofs.Marks.{arrived, fine_start}
use Rattle.flow_reach.proofs.searching.reach.Goals as goal

pub exhaust-requires-clause-fine : goal.exhaust-requires-clause-fine
exhaust-requires-clause-fine g c = fine_start c.in_ok-search.search c.start.new.self c.in_ok-search.ensures.work c.in_ok-start.ensures.grows

pub returns-clause-exact : goal.returns-clause-exact
returns-clause-exact g c point state p s =
    let graph = c.args.points.now.graph in
    let track = g.T.Track.transitions c.args.track.now in
    let laws = g.met.T.Track in
    let out = c.in_ok-exhaust.ensures in
    let in_size = λ (n : ℕ) (l : n < g.T.Track.states c.args.track.now). subst (λ m. n < m) (sym out.suits.size) l in (
      λ m. out.sound point state (subst (λ n. point < n) (sym out.suits.points) p) (in_size state s) m,
      λ a. (arrived graph track c.exhaust.new.self out.suits.points
          (λ thread x h. in_size x (laws.start_within c.args.track.now thread x h)) (λ q n x y i h. in_size y (laws.step_within c.args.track.now q n x y (subst (λ m. x < m) out.suits.size i) h))
          (λ thread entry x b h. out.kept entry x (c.in_ok-start.ensures.done thread entry x b h)) out.done a.0 point state a.1.0 a.1.1).2,
    )
