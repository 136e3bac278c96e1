use Rattle.std.proofs.Common.{◌≡◌, ◌∙◌, ◌<◌, sym, subst, true}
use Rattle.std.proofs.lemmas.Option.{slice_get_within}
use Rattle.flow_points.specs.PointLists.{points_of}
use Rattle.flow_reach.proofs.Marks.{sound_on, enters}
use Rattle.flow_reach.proofs.kept.Reach.start_step.Goals as goal

pub mark-requires-clause-point : goal.mark-requires-clause-point
mark-requires-clause-point g c = subst (λ n. c.args.entry < n) (sym c.requires.suits.points) (slice_get_within (points_of c.args.points.now.graph) c.args.entry _ c.requires.begins.there)

pub returns-in_ok-mark-clause-sound : goal.returns-in_ok-mark-clause-sound
returns-in_ok-mark-clause-sound g c =
    let track = g.T.Track.transitions c.args.track.now in
    let taken : track.start c.args.thread c.args.state ≡ true = sym c.start.ensures ∙ c.if-start.true in
    sound_on c.args.points.now.graph track c.args.self.now c.mark.new.self c.args.entry c.args.state c.requires.sound c.in_ok-mark.ensures.grows c.in_ok-mark.ensures.only
    (enters c.args.points.now.graph track c.args.thread c.args.entry c.args.state c.requires.begins taken)
