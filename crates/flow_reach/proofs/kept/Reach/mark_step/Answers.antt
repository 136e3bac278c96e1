use Rattle.std.proofs.Common.{◌≡◌, true, sym, ◌∙◌}
use Rattle.flow_reach.proofs.Marks.{sound_on, arrives_on}
use Rattle.flow_reach.proofs.kept.Reach.mark_step.Goals as goal

pub returns-in_ok-mark-clause-sound : goal.returns-in_ok-mark-clause-sound
returns-in_ok-mark-clause-sound g c =
    let track = g.T.Track.transitions c.args.track.now in
    let taken : track.step c.args.from.point c.args.next c.args.from.state c.args.after ≡ true = sym c.step.ensures ∙ c.if-step.true in
    sound_on c.args.points.now.graph track c.args.self.now c.mark.new.self c.args.next c.args.after c.requires.sound c.in_ok-mark.ensures.grows c.in_ok-mark.ensures.only
    (arrives_on c.args.points.now.graph track c.args.from.point c.args.from.state c.args.next c.args.after c.requires.arrives c.requires.leads taken)
