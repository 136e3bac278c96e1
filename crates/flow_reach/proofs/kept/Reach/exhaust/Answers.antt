use Rattle.std.proofs.Common.{◌∙◌, refl, sym, subst, List, Contains}
use Rattle.std.proofs.lemmas.List.Elements.{Contains-push}
use Rattle.flow_reach.specs.declared.kept.Mark.{Mark}
use Rattle.flow_reach.specs.Searches.{IsQueued}
use Rattle.flow_reach.proofs.Marks.{closed_on, fine_on}
use Rattle.flow_reach.proofs.kept.Reach.exhaust.Goals as goal

pub expand-requires-clause-arrives : goal.expand-requires-clause-arrives
expand-requires-clause-arrives g c =
    let from = c.in-Some.from in
    let queued : IsQueued c.loop-from.self from.point from.state = subst (λ (xs : List Mark). Contains xs from) (sym c.in-Some.ensures.items) (Contains-push c.pop.new.self.items from) in
    let f = c.loop-from.invariant.fine from.point from.state queued in
    c.loop-from.invariant.sound from.point from.state f.0 f.1 f.2

pub expand-requires-clause-point : goal.expand-requires-clause-point
expand-requires-clause-point g c =
    let from = c.in-Some.from in
    let queued : IsQueued c.loop-from.self from.point from.state = subst (λ (xs : List Mark). Contains xs from) (sym c.in-Some.ensures.items) (Contains-push c.pop.new.self.items from) in
    (c.loop-from.invariant.fine from.point from.state queued).0

pub expand-requires-clause-state : goal.expand-requires-clause-state
expand-requires-clause-state g c =
    let from = c.in-Some.from in
    let queued : IsQueued c.loop-from.self from.point from.state = subst (λ (xs : List Mark). Contains xs from) (sym c.in-Some.ensures.items) (Contains-push c.pop.new.self.items from) in
    (c.loop-from.invariant.fine from.point from.state queued).1

pub loop-from-preserved : goal.loop-from-preserved
loop-from-preserved g c =
    let inv = c.loop-from.invariant in
    let graph = c.args.points.now.graph in
    let track = g.T.Track.transitions c.args.track.now in
    let new = c.in_ok-expand.ensures in
    record {
      suits = record { points = new.grows.points ∙ inv.suits.points; size = new.grows.size ∙ inv.suits.size };
      sound = new.sound;
      closed = closed_on graph track c.loop-from.self _ c.expand.new.self c.in-Some.from refl refl refl c.in-Some.ensures.items new.grows new.done inv.closed;
      fine = fine_on graph track c.loop-from.self _ c.expand.new.self c.in-Some.from refl refl refl c.in-Some.ensures.items new.grows new.done inv.fine;
      kept = λ p s m. new.grows.kept p s (inv.kept p s m);
    }
