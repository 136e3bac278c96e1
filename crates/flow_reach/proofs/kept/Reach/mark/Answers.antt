use Rattle.std.proofs.Common.{refl, arith, ◌≡◌, ◌+◌, ◌*◌, ◌<◌, length, get_or, false, rules}
use Rattle.std.proofs.lemmas.Nat.{mul-add-lt}
use Rattle.flow_reach.proofs.Marks.{grown, only_here}
use Rattle.flow_reach.proofs.kept.Reach.mark.Goals as goal

pub returns-in_ok-push-clause-grows : goal.returns-in_ok-push-clause-grows
returns-in_ok-push-clause-grows c =
    let s = c.args.self.now in
    let within : c.args.point * s.size + c.args.state < length s.marks.items =
    omega (arith, mul-add-lt c.args.point s.size c.args.state s.points c.requires.point c.requires.state, s.marks.ok.0, s.covers) in
    let was : get_or s.marks.items (c.args.point * s.size + c.args.state) false ≡ false = search rules in
    grown s _ c.args.point c.args.state refl refl c.requires.point c.requires.state within refl was c.in_ok-push.ensures.items c.in_ok-push.ensures.len

pub returns-in_ok-push-clause-only : goal.returns-in_ok-push-clause-only
returns-in_ok-push-clause-only c = λ p s a b. only_here c.args.self.now.marks.items c.args.self.now.size c.args.point c.args.state p s c.requires.state b
