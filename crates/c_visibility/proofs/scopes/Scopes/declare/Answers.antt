use Rattle.c_visibility.proofs.Levels.{declared_inner, of}
use Rattle.c_visibility.proofs.scopes.Scopes.declare.Goals as goal

pub returns-in_ok-push-in-Some-clause-known : goal.returns-in_ok-push-in-Some-clause-known
returns-in_ok-push-in-Some-clause-known c = λ i.
    declared_inner c.args.self.now.levels.items c.pop.new.self.items c.push.new.self.items c.in-Some.level _
    (of c.args.number c.args.role c.args.is_refused) c.args.identifier i c.in-Some.ensures.items c.in_ok-push-in-Some.ensures.items
    (c.in_ok-known-in-Some.ensures.known i)
