use Rattle.std.proofs.Common.{◌<◌, length, take, reverse, sym, subst, arith}
use Rattle.c_visibility.specs.Knowledge.{Follows}
use Rattle.c_visibility.proofs.Walking.{goes_on, walked}
use Rattle.c_visibility.proofs.seen.seen_of.Goals as goal

pub loop-event-preserved : goal.loop-event-preserved
loop-event-preserved c =
    let xs = c.args.events.now in
    let i = c.loop-event.event-index in
    let lt : i < length xs = omega arith in
    record {
      known = subst (λ before. Follows c.pass.new.self before) (sym (goes_on xs i _ lt)) (c.in_ok-seen.ensures.known (reverse (take i xs)) c.loop-event.invariant.known);
      all = walked xs i _ c.loop-event.all.items c.push.new.self.items c.in_ok-seen.seen _ lt c.in_ok-push.ensures.items
          (c.in_ok-seen.ensures.seen (reverse (take i xs)) c.loop-event.invariant.known) c.loop-event.invariant.all;
      number = omega (arith, c.in_ok-seen.ensures.few);
      opened = omega (arith, c.in_ok-seen.ensures.few_scopes);
    }
