use Rattle.std.proofs.Common.{◌≡◌, ◌≤◌, ◌++◌, take, drop, reverse}
use Rattle.c_visibility.specs.Seen.{seen_behind, seen_of}
use Rattle.c_visibility.specs.Knowledge.{Follows}
use Rattle.c_visibility.proofs.seen.seen_of.Given as goal

abbrev pub invariant-loop-event : goal.invariant-loop-event
invariant-loop-event l = record {
  known : Follows l.walk (reverse (take l.event-index l.events));
  all : l.all.items ++ seen_behind (reverse (take l.event-index l.events)) (drop l.event-index l.events) ≡ seen_of l.events;
  number : l.walk.number ≤ l.event-index;
  opened : l.walk.nesting.opened ≤ l.event-index;
}
