use Rattle.std.proofs.Common.{◌≡◌, ◌++◌, [], drop, reverse}
use Rattle.c_visibility.specs.Spelling.{texts}
use Rattle.c_visibility.specs.Typedefs.{spelled_behind}
use Rattle.c_visibility.specs.Recalls.{Recalls}
use Rattle.c_visibility.proofs.text.spelled_text.Given as goal

abbrev pub invariant-loop-event : goal.invariant-loop-event
invariant-loop-event l = record {
  recalls : Recalls l.typedefs (reverse l.spelled.items);
  spelled : l.spelled.items ++ spelled_behind (texts l.names) (reverse l.spelled.items) (drop l.event-index l.events) ≡ spelled_behind (texts l.names) [] l.events;
}
