use Rattle.std.proofs.Common.{◌≡◌, drop}
use Rattle.c_visibility.specs.Spelling.{texts, texts_from, texts_of}
use Rattle.c_visibility.proofs.spelling.texts_of.Given as goal

abbrev pub invariant-loop-event : goal.invariant-loop-event
invariant-loop-event l = texts_from (texts l.names) (drop l.event-index l.events) ≡ texts_of l.events
