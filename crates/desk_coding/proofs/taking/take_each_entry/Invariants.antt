use Rattle.std.proofs.Common.{◌≡◌, ◌-◌}
use Rattle.desk_coding.specs.Codings.{many_front}
use Rattle.desk_coding.specs.Parts.{entry}
use Rattle.desk_coding.proofs.Loops.{with_front}
use Rattle.desk_coding.proofs.taking.take_each_entry.Given as goal

abbrev pub invariant-loop : goal.invariant-loop
invariant-loop l = with_front l.entries.items (many_front entry (l.count - l.counter) l.rest) ≡ many_front entry l.count l.bytes
