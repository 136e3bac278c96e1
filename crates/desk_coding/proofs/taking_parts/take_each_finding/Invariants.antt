use Rattle.std.proofs.Common.{◌≡◌, ◌-◌}
use Rattle.desk_coding.specs.Codings.{many_front}
use Rattle.desk_coding.specs.Parts.{finding}
use Rattle.desk_coding.proofs.Loops.{with_front}
use Rattle.desk_coding.proofs.taking_parts.take_each_finding.Given as goal

abbrev pub invariant-loop : goal.invariant-loop
invariant-loop l = with_front l.found.items (many_front finding (l.count - l.counter) l.rest) ≡ many_front finding l.count l.bytes
