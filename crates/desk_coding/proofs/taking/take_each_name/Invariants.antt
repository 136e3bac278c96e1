use Rattle.std.proofs.Common.{◌≡◌, ◌-◌}
use Rattle.desk_coding.specs.Codings.{many_front, text}
use Rattle.desk_coding.proofs.Loops.{with_front}
use Rattle.desk_coding.proofs.taking.take_each_name.Given as goal

abbrev pub invariant-loop : goal.invariant-loop
invariant-loop l = with_front l.names.items (many_front text (l.count - l.counter) l.rest) ≡ many_front text l.count l.bytes
