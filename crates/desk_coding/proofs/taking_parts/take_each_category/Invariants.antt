use Rattle.std.proofs.Common.{◌≡◌, ◌-◌, length, take}
use Rattle.desk_coding.specs.Codings.{many_front}
use Rattle.desk_coding.specs.Parts.{category}
use Rattle.desk_coding.proofs.Loops.{with_front}
use Rattle.desk_coding.proofs.taking_parts.take_each_category.Given as goal

abbrev pub invariant-loop-i : goal.invariant-loop-i
invariant-loop-i l = record {
  size : length l.categories ≡ 19;
  read : with_front (take l.i l.categories) (many_front category (19 - l.i) l.rest) ≡ many_front category 19 l.bytes;
}
