use Rattle.call_order.specs.Marks.{IsMore}
use Rattle.call_order.proofs.Marking.{IsWithFirst}
use Rattle.call_order.proofs.needed.mark_all.Given as goal

abbrev pub invariant-loop-function : goal.invariant-loop-function
invariant-loop-function l = record {
  more : IsMore l.fn.marks.items l.marks.items l.grew;
  with : IsWithFirst l.fn.marks.items l.marks.items l.functions l.function-index;
}
