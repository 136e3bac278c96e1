use Rattle.std.proofs.Common.{◌+◌, ◌-◌, ◌*◌, ◌≤◌, length, reverse}
use Rattle.ll_core.specs.Postorder.{GoesOn}
use Rattle.ll_core.proofs.reductions.postorder.Given as goal

abbrev pub invariant-loop-pending : goal.invariant-loop-pending
invariant-loop-pending g l = record {
  goes : GoesOn l.grammar l.numbers l.i l.events.items (reverse l.stack.items);
  within : l.i ≤ length l.numbers;
}

-- a production puts at most thirteen in the place of one
abbrev pub decreases-loop-pending : goal.decreases-loop-pending
decreases-loop-pending g l = 13 * (length l.numbers - l.i) + length l.stack.items
