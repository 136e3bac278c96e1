use Rattle.std.proofs.Common.{arith}
use Rattle.c_faults.proofs.Order.{answered, unanswered, ended}
use Rattle.c_faults.proofs.first.first_fault.Goals as goal

pub returns-clause-first : goal.returns-clause-first
returns-clause-first c = let last = c.loop-fault.auto.fault-index-end in
    answered _ _ (ended _ _ c.loop-fault.fault-index (omega (arith, last, c.loop-fault-test.false)) c.loop-fault.invariant)

pub returns-clause-none : goal.returns-clause-none
returns-clause-none c = let last = c.loop-fault.auto.fault-index-end in
    unanswered _ _ (ended _ _ c.loop-fault.fault-index (omega (arith, last, c.loop-fault-test.false)) c.loop-fault.invariant)
