use Rattle.std.proofs.Common.{arith}
use Rattle.schedules.proofs.Cutting.{cut_at, cut_nowhere}
use Rattle.schedules.proofs.cuts.cut.Goals as goal

pub returns-then-byte-at-clause-pieces : goal.returns-then-byte-at-clause-pieces
returns-then-byte-at-clause-pieces c = cut_at c.args.text.now c.args.at c.loop-i.i c.loop-i-test.true c.loop-i.invariant c.if-byte-at.true

pub returns-clause-pieces : goal.returns-clause-pieces
returns-clause-pieces c = cut_nowhere c.args.text.now c.args.at (λ k below. c.loop-i.invariant k (omega arith))
