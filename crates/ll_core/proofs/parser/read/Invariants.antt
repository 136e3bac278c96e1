use Rattle.std.proofs.Common.{◌+◌, ◌-◌, ◌^◌, ◌≤◌, All, length, reverse}
use Rattle.ll_core.proofs.Progress.{Progress}
use Rattle.ll_core.proofs.parser.read.Given as goal

abbrev pub invariant-loop-expected : goal.invariant-loop-expected
invariant-loop-expected g l = record {
  progress : Progress l.grammar l.tokens l.k l.numbers.items (reverse l.stack.items);
  bounded : All (λ e. e.nesting ≤ length l.numbers.items) (reverse l.stack.items);
}

-- each turn takes a production, of which memory has room for fewer than 2 ^ 64, or a token
abbrev pub decreases-loop-expected : goal.decreases-loop-expected
decreases-loop-expected g l = (2 ^ 64 - length l.numbers.items) + (length l.tokens - l.k)
