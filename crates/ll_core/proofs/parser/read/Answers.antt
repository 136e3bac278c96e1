use Rattle.std.proofs.Common.{◌≡◌, ◌≢◌, ◌<◌, ◌+◌, true, false, [], ◌∷◌, ◌++◌, length, get_or, rules, arith, sym, ap, ◌∙◌, subst, reverse, Some, List, ℕ}
use Rattle.ll_core.specs.declared.parser.Expected.{Expected}
use Rattle.std.proofs.lemmas.Option.{slice_get_within}
use Rattle.ll_core.specs.Trees.{is_left, deepening, right_of}
use Rattle.ll_core.specs.Stacks.{expected_at}
use Rattle.ll_core.proofs.Progress.{Progress}
use Rattle.ll_core.proofs.Reading.{turn_other, turn_deep, turn_shift, turn_unpredicted, turn_expand, turn_bounded, turn_nesting, turn_bounded_expand, bounded_start, deepening-le}
use Rattle.ll_core.proofs.Endings.{stops_before_rest, parsed, only_parse, Progress-start}
use Rattle.ll_core.proofs.parser.read.Goals as goal
use Rattle.ll_core.proofs.parser.read.Goals.{then-k-tokens-via-then-k-tokens, then-k-tokens-via-else-k-tokens+then-tokens-k}

pub returns-then-k-tokens-clause-stop : goal.returns-then-k-tokens-clause-stop
returns-then-k-tokens-clause-stop g c =
    let left : is_left c.args.grammar.now c.in-Some.expected.symbol ≡ false = sym c.is_left.ensures ∙ c.if-not-is_left.true in
    let other : c.loop-expected.k < length c.args.tokens.now → get_or c.args.tokens.now c.loop-expected.k 0 ≢ c.in-Some.expected.symbol =
    elim c.then-k-tokens.branch [
      | then-k-tokens-via-then-k-tokens w ↦ λ in_range. absurd (omega arith)
      | then-k-tokens-via-else-k-tokens+then-tokens-k w ↦ λ in_range. w.if-tokens-k.true
    ] in
    turn_other c.args.grammar.now c.args.tokens.now c.loop-expected.k c.loop-expected.numbers.items c.loop-expected.stack.items c.pop.new.self.items c.in-Some.expected c.in-Some.ensures.items c.loop-expected.invariant.progress left other

pub returns-then-expected-gt-NESTING_LIMIT-clause-stop : goal.returns-then-expected-gt-NESTING_LIMIT-clause-stop
returns-then-expected-gt-NESTING_LIMIT-clause-stop g c =
    let left : is_left c.args.grammar.now c.in-Some.expected.symbol ≡ false = sym c.is_left.ensures ∙ c.if-not-is_left.true in
    let in_range : c.loop-expected.k < length c.args.tokens.now = (let h = c.loop-expected.invariant.progress.in_range in omega arith) in
    turn_deep c.args.grammar.now c.args.tokens.now c.loop-expected.k c.loop-expected.numbers.items c.loop-expected.stack.items c.pop.new.self.items c.in-Some.expected c.in-Some.ensures.items c.loop-expected.invariant.progress left c.requires in_range c.if-tokens-k.false c.if-expected-gt-NESTING_LIMIT.true

pub loop-expected-preserved-then-not-is_left : goal.loop-expected-preserved-then-not-is_left
loop-expected-preserved-then-not-is_left g c =
    let left : is_left c.args.grammar.now c.in-Some.expected.symbol ≡ false = sym c.is_left.ensures ∙ c.if-not-is_left.true in
    let in_range : c.loop-expected.k < length c.args.tokens.now = (let h = c.loop-expected.invariant.progress.in_range in omega arith) in
    record {
      progress = turn_shift c.args.grammar.now c.args.tokens.now c.loop-expected.k c.loop-expected.numbers.items c.loop-expected.stack.items c.pop.new.self.items c.in-Some.expected c.in-Some.ensures.items c.loop-expected.invariant.progress left c.requires in_range c.if-tokens-k.false c.if-expected-gt-NESTING_LIMIT.false;
      bounded = turn_bounded c.args.grammar.now c.args.tokens.now c.loop-expected.k c.loop-expected.numbers.items c.loop-expected.stack.items c.pop.new.self.items c.in-Some.expected c.in-Some.ensures.items c.loop-expected.invariant.progress c.loop-expected.invariant.bounded;
    }

pub returns-in_default-predicted-clause-stop : goal.returns-in_default-predicted-clause-stop
returns-in_default-predicted-clause-stop g c =
    let left : is_left c.args.grammar.now c.in-Some.expected.symbol ≡ true = sym c.is_left.ensures ∙ c.if-not-is_left.false in
    turn_unpredicted c.args.grammar.now c.args.tokens.now c.loop-expected.k c.loop-expected.numbers.items c.loop-expected.stack.items c.pop.new.self.items c.in-Some.expected c.in-Some.ensures.items c.loop-expected.invariant.progress c.next_of.result c.next_of.ensures left
    (λ m p. let e = c.in_default-predicted.ensures.all m p in cc)

pub production-production-requires : goal.production-production-requires
production-production-requires g c =
    let prediction = c.in-Some-predicted.ensures.some in
    (search rules, slice_get_within c.args.grammar.now c.in-Some-predicted.number prediction.0 prediction.1)

pub expect_right-requires-clause-nesting : goal.expect_right-requires-clause-nesting
expect_right-requires-clause-nesting g c =
    let bound = turn_nesting c.args.grammar.now c.args.tokens.now c.loop-expected.k c.loop-expected.numbers.items c.loop-expected.stack.items c.pop.new.self.items c.in-Some.expected c.in-Some.ensures.items c.loop-expected.invariant.progress c.loop-expected.invariant.bounded in
    omega arith

pub loop-expected-preserved : goal.loop-expected-preserved
loop-expected-preserved g c =
    let left : is_left c.args.grammar.now c.in-Some.expected.symbol ≡ true = sym c.is_left.ensures ∙ c.if-not-is_left.false in
    let pushed : c.push-in-Some.new.self.items ≡ c.loop-expected.numbers.items ++ c.in-Some-predicted.number ∷ [] = c.in_ok-push-2.ensures.items in
    let expected : reverse c.expect_right.new.stack.items
    ≡ expected_at (c.in-Some.expected.nesting + deepening (Some c.production-production.result)) (right_of c.production-production.result) ++ reverse c.pop.new.self.items =
    c.in_ok-expect_right.ensures in
    record {
      progress = subst (λ ns. Progress c.args.grammar.now c.args.tokens.now c.loop-expected.k ns (reverse c.expect_right.new.stack.items)) (sym pushed)
          (turn_expand c.args.grammar.now c.args.tokens.now c.loop-expected.k c.loop-expected.numbers.items c.loop-expected.stack.items c.pop.new.self.items c.in-Some.expected c.in-Some.ensures.items c.loop-expected.invariant.progress c.in-Some-predicted.number c.production-production.result c.next_of.result c.expect_right.new.stack.items
          c.next_of.ensures left c.production-production.ensures.production c.production-production.ensures.sentence c.in-Some-predicted.ensures.some c.in-Some-predicted.ensures.all expected);
      bounded = rw pushed (turn_bounded_expand c.args.grammar.now c.args.tokens.now c.loop-expected.k c.loop-expected.numbers.items c.loop-expected.stack.items c.pop.new.self.items c.in-Some.expected c.in-Some.ensures.items c.loop-expected.invariant.progress c.in-Some-predicted.number (deepening (Some c.production-production.result)) (right_of c.production-production.result) c.expect_right.new.stack.items
          (deepening-le c.production-production.result) expected c.loop-expected.invariant.bounded);
    }

pub returns-then-k-tokens-2-clause-stop : goal.returns-then-k-tokens-2-clause-stop
returns-then-k-tokens-2-clause-stop g c =
    let empty : reverse c.loop-expected.stack.items ≡ [] = (let e : c.loop-expected.stack.items ≡ [] = search rules in ap reverse e) in
    let now = subst (λ es. Progress c.args.grammar.now c.args.tokens.now c.loop-expected.k c.loop-expected.numbers.items es) empty c.loop-expected.invariant.progress in
    stops_before_rest c.args.grammar.now c.args.tokens.now c.loop-expected.k c.loop-expected.numbers.items now c.if-k-tokens-2.true (c.requires c.loop-expected.k 0 c.if-k-tokens-2.true)

pub returns-clause-derived : goal.returns-clause-derived
returns-clause-derived g c =
    let empty : reverse c.loop-expected.stack.items ≡ [] = (let e : c.loop-expected.stack.items ≡ [] = search rules in ap reverse e) in
    let now = subst (λ es. Progress c.args.grammar.now c.args.tokens.now c.loop-expected.k c.loop-expected.numbers.items es) empty c.loop-expected.invariant.progress in
    let all : c.loop-expected.k ≡ length c.args.tokens.now = (let h = now.in_range in omega arith) in
    let read = subst (λ k. Progress c.args.grammar.now c.args.tokens.now k c.loop-expected.numbers.items []) all now in
    rw c.new.ensures (parsed c.args.grammar.now c.args.tokens.now c.loop-expected.numbers.items read)

pub returns-clause-only : goal.returns-clause-only
returns-clause-only g c =
    let empty : reverse c.loop-expected.stack.items ≡ [] = (let e : c.loop-expected.stack.items ≡ [] = search rules in ap reverse e) in
    let now = subst (λ es. Progress c.args.grammar.now c.args.tokens.now c.loop-expected.k c.loop-expected.numbers.items es) empty c.loop-expected.invariant.progress in
    let all : c.loop-expected.k ≡ length c.args.tokens.now = (let h = now.in_range in omega arith) in
    let read = subst (λ k. Progress c.args.grammar.now c.args.tokens.now k c.loop-expected.numbers.items []) all now in
    rw c.new.ensures (only_parse c.args.grammar.now c.args.tokens.now c.loop-expected.numbers.items read)

pub loop-expected-init : goal.loop-expected-init
loop-expected-init g c =
    let start : Expected = record { symbol = c.start-symbol.result; nesting = 0 } in
    let pushed : reverse c.push.new.self.items ≡ start ∷ [] =
    ap reverse (c.in_ok-push.ensures.items ∙ ap (λ (es : List Expected). es ++ start ∷ []) c.new-stack.ensures.items) in
    let begun = Progress-start c.args.grammar.now c.args.tokens.now c.start-symbol.result c.start-symbol.ensures.first c.start-symbol.ensures.left c.start-symbol.ensures.sentence in
    record {
      progress = subst (λ (es : List Expected). Progress c.args.grammar.now c.args.tokens.now 0 c.new-numbers.result.items es) (sym pushed)
          (subst (λ (ns : List ℕ). Progress c.args.grammar.now c.args.tokens.now 0 ns (start ∷ [])) (sym c.new-numbers.ensures.items) begun);
      bounded = rw pushed (bounded_start c.start-symbol.result (length c.new-numbers.result.items));
    }
