use Rattle.std.proofs.Common.{◌≡◌, ◌≤◌, length, arith, inl, inr, subst}
use Rattle.std.proofs.lemmas.Bool.{cases_lt}
use Rattle.std.proofs.Math.ListN.{get_or-eq_default}
use Rattle.vector_clocks.specs.Held.{counts_of}
use Rattle.vector_clocks.proofs.Cases.{same_function}
use Rattle.vector_clocks.proofs.clock.Clock.join.Goals as goal

pub returns : goal.returns
returns c = same_function _ _ (λ k. elim (cases_lt k c.loop-lane.lane) [
  | inl done ↦ c.loop-lane.invariant.done k done
  | inr ahead ↦ (let none : counts_of c.args.other.now k ≡ 0 = get_or-eq_default c.args.other.now.counts.items 0
      (let within : length c.args.other.now.counts.items ≤ c.loop-lane.lane = subst (λ xs. length xs ≤ c.loop-lane.lane) c.deref-count-items.ensures.value c.loop-lane-test.false in omega arith) in
      let same : counts_of c.loop-lane.self k ≡ counts_of c.args.self.now k = c.loop-lane.invariant.ahead k ahead in
      omega arith)
])
