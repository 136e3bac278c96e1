use Rattle.std.proofs.Common.{◌≡◌, sym, subst, ap, ◌∙◌, ℕ, ◌<◌, ◌+◌, ◌↔◌, true, false, length, get_or, [], ◌∷◌, arith, add-one, below_more}
use Rattle.std.proofs.lemmas.List.{get_or_default, get_or_push, get_or_append_left}
use Rattle.vector_clocks.specs.Happens.{RacesAt}
use Rattle.vector_clocks.specs.Kept.{Follows}
use Rattle.vector_clocks.specs.Events.{step_of, run_of}
use Rattle.vector_clocks.specs.Held.{HasFollowed}
use Rattle.vector_clocks.proofs.Knowing.{follows_nothing}
use Rattle.vector_clocks.proofs.whole.races.Goals as goal

pub loop-event-init : goal.loop-event-init
loop-event-init c = record {
  follows = record {
    lane_at = λ i. 0;
    total = λ lane. ap (λ clock. clock lane) c.new-detector.ensures.total;
    few = omega (arith, c.new-detector.ensures.lanes);
    unused = λ lane l. ap (λ clock. clock lane) c.new-detector.ensures.total;
    kept = subst (λ kept. Follows (run_of c.args.events.now) (λ i. 0) 0 kept) (sym c.new-detector.ensures.kept) (follows_nothing (run_of c.args.events.now) (λ i. 0));
  };
  len = c.new-races.ensures.len;
  exact = λ n l. absurd (omega (arith, l));
}

pub step-requires : goal.step-requires
step-requires c = (run_of c.args.events.now, c.loop-event.event-index, (let l : c.loop-event.event-index < length c.args.events.now = c.loop-event-test.true in omega (arith, c.requires)), c.loop-event.invariant.follows)

pub loop-event-preserved : goal.loop-event-preserved
loop-event-preserved c =
    let run = run_of c.args.events.now in
    let n = c.loop-event.event-index in
    let step = c.in_ok-step.ensures in
    let old = c.loop-event.races.items in
    let found = c.in_ok-step.field-0 in
    let full : length old ≡ n = omega (arith, c.loop-event.races.ok.0, c.loop-event.invariant.len) in
    let is : run n ≡ step_of _ = ap (λ event. step_of event) (get_or_default c.args.events.now n _ _ c.loop-event-test.true) in
    let here : found ≡ get_or c.push.new.self.items n false = sym (ap (λ xs. get_or xs n false) c.in_ok-push.ensures.items ∙ get_or_push old found false n full) in
    record {
      follows = subst (λ k. HasFollowed run k c.step.new.self) (sym (add-one n)) (step.follows run n is c.loop-event.invariant.follows);
      len = c.in_ok-push.ensures.len ∙ ap (λ k. k + 1) c.loop-event.invariant.len;
      exact = below_more (λ k. (get_or c.push.new.self.items k false ≡ true) ↔ ((cell : ℕ) × RacesAt run k cell)) n
          (λ k l. subst (λ b. (b ≡ true) ↔ ((cell : ℕ) × RacesAt run k cell))
          (sym (ap (λ xs. get_or xs k false) c.in_ok-push.ensures.items ∙ get_or_append_left old (found ∷ []) false k (omega (arith, full, l)))) (c.loop-event.invariant.exact k l))
          (subst (λ b. (b ≡ true) ↔ ((cell : ℕ) × RacesAt run n cell)) here (step.exact run n is c.loop-event.invariant.follows));
    }
