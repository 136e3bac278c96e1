use Rattle.std.proofs.Common.{◌≡◌, ◌∙◌, sym, subst, ap, cond, ℕ, suc, ◌≤◌, ◌+◌, ◌==◌, ◌↔◌, IsTrue, arith}
use Rattle.vector_clocks.specs.Clocks.{Counts, ticked, steps_of}
use Rattle.vector_clocks.specs.Kept.{Kept, Follows, HasRival, known, moved}
use Rattle.vector_clocks.specs.Events.{step_of, taken_by, read_atomically_by}
use Rattle.vector_clocks.specs.Held.{counts_of, changed, kept_by}
use Rattle.vector_clocks.proofs.Noting.{same_kept}
use Rattle.vector_clocks.proofs.Stepping.{at_most, known_within, next_lane_at, follows_step, total_step, races_step, few_on, beyond, not_ticked}
use Rattle.vector_clocks.proofs.detector.Detector.step.Goals as goal

pub lane-lane-requires-clause-within : goal.lane-lane-requires-clause-within
lane-lane-requires-clause-within c k =
    let event = c.args.event in
    let run = c.requires.0 in let n = c.requires.1 in let f = c.requires.3 in
    let within : known (kept_by c.args.self.now) (step_of event) (taken_by event.action) (read_atomically_by event.action) k ≤ steps_of f.lane_at k n =
    known_within run f.lane_at n k (kept_by c.args.self.now) f.kept (step_of event) (taken_by event.action) (read_atomically_by event.action) in
    let is : counts_of c.in_ok-clock.clock k ≡ known (kept_by c.args.self.now) (step_of event) (taken_by event.action) (read_atomically_by event.action) k =
    ap (λ clock. clock k) c.in_ok-clock.ensures in
    let total : counts_of c.args.self.now.total k ≡ steps_of f.lane_at k n = f.total k in
    omega arith

pub tick-requires : goal.tick-requires
tick-requires c =
    let n = c.requires.1 in let f = c.requires.3 in
    let lane = c.lane-lane.result in
    let is : counts_of c.in_ok-clock.clock lane ≡ counts_of c.args.self.now.total lane = c.lane-lane.ensures.whole in
    let total : counts_of c.args.self.now.total lane ≡ steps_of f.lane_at lane n = f.total lane in
    let short : steps_of f.lane_at lane n ≤ n = at_most f.lane_at lane n in
    omega (arith, c.requires.2)

pub enter-requires-clause-short : goal.enter-requires-clause-short
enter-requires-clause-short c =
    let n = c.requires.1 in let f = c.requires.3 in
    let lane = c.lane-lane.result in
    let is : counts_of c.share.new.self.total lane ≡ counts_of c.args.self.now.total lane = ap (λ total. counts_of total lane) c.in_ok-share.ensures.total in
    let total : counts_of c.args.self.now.total lane ≡ steps_of f.lane_at lane n = f.total lane in
    let short : steps_of f.lane_at lane n ≤ n = at_most f.lane_at lane n in
    omega (arith, c.requires.2)

pub returns-clause-follows : goal.returns-clause-follows
returns-clause-follows c = λ run n is f.
    let event = c.args.event in
    let old = kept_by c.args.self.now in
    let lane = c.lane-lane.result in
    let lanes = c.args.self.now.lanes in
    let its_known : Counts = known old (step_of event) (taken_by event.action) (read_atomically_by event.action) in
    let clock : Counts = counts_of c.tick.new.self in
    let told : clock ≡ ticked lane its_known = c.in_ok-tick.ensures ∙ ap (λ known. ticked lane known) c.in_ok-clock.ensures in
    let whole : its_known lane ≡ steps_of f.lane_at lane n = sym (ap (λ known. known lane) c.in_ok-clock.ensures) ∙ c.lane-lane.ensures.whole ∙ f.total lane in
    let shared = c.in_ok-share.ensures in
    let entered = c.in_ok-enter.ensures in
    let total : (k : ℕ) → counts_of c.enter.new.self.total k ≡ ticked lane (counts_of c.args.self.now.total) k =
    λ k. ap (λ total. total k) entered.total ∙ ap (λ total. ticked lane (counts_of total) k) shared.total in
    let used : c.enter.new.self.lanes ≡ cond (lane == lanes) (lanes + 1) lanes = entered.lanes ∙ ap (λ m. cond (lane == m) (m + 1) m) shared.lanes in
    let new : moved old (step_of event) lane clock ≡ _ = sym (same_kept _ (moved old (step_of event) lane clock)
    (ap (λ (k : Kept ℕ). k.births) entered.kept ∙ shared.births)
    (c.in_ok-put.ensures ∙ ap (λ (k : Kept ℕ). changed k.threads event.thread (λ _. clock)) entered.kept ∙ ap (λ threads. changed threads event.thread (λ _. clock)) shared.threads)
    (ap (λ (k : Kept ℕ). k.mutexes) entered.kept ∙ shared.mutexes)
    (ap (λ (k : Kept ℕ). k.values) entered.kept ∙ shared.values)
    (ap (λ (k : Kept ℕ). k.last) entered.kept ∙ shared.last)) in
    record {
      lane_at = next_lane_at run n event is old f.lane_at f.kept lane whole;
      total = λ k. total k ∙ ap (λ m. cond (lane == k) (suc m) m) (f.total k) ∙ sym (total_step run n event is old f.lane_at f.kept lane whole k);
      few = subst (λ m. m ≤ suc n) (sym used) (few_on lane lanes n f.few);
      unused = λ k l. let far = beyond lane lanes k c.lane-lane.ensures.used (subst (λ m. m ≤ k) used l) in
          total k ∙ not_ticked lane k (counts_of c.args.self.now.total) far.1 ∙ f.unused k far.0;
      kept = subst (λ kept. Follows run (next_lane_at run n event is old f.lane_at f.kept lane whole) (suc n) kept) (ap (λ clock. moved old (step_of event) lane clock) (sym told) ∙ new)
          (follows_step run n event is old f.lane_at f.kept lane whole);
    }

pub returns-clause-exact : goal.returns-clause-exact
returns-clause-exact c = λ run n is f.
    let event = c.args.event in
    let old = kept_by c.args.self.now in
    let found = subst (λ clock. IsTrue c.has_rival-races.result ↔ ((cell : ℕ) × HasRival old (step_of event) clock cell)) c.in_ok-clock.ensures c.has_rival-races.ensures in
    let law = races_step run n event is old f.lane_at f.kept in
    (λ t. law.1 (found.0 t), λ r. found.1 (law.0 r))
