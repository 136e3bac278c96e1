-- One step of a detector.
use Rattle.std.proofs.Common.{◌≡◌, ◌≢◌, ◌+◌, inl, inr, refl, sym, subst, ap, ◌∙◌, Bool, true, cond, ℕ, zero, suc, ◌<◌, ◌≤◌, ◌==◌, ◌↔◌, if◌then◌else◌, List, [], ◌∷◌, Option, Some, None, arith, eq-eqb}
use Rattle.std.proofs.lemmas.Bool.{ne_eqb, eqb-false}
use Rattle.vector_clocks.specs.declared.event.Event.{Event}
use Rattle.vector_clocks.specs.Steps.{Step, Run}
use Rattle.vector_clocks.specs.Happens.{Before, RacesAt}
use Rattle.vector_clocks.specs.Clocks.{Counts, ticked, steps_of, KeepsItsLane, Tells}
use Rattle.vector_clocks.specs.Accesses.{Latest}
use Rattle.vector_clocks.specs.Kept.{Kept, Follows, together, of_joined, known, moved, IsOneOf, HasRival}
use Rattle.vector_clocks.specs.Events.{step_of, taken_by, read_atomically_by}
use Rattle.vector_clocks.proofs.Cases.{by_test}
use Rattle.vector_clocks.proofs.Order.{numbered_below}
use Rattle.vector_clocks.proofs.Following.{follows_on}
use Rattle.vector_clocks.proofs.Knowing.{knows, lists_values}
use Rattle.vector_clocks.proofs.Racing.{races}
use Rattle.vector_clocks.proofs.Noting.{lists_taken, lists_read}

pub at_most : (lane_at : ℕ → ℕ) (lane n : ℕ) → steps_of lane_at lane n ≤ n
at_most lane_at lane zero = omega arith
at_most lane_at lane (suc n) = let l : steps_of lane_at lane n ≤ n = at_most lane_at lane n in
    by_test (λ k. k ≤ suc n) (lane_at n == lane) _ _ (λ _. omega arith) (λ _. omega arith)

module _ {Cell : Type 0} (run : Run Cell) (lane_at : ℕ → ℕ) where
  module _ (n lane : ℕ) where
    bound : ℕ
    bound = steps_of lane_at lane n

    together_within : (clock : Cell → Counts) → ((cell : Cell) → clock cell lane ≤ bound) → (cells : List Cell) → together clock cells lane ≤ bound
    together_within clock h [] = omega arith
    together_within clock h (cell ∷ cells) = let a : clock cell lane ≤ bound = h cell in let b : together clock cells lane ≤ bound = together_within clock h cells in omega arith

    joined_within : (kept : Kept Cell) → Follows run lane_at n kept → (o : Option ℕ) → of_joined kept o lane ≤ bound
    unfolding bound
    joined_within kept f None = omega arith
    joined_within kept f (Some other) = (f.threads other).within lane

    -- whatever step comes next knows no more than there is
    pub known_within : (kept : Kept Cell) → Follows run lane_at n kept → (step : Step Cell) (takes reads : List Cell) → known kept step takes reads lane ≤ steps_of lane_at lane n
    unfolding bound
    known_within kept f step takes reads =
        let a : kept.births step.thread lane ≤ bound = (f.births step.thread).within lane in
        let b : kept.threads step.thread lane ≤ bound = (f.threads step.thread).within lane in
        let c : of_joined kept step.joins lane ≤ bound = joined_within kept f step.joins in
        let d : together kept.mutexes takes lane ≤ bound = together_within kept.mutexes (λ mutex. (f.mutexes mutex).within lane) takes in
        let e : together kept.values reads lane ≤ bound = together_within kept.values (λ cell. (f.values cell).within lane) reads in
        omega arith

-- ---- a further lane

module _ (a b : ℕ → ℕ) (n : ℕ) (same : (i : ℕ) → i < n → a i ≡ b i) where
  same_steps : (lane i : ℕ) → i ≤ n → steps_of a lane i ≡ steps_of b lane i
  same_steps lane zero l = refl
  same_steps lane (suc i) l = ap (λ k. cond (k == lane) (suc (steps_of a lane i)) (steps_of a lane i)) (same i (omega arith))
      ∙ ap (λ k. cond (b i == lane) (suc k) k) (same_steps lane i (omega arith))

  same_number : (i : ℕ) → i < n → steps_of a (a i) i ≡ steps_of b (b i) i
  same_number i l = ap (λ lane. steps_of a lane i) (same i l) ∙ same_steps (b i) i (omega arith)

  same_tells : (A : ℕ → Type 0) (clock : Counts) → Tells a n A clock → Tells b n A clock
  same_tells A clock t = record {
    exact = λ i l. (
      λ x. subst (λ k. k < clock (b i)) (same_number i l) (subst (λ lane. steps_of a (a i) i < clock lane) (same i l) ((t.exact i l).0 x)),
      λ m. (t.exact i l).1 (subst (λ k. k < clock (a i)) (sym (same_number i l)) (subst (λ lane. steps_of b (b i) i < clock lane) (sym (same i l)) m)),
    );
    within = λ lane. subst (λ k. clock lane ≤ k) (same_steps lane n (omega arith)) (t.within lane);
  }

  same_latest : {Cell : Type 0} (run : Run Cell) (is_kind : Step Cell → Bool) (last : Counts) → Latest run a n is_kind last → Latest run b n is_kind last
  same_latest run is_kind last l = record {
    covers = λ i m k. subst (λ c. c < last (b i)) (same_number i m) (subst (λ lane. steps_of a (a i) i < last lane) (same i m) (l.covers i m k));
    found = λ lane. elim (l.found lane) [
      | inl z ↦ inl z
      | inr f ↦ inr (f.0, f.1, f.2, sym (same f.0 f.1) ∙ f.3, f.4 ∙ ap (λ k. suc k) (same_steps lane f.0 (let m : f.0 < n = f.1 in omega arith)))
    ];
  }

  pub same_follows : {Cell : Type 0} (run : Run Cell) (kept : Kept Cell) → Follows run a n kept → Follows run b n kept
  same_follows run kept f = record {
    births = λ thread. same_tells _ _ (f.births thread);
    threads = λ thread. same_tells _ _ (f.threads thread);
    mutexes = λ mutex. same_tells _ _ (f.mutexes mutex);
    values = λ cell. same_tells _ _ (f.values cell);
    last = λ w p cell. same_latest run _ _ (f.last w p cell);
  }

-- ---- a step

module _ (run : Run ℕ) (n : ℕ) (event : Event) (is : run n ≡ step_of event) (kept : Kept ℕ) (lane_at : ℕ → ℕ) (f : Follows run lane_at n kept) where
  abbrev its_known : Step ℕ → Counts
  its_known step = known kept step (taken_by event.action) (read_atomically_by event.action)

  tells : Tells lane_at n (λ i. Before run i n) (its_known (run n))
  tells = knows run lane_at n kept (taken_by event.action) (read_atomically_by event.action)
      (λ cell. subst (λ (s : Step ℕ). (s.takes cell ≡ true) ↔ IsOneOf cell (taken_by event.action)) (sym is) (lists_taken event.action cell))
      (lists_values run lane_at n (read_atomically_by event.action)
      (λ cell. subst (λ (s : Step ℕ). (s.reads_atomically cell ≡ true) ↔ IsOneOf cell (read_atomically_by event.action)) (sym is) (lists_read event.action cell))) f

  pub races_step : ((cell : ℕ) × RacesAt run n cell) ↔ ((cell : ℕ) × HasRival kept (step_of event) (its_known (step_of event)) cell)
  races_step = subst (λ (s : Step ℕ). ((cell : ℕ) × RacesAt run n cell) ↔ ((cell : ℕ) × HasRival kept s (its_known s) cell)) is
      (λ r. (r.0, (races run lane_at n (its_known (run n)) tells kept r.0 f).0 r.1), λ h. (h.0, (races run lane_at n (its_known (run n)) tells kept h.0 f).1 h.1))

  -- the step goes on in a lane of which it knows all steps
  module _ (lane : ℕ) (whole : its_known (step_of event) lane ≡ steps_of lane_at lane n) where
    pub next_lane_at : ℕ → ℕ
    next_lane_at i = if i == n then lane else lane_at i

    here : next_lane_at n ≡ lane
    unfolding next_lane_at
    here = ap (λ b. cond b lane (lane_at n)) (eq-eqb n n refl)

    same : (i : ℕ) → i < n → lane_at i ≡ next_lane_at i
    unfolding next_lane_at
    same i l = sym (ap (λ b. cond b lane (lane_at i)) (ne_eqb i n (λ e. omega arith)))

    laned : KeepsItsLane run next_lane_at n
    laned i l e = (tells.exact i l).1
        (let at : lane_at i ≡ lane = same i l ∙ e ∙ here in
        let whole_here : its_known (run n) lane ≡ steps_of lane_at lane n = ap (λ s. its_known s lane) is ∙ whole in
        let below : steps_of lane_at (lane_at i) i < steps_of lane_at (lane_at i) n = numbered_below lane_at i n l in
        subst (λ k. steps_of lane_at (lane_at i) i < k) (ap (λ k. steps_of lane_at k n) at ∙ sym whole_here ∙ ap (its_known (run n)) (sym at)) below)

    pub follows_step : Follows run next_lane_at (suc n) (moved kept (step_of event) lane (ticked lane (its_known (step_of event))))
    follows_step = subst (λ k. Follows run next_lane_at (suc n) (moved kept (step_of event) k (ticked k (its_known (step_of event))))) here
        (subst (λ (s : Step ℕ). Follows run next_lane_at (suc n) (moved kept s (next_lane_at n) (ticked (next_lane_at n) (its_known s)))) is
        (follows_on run next_lane_at n kept (its_known (run n)) laned (same_follows lane_at next_lane_at n same run kept f) (same_tells lane_at next_lane_at n same _ _ tells)))

    pub total_step : (k : ℕ) → steps_of next_lane_at k (suc n) ≡ ticked lane (λ k. steps_of lane_at k n) k
    total_step k = ap (λ m. cond (m == k) (suc (steps_of next_lane_at k n)) (steps_of next_lane_at k n)) here
        ∙ ap (λ m. cond (lane == k) (suc m) m) (sym (same_steps lane_at next_lane_at n same k n (omega arith)))

-- ---- the lanes in use

pub few_on : (lane lanes n : ℕ) → lanes ≤ n → cond (lane == lanes) (lanes + 1) lanes ≤ suc n
few_on lane lanes n l = by_test (λ k. k ≤ suc n) (lane == lanes) _ _ (λ _. omega arith) (λ _. omega arith)

pub beyond : (lane lanes k : ℕ) → lane ≤ lanes → cond (lane == lanes) (lanes + 1) lanes ≤ k → (lanes ≤ k) × (lane < k)
beyond lane lanes k used = by_test (λ m. m ≤ k → (lanes ≤ k) × (lane < k)) (lane == lanes) _ _
    (λ _ l. (omega arith, omega arith))
    (λ other l. (omega arith, (let apart : lane ≢ lanes = eqb-false lane lanes other in grind arith)))

pub not_ticked : (lane k : ℕ) (total : Counts) → lane < k → ticked lane total k ≡ total k
not_ticked lane k total l = ap (λ b. cond b (suc (total k)) (total k)) (ne_eqb lane k (λ e. omega arith))
