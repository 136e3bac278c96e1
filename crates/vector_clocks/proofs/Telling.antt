-- Clocks tell sets of steps, and go on telling them as the run goes on.
use Rattle.std.proofs.Common.{◌≡◌, ◌⊎◌, inl, inr, refl, sym, subst, ◌∙◌, true, false, cond, ℕ, suc, ◌<◌, ◌≤◌, ◌==◌, arith, eqb-true}
use Rattle.std.proofs.lemmas.Bool.{eqb-false}
use Rattle.vector_clocks.specs.Steps.{Run}
use Rattle.vector_clocks.specs.Happens.{Before, through}
use Rattle.vector_clocks.specs.Clocks.{KeepsItsLane, Counts, nothing_known, joined, ticked, steps_of, Known, Tells}
use Rattle.vector_clocks.proofs.Cases.{by_test, tested, below_next, below_max}
use Rattle.vector_clocks.proofs.Order.{forward, steps_grow, last_step}

module _ {Cell : Type 0} (run : Run Cell) (lane_at : ℕ → ℕ) (n : ℕ) where
  pub tells_same : (A B : ℕ → Type 0) (clock : Counts) → ((i : ℕ) → i < n → A i → B i) → ((i : ℕ) → i < n → B i → A i)
      → Tells lane_at n A clock → Tells lane_at n B clock
  tells_same A B clock f g t = record {
    exact = λ i l. (λ b. (t.exact i l).0 (g i l b), λ m. f i l ((t.exact i l).1 m));
    within = t.within;
  }

  pub tells_none : (A : ℕ → Type 0) → ((i : ℕ) → i < n → A i → ⊥) → Tells lane_at n A nothing_known
  tells_none A none = record {
    exact = λ i l. (λ a. absurd (none i l a), λ m. absurd (omega (arith, m)));
    within = λ lane. omega arith;
  }

  pub tells_joined : (A B : ℕ → Type 0) (a b : Counts) → Tells lane_at n A a → Tells lane_at n B b → Tells lane_at n (λ i. A i ⊎ B i) (joined a b)
  tells_joined A B a b t u = record {
    exact = λ i l. (
      λ h. elim h [
        | inl x ↦ (let m : steps_of lane_at (lane_at i) i < a (lane_at i) = (t.exact i l).0 x in omega arith)
        | inr y ↦ (let m : steps_of lane_at (lane_at i) i < b (lane_at i) = (u.exact i l).0 y in omega arith)
      ],
      λ m. elim (below_max (steps_of lane_at (lane_at i) i) (a (lane_at i)) (b (lane_at i)) m) [
        | inl x ↦ inl ((t.exact i l).1 x)
        | inr y ↦ inr ((u.exact i l).1 y)
      ],
    );
    within = λ lane. (let x : a lane ≤ steps_of lane_at lane n = t.within lane in
        let y : b lane ≤ steps_of lane_at lane n = u.within lane in omega arith);
  }

  -- the step at n itself, or a step that happens before it
  pub UpTo : ℕ → Type 0
  UpTo i = (i ≡ n) ⊎ Before run i n

  -- the clock of a step knows all earlier steps of its lane
  pub own : (clock : Counts) → KeepsItsLane run lane_at n → Tells lane_at n (λ i. Before run i n) clock → clock (lane_at n) ≡ steps_of lane_at (lane_at n) n
  own clock laned t = let w : clock (lane_at n) ≤ steps_of lane_at (lane_at n) n = t.within (lane_at n) in
      elim (last_step lane_at (lane_at n) n) [
        | inl z ↦ omega arith
        | inr h ↦ (
            let m : steps_of lane_at (lane_at h.0) h.0 < clock (lane_at h.0) = (t.exact h.0 h.1).0 (laned h.0 h.1 h.2) in
            let k : steps_of lane_at (lane_at n) h.0 < clock (lane_at n) = subst (λ s. steps_of lane_at s h.0 < clock s) h.2 m in
            let e : steps_of lane_at (lane_at n) n ≡ suc (steps_of lane_at (lane_at n) h.0) = h.3 in
            omega arith)
      ]

  pub tells_ticked : (clock : Counts) → KeepsItsLane run lane_at n → Tells lane_at n (λ i. Before run i n) clock → Tells lane_at (suc n) UpTo (ticked (lane_at n) clock)
  unfolding UpTo
  tells_ticked clock laned t = record {
    exact = λ i l. (
      λ h. elim h [
        | inl e ↦ subst (λ k. steps_of lane_at (lane_at k) k < ticked (lane_at n) clock (lane_at k)) (sym e) here
        | inr b ↦ (let m : steps_of lane_at (lane_at i) i < clock (lane_at i) = (t.exact i (forward run b)).0 b in
            by_test (λ k. steps_of lane_at (lane_at i) i < k) ((lane_at n) == (lane_at i)) _ _ (λ _. omega arith) (λ _. m))
      ],
      λ m. elim (below_next i n l) [
        | inl e ↦ inl e
        | inr less ↦ tested ((lane_at n) == (lane_at i))
            (λ same. inr (laned i less (sym (eqb-true (lane_at n) (lane_at i) same))))
            (λ other. inr ((t.exact i less).1 (subst (λ b. steps_of lane_at (lane_at i) i < cond b (suc (clock (lane_at i))) (clock (lane_at i))) other m)))
      ],
    );
    within = λ lane. (let w : clock lane ≤ steps_of lane_at lane n = t.within lane in
        elim ((lane_at n) == lane) as (λ b. cond b (suc (clock lane)) (clock lane) ≤ cond b (suc (steps_of lane_at lane n)) (steps_of lane_at lane n)) [
          | true ↦ omega arith
          | false ↦ w
        ]);
  }
    where
      here : steps_of lane_at (lane_at n) n < ticked (lane_at n) clock (lane_at n)
      here = by_test (λ k. steps_of lane_at (lane_at n) n < k) ((lane_at n) == (lane_at n)) _ _
          (λ _. let e : clock (lane_at n) ≡ steps_of lane_at (lane_at n) n = own clock laned t in omega arith)
          (λ f. absurd (eqb-false (lane_at n) (lane_at n) f refl))

-- ---- the sets after one more step

module _ {Cell : Type 0} (run : Run Cell) (lane_at : ℕ → ℕ) (n : ℕ) where
  widened : (P : ℕ → Type 0) (i : ℕ) → Known run n P i → Known run (suc n) P i
  widened P i k = (let l : k.0 < n = k.1 in (k.0, omega arith, k.2, k.3))

  -- the step is none of these
  pub tells_later : (P : ℕ → Type 0) (clock : Counts) → (P n → ⊥) → Tells lane_at n (Known run n P) clock → Tells lane_at (suc n) (Known run (suc n) P) clock
  tells_later P clock not_here t = record {
    exact = λ i l. (
      λ k. elim (below_next k.0 n k.1) [
        | inl e ↦ absurd (not_here (subst P e k.2))
        | inr less ↦ (t.exact i (at_or_before i k.0 less k.3)).0 (k.0, less, k.2, k.3)
      ],
      λ m. elim (below_next i n l) [
        | inl e ↦ (let k : steps_of lane_at (lane_at n) n < clock (lane_at n) = subst (λ k. steps_of lane_at (lane_at k) k < clock (lane_at k)) e m in
            let w : clock (lane_at n) ≤ steps_of lane_at (lane_at n) n = t.within (lane_at n) in absurd (omega arith))
        | inr less ↦ widened P i ((t.exact i less).1 m)
      ],
    );
    within = λ lane. (let w : clock lane ≤ steps_of lane_at lane n = t.within lane in
        let g : steps_of lane_at lane n ≤ steps_of lane_at lane (suc n) = steps_grow lane_at lane n in omega arith);
  }
    where
      at_or_before : (i j : ℕ) → j < n → (i ≡ j) ⊎ Before run i j → i < n
      at_or_before i j l (inl e) = omega arith
      at_or_before i j l (inr b) = let m : i < j = forward run b in omega arith

  from_here : (P : ℕ → Type 0) → P n → (i : ℕ) → UpTo run lane_at n i → Known run (suc n) P i
  unfolding UpTo
  from_here P here i h = (n, omega arith, here, h)

  -- the step is one of these
  pub tells_added : (P : ℕ → Type 0) (clock now : Counts) → P n → Tells lane_at n (Known run n P) clock → Tells lane_at (suc n) (UpTo run lane_at n) now → Tells lane_at (suc n) (Known run (suc n) P) (joined clock now)
  unfolding UpTo
  tells_added P clock now here t u = tells_same run lane_at (suc n) _ _ _
      (λ i l h. elim h [ inl k ↦ (k.0, k.1, k.2.0, k.3) | inr o ↦ from_here P here i o ])
      (λ i l k. elim (below_next k.0 n k.1) [
        | inl e ↦ inr (elim k.3 [ inl f ↦ inl (f ∙ e) | inr b ↦ inr (subst (λ m. Before run i m) e b) ])
        | inr less ↦ inl (k.0, k.1, (k.2, less), k.3)
      ])
      (tells_joined run lane_at (suc n) _ _ _ _ (tells_later Earlier clock (λ q. omega (arith, q.1)) (tells_same run lane_at n _ _ _
      (λ i l k. (k.0, k.1, (k.2, k.1), k.3)) (λ i l k. (k.0, k.1, k.2.0, k.3)) t)) u)
    where
      Earlier : ℕ → Type 0
      Earlier j = P j × (j < n)

  -- the step is one of these, and each earlier one happens before it
  pub tells_replaced : (P : ℕ → Type 0) (now : Counts) → P n → ((j : ℕ) → j < n → P j → Before run j n) → Tells lane_at (suc n) (UpTo run lane_at n) now → Tells lane_at (suc n) (Known run (suc n) P) now
  unfolding UpTo
  tells_replaced P now here before u = record {
    exact = λ i l. (
      λ k. (u.exact i l).0 (elim (below_next k.0 n k.1) [
        | inl e ↦ elim k.3 [ inl f ↦ inl (f ∙ e) | inr b ↦ inr (subst (λ m. Before run i m) e b) ]
        | inr less ↦ elim k.3 [
          | inl f ↦ inr (subst (λ m. Before run m n) (sym f) (before k.0 less k.2))
          | inr b ↦ inr (through i k.0 n b (before k.0 less k.2))
        ]
      ]),
      λ m. from_here P here i ((u.exact i l).1 m),
    );
    within = u.within;
  }
