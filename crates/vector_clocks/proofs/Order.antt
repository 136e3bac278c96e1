-- Steps before one another, and their numbers in their threads.
use Rattle.std.proofs.Common.{◌≡◌, ◌⊎◌, inl, inr, refl, sym, subst, ap, ◌∙◌, cond, ℕ, zero, suc, ◌<◌, ◌≤◌, ◌==◌, arith, eqb-true, eq-eqb}
use Rattle.vector_clocks.specs.Steps.{Run}
use Rattle.vector_clocks.specs.Happens.{Leads, Before, directly, through}
use Rattle.vector_clocks.specs.Clocks.{Known, steps_of}
use Rattle.vector_clocks.proofs.Cases.{by_test, tested}

module _ {Cell : Type 0} (run : Run Cell) where
  pub forward : {i j : ℕ} → Before run i j → i < j
  forward (directly i j l e) = l
  forward (through i j k a b) = let l : i < j = forward a in let m : j < k = forward b in omega arith

  -- what happens before a step is a step that leads to it, or happens before one
  pub last_lead : {i n : ℕ} → Before run i n → Known run n (λ j. Leads run j n) i
  last_lead (directly i n l e) = (i, l, e, inl refl)
  last_lead (through i j n a b) = let h = last_lead b in (
    h.0,
    h.1,
    h.2,
    elim h.3 [
      | inl e ↦ inr (subst (λ k. Before run i k) e a)
      | inr c ↦ inr (through i j h.0 a c)
    ],
  )

  pub by_lead : (i n : ℕ) → Known run n (λ j. Leads run j n) i → Before run i n
  by_lead i n h = elim h.3 [
    | inl e ↦ directly i n (subst (λ k. k < n) (sym e) h.1) (subst (λ k. Leads run k n) (sym e) h.2)
    | inr b ↦ through i h.0 n b (directly h.0 n h.1 h.2)
  ]

module _ (lane_at : ℕ → ℕ) where
  pub steps_grow : (lane n : ℕ) → steps_of lane_at lane n ≤ steps_of lane_at lane (suc n)
  steps_grow lane n = by_test (λ k. steps_of lane_at lane n ≤ k) ((lane_at n) == lane) _ _ (λ _. omega arith) (λ _. omega arith)

  pub steps_rise : (lane i j : ℕ) → i ≤ j → steps_of lane_at lane i ≤ steps_of lane_at lane j
  steps_rise lane i zero l = let e : i ≡ 0 = omega arith in subst (λ k. steps_of lane_at lane k ≤ 0) (sym e) (omega arith)
  steps_rise lane i (suc j) l = elim (below_next_or i j l) [
    | inl e ↦ subst (λ k. steps_of lane_at lane k ≤ steps_of lane_at lane (suc j)) (sym e) (omega arith)
    | inr m ↦ (let a : steps_of lane_at lane i ≤ steps_of lane_at lane j = steps_rise lane i j m in
        let b : steps_of lane_at lane j ≤ steps_of lane_at lane (suc j) = steps_grow lane j in omega arith)
  ]
    where
      below_next_or : (i j : ℕ) → i ≤ suc j → (i ≡ suc j) ⊎ (i ≤ j)
      below_next_or i j l = grind arith

  -- a step is counted behind itself
  pub counted : (lane n : ℕ) → (lane_at n) ≡ lane → steps_of lane_at lane (suc n) ≡ suc (steps_of lane_at lane n)
  counted lane n e = ap (λ b. cond b (suc (steps_of lane_at lane n)) (steps_of lane_at lane n)) (eq-eqb (lane_at n) lane e)

  pub numbered_below : (i n : ℕ) → i < n → steps_of lane_at (lane_at i) i < steps_of lane_at (lane_at i) n
  numbered_below i n l =
      let a : steps_of lane_at (lane_at i) (suc i) ≡ suc (steps_of lane_at (lane_at i) i) = counted (lane_at i) i refl in
      let b : steps_of lane_at (lane_at i) (suc i) ≤ steps_of lane_at (lane_at i) n = steps_rise (lane_at i) (suc i) n l in
      omega arith

  -- the last step in a lane, if it has one
  pub last_step : (lane n : ℕ) → (steps_of lane_at lane n ≡ 0) ⊎ ((i : ℕ) × (i < n) × ((lane_at i) ≡ lane) × (steps_of lane_at lane n ≡ suc (steps_of lane_at lane i)))
  last_step lane zero = inl refl
  last_step lane (suc n) = tested ((lane_at n) == lane)
      (λ t. inr (n, omega arith, eqb-true (lane_at n) lane t, counted lane n (eqb-true (lane_at n) lane t)))
      (λ f. let e : steps_of lane_at lane (suc n) ≡ steps_of lane_at lane n = ap (λ b. cond b (suc (steps_of lane_at lane n)) (steps_of lane_at lane n)) f in
      elim (last_step lane n) [
        | inl z ↦ inl (e ∙ z)
        | inr h ↦ (let l : h.0 < n = h.1 in inr (h.0, omega arith, h.2, e ∙ h.3))
      ])
