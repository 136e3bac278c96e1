-- A step knows exactly what happens before it.
use Rattle.std.proofs.Common.{◌≡◌, ◌⊎◌, inl, inr, refl, sym, subst, ap, true, ℕ, arith, List, [], ◌∷◌, Option, Some, None}
use Rattle.vector_clocks.specs.Steps.{Run}
use Rattle.vector_clocks.specs.Happens.{Leads, in_thread, by_creation, by_join, by_mutex, by_atomic, Before}
use Rattle.vector_clocks.specs.Clocks.{Counts, Known, Tells}
use Rattle.vector_clocks.specs.Kept.{Kept, IsValue, Follows, opening, together, of_joined, known, IsOneOf, Lists, ListsValues}
use Rattle.vector_clocks.proofs.Order.{last_lead, by_lead}
use Rattle.vector_clocks.proofs.Telling.{tells_same, tells_none, tells_joined}

pub follows_nothing : {Cell : Type 0} (run : Run Cell) (lane_at : ℕ → ℕ) → Follows run lane_at 0 opening
follows_nothing run lane_at = record {
  births = λ thread. tells_none run lane_at 0 _ (λ i l k. absurd (omega (arith, l)));
  threads = λ thread. tells_none run lane_at 0 _ (λ i l k. absurd (omega (arith, l)));
  mutexes = λ mutex. tells_none run lane_at 0 _ (λ i l k. absurd (omega (arith, l)));
  values = λ cell. tells_none run lane_at 0 _ (λ i l k. absurd (omega (arith, l)));
  last = λ w p cell. record { covers = λ i l k. absurd (omega (arith, l)); found = λ thread. inl refl };
}

-- the five clauses, as the clocks are joined
sorted : {Cell : Type 0} {run : Run Cell} {j n : ℕ} → Leads run j n
    → (((run j).makes ≡ Some (run n).thread) ⊎ ((run j).thread ≡ (run n).thread))
    ⊎ (((run n).joins ≡ Some (run j).thread)
    ⊎ (((mutex : Cell) × ((run n).takes mutex ≡ true) × ((run j).releases mutex ≡ true))
    ⊎ ((cell : Cell) × ((run n).reads_atomically cell ≡ true) × IsValue run n cell j)))
sorted (in_thread j n e) = inl (inr e)
sorted (by_creation j n e) = inl (inl e)
sorted (by_join j n e) = inr (inl e)
sorted (by_mutex j n m g t) = inr (inr (inl (m, t, g)))
sorted (by_atomic j n c w r stays) = inr (inr (inr (c, r, (w, stays))))

module _ {Cell : Type 0} (run : Run Cell) (lane_at : ℕ → ℕ) (n : ℕ) where
  -- the steps that lead to the one at n over a cell in one of these
  Over : (Cell → ℕ → Type 0) → List Cell → ℕ → Type 0
  Over P cells i = (cell : Cell) × IsOneOf cell cells × P cell i

  tells_over : (P : Cell → ℕ → Type 0) (clock : Cell → Counts) → ((cell : Cell) → Tells lane_at n (Known run n (P cell)) (clock cell))
      → (cells : List Cell) → Tells lane_at n (Known run n (Over P cells)) (together clock cells)
  unfolding Over
  tells_over P clock t [] = tells_none run lane_at n _ (λ i l k. absurd (k.2.1))
  tells_over P clock t (cell ∷ cells) = tells_same run lane_at n _ _ _
      (λ i l h. elim h [ inl k ↦ (k.0, k.1, (cell, inl refl, k.2), k.3) | inr k ↦ (k.0, k.1, (k.2.0, inr k.2.1, k.2.2), k.3) ])
      (λ i l k. elim k.2.1 [
        | inl e ↦ inl (k.0, k.1, subst (λ c. P c k.0) e k.2.2, k.3)
        | inr o ↦ inr (k.0, k.1, (k.2.0, o, k.2.2), k.3)
      ])
      (tells_joined run lane_at n _ _ _ _ (t cell) (tells_over P clock t cells))

  Joined : Option ℕ → ℕ → Type 0
  Joined o i = o ≡ Some (run i).thread

  tells_of_joined : (kept : Kept Cell) → Follows run lane_at n kept → (o : Option ℕ) → Tells lane_at n (Known run n (Joined o)) (of_joined kept o)
  unfolding Joined
  tells_of_joined kept f None = tells_none run lane_at n _ (λ i l k. let e : None ≡ Some (run k.0).thread = k.2 in absurd (cc))
  tells_of_joined kept f (Some thread) = tells_same run lane_at n _ _ _
      (λ i l k. (k.0, k.1, ap (λ t. Some t) (sym k.2), k.3))
      (λ i l k. (k.0, k.1, (let e : Some thread ≡ Some (run k.0).thread = k.2 in cc), k.3))
      (f.threads thread)

  -- a list of all cells that are read atomically is such a list
  pub lists_values : (reads : List Cell) → Lists (run n).reads_atomically reads → ListsValues run n reads
  lists_values reads h = record { are_read = λ cell. (h cell).1; are_all = λ cell i l t v. (h cell).0 t }

  pub knows : (kept : Kept Cell) (takes reads : List Cell) → Lists (run n).takes takes → ListsValues run n reads
      → Follows run lane_at n kept → Tells lane_at n (λ i. Before run i n) (known kept (run n) takes reads)
  unfolding Over Joined
  knows kept takes reads ts rs f = tells_same run lane_at n _ _ _
      (λ i l h. by_lead run i n (elim h [
        | inl a ↦ elim a [
          | inl k ↦ (k.0, k.1, by_creation k.0 n k.2, k.3)
          | inr k ↦ (k.0, k.1, in_thread k.0 n k.2, k.3)
        ]
        | inr b ↦ elim b [
          | inl k ↦ (k.0, k.1, by_join k.0 n k.2, k.3)
          | inr c ↦ elim c [
            | inl k ↦ (k.0, k.1, by_mutex k.0 n k.2.0 k.2.2 ((ts k.2.0).1 k.2.1), k.3)
            | inr k ↦ (k.0, k.1, by_atomic k.0 n k.2.0 k.2.2.0 (rs.are_read k.2.0 k.2.1) k.2.2.1, k.3)
          ]
        ]
      ]))
      (λ i l b. let k = last_lead run b in elim (sorted k.2) [
        | inl a ↦ inl (elim a [ inl e ↦ inl (k.0, k.1, e, k.3) | inr e ↦ inr (k.0, k.1, e, k.3) ])
        | inr b ↦ inr (elim b [
          | inl e ↦ inl (k.0, k.1, e, k.3)
          | inr c ↦ inr (elim c [
            | inl m ↦ inl (k.0, k.1, (m.0, (ts m.0).0 m.1, m.2), k.3)
            | inr v ↦ inr (k.0, k.1, (v.0, rs.are_all v.0 k.0 k.1 v.1 v.2, v.2), k.3)
          ])
        ])
      ])
      (tells_joined run lane_at n _ _ _ _ (tells_joined run lane_at n _ _ _ _ (f.births (run n).thread) (f.threads (run n).thread))
      (tells_joined run lane_at n _ _ _ _ (tells_of_joined kept f (run n).joins)
      (tells_joined run lane_at n _ _ _ _ (tells_over (λ mutex i. (run i).releases mutex ≡ true) kept.mutexes f.mutexes takes) (tells_over (IsValue run n) kept.values f.values reads))))
