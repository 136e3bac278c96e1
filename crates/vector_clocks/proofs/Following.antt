-- What is kept follows the run.
use Rattle.std.proofs.Common.{◌≡◌, inl, inr, refl, sym, subst, ap, ◌∙◌, Bool, true, false, cond, ◌||◌, ℕ, suc, ◌<◌, ◌==◌, arith, eqb-true, eq-eqb, Option, Some, None}
use Rattle.std.proofs.lemmas.Bool.{eqb-false}
use Rattle.vector_clocks.specs.Steps.{Step, Run, writes}
use Rattle.vector_clocks.specs.Happens.{Before, directly, in_thread}
use Rattle.vector_clocks.specs.Clocks.{KeepsItsLane, Counts, nothing_known, put_at, ticked, steps_of, Known, Tells}
use Rattle.vector_clocks.specs.Accesses.{is_access, Latest}
use Rattle.vector_clocks.specs.Kept.{Kept, IsValue, Follows, names, moved}
use Rattle.vector_clocks.proofs.Cases.{by_test, tested, below_next}
use Rattle.vector_clocks.proofs.Order.{numbered_below}
use Rattle.vector_clocks.proofs.Telling.{UpTo, own, tells_same, tells_none, tells_ticked, tells_later, tells_added, tells_replaced}

pub named : (o : Option ℕ) (thread : ℕ) → names o thread ≡ true → o ≡ Some thread
named None thread e = absurd (cc)
named (Some k) thread e = ap (λ j. Some j) (eqb-true k thread e)

or_right : {b : Bool} (a : Bool) → b ≡ true → (a || b) ≡ true
or_right true e = refl
or_right false e = e

pub not_named : (o : Option ℕ) (thread : ℕ) → names o thread ≡ false → o ≡ Some thread → ⊥
not_named o thread e is = let t : names o thread ≡ true = ap (λ p. names p thread) is ∙ eq-eqb thread thread refl in absurd (cc)

module _ {Cell : Type 0} (run : Run Cell) (lane_at : ℕ → ℕ) (n : ℕ) where
  latest_same : (is_kind : Step Cell → Bool) (last : Counts) → is_kind (run n) ≡ false → Latest run lane_at n is_kind last → Latest run lane_at (suc n) is_kind last
  latest_same is_kind last is_not l = record {
    covers = λ i m k. elim (below_next i n m) [
      | inl e ↦ absurd (let y : is_kind (run n) ≡ true = subst (λ j. is_kind (run j) ≡ true) e k in cc)
      | inr less ↦ l.covers i less k
    ];
    found = λ lane. elim (l.found lane) [
      | inl z ↦ inl z
      | inr f ↦ inr (f.0, (let m : f.0 < n = f.1 in omega arith), f.2, f.3, f.4)
    ];
  }

  latest_put : (is_kind : Step Cell → Bool) (last : Counts) (count : ℕ) → is_kind (run n) ≡ true → count ≡ suc (steps_of lane_at (lane_at n) n)
      → Latest run lane_at n is_kind last → Latest run lane_at (suc n) is_kind (put_at last (lane_at n) count)
  latest_put is_kind last count is_so is l = record {
    covers = λ i m k. elim (below_next i n m) [
      | inl e ↦ subst (λ j. steps_of lane_at (lane_at j) j < put_at last (lane_at n) count (lane_at j)) (sym e) here
      | inr less ↦ by_test (λ c. steps_of lane_at (lane_at i) i < c) ((lane_at n) == (lane_at i)) _ _
          (λ same. let s : (lane_at n) ≡ (lane_at i) = eqb-true (lane_at n) (lane_at i) same in
          let c : count ≡ suc (steps_of lane_at (lane_at i) n) = subst (λ t. count ≡ suc (steps_of lane_at t n)) s is in
          let b : steps_of lane_at (lane_at i) i < steps_of lane_at (lane_at i) n = numbered_below lane_at i n less in omega arith)
          (λ _. l.covers i less k)
    ];
    found = λ lane. tested ((lane_at n) == lane)
        (λ same. let s : (lane_at n) ≡ lane = eqb-true (lane_at n) lane same in
        inr (n, omega arith, is_so, s, ap (λ b. cond b count (last lane)) same ∙ subst (λ t. count ≡ suc (steps_of lane_at t n)) s is))
        (λ other. let e : put_at last (lane_at n) count lane ≡ last lane = ap (λ b. cond b count (last lane)) other in
        elim (l.found lane) [
          | inl z ↦ inl (e ∙ z)
          | inr f ↦ inr (f.0, (let m : f.0 < n = f.1 in omega arith), f.2, f.3, e ∙ f.4)
        ]);
  }
    where
      here : steps_of lane_at (lane_at n) n < put_at last (lane_at n) count (lane_at n)
      here = subst (λ b. steps_of lane_at (lane_at n) n < cond b count (last (lane_at n))) (sym (eq-eqb (lane_at n) (lane_at n) refl)) (omega (arith, is))

  -- the values of a cell after the step
  module _ (cell : Cell) where
    value_stays : (i : ℕ) → i < n → writes (run n) cell ≡ false → IsValue run n cell i → IsValue run (suc n) cell i
    value_stays i l is_not v = (
      v.0,
      λ k a b. elim (below_next k n b) [
        | inl e ↦ subst (λ j. writes (run j) cell ≡ false) (sym e) is_not
        | inr less ↦ v.1 k a less
      ],
    )

    value_stood : (i : ℕ) → IsValue run (suc n) cell i → IsValue run n cell i
    value_stood i v = (v.0, λ k a b. v.1 k a (omega arith))

    no_older_value : (i : ℕ) → i < n → writes (run n) cell ≡ true → IsValue run (suc n) cell i → ⊥
    no_older_value i l is_so v = let is_not : writes (run n) cell ≡ false = v.1 n l (omega arith) in absurd (cc)

    value_moves : (now : Counts) → Tells lane_at (suc n) (UpTo run lane_at n) now → (clock : Counts) → Tells lane_at n (Known run n (IsValue run n cell)) clock
        → Tells lane_at (suc n) (Known run (suc n) (IsValue run (suc n) cell)) (cond ((run n).writes_atomically cell) now (cond ((run n).writes_plainly cell) nothing_known clock))
    value_moves now u clock t =
        let Value : ℕ → Type 0 = IsValue run (suc n) cell in
        by_test (λ c. Tells lane_at (suc n) (Known run (suc n) Value) c) ((run n).writes_atomically cell) _ _
        (λ atomic. tells_replaced run lane_at n Value now (atomic, λ k a b. absurd (omega arith))
        (λ j l v. absurd (no_older_value j l (or_right ((run n).writes_plainly cell) atomic) v)) u)
        (λ not_atomic. by_test (λ c. Tells lane_at (suc n) (Known run (suc n) Value) c) ((run n).writes_plainly cell) _ _
        (λ plain. tells_none run lane_at (suc n) (Known run (suc n) Value) (λ i l k. elim (below_next k.0 n k.1) [
          | inl e ↦ (let is_so : (run n).writes_atomically cell ≡ true = subst (λ j. (run j).writes_atomically cell ≡ true) e k.2.0 in absurd (cc))
          | inr less ↦ no_older_value k.0 less (ap (λ b. b || (run n).writes_atomically cell) plain) k.2
        ]))
        (λ not_plain. tells_later run lane_at n Value clock (λ v. let is_so : (run n).writes_atomically cell ≡ true = v.0 in absurd (cc))
        (tells_same run lane_at n _ _ _
        (λ i l k. (k.0, k.1, value_stays k.0 k.1 (ap (λ b. b || (run n).writes_atomically cell) not_plain ∙ not_atomic) k.2, k.3))
        (λ i l k. (k.0, k.1, value_stood k.0 k.2, k.3)) t)))

  knows_itself : (known : Counts) → KeepsItsLane run lane_at n → Tells lane_at n (λ i. Before run i n) known → ticked (lane_at n) known (lane_at n) ≡ suc (steps_of lane_at (lane_at n) n)
  knows_itself known laned t = ap (λ b. cond b (suc (known (lane_at n))) (known (lane_at n))) (eq-eqb (lane_at n) (lane_at n) refl) ∙ ap (λ k. suc k) (own run lane_at n known laned t)

  pub follows_on : (kept : Kept Cell) (known : Counts) → KeepsItsLane run lane_at n → Follows run lane_at n kept → Tells lane_at n (λ i. Before run i n) known
      → Follows run lane_at (suc n) (moved kept (run n) (lane_at n) (ticked (lane_at n) known))
  follows_on kept known laned f t =
      let now : Counts = ticked (lane_at n) known in
      let u : Tells lane_at (suc n) (UpTo run lane_at n) now = tells_ticked run lane_at n known laned t in
      record {
        births = λ thread. let Makes : ℕ → Type 0 = λ i. (run i).makes ≡ Some thread in
            by_test (λ c. Tells lane_at (suc n) (Known run (suc n) Makes) c) (names (run n).makes thread) _ _
            (λ is_so. tells_added run lane_at n Makes (kept.births thread) now (named _ _ is_so) (f.births thread) u)
            (λ is_not. tells_later run lane_at n Makes (kept.births thread) (not_named _ _ is_not) (f.births thread));
        threads = λ thread. let Moves : ℕ → Type 0 = λ i. (run i).thread ≡ thread in
            by_test (λ c. Tells lane_at (suc n) (Known run (suc n) Moves) c) ((run n).thread == thread) _ _
            (λ is_so. let here : (run n).thread ≡ thread = eqb-true _ _ is_so in
            tells_replaced run lane_at n Moves now here (λ j l same. directly j n l (in_thread j n (same ∙ sym here))) u)
            (λ is_not. tells_later run lane_at n Moves (kept.threads thread) (eqb-false _ _ is_not) (f.threads thread));
        mutexes = λ mutex. let Releases : ℕ → Type 0 = λ i. (run i).releases mutex ≡ true in
            by_test (λ c. Tells lane_at (suc n) (Known run (suc n) Releases) c) ((run n).releases mutex) _ _
            (λ is_so. tells_added run lane_at n Releases (kept.mutexes mutex) now is_so (f.mutexes mutex) u)
            (λ is_not. tells_later run lane_at n Releases (kept.mutexes mutex) (λ is_so. absurd (cc)) (f.mutexes mutex));
        values = λ cell. value_moves cell now u (kept.values cell) (f.values cell);
        last = λ w p cell. by_test (λ c. Latest run lane_at (suc n) (is_access w p cell) c) (is_access w p cell (run n)) _ _
            (λ is_so. latest_put (is_access w p cell) (kept.last w p cell) (now (lane_at n)) is_so (knows_itself known laned t) (f.last w p cell))
            (λ is_not. latest_same (is_access w p cell) (kept.last w p cell) is_not (f.last w p cell));
      }
