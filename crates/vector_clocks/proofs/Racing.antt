-- The kept accesses show exactly whether there is a race.
use Rattle.std.proofs.Common.{◌≡◌, inl, inr, refl, sym, subst, ◌∙◌, Bool, true, false, not, ◌&&◌, ◌||◌, ℕ, suc, ◌<◌, ◌↔◌, arith}
use Rattle.std.proofs.lemmas.Bool.{cases_lt}
use Rattle.vector_clocks.specs.Steps.{Step, Run, writes, accesses, accesses_plainly}
use Rattle.vector_clocks.specs.Happens.{Before, directly, in_thread, RacesAt}
use Rattle.vector_clocks.specs.Clocks.{Counts, steps_of, Tells}
use Rattle.vector_clocks.specs.Accesses.{Latest}
use Rattle.vector_clocks.specs.Kept.{Kept, Follows, HasRival}

-- the kind of accesses that conflict with a step's own one
kind_is : (a wa wb pa pb : Bool) → (a && (wa || not (not wb)) && (pa || not (not pb))) ≡ (a && (wa || wb) && (pa || pb))
kind_is a wa true pa true = refl
kind_is a wa true pa false = refl
kind_is a wa false pa true = refl
kind_is a wa false pa false = refl

three_true : (a b c : Bool) → (a && b && c) ≡ true → (a ≡ true) × (b ≡ true) × (c ≡ true)
three_true true true c e = (refl, refl, e)
three_true true false c e = absurd (cc)
three_true false b c e = absurd (cc)

all_true : (a b c : Bool) → a ≡ true → b ≡ true → c ≡ true → (a && b && c) ≡ true
all_true a b c e f g = rw e (rw f (rw g refl))

module _ {Cell : Type 0} (run : Run Cell) (lane_at : ℕ → ℕ) (n : ℕ) (clock : Counts) (knows : Tells lane_at n (λ i. Before run i n) clock) where
  pub unknown_latest : (is_kind : Step Cell → Bool) (last : Counts) (lane : ℕ) → Latest run lane_at n is_kind last → clock lane < last lane
      → (i : ℕ) × (i < n) × (is_kind (run i) ≡ true) × (Before run i n → ⊥)
  unknown_latest is_kind last lane l m = elim (l.found lane) [
    | inl z ↦ absurd (omega arith)
    | inr f ↦ (
      f.0,
      f.1,
      f.2,
      λ b.
          let k : steps_of lane_at (lane_at f.0) f.0 < clock (lane_at f.0) = (knows.exact f.0 f.1).0 b in
          let h : steps_of lane_at lane f.0 < clock lane = subst (λ t. steps_of lane_at t f.0 < clock t) f.3 k in
          let e : last lane ≡ suc (steps_of lane_at lane f.0) = f.4 in absurd (omega arith),
    )
  ]

  pub latest_unknown : (is_kind : Step Cell → Bool) (last : Counts) → Latest run lane_at n is_kind last → (i : ℕ) → i < n → is_kind (run i) ≡ true → (Before run i n → ⊥)
      → clock (lane_at i) < last (lane_at i)
  latest_unknown is_kind last l i m k not_before = elim (cases_lt (clock (lane_at i)) (last (lane_at i))) [
    | inl less ↦ less
    | inr more ↦ absurd (not_before ((knows.exact i m).1 (let c : steps_of lane_at (lane_at i) i < last (lane_at i) = l.covers i m k in omega arith)))
  ]

  pub races : (kept : Kept Cell) (cell : Cell) → Follows run lane_at n kept → RacesAt run n cell ↔ HasRival kept (run n) clock cell
  races kept cell f =
      let step : Step Cell = run n in
      let last = f.last (not (writes step cell)) (not (accesses_plainly step cell)) cell in (
        λ r. (r.3.1, (lane_at r.0, latest_unknown _ _ last r.0 r.1 (kind_is (accesses (run r.0) cell) (writes (run r.0) cell) (writes step cell) (accesses_plainly (run r.0) cell) (accesses_plainly step cell) ∙ all_true _ _ _ r.3.0 r.3.2 r.3.3) r.4)),
        λ h. (let u = unknown_latest _ _ h.1.0 last h.1.1 in
            let k = three_true _ _ _ (sym (kind_is (accesses (run u.0) cell) (writes (run u.0) cell) (writes step cell) (accesses_plainly (run u.0) cell) (accesses_plainly step cell)) ∙ u.2) in
            (u.0, u.1, (λ same. u.3 (directly u.0 n u.1 (in_thread u.0 n same))), (k.0, h.0, k.1, k.2), u.3)),
      )
