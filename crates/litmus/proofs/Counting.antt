-- Two threads that count under a mutex, one after the other: no step breaks a guideline.
use Rattle.std.proofs.Common.{◌≡◌, inl, inr, refl, sym, subst, ◌∙◌, true, false, drop, ℕ, suc, ◌-◌, ◌<◌, List, [], ◌∷◌, Option, Some, None, arith}
use Rattle.std.specs.Prelude.{is_some}
use Rattle.c_program.specs.Effects.{Nothing}
use Rattle.c_program.specs.Requests.{Goes}
use Rattle.c_program.specs.Step.{Choice}
use Rattle.c_program.specs.Runs.{Moment, Pair, moment_at}
use Rattle.c_program.specs.Happens.{Before, in_thread, by_mutex, through, releases, takes, state_at}
use Rattle.c_program.proofs.Build.{computes, the}
use Rattle.litmus.specs.Pieces.{goes}
use Rattle.litmus.specs.Runs.{counting, counting_schedule, static_cell}
use Rattle.litmus.proofs.Shared.{AllOf, Settled, shared_at, sharing}

-- the first steps of the schedule, last first
abbrev first_steps : ℕ → List Choice
first_steps n = drop (20 - n) counting_schedule

abbrev none : Moment
none = record { choice = goes 0; earlier = []; move = record { action = 0; left = [] }; effect = record { loads = []; stores = []; used = []; sync = Nothing; turn = Goes } }

abbrev at : ℕ → ℕ → Moment
at n k = the none (moment_at counting (first_steps n) k)

there : (o : Option Moment) → is_some o ≡ true → o ≡ Some (the none o)
there None e = absurd (cc)
there (Some moment) e = refl

-- two steps of which there are moments
abbrev pair : (n i j : ℕ) → i < j → is_some (moment_at counting (first_steps n) i) ≡ true → is_some (moment_at counting (first_steps n) j) ≡ true → Pair counting (first_steps n) i j
pair n i j l e f = record {
  first = at n i;
  second = at n j;
  earlier = l;
  at_first = there (moment_at counting (first_steps n) i) e;
  at_second = there (moment_at counting (first_steps n) j) f;
}

-- the step at a position, and its thread
record StepOf (n k thread : ℕ) : Type 0 where
  has : is_some (moment_at counting (first_steps n) k) ≡ true
  by : (at n k).choice.thread ≡ thread

in_order : (n i j thread : ℕ) → i < j → StepOf n i thread → StepOf n j thread → Before counting (first_steps n) i j
in_order n i j thread l a b = in_thread i j (pair n i j l a.has b.has) (a.by ∙ sym b.by)

-- the first thread gives the mutex at 8, and the second one takes it at 11
record IsHanded (n : ℕ) : Type 0 where
  given : StepOf n 8 1
  taken : StepOf n 11 2
  gives : releases (at n 8).effect.sync (at n 8).choice.thread ((state_at counting (at n 8)).mutex (static_cell 0)) (static_cell 0) ≡ true
  takes_it : takes (at n 11).effect.sync (static_cell 0) ≡ true

handed : (n i j : ℕ) → i < 8 → 11 < j → IsHanded n → StepOf n i 1 → StepOf n j 2 → Before counting (first_steps n) i j
handed n i j l m h a b = through i 8 j (in_order n i 8 1 l a h.given)
    (through 8 11 j (by_mutex 8 11 (pair n 8 11 (omega arith) h.given.has h.taken.has) (static_cell 0) h.gives h.takes_it) (in_order n 11 j 2 m h.taken b))

-- the first thread reads and writes at 6 and 7, and the second one at 12 and 13
first_read : StepOf 8 6 1
unfolding computes
first_read = record { has = refl; by = refl }

first_write : StepOf 8 7 1
unfolding computes
first_write = record { has = refl; by = refl }

handed_13 : IsHanded 13
unfolding computes
handed_13 = record { given = record { has = refl; by = refl }; taken = record { has = refl; by = refl }; gives = refl; takes_it = refl }

read_13 : StepOf 13 6 1
unfolding computes
read_13 = record { has = refl; by = refl }

write_13 : StepOf 13 7 1
unfolding computes
write_13 = record { has = refl; by = refl }

own_read_13 : StepOf 13 12 2
unfolding computes
own_read_13 = record { has = refl; by = refl }

handed_14 : IsHanded 14
unfolding computes
handed_14 = record { given = record { has = refl; by = refl }; taken = record { has = refl; by = refl }; gives = refl; takes_it = refl }

read_14 : StepOf 14 6 1
unfolding computes
read_14 = record { has = refl; by = refl }

write_14 : StepOf 14 7 1
unfolding computes
write_14 = record { has = refl; by = refl }

own_read_14 : StepOf 14 12 2
unfolding computes
own_read_14 = record { has = refl; by = refl }

own_write_14 : StepOf 14 13 2
unfolding computes
own_write_14 = record { has = refl; by = refl }

-- ---- the steps that share objects, and those that share none

shares_7 : sharing counting (first_steps 7) ≡ 6 ∷ []
unfolding computes
shares_7 = refl

shares_12 : sharing counting (first_steps 12) ≡ 7 ∷ 6 ∷ []
unfolding computes
shares_12 = refl

shares_13 : sharing counting (first_steps 13) ≡ 12 ∷ 7 ∷ 6 ∷ []
unfolding computes
shares_13 = refl

shares_6 : sharing counting (first_steps 6) ≡ []
unfolding computes
shares_6 = refl

abbrev IsQuiet : ℕ → Type 0
IsQuiet k = shared_at (moment_at counting (first_steps (suc k)) k) ≡ false

quiet : IsQuiet 0 × IsQuiet 1 × IsQuiet 2 × IsQuiet 3 × IsQuiet 4 × IsQuiet 5
unfolding computes
quiet = (refl, refl, refl, refl, refl, refl)

quiet_between : IsQuiet 8 × IsQuiet 9 × IsQuiet 10 × IsQuiet 11
unfolding computes
quiet_between = (refl, refl, refl, refl)

quiet_behind : IsQuiet 14 × IsQuiet 15 × IsQuiet 16 × IsQuiet 17 × IsQuiet 18 × IsQuiet 19
unfolding computes
quiet_behind = (refl, refl, refl, refl, refl, refl)

abbrev AreBefore : ℕ → ℕ → List ℕ → Type 0
AreBefore n k = AllOf (λ i. Before counting (first_steps n) i k)

at_6 : AreBefore 7 6 (sharing counting (first_steps 6))
at_6 = subst (AreBefore 7 6) (sym shares_6) tt

at_7 : AreBefore 8 7 (sharing counting (first_steps 7))
at_7 = subst (AreBefore 8 7) (sym shares_7) (in_order 8 6 7 1 (omega arith) first_read first_write, tt)

at_12 : AreBefore 13 12 (sharing counting (first_steps 12))
at_12 = subst (AreBefore 13 12) (sym shares_12) (handed 13 7 12 (omega arith) (omega arith) handed_13 write_13 own_read_13, (handed 13 6 12 (omega arith) (omega arith) handed_13 read_13 own_read_13, tt))

at_13 : AreBefore 14 13 (sharing counting (first_steps 13))
at_13 = subst (AreBefore 14 13) (sym shares_13) (
  in_order 14 12 13 2 (omega arith) own_read_14 own_write_14,
  (handed 14 7 13 (omega arith) (omega arith) handed_14 write_14 own_write_14, (handed 14 6 13 (omega arith) (omega arith) handed_14 read_14 own_write_14, tt)),
)

pub settled : Settled counting counting_schedule
settled = (
  inl quiet_behind.5,
  (
    inl quiet_behind.4,
    (
      inl quiet_behind.3,
      (
        inl quiet_behind.2,
        (
          inl quiet_behind.1,
          (
            inl quiet_behind.0,
            (
              inr at_13,
              (
                inr at_12,
                (
                  inl quiet_between.3,
                  (
                    inl quiet_between.2,
                    (
                      inl quiet_between.1,
                      (
                        inl quiet_between.0,
                        (
                          inr at_7,
                          (
                            inr at_6,
                            (inl quiet.5, (inl quiet.4, (inl quiet.3, (inl quiet.2, (inl quiet.1, (inl quiet.0, tt)))))),
                          ),
                        ),
                      ),
                    ),
                  ),
                ),
              ),
            ),
          ),
        ),
      ),
    ),
  ),
)
