-- The program of two counted loops is well-formed.
use Rattle.std.proofs.Common.{◌≡◌, refl, ℕ, zero, suc, true, false, []}
use Rattle.std.specs.List.{list_any}
use Rattle.c_program.specs.declared.program.Initial.{Initial}
use Rattle.c_program.specs.Syntax.{act_at, body_at}
use Rattle.c_program.specs.State.{initial_of}
use Rattle.c_program.specs.Counters.{IsUnaddressed, addresses, expressions_of, IsHead, Counts, CountsWell, has_few_turns}
use Rattle.c_program.specs.WellFormed.{IsWellFormed}
use Rattle.litmus.specs.Runs.{four_turns, counted_from}

not_addressed : IsUnaddressed four_turns 2
unfolding act_at
not_addressed = record { actions = actions; initials = initials }
  where
    actions : (n : ℕ) → list_any (addresses 2) (expressions_of (act_at four_turns n)) ≡ false
    actions zero = refl
    actions (suc zero) = refl
    actions (suc (suc zero)) = refl
    actions (suc (suc (suc zero))) = refl
    actions (suc (suc (suc (suc zero)))) = refl
    actions (suc (suc (suc (suc (suc zero))))) = refl
    actions (suc (suc (suc (suc (suc (suc zero)))))) = refl
    actions (suc (suc (suc (suc (suc (suc (suc zero))))))) = refl
    actions (suc (suc (suc (suc (suc (suc (suc (suc zero)))))))) = refl
    actions (suc (suc (suc (suc (suc (suc (suc (suc (suc zero))))))))) = refl
    actions (suc (suc (suc (suc (suc (suc (suc (suc (suc (suc zero)))))))))) = refl
    actions (suc (suc (suc (suc (suc (suc (suc (suc (suc (suc (suc zero))))))))))) = refl
    actions (suc (suc (suc (suc (suc (suc (suc (suc (suc (suc (suc (suc n)))))))))))) = refl

    initials : (n : ℕ) → list_any (λ (part : Initial). addresses 2 part.value) (initial_of four_turns n) ≡ false
    initials zero = refl
    initials (suc zero) = refl
    initials (suc (suc zero)) = refl
    initials (suc (suc (suc n))) = refl

head : IsHead four_turns (counted_from 3)
unfolding act_at
head = record { starts = refl; tests = refl; steps = refl; least = refl; greatest = refl; automatic = refl; is_int = refl; unaddressed = not_addressed }

other_head : IsHead four_turns (counted_from 7)
unfolding act_at
other_head = record { starts = refl; tests = refl; steps = refl; least = refl; greatest = refl; automatic = refl; is_int = refl; unaddressed = not_addressed }

counts : CountsWell four_turns
unfolding act_at
counts = record { counts = bodies; few = few }
  where
    bodies : (function : ℕ) → Counts four_turns [] (body_at four_turns function)
    bodies zero = (refl, (refl, tt))
    bodies (suc zero) = (refl, ((head, refl, refl), ((other_head, refl, refl), (refl, tt))))
    bodies (suc (suc n)) = tt

    few : (function : ℕ) → has_few_turns 1 (body_at four_turns function) ≡ true
    few zero = refl
    few (suc zero) = refl
    few (suc (suc n)) = refl

pub is_well_formed : IsWellFormed four_turns
unfolding act_at
is_well_formed = record {
  differ = refl;
  numbered = refl;
  fit = refl;
  leads_on = refl;
  objects = refl;
  functions = refl;
  actions = refl;
  structures = refl;
  timespec = refl;
  main = refl;
  typed = refl;
  declarations = refl;
  fresh = refl;
  counts = counts;
}
