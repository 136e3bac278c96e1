-- Two writes of one object by two threads, not ordered.
use Rattle.std.proofs.Common.{◌≡◌, refl, sym, subst, ap, ◌∙◌, ℕ, ◌<◌, true, false, ◌==◌, List, [], ◌∷◌, Some, None, arith, eqb-true}
use Rattle.misra_base.specs.declared.guideline.Guideline.TheVariants.{D5_1}
use Rattle.c_program.specs.Values.{Cell, Static}
use Rattle.c_program.specs.Requests.{Goes}
use Rattle.c_program.specs.Effects.{Nothing, after}
use Rattle.c_program.specs.Step.{Choice}
use Rattle.c_program.specs.Runs.{Moment, moment_at, Pair}
use Rattle.c_program.specs.Happens.{Before, in_thread, by_creation, by_join, by_mutex, by_atomic, through, made_thread, joined_thread, releases, writes_atomically, state_at}
use Rattle.c_program.specs.Breaks.{Breaks}
use Rattle.c_program.proofs.Build.{computes, the}
use Rattle.litmus.specs.Pieces.{goes, answers}
use Rattle.litmus.specs.Guidelines.{two_writes}
use Rattle.c_program.proofs.Logic.{if_cases}

abbrev run : List Choice
run = goes 1 ∷ goes 0 ∷ answers 0 0 ∷ []

abbrev x : Cell
x = record { root = Static 6; path = [] }

abbrev none : Moment
none = record { choice = goes 0; earlier = []; move = record { action = 0; left = [] }; effect = record { loads = []; stores = []; used = []; sync = Nothing; turn = Goes } }

abbrev at : ℕ → Moment
at k = the none (moment_at two_writes run k)

same_moment : (a b : Moment) → Some a ≡ Some b → a ≡ b
same_moment a b e = cc

-- a step at a position is one of the three
step_cases : {C : Type 0} (k : ℕ) (moment : Moment) → moment_at two_writes run k ≡ Some moment → (k ≡ 2 → C) → (k ≡ 1 → C) → (k ≡ 0 → C) → C
unfolding computes
step_cases k moment e two one zero = if_cases (k == 2) _ _ _ e (λ a _. two (eqb-true k 2 a)) (λ _ f.
    if_cases (k == 1) _ _ _ f (λ a _. one (eqb-true k 1 a)) (λ _ g.
    if_cases (k == 0) _ _ _ g (λ a _. zero (eqb-true k 0 a)) (λ _ h. absurd (cc))))

-- two steps of the run: the earlier one is the first, or they are the two writes
pair_cases : {C : Type 0} (i j : ℕ) (steps : Pair two_writes run i j) → (i ≡ 0 → C) → (i ≡ 1 → j ≡ 2 → C) → C
pair_cases i j steps first writes = step_cases i steps.first steps.at_first
    (λ a. step_cases j steps.second steps.at_second (λ b. absurd (let l : i < j = steps.earlier in omega arith)) (λ b. absurd (let l : i < j = steps.earlier in omega arith)) (λ b. absurd (let l : i < j = steps.earlier in omega arith)))
    (λ a. step_cases j steps.second steps.at_second (writes a) (λ b. absurd (let l : i < j = steps.earlier in omega arith)) (λ b. absurd (let l : i < j = steps.earlier in omega arith)))
    (λ a. first a)

at_place : (k n : ℕ) (moment : Moment) → moment_at two_writes run k ≡ Some moment → k ≡ n → moment_at two_writes run n ≡ Some (at n) → moment ≡ at n
at_place k n moment e same there = same_moment moment (at n) (sym (subst (λ i. moment_at two_writes run i ≡ Some moment) same e) ∙ there)

is_write : (i j : ℕ) (steps : Pair two_writes run i j) → i ≡ 1 → steps.first ≡ at 1
unfolding computes
is_write i j steps e = at_place i 1 steps.first steps.at_first e refl

is_other : (i j : ℕ) (steps : Pair two_writes run i j) → j ≡ 2 → steps.second ≡ at 2
unfolding computes
is_other i j steps e = at_place j 2 steps.second steps.at_second e refl

-- only the first step happens before another one
only_first : (i j : ℕ) → Before two_writes run i j → i ≡ 0
unfolding computes
only_first _ _ (in_thread i j steps e) = pair_cases i j steps (λ a. a) (λ a b. absurd (
    let f : 0 ≡ 1 = ap (λ (m : Moment). m.choice.thread) (sym (is_write i j steps a)) ∙ e ∙ ap (λ (m : Moment). m.choice.thread) (is_other i j steps b) in omega arith))
only_first _ _ (by_creation i j steps e) = pair_cases i j steps (λ a. a) (λ a b. absurd (
    let f : None ≡ Some steps.second.choice.thread = subst (λ (m : Moment). made_thread m.effect.sync (state_at two_writes m).made ≡ Some steps.second.choice.thread) (is_write i j steps a) e in cc))
only_first _ _ (by_join i j steps e) = pair_cases i j steps (λ a. a) (λ a b. absurd (
    let f : None ≡ Some steps.first.choice.thread = subst (λ (m : Moment). joined_thread m.effect.sync ≡ Some steps.first.choice.thread) (is_other i j steps b) e in cc))
only_first _ _ (by_mutex i j steps m r t) = pair_cases i j steps (λ a. a) (λ a b. absurd (
    let f : false ≡ true = subst (λ (n : Moment). releases n.effect.sync n.choice.thread ((state_at two_writes n).mutex m) m ≡ true) (is_write i j steps a) r in cc))
only_first _ _ (by_atomic i j steps c w r between) = pair_cases i j steps (λ a. a) (λ a b. absurd (
    let f : false ≡ true = subst (λ (n : Moment). writes_atomically n.effect c ≡ true) (is_write i j steps a) w in cc))
only_first _ _ (through i k j before after) = only_first i k before

pub breaks : Breaks D5_1 two_writes run
unfolding computes
breaks = (at 2, refl, (1, at 1, x, refl, (λ e. let f : 0 ≡ 1 = e in omega arith), refl, refl, (refl, refl, refl, refl), λ before. let e : 1 ≡ 0 = only_first 1 2 before in omega arith))
