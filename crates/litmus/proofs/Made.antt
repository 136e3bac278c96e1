-- Threads that are made by the initial thread at points of their own.
use Rattle.std.proofs.Common.{◌≡◌, ◌⊎◌, ◌≢◌, inl, inr, refl, sym, subst, ap, ◌∙◌, Bool, true, false, not, ◌&&◌, ◌||◌, cond, ◌==◌, ℕ, List, [], ◌∷◌, length, Option, Some, None, eqb-true, arith}
use Rattle.std.proofs.lemmas.Grind.{common_steps}
use Rattle.std.specs.Prelude.{if◌then◌else◌}
use Rattle.std.specs.List.{list_any}
use Rattle.misra_base.specs.declared.guideline.Guideline.TheVariants.{D5_3}
use Rattle.c_program.specs.declared.program.Program.{Program}
use Rattle.c_program.specs.Control.{Point}
use Rattle.c_program.specs.Step.{Choice}
use Rattle.c_program.specs.Runs.{Moment, moment_of, moment_at, outcome_of}
use Rattle.c_program.specs.Breaks.{Breaks, creates, point_of}
use Rattle.c_program.proofs.Cells.{and_true}
use Rattle.c_program.proofs.Logic.{if_cases}

-- the actions of the creations of a run
abbrev creation_of : Option Moment → List ℕ → List ℕ
creation_of None actions = actions
creation_of (Some moment) actions = if creates moment.effect.sync then moment.move.action ∷ actions else actions

abbrev pub creations : Program → List Choice → List ℕ
creations program [] = []
creations program (choice ∷ run) = creation_of (moment_of choice run (outcome_of program choice run)) (creations program run)

abbrev is_among : ℕ → List ℕ → Bool
is_among n ns = list_any (λ m. n == m) ns

-- no creation, or one of the initial thread at an action of its own
abbrev pub is_first : Program → Option Moment → Bool
is_first program None = true
is_first program (Some moment) = not (creates moment.effect.sync) || ((moment.choice.thread == 0) && not (is_among moment.move.action (creations program moment.earlier)))

same : (a b : Moment) → Some a ≡ Some b → a ≡ b
same a b e = cc

pub first_or : (a b : Bool) → a ≡ true → (a || b) ≡ true
first_or true b e = refl
first_or false b e = absurd (cc)

pub second_or : (a b : Bool) → b ≡ true → (a || b) ≡ true
second_or true b e = refl
second_or false b e = e

pub equal : (n : ℕ) → (n == n) ≡ true
equal n = grind (arith, common_steps)

its_own : (own moment : Moment) (actions : List ℕ) → own ≡ moment → creates moment.effect.sync ≡ true → is_among moment.move.action (creation_of (Some own) actions) ≡ true
its_own own moment actions e c =
    subst (λ b. is_among moment.move.action (cond b (own.move.action ∷ actions) actions) ≡ true) (sym (ap (λ (m : Moment). creates m.effect.sync) e ∙ c))
    (first_or _ _ (subst (λ n. (moment.move.action == n) ≡ true) (sym (ap (λ (m : Moment). m.move.action) e)) (equal moment.move.action)))

kept_in : (o : Option Moment) (action : ℕ) (actions : List ℕ) → is_among action actions ≡ true → is_among action (creation_of o actions) ≡ true
kept_in None action actions e = e
kept_in (Some own) action actions e = go (creates own.effect.sync)
  where
    go : (b : Bool) → is_among action (cond b (own.move.action ∷ actions) actions) ≡ true
    go true = second_or (action == own.move.action) _ e
    go false = e

among : (program : Program) (run : List Choice) (i : ℕ) (moment : Moment) → moment_at program run i ≡ Some moment → creates moment.effect.sync ≡ true
    → is_among moment.move.action (creations program run) ≡ true
among program [] i moment e c = absurd (cc)
among program (choice ∷ run) i moment e c = if_cases (i == length run) _ _ _ e
    (λ a f. own (moment_of choice run (outcome_of program choice run)) f)
    (λ a f. kept_in (moment_of choice run (outcome_of program choice run)) _ _ (among program run i moment f c))
  where
    own : (o : Option Moment) → o ≡ Some moment → is_among moment.move.action (creation_of o (creations program run)) ≡ true
    own None f = absurd (cc)
    own (Some m) f = its_own m moment (creations program run) (same m moment f) c

not_both : (b : Bool) → not b ≡ true → b ≡ true → ⊥
not_both true e f = absurd (cc)
not_both false e f = absurd (cc)

pub or_cases : {C : Type 0} (a b : Bool) → (a || b) ≡ true → (a ≡ true → C) → (b ≡ true → C) → C
or_cases true b e f g = f refl
or_cases false b e f g = g e

pub keeps_once : (program : Program) (choice : Choice) (run : List Choice) → is_first program (moment_at program (choice ∷ run) (length run)) ≡ true → Breaks D5_3 program (choice ∷ run) → ⊥
keeps_once program choice run h (last, e, (made, why)) =
    or_cases _ _ (subst (λ o. is_first program o ≡ true) e h) (λ n. not_both _ n made) (λ n. let p = and_true _ _ n in other (eqb-true last.choice.thread 0 p.0) p.1 why)
  where
    other : last.choice.thread ≡ 0 → not (is_among last.move.action (creations program last.earlier)) ≡ true
        → ((last.choice.thread ≢ 0) ⊎ ((i : ℕ) × (first : Moment) × (moment_at program last.earlier i ≡ Some first) × (creates first.effect.sync ≡ true)
        × (point_of program first ≡ point_of program last))) → ⊥
    other z n (inl d) = d z
    other z n (inr (i, first, f, c, q)) = not_both _ n (subst (λ a. is_among a (creations program last.earlier) ≡ true) (ap (λ (p : Point). p.spot.action) q) (among program last.earlier i first f c))
