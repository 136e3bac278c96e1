-- Where Directive 5.3 has no finding, no run breaks it.
use Rattle.std.proofs.Common.{◌≡◌, ◌≢◌, ◌⊎◌, inl, inr, refl, subst, Bool, true, false, ℕ, ◌<◌, ◌==◌, List, [], ◌∷◌, length, Some, eqb-true, eq-eqb}
use Rattle.misra_base.specs.declared.guideline.Guideline.TheVariants.{D5_3}
use Rattle.c_program.specs.declared.program.Program.{Program}
use Rattle.c_program.specs.Values.{Cell}
use Rattle.c_program.specs.Control.{Spot, Point}
use Rattle.c_program.specs.Syntax.{act_at}
use Rattle.c_program.specs.Effects.{Sync, Makes}
use Rattle.c_program.specs.Step.{Choice}
use Rattle.c_program.specs.Runs.{IsGoodRun, IsRun, Moment, moment_at}
use Rattle.c_program.specs.Breaks.{Breaks, creates, point_of}
use Rattle.c_program.specs.WellFormed.{IsWellFormed}
use Rattle.static_facts.proofs.Moments.{step_of, moment_is, last_by, at_within, at_longer}
use Rattle.guideline_findings.specs.Threads.{CreatesOutside, CreatesRepeatedly}
use Rattle.static_facts.specs.ThreadLaws.{origin_of}
use Rattle.static_facts.proofs.Births.{initial_moves, initial_moment}
use Rattle.static_facts.proofs.Stopping.{moment_point, no_second, IsNoWait}
use Rattle.static_facts.proofs.Making.{creates_here}
use Rattle.static_facts.proofs.Reaching.{moment_reachable, good_now}
use Rattle.c_program.specs.Paths.{IsPoint}
use Rattle.static_facts.specs.Points.{IsReachable, is_creation}

makes_by : (sync : Sync) → creates sync ≡ true → (c : Cell) × ((f : ℕ) × (sync ≡ Makes c f))
makes_by (Makes object f) e = (object, (f, refl))
makes_by _ e = absurd (cc)

no_wait : (sync : Sync) → creates sync ≡ true → IsNoWait sync
no_wait (Makes object f) e = tt
no_wait _ e = absurd (cc)

module _ (program : Program) (well : IsWellFormed program) (none_outside : (thread : List Spot) (point : Point) → CreatesOutside program thread point → ⊥)
    (none_repeated : (point : Point) → CreatesRepeatedly program point → ⊥) where
  module _ (run : List Choice) (good : IsGoodRun program run) where
    creation : (i : ℕ) (m : Moment) → moment_at program run i ≡ Some m → creates m.effect.sync ≡ true → is_creation (act_at program (point_of program m).spot.action) ≡ true
    creation i m a e = let s = moment_is program run i m good a in let y = makes_by m.effect.sync e in
        creates_here program well m.choice m.earlier (step_of program m s) y.0 y.1.0 y.1.1

    -- who creates is the initial thread
    by_initial : (i : ℕ) (m : Moment) → moment_at program run i ≡ Some m → creates m.effect.sync ≡ true → m.choice.thread ≢ 0 → ⊥
    by_initial i m a e n = none_outside (origin_of program m) (point_of program m) (record {
      reachable = moment_reachable program well m (moment_is program run i m good a);
      creates = creation i m a e;
      elsewhere = λ o. n (initial_moves program well run i m good a o);
    })

    initial_one : (i : ℕ) (m : Moment) → moment_at program run i ≡ Some m → creates m.effect.sync ≡ true → m.choice.thread ≡ 0
    initial_one i m a e = go (m.choice.thread == 0) refl
      where
        go : (b : Bool) → (m.choice.thread == 0) ≡ b → m.choice.thread ≡ 0
        go true q = eqb-true m.choice.thread 0 q
        go false q = absurd (by_initial i m a e (λ z. let f : (m.choice.thread == 0) ≡ true = eq-eqb m.choice.thread 0 z in cc))

    once : (i j : ℕ) (m n : Moment) → moment_at program run i ≡ Some m → moment_at program run j ≡ Some n → i < j → creates m.effect.sync ≡ true → creates n.effect.sync ≡ true
        → point_of program m ≡ point_of program n → ⊥
    once i j m n a b l e f p = let z = initial_moment program well run j n good b (initial_one j n b f) in
        let is_point = subst (λ (o : List Spot). IsPoint program o (point_of program n)) z (moment_point program well run j n good b) in
        no_second program well run i j m n (point_of program n) good is_point
        (λ c. none_repeated (point_of program n) (record {
          reachable = subst (λ (o : List Spot). IsReachable program o (point_of program n)) z (moment_reachable program well n (moment_is program run j n good b));
          creates = creation j n b f;
          cyclic = c;
        })) l a b p refl (no_wait m.effect.sync e)

pub silent_5_3 : (program : Program) → IsWellFormed program → ((thread : List Spot) (point : Point) → CreatesOutside program thread point → ⊥) → ((point : Point) → CreatesRepeatedly program point → ⊥)
    → (run : List Choice) → IsRun program run → Breaks D5_3 program run → ⊥
silent_5_3 program well none_outside none_repeated [] r b = b
silent_5_3 program well none_outside none_repeated (choice ∷ run) r b = go b.0 b.1 b.2.0 b.2.1
  where
    go : (last : Moment) → moment_at program (choice ∷ run) (length run) ≡ Some last → creates last.effect.sync ≡ true
        → (last.choice.thread ≢ 0) ⊎ ((i : ℕ) × (first : Moment) × (moment_at program last.earlier i ≡ Some first) × (creates first.effect.sync ≡ true) × (point_of program first ≡ point_of program last)) → ⊥
    go last at e (inl n) = by_initial program well none_outside none_repeated (choice ∷ run) (good_now program choice run last r.0 at) (length run) last at e n
    go last at e (inr k) = let record { 0 = i; 1 = first; 2 = a; 3 = f; 4 = p } = k in
        let g = subst (λ (xs : List Choice). moment_at program xs i ≡ Some first) (last_by program choice run last r.0 at).1 a in
        once program well none_outside none_repeated (choice ∷ run) (good_now program choice run last r.0 at) i (length run) first last
        (at_longer program choice run i first g) at (at_within program run i first g) f e p
