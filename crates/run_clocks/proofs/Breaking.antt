-- A run breaks Dir 5.1 exactly where its steps race on a data cell.
use Rattle.std.proofs.Common.{◌≡◌, ◌≢◌, inl, inr, refl, sym, subst, ap, ◌∙◌, true, false, cond, ℕ, suc, ◌<◌, ◌==◌, ◌↔◌, List, [], ◌∷◌, Option, Some, None, length, arith, eqb-true, eq-eqb}
use Rattle.std.proofs.lemmas.Bool.{ne_eqb}
use Rattle.misra_base.specs.declared.guideline.Guideline.TheVariants.{D5_1}
use Rattle.c_program.specs.declared.program.Program.{Program}
use Rattle.c_program.specs.Values.{Cell}
use Rattle.c_program.specs.Step.{Choice, Outcome, No_step, Undefined, Does}
use Rattle.c_program.specs.Runs.{Moment, moment_at, moment_of, outcome_of, IsGoodRun, HasMeaning}
use Rattle.c_program.specs.Happens as meaning
use Rattle.c_program.specs.Breaks.{BreaksBy}
use Rattle.vector_clocks.specs.Steps.{Step, accesses}
use Rattle.vector_clocks.specs.Happens.{Conflict}
use Rattle.vector_clocks.proofs.Cases.{tested, below_next}
use Rattle.run_clocks.specs.Moments.{step_of, step_at, run_of, HasMoments, RacesOnData}
use Rattle.run_clocks.proofs.Moments.{is_step, before_steps, before_moments, conflicts}

module _ (program : Program) where
  earlier_of : (choice : Choice) (earlier : List Choice) (outcome : Outcome) (m : Moment) → moment_of choice earlier outcome ≡ Some m → m.earlier ≡ earlier
  earlier_of choice earlier No_step m e = absurd (cc)
  earlier_of choice earlier Undefined m e = absurd (cc)
  earlier_of choice earlier (Does move effect) m e = let is : record { choice = choice; earlier = earlier; move = move; effect = effect } ≡ m = cc in ap (λ (x : Moment). x.earlier) (sym is)

  -- a moment stands at the number of the choices before it
  place : (choices : List Choice) (i : ℕ) (m : Moment) → moment_at program choices i ≡ Some m → (length m.earlier ≡ i) × (i < length choices)
  place [] i m e = absurd (cc)
  place (choice ∷ choices) i m e = tested (i == length choices)
      (λ here. let f : moment_of choice choices (outcome_of program choice choices) ≡ Some m =
      sym (ap (λ b. cond b (moment_of choice choices (outcome_of program choice choices)) (moment_at program choices i)) here) ∙ e in
      let at : i ≡ length choices = eqb-true i (length choices) here in
      (ap (λ cs. length cs) (earlier_of choice choices _ m f) ∙ sym at, omega arith))
      (λ there. let f : moment_at program choices i ≡ Some m =
      sym (ap (λ b. cond b (moment_of choice choices (outcome_of program choice choices)) (moment_at program choices i)) there) ∙ e in
      let p : (length m.earlier ≡ i) × (i < length choices) = place choices i m f in (p.0, (let l : i < length choices = p.1 in omega arith)))

  at_longer : (choice : Choice) (choices : List Choice) (i : ℕ) → i < length choices → moment_at program (choice ∷ choices) i ≡ moment_at program choices i
  at_longer choice choices i l = ap (λ b. cond b (moment_of choice choices (outcome_of program choice choices)) (moment_at program choices i))
      (ne_eqb i (length choices) (λ e. omega arith))

  has_moment : (choice : Choice) (choices : List Choice) (outcome : Outcome) → HasMeaning outcome → (m : Moment) × (moment_of choice choices outcome ≡ Some m)
  has_moment choice choices No_step h = absurd h
  has_moment choice choices Undefined h = absurd h
  has_moment choice choices (Does move effect) h = (record { choice = choice; earlier = choices; move = move; effect = effect }, refl)

  -- the steps of a good run have moments
  pub moments : (choices : List Choice) → IsGoodRun program choices → HasMoments program choices (length choices)
  moments [] good i l = absurd (omega (arith, l))
  moments (choice ∷ choices) good i l = elim (below_next i (length choices) l) [
    | inl e ↦ (let m = has_moment choice choices (outcome_of program choice choices) good.1 in
        (m.0, ap (λ b. cond b (moment_of choice choices (outcome_of program choice choices)) (moment_at program choices i)) (eq-eqb i (length choices) e) ∙ m.1))
    | inr less ↦ (let m = moments choices good.0 i less in (m.0, at_longer choice choices i less ∙ m.1))
  ]

  module _ (choice : Choice) (earlier : List Choice) (good : IsGoodRun program earlier) where
    whole : (last : Moment) → moment_at program (choice ∷ earlier) (length earlier) ≡ Some last → HasMoments program (choice ∷ earlier) (suc (length earlier))
    whole last at i l = elim (below_next i (length earlier) l) [
      | inl e ↦ (last, subst (λ k. moment_at program (choice ∷ earlier) k ≡ Some last) (sym e) at)
      | inr less ↦ (let m = moments earlier good i less in (m.0, at_longer choice earlier i less ∙ m.1))
    ]

    there : BreaksBy D5_1 program choice earlier → RacesOnData program (choice ∷ earlier) (length earlier)
    there b =
        let choices = choice ∷ earlier in let n = length earlier in let last = b.0 in let r = b.2 in
        let at : moment_at program choices n ≡ Some last = b.1 in
        let i = r.0 in let first = r.1 in let cell = r.2 in
        let here : run_of program choices n ≡ step_of program last = is_step program choices n last at in
        let before : run_of program choices i ≡ step_of program first = is_step program choices i first r.3 in (
          cell,
          r.5,
          r.6,
          (
            i,
            earlier_than i first last r.3 at r.4,
            (λ same. r.4 (sym (ap (λ (s : Step Cell). s.thread) before) ∙ same ∙ ap (λ (s : Step Cell). s.thread) here)),
            subst (λ (s : Step Cell). Conflict s (run_of program choices n) cell) (sym before)
                (subst (λ (s : Step Cell). Conflict (step_of program first) s cell) (sym here) ((conflicts program choices first last cell).1 r.7)),
            (λ h. r.8 (subst (λ k. meaning.Before program choices i k) (sym (place choices n last at).0) (before_moments program choices (suc n) (whole last at) (omega arith) h))),
          ),
        )
      where
        earlier_than : (i : ℕ) (first last : Moment) → moment_at program (choice ∷ earlier) i ≡ Some first → moment_at program (choice ∷ earlier) (length earlier) ≡ Some last
            → first.choice.thread ≢ last.choice.thread → i < length earlier
        earlier_than i first last at_first at_last other = elim (below_next i (length earlier) (place (choice ∷ earlier) i first at_first).1) [
          | inl e ↦ absurd (other (let same : Some first ≡ Some last = sym at_first ∙ ap (λ k. moment_at program (choice ∷ earlier) k) e ∙ at_last in
              let is : first ≡ last = cc in ap (λ (m : Moment). m.choice.thread) is))
          | inr less ↦ less
        ]

    back : (m : Option Moment) → moment_at program (choice ∷ earlier) (length earlier) ≡ m → RacesOnData program (choice ∷ earlier) (length earlier) → BreaksBy D5_1 program choice earlier
    back None at r = absurd (let idle : run_of program (choice ∷ earlier) (length earlier) ≡ step_at program None = ap (λ m. step_at program m) at in
        let none : false ≡ true = sym (ap (λ (s : Step Cell). accesses s r.0) idle) ∙ r.3.3.1 in cc)
    back (Some last) at r =
        let choices = choice ∷ earlier in let n = length earlier in
        let cell = r.0 in let i = r.3.0 in
        let moment = whole last at i (let l : i < n = r.3.1 in omega arith) in
        let first = moment.0 in
        let here : run_of program choices n ≡ step_of program last = is_step program choices n last at in
        let before : run_of program choices i ≡ step_of program first = is_step program choices i first moment.1 in (
          last,
          at,
          (
            i,
            first,
            cell,
            moment.1,
            (λ same. r.3.2 (ap (λ (s : Step Cell). s.thread) before ∙ same ∙ sym (ap (λ (s : Step Cell). s.thread) here))),
            r.1,
            r.2,
            (conflicts program choices first last cell).0 (subst (λ (s : Step Cell). Conflict s (step_of program last) cell) before
                (subst (λ (s : Step Cell). Conflict (run_of program choices i) s cell) here r.3.3)),
            (λ h. r.3.4 (before_steps program choices (subst (λ k. meaning.Before program choices i k) (place choices n last at).0 h))),
          ),
        )

    pub breaks_races : BreaksBy D5_1 program choice earlier ↔ RacesOnData program (choice ∷ earlier) (length earlier)
    breaks_races = (there, back (moment_at program (choice ∷ earlier) (length earlier)) refl)
