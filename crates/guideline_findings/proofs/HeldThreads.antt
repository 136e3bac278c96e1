-- What a thread object holds was made at a creation point whose argument may name the object.
use Rattle.std.proofs.Common.{◌≡◌, refl, sym, subst, ap, ◌∙◌, true, cond, ℕ, suc, ◌<◌, ◌≤◌, List, [], ◌∷◌, ◌++◌, Option, Some, is_some, eq-eqb, arith}
use Rattle.c_program.specs.declared.program.Program.{Program}
use Rattle.c_program.specs.Syntax.{act_at}
use Rattle.c_program.specs.Values.{Cell, same_cell}
use Rattle.c_program.specs.Control.{Spot, Point, string_of, spot_in}
use Rattle.c_program.specs.State.{State, Stand, opening, here, control_of, thread_before, spot_at, string_at}
use Rattle.c_program.specs.Requests.{Creates}
use Rattle.c_program.specs.Faults.{A_thread}
use Rattle.c_program.specs.Effects.{Sync, Makes, made_by, holds_after, thread_after, moved_thread, after}
use Rattle.c_program.specs.Step.{Choice}
use Rattle.c_program.specs.Runs.{IsGoodRun, state_after}
use Rattle.c_program.specs.WellFormed.{IsWellFormed}
use Rattle.c_program.specs.Paths.{stands_at, IsPoint}
use Rattle.c_program.proofs.Cells.{cell_same}
use Rattle.c_program.proofs.Led.{led, path_stands}
use Rattle.c_program.proofs.Logic.{if_cases}
use Rattle.c_program.proofs.Standing.{is_point}
use Rattle.c_program.proofs.Stays.{origins}
use Rattle.path_simulation.specs.Simulates.{LastStep}
use Rattle.path_simulation.proofs.Simulated.{last_step}
use Rattle.static_facts.proofs.Later.{made_grows, lt_differs}
use Rattle.static_facts.proofs.Remembering.{sync_is}
use Rattle.static_facts.specs.Facts.{Facts}
use Rattle.guideline_findings.proofs.Given.{Premises}
use Rattle.guideline_findings.proofs.Candidate.{Located, located_at}
use Rattle.guideline_findings.proofs.Asked.{makes_by, creation_leads}
use Rattle.guideline_findings.proofs.Suspended.{outside}
use Rattle.static_facts.specs.Points.{is_creation, thread_of}

-- the creation of a thread that an object holds
pub record Created (program : Program) (facts : Facts) (state : State) (object : Cell) (thread : ℕ) : Type 0 where
  pub creator : List Spot
  pub point : Point
  pub is_point : IsPoint program creator point
  pub creates : is_creation (act_at program point.spot.action) ≡ true
  pub object_is : Located program facts point 0 A_thread object
  pub origin : (state.thread thread).origin ≡ thread_of point
  pub made : thread < state.made

module _ (program : Program) (well : IsWellFormed program) (facts : Facts) (premises : Premises program facts) where
  module _ (choice : Choice) (run : List Choice) (step : LastStep program choice run) where
    abbrev t : ℕ
    t = choice.thread

    abbrev state : State
    state = state_after program run

    abbrev later : State
    later = after program state t step.move step.effect

    older : (object : Cell) (thread : ℕ) → Created program facts state object thread → Created program facts later object thread
    older object thread c = let g : state.made ≤ later.made = made_grows program well choice run step in let l : thread < state.made = c.made in record {
      creator = c.creator;
      point = c.point;
      is_point = c.is_point;
      creates = c.creates;
      object_is = c.object_is;
      origin = origins program state t step.move step.effect thread (lt_differs thread state.made c.made) ∙ c.origin;
      made = omega arith;
    }

    abbrev point : Point
    point = stands_at (state.thread t).origin step.by.control step.move

    new_origin : (made : Option ℕ) (function : ℕ) → made ≡ Some function → (thread_after program state t step.move step.effect made state.made).origin ≡ thread_of point
    new_origin made function e = ap (λ (o : Option ℕ). (thread_after program state t step.move step.effect o state.made).origin) e
        ∙ ap (λ b. (cond b (thread_before program function state.called (spot_at (state.thread t) step.move ∷ string_at (state.thread t))) (moved_thread program state t step.move step.effect state.made)).origin)
        (eq-eqb state.made state.made refl)
        ∙ ap (λ (s : Stand). spot_in (control_of s) step.move.action ∷ (string_of (control_of s) ++ (state.thread t).origin)) step.by.stands

    origin_later : (function : ℕ) → made_by step.effect.sync ≡ Some function → (later.thread state.made).origin ≡ thread_of point
    unfolding after
    origin_later function e = new_origin (made_by step.effect.sync) function e

    made_later : (function : ℕ) → made_by step.effect.sync ≡ Some function → state.made < later.made
    unfolding after
    made_later function e = subst (λ (o : Option ℕ). state.made < cond (is_some o) (suc state.made) state.made) (sym e) (omega arith)

    newest : (object : Cell) (function : ℕ) → step.effect.sync ≡ Makes object function → Created program facts later object state.made
    newest object function e =
        let q = makes_by state step.by.frames step.by.ask.turn step.by.ask.request object function (sym (sync_is program well choice run step) ∙ e) in
        let o = outside program choice run step (Creates object function q.argument q.result) q.is (λ x z f. cc) in
        let c = creation_leads (here program state t) (act_at program step.move.action) object function q.argument q.result o.1 in
        let l = led program well run step.good t step.by.control step.by.frames step.by.inside step.by.stands in record {
          creator = (state.thread t).origin;
          point = point;
          is_point = is_point program well (state.thread t).origin l.function step.by.control step.move l.leads (path_stands program well (state.thread t).origin l.function _ l.comes.0 l.comes.1) (choice.pair, step.by.offers);
          creates = c.0;
          object_is = located_at program facts premises run step.good t step.by.control step.by.frames step.move 0 A_thread object o.0 (choice.pair, step.by.offers) c.1;
          origin = origin_later function (ap made_by e);
          made = made_later function (ap made_by e);
        }

    same_some : (a b : ℕ) → Some a ≡ Some b → a ≡ b
    same_some a b e = cc

    by_sync : (object : Cell) (thread : ℕ) → (state.holds object ≡ Some thread → Created program facts state object thread) → (sync : Sync) → step.effect.sync ≡ sync
        → holds_after sync state.made object (state.holds object) ≡ Some thread → Created program facts later object thread
    by_sync object thread before (Makes o f) e h = if_cases (same_cell o object) _ _ _ h
        (λ s k. subst (λ (n : ℕ). Created program facts later object n) (same_some state.made thread k) (newest object f (e ∙ ap (λ (c : Cell). Makes c f) (cell_same o object s))))
        (λ _ k. older object thread (before k))
    by_sync object thread before sync e h = older object thread (before h)

    created_step : (object : Cell) (thread : ℕ) → (state.holds object ≡ Some thread → Created program facts state object thread) → later.holds object ≡ Some thread → Created program facts later object thread
    unfolding after
    created_step object thread before h = by_sync object thread before step.effect.sync refl h

  pub created : (run : List Choice) → IsGoodRun program run → (object : Cell) (thread : ℕ) → (state_after program run).holds object ≡ Some thread → Created program facts (state_after program run) object thread
  unfolding state_after opening
  created [] good object thread h = absurd (cc)
  created (choice ∷ run) good object thread h = let step = last_step program choice run good in
      subst (λ (s : State). Created program facts s object thread) (sym step.leads)
      (created_step choice run step object thread (λ k. created run good.0 object thread k) (ap (λ (s : State). s.holds object) (sym step.leads) ∙ h))
