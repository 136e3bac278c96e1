-- Where Directive 5.1 has no finding, no run has a race.
use Rattle.std.proofs.Common.{◌≡◌, ◌≢◌, refl, sym, subst, ap, ◌∙◌, Bool, true, false, ◌==◌, ℕ, suc, ◌<◌, List, [], ◌∷◌, ◌++◌, length, Some, eqb-true, arith}
use Rattle.std.proofs.lemmas.Grind.{common_steps}
use Rattle.misra_base.specs.declared.guideline.Guideline.TheVariants.{D5_1}
use Rattle.c_program.specs.declared.program.Program.{Program}
use Rattle.c_program.specs.Values.{Root, Static, Of_thread, Of_frame, Cell, Location, location_of, location_in, static_root, is_static, is_data_cell}
use Rattle.c_program.specs.Control.{Spot, Point, string_of, spot_in}
use Rattle.c_program.specs.State.{Stand, control_of}
use Rattle.c_program.specs.Step.{Choice, Outcome, No_step, Undefined, Does}
use Rattle.c_program.specs.Runs.{IsGoodRun, HasMeaning, outcome_of, Moment, moment_of, moment_at}
use Rattle.c_program.specs.Happens.{Before, state_at}
use Rattle.c_program.specs.Breaks.{Conflict, point_of}
use Rattle.c_program.specs.WellFormed.{IsWellFormed}
use Rattle.c_program.specs.Paths.{stands_at, IsPoint}
use Rattle.static_facts.proofs.Moments.{IsMoment, moment_is, last_moment, last_by, at_within}
use Rattle.static_facts.proofs.Held.{held_is_ordered}
use Rattle.static_facts.specs.Facts.{Facts}
use Rattle.pointer_targets.specs.Laws.{MayConflict}
use Rattle.pointer_targets.proofs.Conflicts.{conflicts_told}
use Rattle.static_facts.proofs.Ordering.{in_order}
use Rattle.static_facts.proofs.Stopping.{moment_point}
use Rattle.guideline_findings.specs.Races.{ShareMutex, MayRace}
use Rattle.guideline_findings.specs.Findings.{race, own, IsClean}
use Rattle.guideline_findings.proofs.Given.{Premises, Given}
use Rattle.static_facts.proofs.Reaching.{reachable}
use Rattle.pointer_targets.proofs.Told.{Told, told}
use Rattle.static_facts.specs.Points.{IsReachable}
use Rattle.static_facts.specs.Analyses.{AreSound}
use Rattle.guideline_findings.specs.Silence.{IsSilent}

-- a static cell has a location
located : (program : Program) (cell : Cell) → is_static cell ≡ true → (location : Location) × (location_of program cell ≡ Some location)
located program cell e = go cell.root cell.path e
  where
    go : (root : Root) (path : List ℕ) → static_root root ≡ true → (location : Location) × (location_in program root path ≡ Some location)
    go (Static object) path e = (_, refl)
    go (Of_thread thread object) path e = absurd (cc)
    go (Of_frame frame object) path e = absurd (cc)

-- a last moment is a step with a meaning
has_meaning : (choice : Choice) (run : List Choice) (x : Outcome) (m : Moment) → moment_of choice run x ≡ Some m → HasMeaning x
has_meaning choice run No_step m e = absurd (cc)
has_meaning choice run Undefined m e = absurd (cc)
has_meaning choice run (Does move effect) m e = tt

-- what a run's moment is
abbrev origin_at : Program → Moment → List Spot
origin_at program m = ((state_at program m).thread m.choice.thread).origin

-- the point of a moment
point_is : (program : Program) (m : Moment) → (s : IsMoment program m) → point_of program m ≡ stands_at (origin_at program m) s.by.control m.move
point_is program m s = ap (λ (x : Stand). record { string = string_of (control_of x) ++ origin_at program m; spot = spot_in (control_of x) m.move.action }) s.by.stands

module _ (program : Program) (well : IsWellFormed program) (facts : Facts) (sound : AreSound program facts) where
  given : Told program facts.names
  given = told program well facts.names sound.names

  reachable_at : (m : Moment) → IsMoment program m → IsReachable program (origin_at program m) (point_of program m)
  reachable_at m s = subst (IsReachable program (origin_at program m)) (sym (point_is program m s))
      (reachable program well m.earlier s.good m.choice.thread s.by.control s.by.frames s.by.inside m.move s.by.stands (m.choice.pair, s.by.offers))

  module _ (clean : IsClean program facts D5_1) (run : List Choice) (good : IsGoodRun program run) (i j : ℕ) (first last : Moment)
      (at_first : moment_at program run i ≡ Some first) (at_last : moment_at program run j ≡ Some last) (earlier : i < j) (apart : first.choice.thread ≢ last.choice.thread) where
    is_first : IsMoment program first
    is_first = moment_is program run i first good at_first

    is_last : IsMoment program last
    is_last = moment_is program run j last good at_last

    ordered : ShareMutex program facts (origin_at program first) (point_of program first) (origin_at program last) (point_of program last) → Before program run i j
    ordered share = held_is_ordered program well facts.names given share.cell share.mutex share.is_mutex run good i j first last at_first at_last earlier apart share.at_first share.at_second

    conflicting : (cell : Cell) (region : Location) → is_data_cell program cell ≡ true → location_of program cell ≡ Some region → Conflict first.effect last.effect cell
        → MayConflict program (point_of program first) (point_of program last) region
    conflicting cell region d l c = subst (λ (p : Point). MayConflict program p (point_of program last) region) (sym (point_is program first is_first))
        (subst (λ (q : Point). MayConflict program (stands_at (origin_at program first) is_first.by.control first.move) q region) (sym (point_is program last is_last))
        (conflicts_told program well first.earlier is_first.good first.choice first.move first.effect is_first.by last.earlier is_last.good last.choice last.move last.effect is_last.by cell region l d c))

    may_race : (cell : Cell) (region : Location) → is_data_cell program cell ≡ true → location_of program cell ≡ Some region → Conflict first.effect last.effect cell
        → (Before program run i j → ⊥) → MayRace program facts (origin_at program first) (point_of program first) region (origin_at program last) (point_of program last)
    may_race cell region d l c late = let k = conflicting cell region d l c in record {
      is_region = record { cell = cell; is_data = d; here = l };
      reachable = reachable_at first is_first;
      other_reachable = reachable_at last is_last;
      manner = k.manner;
      accesses = sound.accesses (origin_at program first) (point_of program first) region k.manner (point_at i first at_first) k.first;
      other_manner = k.other_manner;
      other_accesses = sound.accesses (origin_at program last) (point_of program last) region k.other_manner (point_at j last at_last) k.second;
      conflict = k.conflict;
      unordered = λ o. late (in_order program well facts.names given run good i j first last at_first at_last earlier
          (sound.ordered _ _ _ _ (point_at i first at_first) (point_at j last at_last) o));
      unlocked = λ share. late (ordered share);
    }
      where
        point_at : (n : ℕ) (m : Moment) → moment_at program run n ≡ Some m → IsPoint program (origin_at program m) (point_of program m)
        point_at n m a = moment_point program well run n m good a

    pub no_race : (cell : Cell) → is_static cell ≡ true → is_data_cell program cell ≡ true → Conflict first.effect last.effect cell → (Before program run i j → ⊥) → ⊥
    no_race cell s d c late = let l = located program cell s in
        clean _ _ _ _ (own _ _ _ _ (race (origin_at program first) (origin_at program last) (point_of program first) (point_of program last) l.0 (may_race cell l.0 d l.1 c late)))

  same_moment : (a b : Moment) → Some a ≡ Some b → a ≡ b
  same_moment a b e = cc

  before_end : (i n : ℕ) → i < suc n → (i == n) ≡ false → i < n
  before_end i n l e = grind (arith, common_steps)

  meant : (choice : Choice) (run : List Choice) (last : Moment) → IsGoodRun program run → moment_at program (choice ∷ run) (length run) ≡ Some last → IsGoodRun program (choice ∷ run)
  meant choice run last good e = (good, has_meaning choice run (outcome_of program choice run) last (last_moment program choice run last good e))

  unlike : (choice : Choice) (run : List Choice) (i : ℕ) (first last : Moment) → moment_at program (choice ∷ run) i ≡ Some first → moment_at program (choice ∷ run) (length run) ≡ Some last
      → first.choice.thread ≢ last.choice.thread → (i == length run) ≡ false
  unlike choice run i first last a b n = go (i == length run) refl
    where
      same : i ≡ length run → first ≡ last
      same e = same_moment first last (sym a ∙ ap (moment_at program (choice ∷ run)) e ∙ b)

      go : (x : Bool) → (i == length run) ≡ x → (i == length run) ≡ false
      go true e = absurd (n (ap (λ (m : Moment). m.choice.thread) (same (eqb-true i (length run) e))))
      go false e = e

  no_races : IsSilent program facts D5_1
  no_races clean [] r b = b
  no_races clean (choice ∷ run) r b = let record { 0 = last; 1 = at_last; 2 = races } = b in
      let record { 0 = i; 1 = first; 2 = cell; 3 = at_first; 4 = apart; 5 = static; 6 = data_cell; 7 = conflict; 8 = late } = races in
      let n : length last.earlier ≡ length run = ap length (last_by program choice run last r.0 at_last).1 in
      no_race clean (choice ∷ run) (meant choice run last r.0 at_last) i (length run) first last at_first at_last
      (before_end i (length run) (at_within program (choice ∷ run) i first at_first) (unlike choice run i first last at_first at_last apart)) apart cell static data_cell conflict
      (λ before. late (subst (λ (k : ℕ). Before program (choice ∷ run) i k) (sym n) before))

pub silent_races : (program : Program) → IsWellFormed program → (facts : Facts) → AreSound program facts → IsSilent program facts D5_1
silent_races program well facts sound = no_races program well facts sound
