-- Two steps of different threads at whose points one mutex is surely held happen in order.
use Rattle.std.proofs.Common.{◌≡◌, ◌≢◌, ◌⊎◌, inl, inr, refl, sym, subst, ap, ◌∙◌, Bool, true, false, cond, not, ◌&&◌, ◌||◌, ◌==◌, ℕ, suc, ◌+◌, ◌<◌, ◌≤◌, min, List, [], ◌∷◌, ◌++◌, length, Option, Some, None, eqb-true, eq-eqb, eq-or-lt_of_le, arith}
use Rattle.std.proofs.lemmas.Grind.{common_steps}
use Rattle.c_program.specs.declared.program.Program.{Program}
use Rattle.c_program.specs.Syntax.{act_at}
use Rattle.c_program.specs.Values.{Cell, Location, same_cell}
use Rattle.c_program.specs.Control.{Spot, Point, string_of, spot_in}
use Rattle.c_program.specs.State.{State, Stand, Running, Life, Unmade, Live, Dead, Mutex, depth_of, inside_of, control_of, string_at, spot_at}
use Rattle.c_program.specs.Requests.{Request, Retakes, Turn, Goes, Ask, Asks}
use Rattle.c_program.specs.Faults.{is_free_for, A_mutex}
use Rattle.c_program.specs.Effects.{Sync, Resumes, sync_of, sync_after}
use Rattle.c_program.specs.Step.{Choice, asked_by}
use Rattle.c_program.specs.Runs.{IsGoodRun, state_after, Moment, moment_at, Pair}
use Rattle.c_program.specs.Happens.{Before, in_thread, by_mutex, through, releases, takes, state_at}
use Rattle.c_program.specs.Breaks.{point_of}
use Rattle.c_program.specs.WellFormed.{IsWellFormed}
use Rattle.c_program.specs.Paths.{stands_at}
use Rattle.c_program.specs.Laws.{Finds}
use Rattle.c_program.proofs.Asks.{EachAsk, from_each}
use Rattle.c_program.proofs.Cells.{cell_same}
use Rattle.c_program.proofs.Finds.{finds}
use Rattle.path_simulation.specs.Simulates.{LastStep}
use Rattle.pointer_targets.specs.Names.{Names}
use Rattle.pointer_targets.proofs.Told.{Told}
use Rattle.static_facts.specs.Depths.{MayHold, IsSurelyHeld}
use Rattle.static_facts.specs.Owning.{level_of, depth_with_wait}
use Rattle.static_facts.specs.OwnerLaws.{ReleasesAt, TakesAt, HeldIsOrdered}
use Rattle.static_facts.proofs.MutexAsks.{RetakesBy, retakes_by}
use Rattle.static_facts.proofs.Remembering.{sync_is}
use Rattle.static_facts.proofs.Owner.{Owns}
use Rattle.static_facts.proofs.Possible.{possible_with_wait}
use Rattle.static_facts.proofs.Moments.{IsMoment, step_of, moment_is, at_within, at_longer, at_shorter, GoodLast, good_last, longer}
use Rattle.static_facts.proofs.Handover.{one_owner, Since, Released, HoldsFrom, since}
use Rattle.pointer_targets.specs.LibraryObjects.{IsObjectAt}

-- ---- a step at a point that surely holds the mutex

-- its thread owns it, or takes it again in this step
abbrev pub HoldsBy : State → Cell → ℕ → Sync → Type 0
HoldsBy state c t sync = Owns state c t ⊎ ((takes sync c ≡ true) × (is_free_for t (state.mutex c) ≡ true))

module _ (program : Program) (well : IsWellFormed program) (names : Names) (premises : Told program names) (c : Cell) (location : Location) (at : IsObjectAt program A_mutex c location)
    (choice : Choice) (run : List Choice) (step : LastStep program choice run) where
  abbrev t : ℕ
  t = choice.thread

  abbrev state : State
  state = state_after program run

  abbrev origin : List Spot
  origin = (state.thread t).origin

  retakes_it : (m : Cell) → asked_by program state choice step.move (Some m) ≡ Asks step.by.ask → step.effect.sync ≡ Resumes m
  retakes_it m a = let r = from_each (RetakesBy (act_at program step.move.action) m) step.by.ask
      (subst (EachAsk (RetakesBy (act_at program step.move.action) m)) a (retakes_by (act_at program step.move.action) m choice.values)) in
      sync_is program well choice run step ∙ ap (λ (x : Turn). sync_after step.by.frames x (sync_of state step.by.ask.request)) r.goes ∙ ap (λ (q : Request). sync_of state q) r.asks

  waits_with : (m : Cell) → asked_by program state choice step.move (Some m) ≡ Asks step.by.ask → same_cell m c ≡ true → HoldsBy state c t step.effect.sync
  waits_with m a e = let y = retakes_it m a in inr (
    subst (λ (x : Sync). takes x c ≡ true) (sym y) e,
    subst (λ (x : Cell). is_free_for t (state.mutex x) ≡ true) (cell_same m c e) (subst (Finds state t) y (finds program state choice step.move step.effect step.by)).1,
  )

  zero_depth : (d l : ℕ) → (d == 0) ≡ true → l ≡ 0 → min (d + l) 8 ≡ 0
  zero_depth d l e f = grind (arith, common_steps)

  pub held_step : IsSurelyHeld program names location origin (stands_at origin step.by.control step.move) → HoldsBy state c t step.effect.sync
  held_step held = go (depth_of t (state.mutex c) == 0) refl
    where
      no_level : (depth_of t (state.mutex c) == 0) ≡ true → level_of c step.by.inside ≡ 0 → ⊥
      no_level e l = held (subst (λ d. MayHold program names location origin (stands_at origin step.by.control step.move) d)
          (zero_depth (depth_of t (state.mutex c)) _ e (ap (λ (s : Stand). level_of c (inside_of s)) step.by.stands ∙ l))
          (possible_with_wait program well names premises c location at run step.good t step.by.control step.by.frames step.by.inside step.move step.by.stands (choice.pair, step.by.offers)))

      inside_case : (inside : Option Cell) → step.by.inside ≡ inside → asked_by program state choice step.move inside ≡ Asks step.by.ask → (depth_of t (state.mutex c) == 0) ≡ true → HoldsBy state c t step.effect.sync
      inside_case None i a e = absurd (no_level e (ap (level_of c) i))
      inside_case (Some m) i a e = by_cell (same_cell m c) refl
        where
          by_cell : (b : Bool) → same_cell m c ≡ b → HoldsBy state c t step.effect.sync
          by_cell true f = waits_with m a f
          by_cell false f = absurd (no_level e (ap (level_of c) i ∙ ap (λ x. cond x 1 0) f))

      go : (b : Bool) → (depth_of t (state.mutex c) == 0) ≡ b → HoldsBy state c t step.effect.sync
      go false e = inl e
      go true e = inside_case step.by.inside refl step.by.asks e

omega_lt : (i j n : ℕ) → i < j → j < n → i < n
omega_lt i j n l m = omega arith

shorter : (j n : ℕ) → (j == n) ≡ false → j < suc n → j < n
shorter j n e l = grind (arith, common_steps)

-- ---- the point of a moment

point_is : (program : Program) (m : Moment) → (s : IsMoment program m) → point_of program m ≡ stands_at ((state_at program m).thread m.choice.thread).origin s.by.control m.move
point_is program m s = ap (λ (x : Stand). record { string = string_of (control_of x) ++ ((state_at program m).thread m.choice.thread).origin; spot = spot_in (control_of x) m.move.action }) s.by.stands

free_owner : (s t : ℕ) (life : Life Mutex) → (depth_of s life == 0) ≡ false → is_free_for t life ≡ true → s ≡ t
free_owner s t (Live mutex) e f = by_owner mutex.owner mutex.depth s t e f
  where
    by_owner : (owner depth s t : ℕ) → (cond (owner == s) depth 0 == 0) ≡ false → ((depth == 0) || (owner == t)) ≡ true → s ≡ t
    by_owner owner depth s t e f = grind (arith, common_steps)
free_owner s t Unmade e f = absurd (cc)
free_owner s t Dead e f = absurd (cc)

-- ---- in order

module _ (program : Program) (c : Cell) (run : List Choice) (i j u : ℕ) (s : ℕ) (first : Moment) (at_first : moment_at program run i ≡ Some first) (by_first : first.choice.thread ≡ s)
    (later : i ≤ u) (gave : ReleasesAt program run c s u) where
  -- what the release happens before, the first step happens before
  pub from_release : Before program run u j → Before program run i j
  from_release b = elim (eq-or-lt_of_le later) [
    | inl same ↦ subst (λ n. Before program run n j) (sym same) b
    | inr less ↦ through i u j (in_thread i u (record { first = first; second = gave.moment; earlier = less; at_first = at_first; at_second = gave.at }) (by_first ∙ sym gave.by)) b
  ]

  pub to_taking : (l t : ℕ) → u < l → TakesAt program run c t l → Before program run u l
  to_taking l t less took = by_mutex u l (record { first = gave.moment; second = took.moment; earlier = less; at_first = gave.at; at_second = took.at }) c
      (subst (λ n. releases gave.moment.effect.sync n ((state_at program gave.moment).mutex c) c ≡ true) (sym gave.by) gave.releases_it) took.takes_it

module _ (program : Program) (well : IsWellFormed program) (names : Names) (premises : Told program names) (c : Cell) (location : Location) (at : IsObjectAt program A_mutex c location) where
  held_at : (m : Moment) → (s : IsMoment program m) → IsSurelyHeld program names location ((state_at program m).thread m.choice.thread).origin (point_of program m)
      → HoldsBy (state_at program m) c m.choice.thread m.effect.sync
  held_at m s h = held_step program well names premises c location at m.choice m.earlier (step_of program m s)
      (subst (λ (p : Point). IsSurelyHeld program names location ((state_at program m).thread m.choice.thread).origin p) (point_is program m s) h)

  starts : (run : List Choice) (i : ℕ) (first : Moment) → moment_at program run i ≡ Some first → HoldsBy (state_at program first) c first.choice.thread first.effect.sync → HoldsFrom program run c first.choice.thread i
  starts run i first e (inl w) = record { moment = first; at = e; holds = inl w }
  starts run i first e (inr k) = record { moment = first; at = e; holds = inr (refl, k.0) }

  -- the second step is the last
  module _ (choice : Choice) (run : List Choice) (last : GoodLast program choice run) (i : ℕ) (first : Moment) (at_first : moment_at program run i ≡ Some first)
      (apart : first.choice.thread ≢ choice.thread) where
    abbrev moment : Moment
    moment = record { choice = choice; earlier = run; move = last.move; effect = last.effect }

    abbrev before_last : State
    before_last = state_after program run

    abbrev s : ℕ
    s = first.choice.thread

    release_longer : (p : ℕ) → ReleasesAt program run c s p → ReleasesAt program (choice ∷ run) c s p
    release_longer p r = record { moment = r.moment; at = at_longer program choice run p r.moment r.at; by = r.by; releases_it = r.releases_it }

    takes_longer : (t p : ℕ) → TakesAt program run c t p → TakesAt program (choice ∷ run) c t p
    takes_longer t p r = record { moment = r.moment; at = at_longer program choice run p r.moment r.at; by = r.by; takes_it = r.takes_it }

    here_first : moment_at program (choice ∷ run) i ≡ Some first
    here_first = at_longer program choice run i first at_first

    released : Released program run c before_last s i → HoldsBy before_last c choice.thread last.effect.sync → Before program (choice ∷ run) i (length run)
    released r (inl w) = let k = r.taken choice.thread (λ e. apart (sym e)) w in
        from_release program c (choice ∷ run) i (length run) r.position s first here_first refl r.later (release_longer r.position r.gave)
        (through r.position k.0 (length run)
        (to_taking program c (choice ∷ run) i (length run) r.position s first here_first refl r.later (release_longer r.position r.gave) k.0 choice.thread k.1.0 (takes_longer choice.thread k.0 k.1.1))
        (in_thread k.0 (length run) (record {
          first = k.1.1.moment;
          second = moment;
          earlier = at_within program run k.0 k.1.1.moment k.1.1.at;
          at_first = at_longer program choice run k.0 k.1.1.moment k.1.1.at;
          at_second = last.at;
        }) k.1.1.by))
    released r (inr k) =
        from_release program c (choice ∷ run) i (length run) r.position s first here_first refl r.later (release_longer r.position r.gave)
        (to_taking program c (choice ∷ run) i (length run) r.position s first here_first refl r.later (release_longer r.position r.gave) (length run) choice.thread
        (at_within program run r.position r.gave.moment r.gave.at) (record { moment = moment; at = last.at; by = refl; takes_it = k.0 }))

    owned : Owns before_last c s → HoldsBy before_last c choice.thread last.effect.sync → Before program (choice ∷ run) i (length run)
    owned w (inl u) = absurd (apart (one_owner s choice.thread (before_last.mutex c) w u))
    owned w (inr k) = absurd (apart (free_owner s choice.thread (before_last.mutex c) w k.1))

    last_ordered : Since program run c before_last s i → HoldsBy before_last c choice.thread last.effect.sync → Before program (choice ∷ run) i (length run)
    last_ordered (inl w) h = owned w h
    last_ordered (inr r) h = released r h

  same_moment : (a b : Moment) → Some a ≡ Some b → a ≡ b
  same_moment a b e = cc

  HeldAt : Moment → Type 0
  HeldAt m = IsSurelyHeld program names location ((state_at program m).thread m.choice.thread).origin (point_of program m)

  Apart : Moment → Moment → Type 0
  Apart a b = a.choice.thread ≢ b.choice.thread

  ordered : (run : List Choice) → IsGoodRun program run → (i j : ℕ) (first second : Moment) → moment_at program run i ≡ Some first → moment_at program run j ≡ Some second → i < j
      → Apart first second → HeldAt first → HeldAt second → Before program run i j
  unfolding HeldAt Apart
  ordered [] good i j first second a b l n h k = absurd (no_moment second b)
    where
      no_moment : (m : Moment) → None ≡ Some m → ⊥
      no_moment m e = cc
  ordered (choice ∷ run) good i j first second a b l n h k = go (λ a b. ordered run good.0 i j first second a b l n h k) (good_last program choice run good) (j == length run) refl
    where
      go : (moment_at program run i ≡ Some first → moment_at program run j ≡ Some second → Before program run i j) → (last : GoodLast program choice run) → (x : Bool) → (j == length run) ≡ x
          → Before program (choice ∷ run) i j
      go rest last true e = subst (λ n. Before program (choice ∷ run) i n) (sym at_end)
          (last_ordered choice run last i first at_first apart
          (since program well c run good.0 first.choice.thread i (starts run i first at_first (held_at first (moment_is program run i first good.0 at_first) h)))
          (held_at (record { choice = choice; earlier = run; move = last.move; effect = last.effect }) last.is (subst HeldAt same k)))
        where
          at_end : j ≡ length run
          at_end = eqb-true j (length run) e

          at_first : moment_at program run i ≡ Some first
          at_first = at_shorter program choice run i first (let q : j ≡ length run = eqb-true j (length run) e in omega arith) a

          same : second ≡ record { choice = choice; earlier = run; move = last.move; effect = last.effect }
          same = same_moment _ _ (sym b ∙ ap (moment_at program (choice ∷ run)) at_end ∙ last.at)

          apart : first.choice.thread ≢ choice.thread
          apart = subst (Apart first) same n
      go rest last false e = longer program choice run (rest (at_shorter program choice run i first (omega_lt i j (length run) l below) a) (at_shorter program choice run j second below b))
        where
          below : j < length run
          below = shorter j (length run) e (at_within program (choice ∷ run) j second b)

  pub held_ordered : (run : List Choice) → IsGoodRun program run → (i j : ℕ) (first second : Moment) → moment_at program run i ≡ Some first → moment_at program run j ≡ Some second → i < j
      → first.choice.thread ≢ second.choice.thread
      → IsSurelyHeld program names location ((state_at program first).thread first.choice.thread).origin (point_of program first)
      → IsSurelyHeld program names location ((state_at program second).thread second.choice.thread).origin (point_of program second) → Before program run i j
  unfolding HeldAt Apart
  held_ordered run good i j first second a b l n h k = ordered run good i j first second a b l n h k

pub held_is_ordered : (program : Program) → IsWellFormed program → (names : Names) → Told program names → HeldIsOrdered program names
held_is_ordered program well names premises c location at run good i j first second a b l n h k = held_ordered program well names premises c location at run good i j first second a b l n h k
