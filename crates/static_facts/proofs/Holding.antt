-- The state of a thread object in a run is what the initial thread has done with it, where no other thread uses it.
use Rattle.std.proofs.Common.{◌≡◌, ◌⊎◌, inl, inr, refl, sym, subst, ap, ◌∙◌, Bool, true, false, cond, ◌==◌, ℕ, suc, ◌<◌, ◌≤◌, List, [], ◌∷◌, Option, Some, None, is_some, eqb-true, eq-eqb, arith}
use Rattle.c_program.specs.declared.program.Program.{Program}
use Rattle.c_program.specs.Values.{Cell, same_cell}
use Rattle.c_program.specs.State.{State, Mark, Unmarked, Joined, Detached, opening, thread_before, spot_at, string_at}
use Rattle.c_program.specs.Faults.{A_thread, is_marked}
use Rattle.c_program.specs.Effects.{Sync, Makes, Marks, made_by, marked_by, holds_after, thread_after, moved_thread, after}
use Rattle.c_program.specs.Step.{Choice}
use Rattle.c_program.specs.Runs.{IsGoodRun, state_after}
use Rattle.c_program.specs.WellFormed.{IsWellFormed}
use Rattle.c_program.specs.Laws.{Finds, accesses_object}
use Rattle.c_program.proofs.Cells.{cell_same}
use Rattle.c_program.proofs.Finds.{finds}
use Rattle.c_program.proofs.Stays.{marks}
use Rattle.path_simulation.specs.Simulates.{LastStep}
use Rattle.path_simulation.proofs.Simulated.{last_step}
use Rattle.static_facts.proofs.Later.{lt_differs, made_grows}
use Rattle.static_facts.proofs.MutexAsks.{cell_equal}
use Rattle.static_facts.proofs.Remembering.{sync_is}
use Rattle.static_facts.specs.ObjectStates.{Is_live, Doing, Begins, Joins_it, Detaches_it, changed_by}
use Rattle.static_facts.specs.Seen.{mark_use, use_by, use_with, seen}
use Rattle.static_facts.specs.ThreadLaws.{state_of_mark, state_held, state_of_object}
use Rattle.static_facts.proofs.Does.{seen_own, seen_other}
use Rattle.static_facts.proofs.Making.{IsHeld, marks_after, accesses_one, making_uses, making_misses}

module _ (program : Program) (well : IsWellFormed program) where
  -- ---- an object holds threads that were made, and no two objects hold one thread

  module _ (choice : Choice) (run : List Choice) (step : LastStep program choice run) where
    abbrev state : State
    state = state_after program run

    abbrev next : State
    next = state_after program (choice ∷ run)

    pub holds_next : (cell : Cell) → next.holds cell ≡ holds_after step.effect.sync state.made cell (state.holds cell)
    unfolding after
    holds_next cell = ap (λ (s : State). s.holds cell) step.leads

    made_next : state.made ≤ next.made
    made_next = subst (λ (s : State). state.made ≤ s.made) (sym step.leads) (made_grows program well choice run step)

    made_more : (object : Cell) (f : ℕ) → step.effect.sync ≡ Makes object f → next.made ≡ suc state.made
    unfolding after
    made_more object f e = ap (λ (s : State). s.made) step.leads ∙ ap (λ (y : Sync). cond (is_some (made_by y)) (suc state.made) state.made) e

    -- the step makes the held thread, or it was held
    held_by_step : (cell : Cell) (t : ℕ) → next.holds cell ≡ Some t
        → ((t ≡ state.made) × ((f : ℕ) × (step.effect.sync ≡ Makes cell f))) ⊎ (state.holds cell ≡ Some t)
    held_by_step cell t h = go step.effect.sync refl (sym (holds_next cell) ∙ h)
      where
        same : (a b : ℕ) → Some a ≡ Some b → b ≡ a
        same a b e = cc

        by_cell : (own : Cell) (f : ℕ) → step.effect.sync ≡ Makes own f → (b : Bool) → same_cell own cell ≡ b → cond b (Some state.made) (state.holds cell) ≡ Some t
            → ((t ≡ state.made) × ((f : ℕ) × (step.effect.sync ≡ Makes cell f))) ⊎ (state.holds cell ≡ Some t)
        by_cell own f e true s h = inl (same state.made t h, (f, e ∙ ap (λ (x : Cell). Makes x f) (cell_same own cell s)))
        by_cell own f e false s h = inr h

        go : (sync : Sync) → step.effect.sync ≡ sync → holds_after sync state.made cell (state.holds cell) ≡ Some t
            → ((t ≡ state.made) × ((f : ℕ) × (step.effect.sync ≡ Makes cell f))) ⊎ (state.holds cell ≡ Some t)
        go (Makes own f) e h = by_cell own f e (same_cell own cell) refl h
        go sync e h = inr h

  pub held_below : (run : List Choice) → IsGoodRun program run → (cell : Cell) (t : ℕ) → (state_after program run).holds cell ≡ Some t → t < (state_after program run).made
  unfolding state_after opening
  held_below [] r cell t h = absurd (cc)
  held_below (choice ∷ run) r cell t h = let step = last_step program choice run r in elim (held_by_step choice run step cell t h) [
    | inl n ↦ let m : (state_after program (choice ∷ run)).made ≡ suc (state_after program run).made = made_more choice run step cell n.1.0 n.1.1 in let e : t ≡ (state_after program run).made = n.0 in omega arith
    | inr o ↦ let l : t < (state_after program run).made = held_below run r.0 cell t o in
        let g : (state_after program run).made ≤ (state_after program (choice ∷ run)).made = made_next choice run step in omega arith
  ]

  one_made : (a b : Cell) (f g : ℕ) → Makes a f ≡ Makes b g → a ≡ b
  one_made a b f g e = cc

  pub held_once : (run : List Choice) → IsGoodRun program run → (a b : Cell) (t : ℕ) → (state_after program run).holds a ≡ Some t → (state_after program run).holds b ≡ Some t → a ≡ b
  unfolding state_after opening
  held_once [] r a b t h k = absurd (cc)
  held_once (choice ∷ run) r a b t h k = let step = last_step program choice run r in elim (held_by_step choice run step a t h) [
    | inl n ↦ elim (held_by_step choice run step b t k) [
      | inl m ↦ one_made a b n.1.0 m.1.0 (sym n.1.1 ∙ m.1.1)
      | inr o ↦ absurd (let l : t < (state_after program run).made = held_below run r.0 b t o in let e : t ≡ (state_after program run).made = n.0 in omega arith)
    ]
    | inr o ↦ elim (held_by_step choice run step b t k) [
      | inl m ↦ absurd (let l : t < (state_after program run).made = held_below run r.0 a t o in let e : t ≡ (state_after program run).made = m.0 in omega arith)
      | inr p ↦ held_once run r.0 a b t o p
    ]
  ]

  -- ---- the state of the object

  -- no step of another thread creates, joins or detaches by it
  abbrev pub IsOurs : Cell → Type 0
  IsOurs cell = (choice : Choice) (run : List Choice) (step : LastStep program choice run) → (choice.thread == 0) ≡ false → (doing : Doing) → use_with step.effect A_thread cell ≡ Some doing → ⊥

  module _ (cell : Cell) (ours : IsOurs cell) where
    module _ (choice : Choice) (run : List Choice) (step : LastStep program choice run) (good : IsGoodRun program run)
        (before : state_of_object (state_after program run) cell ≡ seen program A_thread cell run) where
      abbrev now : State
      now = state_after program run

      abbrev then_on : State
      then_on = state_after program (choice ∷ run)

      abbrev Kept : Type 0
      Kept = state_of_object then_on cell ≡ seen program A_thread cell (choice ∷ run)

      -- who uses it is the initial thread
      by_initial : (doing : Doing) → use_with step.effect A_thread cell ≡ Some doing → choice.thread ≡ 0
      by_initial doing u = go (choice.thread == 0) refl
        where
          go : (b : Bool) → (choice.thread == 0) ≡ b → choice.thread ≡ 0
          go true e = eqb-true choice.thread 0 e
          go false e = absurd (ours choice run step e doing u)

      seen_same : use_with step.effect A_thread cell ≡ None → seen program A_thread cell (choice ∷ run) ≡ seen program A_thread cell run
      seen_same u = go (choice.thread == 0) refl
        where
          go : (b : Bool) → (choice.thread == 0) ≡ b → seen program A_thread cell (choice ∷ run) ≡ seen program A_thread cell run
          go true e = seen_own program A_thread cell choice run step (eqb-true choice.thread 0 e) ∙ ap (λ x. changed_by x (seen program A_thread cell run)) u
          go false e = seen_other program A_thread cell choice run step e

      -- where the object holds the thread that it held, with its mark
      stays : use_with step.effect A_thread cell ≡ None → then_on.holds cell ≡ now.holds cell
          → ((t : ℕ) → now.holds cell ≡ Some t → (then_on.thread t).mark ≡ (now.thread t).mark) → Kept
      stays u h k = ap (state_held then_on) h ∙ go (now.holds cell) refl ∙ before ∙ sym (seen_same u)
        where
          go : (o : Option ℕ) → now.holds cell ≡ o → state_held then_on o ≡ state_held now o
          go None e = refl
          go (Some t) e = ap state_of_mark (k t e)

      mark_next : (t : ℕ) → t < now.made → (then_on.thread t).mark ≡ marked_by step.effect.sync t (now.thread t).mark
      mark_next t l = ap (λ (s : State). (s.thread t).mark) step.leads ∙ marks program now choice.thread step.move step.effect t (lt_differs t now.made l)

      mark_stays : (t : ℕ) → now.holds cell ≡ Some t → (sync : Sync) → step.effect.sync ≡ sync → marked_by sync t (now.thread t).mark ≡ (now.thread t).mark
          → (then_on.thread t).mark ≡ (now.thread t).mark
      mark_stays t h sync e m = mark_next t (held_below run good cell t h) ∙ ap (λ (y : Sync). marked_by y t (now.thread t).mark) e ∙ m

      -- ---- a creation

      new_mark : (object : Cell) (f : ℕ) → step.effect.sync ≡ Makes object f → (then_on.thread now.made).mark ≡ Unmarked
      unfolding after
      new_mark object f e = ap (λ (s : State). (s.thread now.made).mark) step.leads
          ∙ ap (λ (y : Sync). (thread_after program now choice.thread step.move step.effect (made_by y) now.made).mark) e
          ∙ ap (λ b. (cond b (thread_before program f now.called (spot_at (now.thread choice.thread) step.move ∷ string_at (now.thread choice.thread))) (moved_thread program now choice.thread step.move step.effect now.made)).mark)
          (eq-eqb now.made now.made refl)

      makes_case : (object : Cell) (f : ℕ) → step.effect.sync ≡ Makes object f → (b : Bool) → same_cell object cell ≡ b → Kept
      makes_case object f e true s = ap (state_held then_on) holds ∙ ap state_of_mark (new_mark object f e)
          ∙ sym (seen_own program A_thread cell choice run step (by_initial Begins used) ∙ ap (λ x. changed_by x (seen program A_thread cell run)) used)
        where
          holds : then_on.holds cell ≡ Some now.made
          holds = holds_next choice run step cell ∙ ap (λ (y : Sync). holds_after y now.made cell (now.holds cell)) e ∙ ap (λ b. cond b (Some now.made) (now.holds cell)) s

          used : use_with step.effect A_thread cell ≡ Some Begins
          used = subst (λ (x : Cell). use_with step.effect A_thread x ≡ Some Begins) (cell_same object cell s) (making_uses program well choice run step object f e)
      makes_case object f e false s = stays used
          (holds_next choice run step cell ∙ ap (λ (y : Sync). holds_after y now.made cell (now.holds cell)) e ∙ ap (λ b. cond b (Some now.made) (now.holds cell)) s)
          (λ t h. mark_stays t h (Makes object f) e refl)
        where
          used : use_with step.effect A_thread cell ≡ None
          used = making_misses program well choice run step object f e cell s

      -- ---- a join or a detach

      marks_case : (k : ℕ) (mark : Mark) → step.effect.sync ≡ Marks k mark → Kept
      marks_case k mark e = go (same_cell held.0 cell) refl
        where
          held : IsHeld now step.by.ask.request k
          held = marks_after now step.by.frames step.by.ask.turn step.by.ask.request k mark (sym (sync_is program well choice run step) ∙ e)

          accessed : accesses_object step.effect cell ≡ same_cell held.0 cell
          accessed = accesses_one program well choice run step held.0 cell held.1.1

          used : (b : Bool) → same_cell held.0 cell ≡ b → use_with step.effect A_thread cell ≡ mark_use mark b
          used b s = ap (λ (y : Sync). use_by y A_thread (accesses_object step.effect cell)) e ∙ ap (mark_use mark) (accessed ∙ s)

          same_holds : then_on.holds cell ≡ now.holds cell
          same_holds = holds_next choice run step cell ∙ ap (λ (y : Sync). holds_after y now.made cell (now.holds cell)) e

          no_use : (mark : Mark) → mark_use mark false ≡ None
          no_use Unmarked = refl
          no_use Joined = refl
          no_use Detached = refl

          unmarked : (now.thread k).mark ≡ Unmarked
          unmarked = plain (now.thread k).mark (subst (Finds now choice.thread) e (finds program now choice step.move step.effect step.by))
            where
              plain : (m : Mark) → is_marked m ≡ false → m ≡ Unmarked
              plain Unmarked f = refl
              plain Joined f = absurd (cc)
              plain Detached f = absurd (cc)

          ours_now : same_cell held.0 cell ≡ true → now.holds cell ≡ Some k
          ours_now s = subst (λ (x : Cell). now.holds x ≡ Some k) (cell_same held.0 cell s) held.1.0

          was_live : same_cell held.0 cell ≡ true → seen program A_thread cell run ≡ Is_live
          was_live s = sym before ∙ ap (state_held now) (ours_now s) ∙ ap state_of_mark unmarked

          new_state : same_cell held.0 cell ≡ true → state_of_object then_on cell ≡ state_of_mark mark
          new_state s = ap (state_held then_on) (same_holds ∙ ours_now s) ∙ ap state_of_mark (mark_next k (held_below run good cell k (ours_now s))
              ∙ ap (λ (y : Sync). marked_by y k (now.thread k).mark) e ∙ ap (λ b. cond b mark (now.thread k).mark) (eq-eqb k k refl))

          own_seen : (doing : Doing) (s : same_cell held.0 cell ≡ true) → use_with step.effect A_thread cell ≡ Some doing
              → seen program A_thread cell (choice ∷ run) ≡ changed_by (Some doing) Is_live
          own_seen doing s u = seen_own program A_thread cell choice run step (by_initial doing u) ∙ ap (λ x. changed_by x (seen program A_thread cell run)) u ∙ ap (λ x. changed_by (Some doing) x) (was_live s)

          by_mark : (m : Mark) → mark ≡ m → same_cell held.0 cell ≡ true → state_of_mark mark ≡ seen program A_thread cell (choice ∷ run)
          by_mark Joined q s = ap state_of_mark q ∙ sym (own_seen Joins_it s (used true s ∙ ap (λ x. mark_use x true) q))
          by_mark Detached q s = ap state_of_mark q ∙ sym (own_seen Detaches_it s (used true s ∙ ap (λ x. mark_use x true) q))
          by_mark Unmarked q s = ap state_of_mark q ∙ sym (was_live s) ∙ sym (seen_same (used true s ∙ ap (λ x. mark_use x true) q))

          apart_mark : same_cell held.0 cell ≡ false → (t : ℕ) → now.holds cell ≡ Some t → (b : Bool) → (k == t) ≡ b → marked_by (Marks k mark) t (now.thread t).mark ≡ (now.thread t).mark
          apart_mark s t h true q = absurd (no_cell _ (cell_equal held.0 cell (held_once run good held.0 cell t (held.1.0 ∙ ap Some (eqb-true k t q)) h)) s)
            where
              no_cell : (b : Bool) → b ≡ true → b ≡ false → ⊥
              no_cell true e f = cc
              no_cell false e f = cc
          apart_mark s t h false q = ap (λ b. cond b mark (now.thread t).mark) q

          go : (b : Bool) → same_cell held.0 cell ≡ b → Kept
          go true s = new_state s ∙ by_mark mark refl s
          go false s = stays (used false s ∙ no_use mark) same_holds (λ t h. mark_stays t h (Marks k mark) e (apart_mark s t h (k == t) refl))

      next_state : Kept
      next_state = go step.effect.sync refl
        where
          go : (sync : Sync) → step.effect.sync ≡ sync → Kept
          go (Makes object f) e = makes_case object f e (same_cell object cell) refl
          go (Marks k mark) e = marks_case k mark e
          go sync e = stays (ap (λ (y : Sync). use_by y A_thread (accesses_object step.effect cell)) e)
              (holds_next choice run step cell ∙ ap (λ (y : Sync). holds_after y now.made cell (now.holds cell)) e)
              (λ t h. mark_stays t h sync e refl)

    pub object_seen : (run : List Choice) → IsGoodRun program run → state_of_object (state_after program run) cell ≡ seen program A_thread cell run
    unfolding state_after opening seen
    object_seen [] r = refl
    object_seen (choice ∷ run) r = next_state choice run (last_step program choice run r) r.0 (object_seen run r.0)
