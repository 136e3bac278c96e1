-- A mutex that a thread waits with is live: the thread needs it, so nobody destroys it.
use Rattle.std.proofs.Common.{◌≡◌, refl, sym, subst, ap, ◌∙◌, Bool, true, false, cond, ◌&&◌, ◌==◌, ℕ, List, [], ◌∷◌, Option, Some, None, eqb-true, eq-eqb, arith}
use Rattle.std.specs.List.{list_any}
use Rattle.c_program.specs.declared.program.Program.{Program}
use Rattle.c_program.specs.Values.{Cell, same_cell}
use Rattle.c_program.specs.Control.{Control}
use Rattle.c_program.specs.State.{State, Thread, Not_made, Running, Frame, Life, Unmade, Live, Dead, Mutex, opening, thread_before, no_thread, depth_of, has_ended, frames_of, control_of}
use Rattle.c_program.specs.Requests.{Request}
use Rattle.c_program.specs.Faults.{A_mutex, Ends_life, Access, accesses_of, is_busy}
use Rattle.c_program.specs.Effects.{Sync, Starts, Kills, Starts_condition, Kills_condition, Starts_key, Kills_key, Suspends, Finishes, Effect, effect_of, made_by, own_stand, thread_after, after}
use Rattle.c_program.specs.Step.{Choice}
use Rattle.c_program.specs.Runs.{IsGoodRun, state_after}
use Rattle.c_program.specs.WellFormed.{IsWellFormed}
use Rattle.c_program.specs.Laws.{Finds, accesses_object}
use Rattle.c_program.specs.Tracks.{life_number, life_of, life_after}
use Rattle.c_program.proofs.Cells.{cell_same}
use Rattle.c_program.proofs.Counters.{sound_run}
use Rattle.c_program.proofs.Finds.{finds}
use Rattle.c_program.proofs.Sound.{if_either}
use Rattle.c_program.proofs.Stays.{others}
use Rattle.path_simulation.specs.Simulates.{LastStep}
use Rattle.path_simulation.proofs.Simulated.{last_step}
use Rattle.static_facts.proofs.Later.{own_later, new_stand}
use Rattle.static_facts.proofs.MutexAsks.{cell_equal}
use Rattle.static_facts.proofs.Owner.{is_busy_by, or_left, or_right}
use Rattle.static_facts.specs.ObjectStates.{Doing, Begins, Joins_it, Detaches_it, Ends_it}
use Rattle.static_facts.specs.Seen.{use_by, use_with}
use Rattle.static_facts.proofs.Quiet.{wait_quiet}
use Rattle.static_facts.proofs.Waiting.{is_waiting}
use Rattle.static_facts.proofs.Changing.{change_by, life_step, access_of_sync, uses_by, agrees}
use Rattle.static_facts.proofs.Lifetimes.{runs_made}

-- what is destroyed no other thread needs
pub ends_find : (state : State) (t : ℕ) (sync : Sync) (x : Access) → access_of_sync sync ≡ Some x → x.how ≡ Ends_life → Finds state t sync → is_busy state t x.cell ≡ false
ends_find state t (Kills m) x e h f = subst (λ (y : Access). is_busy state t y.cell ≡ false) (same _ x e) f.1
  where
    same : (a b : Access) → Some a ≡ Some b → a ≡ b
    same a b e = cc
ends_find state t (Kills_condition c) x e h f = subst (λ (y : Access). is_busy state t y.cell ≡ false) (same _ x e) f.1
  where
    same : (a b : Access) → Some a ≡ Some b → a ≡ b
    same a b e = cc
ends_find state t (Kills_key k) x e h f = subst (λ (y : Access). is_busy state t y.cell ≡ false) (same _ x e) f.1
  where
    same : (a b : Access) → Some a ≡ Some b → a ≡ b
    same a b e = cc
ends_find state t (Starts m kind) x e h f = absurd (cc)
ends_find state t (Starts_condition c) x e h f = absurd (cc)
ends_find state t (Starts_key k) x e h f = absurd (cc)
ends_find state t _ x e h f = absurd (cc)

pub true_false : (b : Bool) → b ≡ true → b ≡ false → ⊥
true_false true e f = cc
true_false false e f = cc

owned_live : (t : ℕ) (life : Life Mutex) → (depth_of t life == 0) ≡ false → life_number life ≡ 1
owned_live t (Live mutex) e = refl
owned_live t Unmade e = absurd (cc)
owned_live t Dead e = absurd (cc)

module _ (program : Program) (well : IsWellFormed program) (m : Cell) where
  pub record LiveWait (state : State) (thread : ℕ) : Type 0 where
    pub live : life_of state A_mutex m ≡ 1
    pub accessed : state.accessed m thread ≡ true

  abbrev IsWaiting : State → ℕ → Type 0
  IsWaiting state thread = (control : Control) (frames : List Frame) → (state.thread thread).stand ≡ Running control frames (Some m) → LiveWait state thread

  module _ (choice : Choice) (run : List Choice) (step : LastStep program choice run) where
    abbrev t : ℕ
    t = choice.thread

    abbrev state : State
    state = state_after program run

    abbrev later : State
    later = after program state t step.move step.effect

    life_later : (u : Option Doing) → use_with step.effect A_mutex m ≡ u → (u ≡ Some Ends_it → ⊥) → life_of state A_mutex m ≡ 1 → life_of (state_after program (choice ∷ run)) A_mutex m ≡ 1
    life_later u e n l = life_step program well A_mutex tt m choice run step ∙ ap (λ x. life_after (change_by x) (life_of state A_mutex m)) e ∙ go u n
      where
        go : (u : Option Doing) → (u ≡ Some Ends_it → ⊥) → life_after (change_by u) (life_of state A_mutex m) ≡ 1
        go None n = l
        go (Some Begins) n = refl
        go (Some Joins_it) n = l
        go (Some Detaches_it) n = l
        go (Some Ends_it) n = absurd (n refl)

    accessed_later : (thread : ℕ) → state.accessed m thread ≡ true → (state_after program (choice ∷ run)).accessed m thread ≡ true
    unfolding after
    accessed_later thread e = ap (λ (s : State). s.accessed m thread) step.leads ∙ or_right _ _ e

    same_inside : (c d : Control) (fs gs : List Frame) (a b : Cell) → Running c fs (Some a) ≡ Running d gs (Some b) → a ≡ b
    same_inside c d fs gs a b e = cc

    unlike_inside : (c d : Control) (fs gs : List Frame) (b : Cell) → Running c fs None ≡ Running d gs (Some b) → ⊥
    unlike_inside c d fs gs b e = cc

    -- the thread begins to wait
    begins_wait : (c : Cell) → step.effect.sync ≡ Suspends c m → LiveWait (state_after program (choice ∷ run)) t
    unfolding after effect_of
    begins_wait c e = record {
      live = life_later None (ap (λ (y : Sync). use_by y A_mutex (accesses_object step.effect m)) e ∙ wait_quiet A_mutex c m (accesses_object step.effect m)) (λ q. cc)
          (owned_live t (state.mutex m) (subst (Finds state t) e (finds program state choice step.move step.effect step.by)).1);
      accessed = ap (λ (s : State). s.accessed m t) step.leads ∙ or_left _ _ (both _ _ used (eq-eqb t t refl));
    }
      where
        both : (a b : Bool) → a ≡ true → b ≡ true → (a && b) ≡ true
        both true b e f = f
        both false b e f = absurd (cc)

        used : list_any (λ access. same_cell access.cell m) step.effect.used ≡ true
        used = ap (λ (x : Effect). list_any (λ access. same_cell access.cell m) x.used) step.by.gives
            ∙ ap (λ (q : Request). list_any (λ access. same_cell access.cell m) (accesses_of q)) (is_waiting program well choice run step c m e)
            ∙ or_right _ _ (or_left _ _ (cell_equal m m refl))

    own_wait : (sync : Sync) → step.effect.sync ≡ sync → (control : Control) (frames : List Frame)
        → own_stand program step.move step.effect state.called step.by.control step.by.frames sync ≡ Running control frames (Some m) → LiveWait (state_after program (choice ∷ run)) t
    own_wait (Suspends c n) e control frames s = begins_wait c (e ∙ ap (λ (x : Cell). Suspends c x) (same_inside _ _ _ _ n m s))
    own_wait (Finishes result) e control frames s = absurd (cc)
    own_wait _ e control frames s = absurd (unlike_inside _ _ _ _ _ s)

    -- another one waits still
    other_wait : (thread : ℕ) → (thread == t) ≡ false → IsGoodRun program run → IsWaiting state thread → (control : Control) (frames : List Frame) → (state.thread thread).stand ≡ Running control frames (Some m)
        → LiveWait (state_after program (choice ∷ run)) thread
    other_wait thread o good before control frames s = record {
      live = life_later (use_with step.effect A_mutex m) refl not_ended w.live;
      accessed = accessed_later thread w.accessed;
    }
      where
        w : LiveWait state thread
        w = before control frames s

        busy : is_busy state t m ≡ true
        busy = is_busy_by state m t thread (record { made = runs_made program well run good thread control frames (Some m) s; accessed = w.accessed; runs = ap has_ended s }) o

        not_ended : use_with step.effect A_mutex m ≡ Some Ends_it → ⊥
        not_ended e = let u = uses_by A_mutex tt step.effect.sync (accesses_object step.effect m) Ends_it e in
            let free = ends_find state t step.effect.sync u.access u.is u.how (finds program state choice step.move step.effect step.by) in
            let same = cell_same u.access.cell m (sym (agrees program well A_mutex tt m choice run step u.access u.is) ∙ u.accessed) in
            true_false (is_busy state t m) busy (subst (λ (x : Cell). is_busy state t x ≡ false) same free)

    new_waits : (made : Option ℕ) → made_by step.effect.sync ≡ made → (state.thread state.made).stand ≡ Not_made → (state.made == t) ≡ false → (control : Control) (frames : List Frame)
        → (later.thread state.made).stand ≡ Running control frames (Some m) → ⊥
    unfolding after
    new_waits (Some function) e n o control frames s = unlike_inside _ _ _ _ _ (sym (new_stand program well choice run step function e) ∙ s)
    new_waits None e n o control frames s = let q : Not_made ≡ Running control frames (Some m) = sym n
        ∙ sym (ap (λ b. cond b (own_stand program step.move step.effect state.called (control_of (state.thread t).stand) (frames_of (state.thread t).stand) step.effect.sync) (state.thread state.made).stand) o)
        ∙ sym (ap (λ (x : Option ℕ). (thread_after program state t step.move step.effect x state.made).stand) e) ∙ s in cc

    next_wait : (thread : ℕ) → IsGoodRun program run → IsWaiting state thread → (control : Control) (frames : List Frame) → (later.thread thread).stand ≡ Running control frames (Some m)
        → LiveWait (state_after program (choice ∷ run)) thread
    next_wait thread good before control frames s = go (thread == t) refl (thread == state.made) refl
      where
        go : (a : Bool) → (thread == t) ≡ a → (b : Bool) → (thread == state.made) ≡ b → LiveWait (state_after program (choice ∷ run)) thread
        go true q b n = let z = eqb-true thread t q in subst (LiveWait (state_after program (choice ∷ run))) (sym z)
            (own_wait step.effect.sync refl control frames (sym (own_later program well choice run step) ∙ ap (λ k. (later.thread k).stand) (sym z) ∙ s))
        go false q false n = other_wait thread q good before control frames (sym (others program state t step.move step.effect thread q n) ∙ s)
        go false q true n = let z = eqb-true thread state.made n in
            absurd (new_waits (made_by step.effect.sync) refl ((sound_run program well.counts run good).fresh state.made (omega arith))
            (ap (λ k. k == t) (sym z) ∙ q) control frames (ap (λ k. (later.thread k).stand) (sym z) ∙ s))

  unlike_start : (control c : Control) (fs frames : List Frame) → Running control fs None ≡ Running c frames (Some m) → ⊥
  unlike_start control c fs frames e = cc

  none_yet : (thread : ℕ) → IsWaiting (state_after program []) thread
  unfolding state_after opening
  none_yet thread control frames s = absurd (if_either (λ (x : Thread). x.stand ≡ Running control frames (Some m) → ⊥) (thread == 0) (thread_before program program.main 0 []) no_thread
      (λ _ e. unlike_start _ _ _ _ e) (λ _ e. cc) s)

  pub waits_live : (run : List Choice) → IsGoodRun program run → (thread : ℕ) → IsWaiting (state_after program run) thread
  waits_live [] r thread control frames s = none_yet thread control frames s
  waits_live (choice ∷ run) r thread control frames s = let step = last_step program choice run r in
      next_wait choice run step thread r.0 (waits_live run r.0 thread) control frames (ap (λ (x : State). (x.thread thread).stand) (sym step.leads) ∙ s)
