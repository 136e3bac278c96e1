-- Who owns a mutex has accessed it and runs; so nobody else destroys it, and its depth is its own thread's matter.
use Rattle.std.proofs.Common.{◌≡◌, ◌≢◌, ◌⊎◌, inl, inr, refl, sym, subst, ap, ◌∙◌, Bool, true, false, cond, not, ◌&&◌, ◌||◌, ◌==◌, ℕ, zero, suc, ◌<◌, ◌≤◌, List, [], ◌∷◌, Option, Some, None, eqb-true, eq-eqb, arith}
use Rattle.std.proofs.lemmas.Grind.{common_steps}
use Rattle.std.specs.List.{list_any}
use Rattle.c_program.specs.declared.program.Program.{Program}
use Rattle.c_program.specs.declared.action.MutexKind.{MutexKind}
use Rattle.c_program.specs.Values.{Cell, Value, same_cell}
use Rattle.c_program.specs.Control.{Control, Move}
use Rattle.c_program.specs.State.{State, Thread, Stand, Not_made, Running, Ended, Frame, Life, Unmade, Live, Dead, Mutex, opening, depth_of, has_ended}
use Rattle.c_program.specs.Faults.{some_below, is_busy, is_live}
use Rattle.c_program.specs.Effects.{Sync, Kills, Starts, Takes, Gives, Suspends, Resumes, Finishes, finishes, Effect, Use, Keeps, Begins, Takes_it, Gives_it, Dies, Loses, use_of, use_if, mutex_after, made_by, own_stand, after}
use Rattle.c_program.specs.Step.{Choice}
use Rattle.c_program.specs.Runs.{IsGoodRun, state_after}
use Rattle.c_program.specs.WellFormed.{IsWellFormed}
use Rattle.c_program.specs.Laws.{Finds, depth_after, accesses_object}
use Rattle.c_program.proofs.Cells.{cell_same}
use Rattle.c_program.proofs.Finds.{finds}
use Rattle.c_program.proofs.Stays.{others, owners, own_depth}
use Rattle.c_program.proofs.Objects.{objects}
use Rattle.c_program.proofs.Counters.{sound_run}
use Rattle.c_program.proofs.Sound.{if_either}
use Rattle.path_simulation.specs.Simulates.{LastStep}
use Rattle.path_simulation.proofs.Simulated.{last_step}
use Rattle.static_facts.proofs.Later.{thread_made, own_later, made_grows, lt_differs}

abbrev pub Owns : State → Cell → ℕ → Type 0
Owns state m thread = (depth_of thread (state.mutex m) == 0) ≡ false

pub record Owner (state : State) (m : Cell) (thread : ℕ) : Type 0 where
  pub made : thread < state.made
  pub accessed : state.accessed m thread ≡ true
  pub runs : has_ended (state.thread thread).stand ≡ false

-- ---- one test

no_depth : (n : ℕ) → n ≡ 0 → (n == 0) ≡ false → ⊥
no_depth n e f = grind (arith, common_steps)

pub or_right : (a b : Bool) → b ≡ true → (a || b) ≡ true
or_right true b e = refl
or_right false b e = e

pub or_left : (a b : Bool) → a ≡ true → (a || b) ≡ true
or_left true b e = refl
or_left false b e = absurd (cc)

pub some_below_has : (n k : ℕ) (test : ℕ → Bool) → k < n → test k ≡ true → some_below n test ≡ true
some_below_has zero k test l e = absurd (omega arith)
some_below_has (suc n) k test l e = go (λ b. some_below_has n k test b e) (k == n) refl
  where
    below : (k == n) ≡ false → k < n
    below f = grind (arith, common_steps)

    go : (k < n → some_below n test ≡ true) → (b : Bool) → (k == n) ≡ b → (test n || some_below n test) ≡ true
    go h true f = or_left (test n) _ (subst (λ i. test i ≡ true) (eqb-true k n f) e)
    go h false f = or_right (test n) _ (h (below f))

three : (a b c : Bool) → a ≡ false → b ≡ true → c ≡ false → (not a && b && not c) ≡ true
three true b c e f g = absurd (cc)
three false true c e f g = ap not g
three false false c e f g = absurd (cc)

pub is_busy_by : (state : State) (m : Cell) (thread other : ℕ) → Owner state m other → (other == thread) ≡ false → is_busy state thread m ≡ true
is_busy_by state m thread other o e = some_below_has state.made other _ o.made (three (other == thread) (state.accessed m other) (has_ended (state.thread other).stand) e o.accessed o.runs)

-- ---- which step destroys a mutex

pub dies_by : (sync : Sync) (c : Cell) → use_of sync c ≡ Dies → (m : Cell) × ((sync ≡ Kills m) × (same_cell m c ≡ true))
dies_by (Kills m) c e = (m, (refl, go (same_cell m c) refl e))
  where
    go : (b : Bool) → same_cell m c ≡ b → use_if b Dies ≡ Dies → b ≡ true
    go true f e = refl
    go false f e = absurd (cc)
dies_by (Starts m kind) c e = absurd (go (same_cell m c) e)
  where
    go : (b : Bool) → use_if b (Begins kind) ≡ Dies → ⊥
    go true e = cc
    go false e = cc
dies_by (Takes m) c e = absurd (go (same_cell m c) e)
  where
    go : (b : Bool) → use_if b Takes_it ≡ Dies → ⊥
    go true e = cc
    go false e = cc
dies_by (Resumes m) c e = absurd (go (same_cell m c) e)
  where
    go : (b : Bool) → use_if b Takes_it ≡ Dies → ⊥
    go true e = cc
    go false e = cc
dies_by (Gives m) c e = absurd (go (same_cell m c) e)
  where
    go : (b : Bool) → use_if b Gives_it ≡ Dies → ⊥
    go true e = cc
    go false e = cc
dies_by (Suspends d m) c e = absurd (go (same_cell m c) e)
  where
    go : (b : Bool) → use_if b Gives_it ≡ Dies → ⊥
    go true e = cc
    go false e = cc
dies_by _ c e = absurd (cc)

is_dies : (u : Use) → (u ≡ Dies) ⊎ (u ≢ Dies)
is_dies Dies = inl refl
is_dies Keeps = inr (λ e. cc)
is_dies (Begins kind) = inr (λ e. cc)
is_dies Takes_it = inr (λ e. cc)
is_dies Gives_it = inr (λ e. cc)
is_dies Loses = inr (λ e. cc)

finish_loses : (sync : Sync) (c : Cell) → finishes sync ≡ true → use_of sync c ≡ Loses
finish_loses (Finishes result) c e = refl
finish_loses _ c e = absurd (cc)

-- ---- one step

module _ (program : Program) (well : IsWellFormed program) (c : Cell) (choice : Choice) (run : List Choice) (step : LastStep program choice run)
    (owner : (thread : ℕ) → Owns (state_after program run) c thread → Owner (state_after program run) c thread) where
  abbrev t : ℕ
  t = choice.thread

  abbrev state : State
  state = state_after program run

  abbrev later : State
  later = after program state t step.move step.effect

  found : Finds state t step.effect.sync
  found = finds program state choice step.move step.effect step.by

  dead_later : (thread : ℕ) → use_of step.effect.sync c ≡ Dies → depth_of thread (later.mutex c) ≡ 0
  unfolding after
  dead_later thread e = ap (λ (u : Use). depth_of thread (mutex_after u t (state.mutex c))) e

  free_before : (other : ℕ) → use_of step.effect.sync c ≡ Dies → (other == t) ≡ false → depth_of other (state.mutex c) ≡ 0
  free_before other e o = go (depth_of other (state.mutex c) == 0) refl
    where
      busy : Owns state c other → ⊥
      busy w = let d = dies_by step.effect.sync c e in
          let f : is_busy state t d.0 ≡ false = (subst (Finds state t) d.1.0 found).1 in
          let b : is_busy state t c ≡ true = is_busy_by state c t other (owner other w) o in
          let g : is_busy state t c ≡ false = subst (λ (x : Cell). is_busy state t x ≡ false) (cell_same d.0 c d.1.1) f in cc

      go : (b : Bool) → (depth_of other (state.mutex c) == 0) ≡ b → depth_of other (state.mutex c) ≡ 0
      go true f = eqb-true _ 0 f
      go false f = absurd (busy f)

  -- nobody else's depth changes
  pub depth_stays : (other : ℕ) → (other == t) ≡ false → depth_of other (later.mutex c) ≡ depth_of other (state.mutex c)
  depth_stays other o = elim (is_dies (use_of step.effect.sync c)) [
    | inl d ↦ dead_later other d ∙ sym (free_before other d o)
    | inr n ↦ owners program state t step.move step.effect other c found o n
  ]

  pub depth_own : depth_of t (later.mutex c) ≡ depth_after (use_of step.effect.sync c) (depth_of t (state.mutex c))
  depth_own = own_depth program state t step.move step.effect c found

  pub mover_made : t < state.made
  mover_made = thread_made program well choice run step

  accessed_grows : (thread : ℕ) → state.accessed c thread ≡ true → later.accessed c thread ≡ true
  unfolding after
  accessed_grows thread e = or_right _ _ e

  accessed_now : accesses_object step.effect c ≡ true → later.accessed c t ≡ true
  unfolding after
  accessed_now e = or_left _ _ (both (accesses_object step.effect c) (t == t) e (eq-eqb t t refl))
    where
      both : (a b : Bool) → a ≡ true → b ≡ true → (a && b) ≡ true
      both true b e f = f
      both false b e f = absurd (cc)

  gone : finishes step.effect.sync ≡ true → Owns later c t → ⊥
  gone e w = no_depth _ (depth_own ∙ ap (λ (u : Use). depth_after u (depth_of t (state.mutex c))) (finish_loses step.effect.sync c e)) w

  own_runs : Owns later c t → has_ended (later.thread t).stand ≡ false
  own_runs w = subst (λ (s : Stand). has_ended s ≡ false) (sym (own_later program well choice run step)) (by_sync step.effect.sync refl)
    where
      by_sync : (sync : Sync) → step.effect.sync ≡ sync → has_ended (own_stand program step.move step.effect state.called step.by.control step.by.frames sync) ≡ false
      by_sync (Finishes result) e = absurd (gone (ap finishes e) w)
      by_sync (Suspends d m) e = refl
      by_sync _ e = refl

  own_accessed : Owns later c t → later.accessed c t ≡ true
  own_accessed w = go (accesses_object step.effect c) refl
    where
      unlike : finishes step.effect.sync ≡ false → accesses_object step.effect c ≡ false → Owns state c t
      unlike f e = subst (λ (l : Life Mutex). (depth_of t l == 0) ≡ false) ((objects program state choice step.move step.effect c step.by e).mutex f) w

      ends : (b : Bool) → finishes step.effect.sync ≡ b → accesses_object step.effect c ≡ false → later.accessed c t ≡ true
      ends true f e = absurd (gone f w)
      ends false f e = accessed_grows t (owner t (unlike f e)).accessed

      go : (b : Bool) → accesses_object step.effect c ≡ b → later.accessed c t ≡ true
      go true e = accessed_now e
      go false e = ends (finishes step.effect.sync) refl e

  owner_other : (thread : ℕ) → (thread == t) ≡ false → Owns later c thread → Owner later c thread
  owner_other thread o w = let b = owner thread (subst (λ (n : ℕ). (n == 0) ≡ false) (depth_stays thread o) w) in record {
    made = let g : state.made ≤ later.made = made_grows program well choice run step in let l : thread < state.made = b.made in omega arith;
    accessed = accessed_grows thread b.accessed;
    runs = subst (λ (s : Stand). has_ended s ≡ false) (sym (others program state t step.move step.effect thread o (lt_differs thread state.made b.made))) b.runs;
  }

  owner_own : Owns later c t → Owner later c t
  owner_own w = record {
    made = let g : state.made ≤ later.made = made_grows program well choice run step in let l : t < state.made = mover_made in omega arith;
    accessed = own_accessed w;
    runs = own_runs w;
  }

  pub owner_later : (thread : ℕ) → Owns later c thread → Owner later c thread
  owner_later thread w = go (thread == t) refl
    where
      go : (b : Bool) → (thread == t) ≡ b → Owner later c thread
      go true e = subst (Owner later c) (sym (eqb-true thread t e)) (owner_own (subst (Owns later c) (eqb-true thread t e) w))
      go false e = owner_other thread e w

-- in each run
module _ (program : Program) (well : IsWellFormed program) (c : Cell) where
  pub owner_in : (run : List Choice) → IsGoodRun program run → (thread : ℕ) → Owns (state_after program run) c thread → Owner (state_after program run) c thread
  unfolding state_after opening
  owner_in [] good thread w = absurd (cc)
  owner_in (choice ∷ run) good thread w = let step = last_step program choice run good in
      subst (λ (s : State). Owner s c thread) (sym step.leads) (owner_later program well c choice run step (owner_in run good.0) thread (subst (λ (s : State). Owns s c thread) step.leads w))
