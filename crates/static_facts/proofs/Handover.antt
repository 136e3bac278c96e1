-- Between two ownerships of a mutex by different threads stand a release by the first and a taking by the second.
use Rattle.std.proofs.Common.{◌≡◌, ◌≢◌, ◌⊎◌, inl, inr, refl, sym, subst, ap, ◌∙◌, Bool, true, false, cond, not, ◌&&◌, ◌||◌, ◌==◌, ℕ, suc, ◌-◌, ◌<◌, ◌≤◌, List, [], ◌∷◌, length, Option, Some, None, eqb-true, eq-eqb, arith}
use Rattle.std.proofs.lemmas.Grind.{common_steps}
use Rattle.c_program.specs.declared.action.MutexKind.{MutexKind}
use Rattle.c_program.specs.declared.program.Program.{Program}
use Rattle.c_program.specs.Values.{Cell, same_cell}
use Rattle.c_program.specs.State.{State, Life, Unmade, Live, Dead, Mutex, depth_of}
use Rattle.c_program.specs.Faults.{is_live}
use Rattle.c_program.specs.Effects.{Sync, Starts, Takes, Gives, Suspends, Resumes, Kills, Finishes, Use, Begins, Takes_it, Gives_it, Dies, use_if, use_of, after}
use Rattle.c_program.specs.Step.{Choice}
use Rattle.c_program.specs.Runs.{IsGoodRun, state_after, Moment, moment_at}
use Rattle.c_program.specs.Happens.{releases, takes, state_at}
use Rattle.c_program.specs.WellFormed.{IsWellFormed}
use Rattle.c_program.specs.Laws.{Finds, depth_after}
use Rattle.c_program.proofs.Cells.{cell_same}
use Rattle.c_program.proofs.Finds.{finds}
use Rattle.c_program.proofs.Logic.{if_cases}
use Rattle.path_simulation.specs.Simulates.{LastStep}
use Rattle.static_facts.specs.OwnerLaws.{OwnsAt, ReleasesAt, TakesAt, IsHandedOver}
use Rattle.static_facts.proofs.Owner.{Owns, Owner, owner_in, depth_stays, depth_own}
use Rattle.static_facts.proofs.Moments.{IsMoment, step_of, at_within, at_longer, GoodLast, good_last}

-- ---- one mutex has one owner

pub one_owner : (a b : ℕ) (life : Life Mutex) → (depth_of a life == 0) ≡ false → (depth_of b life == 0) ≡ false → a ≡ b
one_owner a b (Live mutex) e f = by_owner mutex.owner mutex.depth a b e f
  where
    by_owner : (owner depth a b : ℕ) → (cond (owner == a) depth 0 == 0) ≡ false → (cond (owner == b) depth 0 == 0) ≡ false → a ≡ b
    by_owner owner depth a b e f = grind (arith, common_steps)
one_owner a b Unmade e f = absurd (cc)
one_owner a b Dead e f = absurd (cc)

true_false {ℓ} : {C : Type ℓ} (b : Bool) → b ≡ true → b ≡ false → C
true_false b e f = absurd (let g : true ≡ false = sym e ∙ f in cc)

dead_depth : (thread : ℕ) (life : Life Mutex) → is_live life ≡ false → depth_of thread life ≡ 0
dead_depth thread (Live mutex) e = absurd (cc)
dead_depth thread Unmade e = refl
dead_depth thread Dead e = refl

same_zero : (d : ℕ) → (suc d == 0) ≡ true → ⊥
same_zero d e = grind (arith, common_steps)

module _ (state : State) (t : ℕ) (c : Cell) where
  abbrev depth : ℕ
  depth = depth_of t (state.mutex c)

  taken_zero : (b : Bool) → (depth_after (use_if b Takes_it) depth == 0) ≡ true → (depth == 0) ≡ false → ⊥
  taken_zero true e f = same_zero depth e
  taken_zero false e f = true_false (depth == 0) e f

  begun_zero : (m : Cell) (kind : MutexKind) (b : Bool) → same_cell m c ≡ b → is_live (state.mutex m) ≡ false → (depth_after (use_if b (Begins kind)) depth == 0) ≡ true → (depth == 0) ≡ false → ⊥
  begun_zero m kind true s l e f = true_false (depth == 0) (ap (λ n. n == 0) (dead_depth t (state.mutex c) (subst (λ (x : Cell). is_live (state.mutex x) ≡ false) (cell_same m c s) l))) f
  begun_zero m kind false s l e f = true_false (depth == 0) e f

  given_zero : (b : Bool) → (depth_after (use_if b Gives_it) depth == 0) ≡ true → (depth == 0) ≡ false → b ≡ true
  given_zero true e f = refl
  given_zero false e f = true_false (depth == 0) e f

  killed_zero : (b : Bool) → (depth_after (use_if b Dies) depth == 0) ≡ true → (depth == 0) ≡ false → (b && not (depth == 0)) ≡ true
  killed_zero true e f = ap not f
  killed_zero false e f = true_false (depth == 0) e f

  -- an owner that owns it no more has released it
  pub release_of : (sync : Sync) → Finds state t sync → (depth == 0) ≡ false → (depth_after (use_of sync c) depth == 0) ≡ true → releases sync t (state.mutex c) c ≡ true
  release_of (Starts m kind) g f e = absurd (begun_zero m kind (same_cell m c) refl g e f)
  release_of (Takes m) g f e = absurd (taken_zero (same_cell m c) e f)
  release_of (Resumes m) g f e = absurd (taken_zero (same_cell m c) e f)
  release_of (Gives m) g f e = given_zero (same_cell m c) e f
  release_of (Suspends d m) g f e = given_zero (same_cell m c) e f
  release_of (Kills m) g f e = killed_zero (same_cell m c) e f
  release_of (Finishes result) g f e = ap not f
  release_of _ g f e = true_false (depth == 0) e f

  given_more : (b : Bool) → (depth == 0) ≡ true → (depth_after (use_if b Gives_it) depth == 0) ≡ false → ⊥
  given_more true f e = no_less depth f e
    where
      no_less : (d : ℕ) → (d == 0) ≡ true → (d - 1 == 0) ≡ false → ⊥
      no_less d f e = grind (arith, common_steps)
  given_more false f e = true_false (depth == 0) f e

  taken_more : (b : Bool) → (depth == 0) ≡ true → (depth_after (use_if b Takes_it) depth == 0) ≡ false → b ≡ true
  taken_more true f e = refl
  taken_more false f e = true_false (depth == 0) f e

  zero_not : (0 == 0) ≡ false → ⊥
  zero_not e = cc

  started_more : (kind : MutexKind) (b : Bool) → (depth == 0) ≡ true → (depth_after (use_if b (Begins kind)) depth == 0) ≡ false → ⊥
  started_more kind true f e = zero_not e
  started_more kind false f e = true_false (depth == 0) f e

  dead_more : (b : Bool) → (depth == 0) ≡ true → (depth_after (use_if b Dies) depth == 0) ≡ false → ⊥
  dead_more true f e = zero_not e
  dead_more false f e = true_false (depth == 0) f e

  -- who owns it now and did not has taken it
  pub taking_of : (sync : Sync) → (depth == 0) ≡ true → (depth_after (use_of sync c) depth == 0) ≡ false → takes sync c ≡ true
  taking_of (Starts m kind) f e = absurd (started_more kind (same_cell m c) f e)
  taking_of (Takes m) f e = taken_more (same_cell m c) f e
  taking_of (Resumes m) f e = taken_more (same_cell m c) f e
  taking_of (Gives m) f e = absurd (given_more (same_cell m c) f e)
  taking_of (Suspends d m) f e = absurd (given_more (same_cell m c) f e)
  taking_of (Kills m) f e = absurd (dead_more (same_cell m c) f e)
  taking_of (Finishes result) f e = absurd (zero_not e)
  taking_of _ f e = true_false (depth == 0) f e

  taken_once : (b : Bool) → b ≡ true → (depth_after (use_if b Takes_it) depth == 0) ≡ false
  taken_once b e = subst (λ x. (depth_after (use_if x Takes_it) depth == 0) ≡ false) (sym e) (grind (arith, common_steps))

  -- who takes it owns it
  pub owned_by_taking : (sync : Sync) → takes sync c ≡ true → (depth_after (use_of sync c) depth == 0) ≡ false
  owned_by_taking (Takes m) e = taken_once (same_cell m c) e
  owned_by_taking (Resumes m) e = taken_once (same_cell m c) e
  owned_by_taking _ e = absurd (cc)

-- ---- since a step

-- the thread released the mutex at i or later, and who owns it now took it after that
pub record Released (program : Program) (run : List Choice) (c : Cell) (state : State) (s i : ℕ) : Type 0 where
  pub position : ℕ
  pub later : i ≤ position
  pub gave : ReleasesAt program run c s position
  pub taken : (o : ℕ) → o ≢ s → Owns state c o → (l : ℕ) × ((position < l) × TakesAt program run c o l)

abbrev pub Since : Program → List Choice → Cell → State → ℕ → ℕ → Type 0
Since program run c state s i = Owns state c s ⊎ Released program run c state s i

module _ (program : Program) (well : IsWellFormed program) (c : Cell) (choice : Choice) (run : List Choice) (last : GoodLast program choice run) where
  abbrev t : ℕ
  t = choice.thread

  abbrev state : State
  state = state_after program run

  abbrev moment : Moment
  moment = record { choice = choice; earlier = run; move = last.move; effect = last.effect }

  abbrev step : LastStep program choice run
  step = step_of program moment last.is

  abbrev later : State
  later = after program state t last.move last.effect

  owner : (thread : ℕ) → Owns state c thread → Owner state c thread
  owner = owner_in program well c run last.is.good

  found : Finds state t last.effect.sync
  found = finds program state choice last.move last.effect last.is.by

  own_depth : depth_of t (later.mutex c) ≡ depth_after (use_of last.effect.sync c) (depth_of t (state.mutex c))
  own_depth = depth_own program well c choice run step owner

  stays : (o : ℕ) → (o == t) ≡ false → Owns later c o → Owns state c o
  stays o e w = subst (λ (n : ℕ). (n == 0) ≡ false) (depth_stays program well c choice run step owner o e) w

  released_longer : (s p : ℕ) → ReleasesAt program run c s p → ReleasesAt program (choice ∷ run) c s p
  released_longer s p r = record { moment = r.moment; at = at_longer program choice run p r.moment r.at; by = r.by; releases_it = r.releases_it }

  taken_longer : (s p : ℕ) → TakesAt program run c s p → TakesAt program (choice ∷ run) c s p
  taken_longer s p r = record { moment = r.moment; at = at_longer program choice run p r.moment r.at; by = r.by; takes_it = r.takes_it }

  pub takes_last : takes last.effect.sync c ≡ true → TakesAt program (choice ∷ run) c t (length run)
  takes_last e = record { moment = moment; at = last.at; by = refl; takes_it = e }

  -- ---- the owner moves

  released_now : (i : ℕ) → i ≤ length run → Owns state c t → (depth_of t (later.mutex c) == 0) ≡ true → Released program (choice ∷ run) c later t i
  released_now i l w e = record {
    position = length run;
    later = l;
    gave = record { moment = moment; at = last.at; by = refl; releases_it = release_of state t c last.effect.sync found w (ap (λ n. n == 0) (sym own_depth) ∙ e) };
    taken = λ o n u. absurd (n (one_owner o t (state.mutex c) (stays o (unlike o n) u) w));
  }
    where
      unlike : (o : ℕ) → o ≢ t → (o == t) ≡ false
      unlike o n = go (o == t) refl
        where
          go : (b : Bool) → (o == t) ≡ b → b ≡ false
          go true f = absurd (n (eqb-true o t f))
          go false f = refl

  owned_step : (s i : ℕ) → i ≤ length run → Owns state c s → Since program (choice ∷ run) c later s i
  owned_step s i l w = go (s == t) refl
    where
      own : (b : Bool) → (depth_of t (later.mutex c) == 0) ≡ b → Owns state c t → Since program (choice ∷ run) c later t i
      own true e u = inr (released_now i l u e)
      own false e u = inl e

      go : (b : Bool) → (s == t) ≡ b → Since program (choice ∷ run) c later s i
      go true e = subst (λ n. Since program (choice ∷ run) c later n i) (sym (eqb-true s t e)) (own (depth_of t (later.mutex c) == 0) refl (subst (Owns state c) (eqb-true s t e) w))
      go false e = inl (subst (λ (n : ℕ). (n == 0) ≡ false) (sym (depth_stays program well c choice run step owner s e)) w)

  -- ---- it was released

  released_step : (s i : ℕ) → Released program run c state s i → Released program (choice ∷ run) c later s i
  released_step s i r = record {
    position = r.position;
    later = r.later;
    gave = released_longer s r.position r.gave;
    taken = λ o n w. taken_by o n w (o == t) refl;
  }
    where
      old : (o : ℕ) → o ≢ s → Owns state c o → (l : ℕ) × ((r.position < l) × TakesAt program (choice ∷ run) c o l)
      old o n w = let k = r.taken o n w in (k.0, (k.1.0, taken_longer o k.0 k.1.1))

      new : (b : Bool) → (depth_of t (state.mutex c) == 0) ≡ b → t ≢ s → Owns later c t → (l : ℕ) × ((r.position < l) × TakesAt program (choice ∷ run) c t l)
      new true e n w = (length run, (at_within program run r.position r.gave.moment r.gave.at, takes_last (taking_of state t c last.effect.sync e (ap (λ k. k == 0) (sym own_depth) ∙ w))))
      new false e n w = old t n e

      taken_by : (o : ℕ) → o ≢ s → Owns later c o → (b : Bool) → (o == t) ≡ b → (l : ℕ) × ((r.position < l) × TakesAt program (choice ∷ run) c o l)
      taken_by o n w true e = subst (λ k. (l : ℕ) × ((r.position < l) × TakesAt program (choice ∷ run) c k l)) (sym (eqb-true o t e))
          (new (depth_of t (state.mutex c) == 0) refl (λ q. n (eqb-true o t e ∙ q)) (subst (Owns later c) (eqb-true o t e) w))
      taken_by o n w false e = old o n (stays o e w)

  pub since_step : (s i : ℕ) → i ≤ length run → Since program run c state s i → Since program (choice ∷ run) c later s i
  since_step s i l (inl w) = owned_step s i l w
  since_step s i l (inr r) = inr (released_step s i r)

  -- who takes it in this step owns it
  pub since_taking : (i : ℕ) → takes last.effect.sync c ≡ true → Since program (choice ∷ run) c later t i
  since_taking i e = inl (ap (λ k. k == 0) own_depth ∙ owned_by_taking state t c last.effect.sync e)

-- ---- in each run

-- before the step at i the thread owns it, or it takes it in that step
pub record HoldsFrom (program : Program) (run : List Choice) (c : Cell) (s i : ℕ) : Type 0 where
  pub moment : Moment
  pub at : moment_at program run i ≡ Some moment
  pub holds : Owns (state_at program moment) c s ⊎ ((moment.choice.thread ≡ s) × (takes moment.effect.sync c ≡ true))

module _ (program : Program) (well : IsWellFormed program) (c : Cell) where
  same_moment : (a b : Moment) → Some a ≡ Some b → a ≡ b
  same_moment a b e = cc

  abbrev StartsBy : ℕ → Moment → Type 0
  StartsBy s m = Owns (state_at program m) c s ⊎ ((m.choice.thread ≡ s) × (takes m.effect.sync c ≡ true))

  module _ (choice : Choice) (run : List Choice) (last : GoodLast program choice run) (s i : ℕ) where
    abbrev this : Moment
    this = record { choice = choice; earlier = run; move = last.move; effect = last.effect }

    abbrev after_this : State
    after_this = after program (state_after program run) choice.thread last.move last.effect

    begins : i ≤ length run → StartsBy s this → Since program (choice ∷ run) c after_this s i
    begins l (inl w) = since_step program well c choice run last s i l (inl w)
    begins l (inr k) = subst (λ n. Since program (choice ∷ run) c after_this n i) k.0 (since_taking program well c choice run last i k.1)

    at_this : i ≡ length run → HoldsFrom program (choice ∷ run) c s i → Since program (choice ∷ run) c after_this s i
    at_this e h = begins (omega arith) (subst (StartsBy s) (same_moment h.moment this (sym h.at ∙ ap (moment_at program (choice ∷ run)) e ∙ last.at)) h.holds)

    before_this : (i == length run) ≡ false → HoldsFrom program (choice ∷ run) c s i → (HoldsFrom program run c s i → Since program run c (state_after program run) s i)
        → Since program (choice ∷ run) c after_this s i
    before_this e h k = let at : moment_at program run i ≡ Some h.moment = if_cases (i == length run) _ _ _ h.at (λ f _. true_false (i == length run) f e) (λ _ g. g) in
        let w : i < length run = at_within program run i h.moment at in
        since_step program well c choice run last s i (omega arith) (k (record { moment = h.moment; at = at; holds = h.holds }))

    since_last : HoldsFrom program (choice ∷ run) c s i → (HoldsFrom program run c s i → Since program run c (state_after program run) s i)
        → Since program (choice ∷ run) c (state_after program (choice ∷ run)) s i
    since_last h k = subst (λ (x : State). Since program (choice ∷ run) c x s i) (sym last.is.leads) (go (i == length run) refl)
      where
        go : (b : Bool) → (i == length run) ≡ b → Since program (choice ∷ run) c after_this s i
        go true e = at_this (eqb-true i (length run) e) h
        go false e = before_this e h k

  pub since : (run : List Choice) → IsGoodRun program run → (s i : ℕ) → HoldsFrom program run c s i → Since program run c (state_after program run) s i
  since [] good s i h = absurd (no_moment h.moment h.at)
    where
      no_moment : (m : Moment) → None ≡ Some m → ⊥
      no_moment m e = cc
  since (choice ∷ run) good s i h = since_last choice run (good_last program choice run good) s i h (λ k. since run good.0 s i k)

pub handed_over : (program : Program) → IsWellFormed program → IsHandedOver program
handed_over program well c run good i s t n o w = elim (since program well c run good s i (record { moment = o.moment; at = o.at; holds = inl o.owns })) [
  | inl u ↦ absurd (n (one_owner s t ((state_after program run).mutex c) u w))
  | inr r ↦ (r.position, (r.later, (r.gave, r.taken t (λ e. n (sym e)) w)))
]
