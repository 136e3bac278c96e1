-- The life of an object in a run is one that a path brings to the points of its users.
use Rattle.std.proofs.Common.{◌≡◌, inl, inr, refl, sym, subst, ap, ◌∙◌, Bool, true, false, ◌==◌, ℕ, zero, suc, ◌<◌, List, [], ◌∷◌, length, Option, Some, None, eqb-true, eq-eqb, arith}
use Rattle.c_program.specs.declared.program.Program.{Program}
use Rattle.c_program.specs.Values.{Cell, Location}
use Rattle.c_program.specs.Control.{Control, Move, Spot, Point}
use Rattle.c_program.specs.State.{Not_made, Running, Frame}
use Rattle.c_program.specs.Faults.{Sort, A_mutex, A_condition, A_key, A_thread}
use Rattle.c_program.specs.Step.{Choice}
use Rattle.c_program.specs.Runs.{IsGoodRun, state_after, Moment, moment_at}
use Rattle.c_program.specs.Breaks.{point_of}
use Rattle.c_program.specs.WellFormed.{IsWellFormed}
use Rattle.c_program.specs.Paths.{Offers, stands_at}
use Rattle.c_program.specs.Tracks.{life_of, Change, Kept, Started, Ended, life_after}
use Rattle.c_program.proofs.Counters.{sound_run}
use Rattle.path_simulation.specs.Simulates.{LastStep, origin_in}
use Rattle.pointer_targets.specs.Names.{Names}
use Rattle.static_facts.proofs.Moments.{IsMoment, step_of, moment_is, at_within, GoodLast, good_last}
use Rattle.static_facts.specs.ObjectStates.{IsNoThread, ObjectState, Is_unmade, Is_live, Is_dead, Doing, Begins, Joins_it, Detaches_it, Ends_it, changed_by, Is_joined, Is_detached, IsStateOf}
use Rattle.static_facts.specs.Seen.{use_with, seen}
use Rattle.static_facts.specs.Lives.{MayLive, in_initial, in_created}
use Rattle.static_facts.specs.ThreadLaws.{UnmadeIsPossible, origin_of}
use Rattle.static_facts.proofs.Positions.{split, last_of, place, lasting}
use Rattle.static_facts.proofs.Does.{seen_own, seen_other}
use Rattle.static_facts.proofs.Births.{Birth, birth, initial_origin}
use Rattle.static_facts.proofs.Stopping.{point_is, moment_point}
use Rattle.static_facts.proofs.Ordering.{what_is_seen}
use Rattle.static_facts.proofs.Changing.{IsLife, change_by, life_opens, life_step, is_life}
use Rattle.static_facts.specs.ObjectPaths.{MayBeAlong}
use Rattle.pointer_targets.specs.LibraryObjects.{IsObjectAt}
use Rattle.pointer_targets.proofs.Told.{Told}
use Rattle.static_facts.specs.Points.{thread_of}

-- no step of another thread does this with the object
abbrev pub IsAlone : Program → Sort → Cell → Doing → Type 0
IsAlone program sort cell doing = (choice : Choice) (run : List Choice) (step : LastStep program choice run) → (choice.thread == 0) ≡ false → use_with step.effect sort cell ≡ Some doing → ⊥

-- who runs is made
pub runs_made : (program : Program) → IsWellFormed program → (run : List Choice) → IsGoodRun program run → (thread : ℕ) (control : Control) (frames : List Frame) (inside : Option Cell)
    → ((state_after program run).thread thread).stand ≡ Running control frames inside → thread < (state_after program run).made
runs_made program well run good thread control frames inside s = elim (split thread (state_after program run).made) [
  | inl l ↦ l
  | inr l ↦ absurd (unlike (sym ((sound_run program well.counts run good).fresh thread l) ∙ s))
]
  where
    unlike : Not_made ≡ Running control frames inside → ⊥
    unlike e = cc

-- the states of what is no thread object
abbrev pub IsLifeState : ObjectState → Type 0
IsLifeState Is_joined = ⊥
IsLifeState Is_detached = ⊥
IsLifeState _ = Unit {0}

of_life : (sort : Sort) → IsNoThread sort → (S : ObjectState) → IsLifeState S → IsStateOf sort S
of_life A_thread n S l = absurd n
of_life A_mutex n Is_unmade l = tt
of_life A_mutex n Is_live l = tt
of_life A_mutex n Is_dead l = tt
of_life A_mutex n Is_joined l = l
of_life A_mutex n Is_detached l = l
of_life A_condition n Is_unmade l = tt
of_life A_condition n Is_live l = tt
of_life A_condition n Is_dead l = tt
of_life A_condition n Is_joined l = l
of_life A_condition n Is_detached l = l
of_life A_key n Is_unmade l = tt
of_life A_key n Is_live l = tt
of_life A_key n Is_dead l = tt
of_life A_key n Is_joined l = l
of_life A_key n Is_detached l = l

module _ (program : Program) (well : IsWellFormed program) (sort : Sort) (no_thread : IsNoThread sort) (cell : Cell) where
  abbrev pub life : List Choice → ℕ
  life run = life_of (state_after program run) sort cell

  pub life_last : (choice : Choice) (run : List Choice) → (r : IsGoodRun program (choice ∷ run)) → (k : ℕ) → life (choice ∷ run) ≡ k
      → life_after (change_by (use_with (good_last program choice run r).effect sort cell)) (life run) ≡ k
  life_last choice run r k e = let last = good_last program choice run r in sym (life_step program well sort no_thread cell choice run (step_of program (last_of program choice run last) last.is)) ∙ e

  module _ (k : ℕ) (S : ObjectState) (opens : 0 ≡ k → Is_unmade ≡ S)
      (own : (u : Option Doing) (l : ℕ) (s : ObjectState) → IsLife u → (l ≡ k → s ≡ S) → life_after (change_by u) l ≡ k → changed_by u s ≡ S)
      (other : (choice : Choice) (run : List Choice) (step : LastStep program choice run) → (choice.thread == 0) ≡ false
      → life_after (change_by (use_with step.effect sort cell)) (life run) ≡ k → life run ≡ k) where
    sees : (run : List Choice) → IsGoodRun program run → life run ≡ k → seen program sort cell run ≡ S
    unfolding seen
    sees [] r e = opens (sym (life_opens program sort cell no_thread) ∙ e)
    sees (choice ∷ run) r e = go (sees run r.0) (choice.thread == 0) refl
      where
        last : GoodLast program choice run
        last = good_last program choice run r

        step : LastStep program choice run
        step = step_of program (last_of program choice run last) last.is

        go : (life run ≡ k → seen program sort cell run ≡ S) → (b : Bool) → (choice.thread == 0) ≡ b → seen program sort cell (choice ∷ run) ≡ S
        go before true z = seen_own program sort cell choice run step (eqb-true choice.thread 0 z)
            ∙ own (use_with last.effect sort cell) (life run) (seen program sort cell run) (is_life program well sort no_thread cell choice run step) before (life_last choice run r k e)
        go before false z = seen_other program sort cell choice run step z ∙ before (other choice run step z (life_last choice run r k e))

  pub unmade_seen : (run : List Choice) → IsGoodRun program run → life run ≡ 0 → seen program sort cell run ≡ Is_unmade
  unmade_seen = sees 0 Is_unmade (λ e. refl) own (λ choice run step z e. other (use_with step.effect sort cell) (life run) e)
    where
      own : (u : Option Doing) (l : ℕ) (s : ObjectState) → IsLife u → (l ≡ 0 → s ≡ Is_unmade) → life_after (change_by u) l ≡ 0 → changed_by u s ≡ Is_unmade
      own None l s n h e = h e
      own (Some Begins) l s n h e = absurd (let f : 1 ≡ 0 = e in omega arith)
      own (Some Ends_it) l s n h e = absurd (let f : 2 ≡ 0 = e in omega arith)
      own (Some Joins_it) l s n h e = absurd n
      own (Some Detaches_it) l s n h e = absurd n

      other : (u : Option Doing) (l : ℕ) → life_after (change_by u) l ≡ 0 → l ≡ 0
      other None l e = e
      other (Some Begins) l e = absurd (let f : 1 ≡ 0 = e in omega arith)
      other (Some Ends_it) l e = absurd (let f : 2 ≡ 0 = e in omega arith)
      other (Some Joins_it) l e = e
      other (Some Detaches_it) l e = e

  pub live_seen : IsAlone program sort cell Begins → (run : List Choice) → IsGoodRun program run → life run ≡ 1 → seen program sort cell run ≡ Is_live
  live_seen alone = sees 1 Is_live (λ e. absurd (omega arith)) own (λ choice run step z e. other (use_with step.effect sort cell) (life run) (alone choice run step z) e)
    where
      own : (u : Option Doing) (l : ℕ) (s : ObjectState) → IsLife u → (l ≡ 1 → s ≡ Is_live) → life_after (change_by u) l ≡ 1 → changed_by u s ≡ Is_live
      own None l s n h e = h e
      own (Some Begins) l s n h e = refl
      own (Some Ends_it) l s n h e = absurd (let f : 2 ≡ 1 = e in omega arith)
      own (Some Joins_it) l s n h e = absurd n
      own (Some Detaches_it) l s n h e = absurd n

      other : (u : Option Doing) (l : ℕ) → (u ≡ Some Begins → ⊥) → life_after (change_by u) l ≡ 1 → l ≡ 1
      other None l a e = e
      other (Some Begins) l a e = absurd (a refl)
      other (Some Ends_it) l a e = absurd (let f : 2 ≡ 1 = e in omega arith)
      other (Some Joins_it) l a e = e
      other (Some Detaches_it) l a e = e

  pub dead_seen : IsAlone program sort cell Ends_it → (run : List Choice) → IsGoodRun program run → life run ≡ 2 → seen program sort cell run ≡ Is_dead
  dead_seen alone = sees 2 Is_dead (λ e. absurd (omega arith)) own (λ choice run step z e. other (use_with step.effect sort cell) (life run) (alone choice run step z) e)
    where
      own : (u : Option Doing) (l : ℕ) (s : ObjectState) → IsLife u → (l ≡ 2 → s ≡ Is_dead) → life_after (change_by u) l ≡ 2 → changed_by u s ≡ Is_dead
      own None l s n h e = h e
      own (Some Begins) l s n h e = absurd (let f : 1 ≡ 2 = e in omega arith)
      own (Some Ends_it) l s n h e = refl
      own (Some Joins_it) l s n h e = absurd n
      own (Some Detaches_it) l s n h e = absurd n

      other : (u : Option Doing) (l : ℕ) → (u ≡ Some Ends_it → ⊥) → life_after (change_by u) l ≡ 2 → l ≡ 2
      other None l a e = e
      other (Some Begins) l a e = absurd (let f : 1 ≡ 2 = e in omega arith)
      other (Some Ends_it) l a e = absurd (a refl)
      other (Some Joins_it) l a e = e
      other (Some Detaches_it) l a e = e

  -- what is unmade was unmade before
  pub unmade_before : (run : List Choice) → IsGoodRun program run → (i : ℕ) (m : Moment) → moment_at program run i ≡ Some m → life run ≡ 0 → life m.earlier ≡ 0
  unmade_before run r i m a e = go (life m.earlier == 0) refl
    where
      stays : (c : Change) (l : ℕ) → (l == 0) ≡ false → (life_after c l == 0) ≡ false
      stays Kept l f = f
      stays Started l f = refl
      stays Ended l f = refl

      keeps : (choice : Choice) (run : List Choice) → IsGoodRun program (choice ∷ run) → (life run == 0) ≡ false → (life (choice ∷ run) == 0) ≡ false
      keeps choice run r f = subst (λ n. (n == 0) ≡ false) (life_last choice run r (life (choice ∷ run)) refl) (stays (change_by (use_with (good_last program choice run r).effect sort cell)) (life run) f)

      go : (b : Bool) → (life m.earlier == 0) ≡ b → life m.earlier ≡ 0
      go true f = eqb-true _ 0 f
      go false f = absurd (let g : (life run == 0) ≡ false = lasting program (λ run. (life run == 0) ≡ false) keeps run i m r a f in
          let h : (life run == 0) ≡ true = eq-eqb (life run) 0 e in cc)

  -- ---- what is unmade in a run may be unmade at the points of all threads

  module _ (names : Names) (premises : Told program names) (location : Location) (at : IsObjectAt program sort cell location) where
    abbrev pub MayBeHere : List Choice → ℕ → Control → Move → ObjectState → Type 0
    MayBeHere run thread control move state = MayLive program names sort location (origin_in program run thread) (stands_at (origin_in program run thread) control move) state

    pub initial_lives : (S : ObjectState) → IsLifeState S → (run : List Choice) → IsGoodRun program run → (control : Control) (frames : List Frame) (inside : Option Cell) (move : Move)
        → ((state_after program run).thread 0).stand ≡ Running control frames inside → Offers control move → seen program sort cell run ≡ S → MayBeHere run 0 control move S
    initial_lives S life_like run r control frames inside move s o e = subst (λ (l : List Spot). MayLive program names sort location l (stands_at l control move) S) (sym (initial_origin program well run r))
        (in_initial (stands_at [] control move) S (of_life sort no_thread S life_like) (subst (λ (x : ObjectState). MayBeAlong program names sort location (stands_at [] control move) x) e
        (what_is_seen program well names premises sort cell location at run r control frames inside move s o)))

    abbrev Below : List Choice → Type 0
    Below long = (run : List Choice) → IsGoodRun program run → length run < length long → (thread : ℕ) (control : Control) (frames : List Frame) (inside : Option Cell) (move : Move)
        → ((state_after program run).thread thread).stand ≡ Running control frames inside → Offers control move → life run ≡ 0 → MayBeHere run thread control move Is_unmade

    -- at the point of the creation it was unmade
    one_life : (run : List Choice) → IsGoodRun program run → Below run → (thread : ℕ) (control : Control) (frames : List Frame) (inside : Option Cell) (move : Move)
        → ((state_after program run).thread thread).stand ≡ Running control frames inside → Offers control move → life run ≡ 0 → MayBeHere run thread control move Is_unmade
    one_life run r below thread control frames inside move s o e = elim (split 0 thread) [
      | inr z ↦ let t : thread ≡ 0 = omega arith in subst (λ k. MayBeHere run k control move Is_unmade) (sym t)
          (initial_lives Is_unmade tt run r control frames inside move (ap (λ k. ((state_after program run).thread k).stand) (sym t) ∙ s) o (unmade_seen run r e))
      | inl p ↦ by_birth (birth program well run thread r p (runs_made program well run r thread control frames inside s))
    ]
      where
        by_birth : Birth program run thread (origin_in program run thread) → MayBeHere run thread control move Is_unmade
        by_birth b = subst (λ (l : List Spot). MayLive program names sort location l (stands_at l control move) Is_unmade) (sym b.point)
            (in_created (origin_of program b.moment) (point_of program b.moment) (stands_at (thread_of (point_of program b.moment)) control move) Is_unmade (moment_point program well run b.position b.moment r b.at)
            (subst (λ (p : Point). MayLive program names sort location (origin_of program b.moment) p Is_unmade) (sym (point_is program b.moment m))
            (below b.moment.earlier m.good (subst (λ n. n < length run) (sym (place program run b.position b.moment r b.at)) (at_within program run b.position b.moment b.at))
            b.moment.choice.thread m.by.control m.by.frames m.by.inside b.moment.move m.by.stands (b.moment.choice.pair, m.by.offers) (unmade_before run r b.position b.moment b.at e))))
          where
            m : IsMoment program b.moment
            m = moment_is program run b.position b.moment r b.at

    lives_below : (n : ℕ) (run : List Choice) → IsGoodRun program run → length run < n → (thread : ℕ) (control : Control) (frames : List Frame) (inside : Option Cell) (move : Move)
        → ((state_after program run).thread thread).stand ≡ Running control frames inside → Offers control move → life run ≡ 0 → MayBeHere run thread control move Is_unmade
    lives_below zero run r l = absurd (omega arith)
    lives_below (suc n) run r l = one_life run r (λ shorter q k. lives_below n shorter q (omega arith))

    pub unmade_lives : (run : List Choice) → IsGoodRun program run → (thread : ℕ) (control : Control) (frames : List Frame) (inside : Option Cell) (move : Move)
        → ((state_after program run).thread thread).stand ≡ Running control frames inside → Offers control move → life run ≡ 0 → MayBeHere run thread control move Is_unmade
    unmade_lives run r = lives_below (suc (length run)) run r (omega arith)

-- what was never begun may be unmade at the point of each running thread
pub unmade_possible : (program : Program) → IsWellFormed program → (names : Names) → Told program names → UnmadeIsPossible program names
unmade_possible program well names premises sort n object location at run good thread control frames inside move s o e = unmade_lives program well sort n object names premises location at run good thread control frames inside move s o e
