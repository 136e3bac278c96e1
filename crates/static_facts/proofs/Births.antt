-- Each thread but the initial one is made by one step, before its own steps.
use Rattle.std.proofs.Common.{◌≡◌, inl, inr, refl, sym, subst, ap, ◌∙◌, Bool, true, false, cond, ℕ, suc, ◌<◌, ◌≤◌, List, [], ◌∷◌, length, Option, Some, None, is_some, eq-eqb, arith}
use Rattle.c_program.specs.declared.program.Program.{Program}
use Rattle.c_program.specs.Control.{Spot, Point}
use Rattle.c_program.specs.State.{State, spot_at, string_at, thread_before, opening}
use Rattle.c_program.specs.Effects.{Sync, Makes, made_by, thread_after, moved_thread, after}
use Rattle.c_program.specs.Step.{Choice}
use Rattle.c_program.specs.Runs.{IsGoodRun, state_after, Moment, moment_at}
use Rattle.c_program.specs.Happens.{made_thread, state_at}
use Rattle.c_program.specs.Breaks.{point_of}
use Rattle.c_program.specs.WellFormed.{IsWellFormed}
use Rattle.c_program.proofs.Stays.{origins}
use Rattle.path_simulation.specs.Simulates.{LastStep}
use Rattle.static_facts.proofs.Later.{lt_differs, thread_made, made_grows}
use Rattle.static_facts.proofs.Moments.{step_of, moment_is, at_within, at_longer, GoodLast, good_last}
use Rattle.static_facts.specs.ThreadLaws.{origin_of}
use Rattle.static_facts.proofs.Positions.{split, last_of, place, from_prefix}
use Rattle.static_facts.specs.Points.{thread_of}

-- the step at this position makes the thread
pub record Birth (program : Program) (run : List Choice) (thread : ℕ) (origin : List Spot) : Type 0 where
  pub position : ℕ
  pub moment : Moment
  pub at : moment_at program run position ≡ Some moment
  pub makes : made_thread moment.effect.sync (state_at program moment).made ≡ Some thread
  pub point : origin ≡ thread_of (point_of program moment)

made_thread_is : (sync : Sync) (function made : ℕ) → made_by sync ≡ Some function → made_thread sync made ≡ Some made
made_thread_is (Makes object f) function made e = refl
made_thread_is _ function made e = absurd (cc)

nothing_made : (sync : Sync) → made_by sync ≡ None → is_some (made_by sync) ≡ false
nothing_made sync e = ap (λ (o : Option ℕ). is_some o) e

module _ (program : Program) (well : IsWellFormed program) where
  birth_longer : (choice : Choice) (run : List Choice) (thread : ℕ) (origin : List Spot) → Birth program run thread origin → Birth program (choice ∷ run) thread origin
  birth_longer choice run thread origin b = record { position = b.position; moment = b.moment; at = at_longer program choice run b.position b.moment b.at; makes = b.makes; point = b.point }

  pub some_made : (run : List Choice) → IsGoodRun program run → 0 < (state_after program run).made
  unfolding state_after opening
  some_made [] r = omega arith
  some_made (choice ∷ run) r = let last = good_last program choice run r in
      let step = step_of program (last_of program choice run last) last.is in
      let s : 0 < (state_after program run).made = some_made run r.0 in
      let g : (state_after program run).made ≤ (after program (state_after program run) choice.thread last.move last.effect).made = made_grows program well choice run step in
      subst (λ (x : State). 0 < x.made) (sym last.is.leads) (let h : (state_after program run).made ≤ (after program (state_after program run) choice.thread last.move last.effect).made = g in omega arith)

  module _ (choice : Choice) (run : List Choice) (good : IsGoodRun program (choice ∷ run)) where
    abbrev last : GoodLast program choice run
    last = good_last program choice run good

    abbrev state : State
    state = state_after program run

    abbrev later : State
    later = after program state choice.thread last.move last.effect

    abbrev step : LastStep program choice run
    step = step_of program (last_of program choice run last) last.is

    pub origin_stays : (thread : ℕ) → thread < state.made → ((state_after program (choice ∷ run)).thread thread).origin ≡ (state.thread thread).origin
    origin_stays thread l = ap (λ (s : State). (s.thread thread).origin) last.is.leads ∙ origins program state choice.thread last.move last.effect thread (lt_differs thread state.made l)

    pub grows : state.made ≤ (state_after program (choice ∷ run)).made
    grows = subst (λ (x : State). state.made ≤ x.made) (sym last.is.leads) (made_grows program well choice run step)

    new_origin : (function : ℕ) → made_by last.effect.sync ≡ Some function → (later.thread state.made).origin ≡ spot_at (state.thread choice.thread) last.move ∷ string_at (state.thread choice.thread)
    unfolding after
    new_origin function e = ap (λ (o : Option ℕ). (thread_after program state choice.thread last.move last.effect o state.made).origin) e
        ∙ ap (λ b. (cond b (thread_before program function state.called (spot_at (state.thread choice.thread) last.move ∷ string_at (state.thread choice.thread)))
        (moved_thread program state choice.thread last.move last.effect state.made)).origin) (eq-eqb state.made state.made refl)

    made_is : (b : Bool) → is_some (made_by last.effect.sync) ≡ b → later.made ≡ cond b (suc state.made) state.made
    unfolding after
    made_is b e = ap (λ x. cond x (suc state.made) state.made) e

    pub born_now : (thread : ℕ) → state.made ≤ thread → thread < later.made → Birth program (choice ∷ run) thread (later.thread thread).origin
    born_now thread g l = go (made_by last.effect.sync) refl
      where
        go : (m : Option ℕ) → made_by last.effect.sync ≡ m → Birth program (choice ∷ run) thread (later.thread thread).origin
        go None e = absurd (let k : later.made ≡ state.made = made_is false (nothing_made last.effect.sync e) in omega arith)
        go (Some function) e = let k : later.made ≡ suc state.made = made_is true (ap (λ (o : Option ℕ). is_some o) e) in let s : thread ≡ state.made = omega arith in record {
          position = length run;
          moment = last_of program choice run last;
          at = last.at;
          makes = made_thread_is last.effect.sync function state.made e ∙ ap Some (sym s);
          point = ap (λ n. (later.thread n).origin) s ∙ new_origin function e;
        }

  pub birth : (run : List Choice) (thread : ℕ) → IsGoodRun program run → 0 < thread → thread < (state_after program run).made → Birth program run thread ((state_after program run).thread thread).origin
  unfolding state_after opening
  birth [] thread r p l = absurd (omega arith)
  birth (choice ∷ run) thread r p l = elim (split thread (state_after program run).made) [
    | inl less ↦ subst (Birth program (choice ∷ run) thread) (sym (origin_stays choice run r thread less))
        (birth_longer choice run thread ((state_after program run).thread thread).origin (birth run thread r.0 p less))
    | inr new ↦ let last = good_last program choice run r in subst (λ (s : State). Birth program (choice ∷ run) thread (s.thread thread).origin) (sym last.is.leads)
        (born_now choice run r thread new (subst (λ (s : State). thread < s.made) last.is.leads l))
  ]

  pub initial_origin : (run : List Choice) → IsGoodRun program run → ((state_after program run).thread 0).origin ≡ []
  unfolding state_after opening
  initial_origin [] r = refl
  initial_origin (choice ∷ run) r = origin_stays choice run r 0 (some_made run r.0) ∙ initial_origin run r.0

  no_cons : (point : Point) → [] ≡ thread_of point → ⊥
  no_cons point e = cc

  pub initial_thread : (run : List Choice) (thread : ℕ) → IsGoodRun program run → thread < (state_after program run).made → ((state_after program run).thread thread).origin ≡ [] → thread ≡ 0
  initial_thread run thread r l o = elim (split 0 thread) [
    | inl p ↦ let b = birth run thread r p l in absurd (no_cons (point_of program b.moment) (sym o ∙ b.point))
    | inr z ↦ omega arith
  ]

  pub mover_made : (run : List Choice) (i : ℕ) (m : Moment) → IsGoodRun program run → moment_at program run i ≡ Some m → m.choice.thread < (state_at program m).made
  mover_made run i m r a = thread_made program well m.choice m.earlier (step_of program m (moment_is program run i m r a))

  -- who moves with the empty call string is the initial thread, and the others are born before they move
  pub initial_moves : (run : List Choice) (i : ℕ) (m : Moment) → IsGoodRun program run → moment_at program run i ≡ Some m → origin_of program m ≡ [] → m.choice.thread ≡ 0
  initial_moves run i m r a o = initial_thread m.earlier m.choice.thread (moment_is program run i m r a).good (mover_made run i m r a) o

  pub initial_moment : (run : List Choice) (i : ℕ) (m : Moment) → IsGoodRun program run → moment_at program run i ≡ Some m → m.choice.thread ≡ 0 → origin_of program m ≡ []
  initial_moment run i m r a z = ap (λ n. ((state_at program m).thread n).origin) z ∙ initial_origin m.earlier (moment_is program run i m r a).good

  point_at : Spot → List Spot → Point
  point_at spot string = record { string = string; spot = spot }

  same_parts : (x y : Spot) (u v : List Spot) → x ∷ u ≡ y ∷ v → point_at x u ≡ point_at y v
  same_parts x y u v e = cc

  pub same_point : (a b : Point) → thread_of a ≡ thread_of b → a ≡ b
  unfolding point_at
  same_point a b e = same_parts a.spot b.spot a.string b.string e

  pub record BornBefore (run : List Choice) (i thread : ℕ) (creation : Point) : Type 0 where
    pub position : ℕ
    pub moment : Moment
    pub at : moment_at program run position ≡ Some moment
    pub makes : made_thread moment.effect.sync (state_at program moment).made ≡ Some thread
    pub earlier : position < i
    pub point : point_of program moment ≡ creation

  pub born_before : (run : List Choice) (i : ℕ) (m : Moment) (creation : Point) → IsGoodRun program run → moment_at program run i ≡ Some m → origin_of program m ≡ thread_of creation
      → BornBefore run i m.choice.thread creation
  born_before run i m creation r a o = record {
    position = b.position;
    moment = b.moment;
    at = from_prefix program run i b.position m b.moment r a b.at;
    makes = b.makes;
    earlier = subst (λ n. b.position < n) (place program run i m r a) (at_within program m.earlier b.position b.moment b.at);
    point = same_point _ _ (sym b.point ∙ o);
  }
    where
      good : IsGoodRun program m.earlier
      good = (moment_is program run i m r a).good

      positive : 0 < m.choice.thread
      positive = elim (split 0 m.choice.thread) [
        | inl p ↦ p
        | inr z ↦ absurd (let t : m.choice.thread ≡ 0 = omega arith in no_cons creation (sym (initial_moment run i m r a t) ∙ o))
      ]

      b : Birth program m.earlier m.choice.thread (origin_of program m)
      b = birth m.earlier m.choice.thread good positive (mover_made run i m r a)
