-- A point that is not cyclic is passed once by the initial thread, but for the two steps of a wait.
use Rattle.std.proofs.Common.{◌≡◌, inl, inr, refl, sym, subst, ap, ◌∙◌, Bool, true, false, ℕ, ◌<◌, ◌==◌, List, [], ◌∷◌, ◌++◌, Option, Some, eqb-true, eq-or-lt_of_le, arith}
use Rattle.std.proofs.lemmas.Grind.{common_steps}
use Rattle.c_program.specs.declared.program.Program.{Program}
use Rattle.c_program.specs.Values.{Cell}
use Rattle.c_program.specs.Control.{Control, Move, Spot, Point, goes_on, string_of, spot_in}
use Rattle.c_program.specs.State.{State, Stand, Running, Frame, control_of}
use Rattle.c_program.specs.Effects.{Sync, Suspends, Finishes, Effect, own_stand}
use Rattle.c_program.specs.Step.{Choice}
use Rattle.c_program.specs.Runs.{IsGoodRun, state_after, Moment, moment_at}
use Rattle.c_program.specs.Happens.{state_at}
use Rattle.c_program.specs.Breaks.{point_of}
use Rattle.c_program.specs.WellFormed.{IsWellFormed}
use Rattle.c_program.specs.Paths.{LeadsTo, initial, by_call, by_creation, IsPoint, Offers, stands_at, Stands, Edge, Leads, one, more, IsCyclic}
use Rattle.c_program.proofs.Stays.{others}
use Rattle.c_program.proofs.Standing.{is_point}
use Rattle.path_simulation.specs.Tracks.{Track}
use Rattle.path_simulation.specs.Simulates.{LastStep, EachIsFollowed}
use Rattle.path_simulation.proofs.Simulated.{simulated}
use Rattle.static_facts.proofs.Later.{own_later, lt_differs}
use Rattle.static_facts.proofs.Moments.{IsMoment, step_of, moment_is, GoodLast, good_last}
use Rattle.static_facts.specs.ThreadLaws.{origin_of}
use Rattle.static_facts.proofs.Positions.{split, last_of, at_cases, to_prefix}
use Rattle.static_facts.proofs.Births.{some_made, initial_origin, initial_moves}

pub point_is : (program : Program) (m : Moment) → (s : IsMoment program m) → point_of program m ≡ stands_at (origin_of program m) s.by.control m.move
point_is program m s = ap (λ (x : Stand). record { string = string_of (control_of x) ++ origin_of program m; spot = spot_in (control_of x) m.move.action }) s.by.stands

-- a call string leads to one thread
pub leads_thread : (program : Program) (string one other : List Spot) (f g : ℕ) → LeadsTo program string one f → LeadsTo program string other g → one ≡ other
leads_thread program _ _ _ _ _ initial initial = refl
leads_thread program _ _ _ _ _ (by_call string t f spot callee as_ r l c e) (by_call _ u g _ callee' as' r' l' c' e') = leads_thread program string t u f g l l'
leads_thread program _ _ _ _ _ (by_call string t f spot callee as_ r l c e) (by_creation _ u g _ callee' o a r' l' c' e') = absurd (let q = sym e ∙ e' in cc)
leads_thread program _ _ _ _ _ (by_creation string t f spot callee o a r l c e) (by_call _ u g _ callee' as' r' l' c' e') = absurd (let q = sym e ∙ e' in cc)
leads_thread program _ _ _ _ _ (by_creation string t f spot callee o a r l c e) (by_creation _ u g _ callee' o' a' r' l' c' e') = refl

pub leads_main : (program : Program) (string thread : List Spot) (f : ℕ) → LeadsTo program string thread f → string ≡ [] → f ≡ program.main
leads_main program _ _ _ initial e = refl
leads_main program _ _ _ (by_creation string t f spot callee o a r l c q) e = absurd (cc)
leads_main program _ _ _ (by_call string t f spot callee as_ r l c q) e = absurd (cc)

abbrev pub IsNoWait : Sync → Type 0
IsNoWait (Suspends c m) = ⊥
IsNoWait _ = Unit {0}

-- ---- what leads a thread

abbrev pub plain : Track (Unit {0})
plain = record { start = λ thread state. Unit {0}; step = λ point pair before behind. Unit {0} }

module _ (program : Program) (well : IsWellFormed program) where
  pub led : EachIsFollowed program plain (λ thread run state. Unit {0})
  led = simulated program well plain (λ thread run state. Unit {0}) (record {
    opens = (tt, (tt, tt));
    fresh = λ choice run step function e. (tt, (tt, tt));
    waits = λ choice run step c m e state a. tt;
    moves = λ choice run step g function stands state a. (tt, (tt, tt));
    others = λ choice run step thread o l state a. tt;
  })

  pub moment_point : (run : List Choice) (i : ℕ) (m : Moment) → IsGoodRun program run → moment_at program run i ≡ Some m → IsPoint program (origin_of program m) (point_of program m)
  moment_point run i m r a = let s = moment_is program run i m r a in
      let f = led m.earlier s.good m.choice.thread s.by.control s.by.frames s.by.inside s.by.stands in
      subst (IsPoint program (origin_of program m)) (sym (point_is program m s)) (is_point program well (origin_of program m) f.function s.by.control m.move f.leads f.stands (m.choice.pair, s.by.offers))

  -- a step at a point of the initial thread is one of the initial thread
  pub stands_initial : (run : List Choice) (i : ℕ) (m : Moment) (point : Point) → IsGoodRun program run → moment_at program run i ≡ Some m → IsPoint program [] point → point_of program m ≡ point
      → m.choice.thread ≡ 0
  stands_initial run i m point r a p e = let q = subst (IsPoint program (origin_of program m)) e (moment_point run i m r a) in
      initial_moves program well run i m r a (leads_thread program point.string (origin_of program m) [] q.function p.function q.leads p.leads)

  initial_stands : (run : List Choice) → IsGoodRun program run → (control : Control) (frames : List Frame) (inside : Option Cell) → ((state_after program run).thread 0).stand ≡ Running control frames inside
      → Stands program program.main control
  initial_stands run r control frames inside e = let f = led run r 0 control frames inside e in
      subst (λ n. Stands program n control) (leads_main program _ _ f.function f.leads (initial_origin program well run r)) f.stands

  running : (a b : Control) (fs gs : List Frame) (x y : Option Cell) → Running a fs x ≡ Running b gs y → a ≡ b
  running a b fs gs x y e = cc

  -- where a step that is not the first of a wait leads
  goes_to : (move : Move) (effect : Effect) (called : ℕ) (control : Control) (fs : List Frame) (sync : Sync) (next : Control) (gs : List Frame) (inside : Option Cell) → IsNoWait sync
      → own_stand program move effect called control fs sync ≡ Running next gs inside → goes_on program move ≡ next
  goes_to move effect called control fs (Suspends c m) next gs inside n e = absurd n
  goes_to move effect called control fs (Finishes result) next gs inside n e = absurd (cc)
  goes_to move effect called control fs _ next gs inside n e = running _ _ _ _ _ _ e

  -- the first step of a wait leaves its thread where it stands
  waits_at : (move : Move) (effect : Effect) (called : ℕ) (control : Control) (fs : List Frame) (c m : Cell) (next : Control) (gs : List Frame) (inside : Option Cell)
      → own_stand program move effect called control fs (Suspends c m) ≡ Running next gs inside → control ≡ next
  waits_at move effect called control fs c m next gs inside e = running _ _ _ _ _ _ e

  -- from each step of the initial thread, but the first of a wait, edges lead to where it stands
  pub travelled : (run : List Choice) (i : ℕ) (m : Moment) → IsGoodRun program run → moment_at program run i ≡ Some m → m.choice.thread ≡ 0 → IsNoWait m.effect.sync
      → (control : Control) (frames : List Frame) (inside : Option Cell) → ((state_after program run).thread 0).stand ≡ Running control frames inside
      → (onward : Move) → Offers control onward → Leads program [] program.main (point_of program m) (stands_at [] control onward)
  travelled [] i m r a z n control frames inside s onward o = absurd (cc)
  travelled (choice ∷ run) i m r a z n control frames inside s onward o = elim (at_cases program choice run last i m a) [
    | inl e ↦ subst (λ (x : Moment). Leads program [] program.main (point_of program x) (stands_at [] control onward)) e.1
        (here (ap (λ (x : Moment). x.choice.thread) e.1 ∙ z) (subst (λ (x : Moment). IsNoWait x.effect.sync) (sym e.1) n))
    | inr f ↦ on (travelled run i m r.0 f z n) (choice.thread == 0) refl
  ]
    where
      last : GoodLast program choice run
      last = good_last program choice run r

      state : State
      state = state_after program run

      step : LastStep program choice run
      step = step_of program (last_of program choice run last) last.is

      later_stand : (t : ℕ) → choice.thread ≡ t → t ≡ 0
          → own_stand program last.move last.effect state.called last.is.by.control last.is.by.frames last.effect.sync ≡ Running control frames inside
      later_stand t e y = sym (own_later program well choice run step) ∙ ap (λ (x : State). (x.thread choice.thread).stand) (sym last.is.leads)
          ∙ ap (λ k. ((state_after program (choice ∷ run)).thread k).stand) (e ∙ y) ∙ s

      -- the edge of the last step
      edge : choice.thread ≡ 0 → goes_on program last.move ≡ control → Edge program [] program.main (stands_at [] last.is.by.control last.move) (stands_at [] control onward)
      edge t g = record {
        control = last.is.by.control;
        move = last.move;
        onward = onward;
        stands = initial_stands run r.0 last.is.by.control last.is.by.frames last.is.by.inside (ap (λ k. (state.thread k).stand) (sym t) ∙ last.is.by.stands);
        offers = (choice.pair, last.is.by.offers);
        here = refl;
        goes = subst (λ (c : Control). Offers c onward) (sym g) o;
        there = ap (λ (c : Control). stands_at [] c onward) g;
      }

      here : choice.thread ≡ 0 → IsNoWait last.effect.sync → Leads program [] program.main (point_of program (last_of program choice run last)) (stands_at [] control onward)
      here t w = subst (λ (p : Point). Leads program [] program.main p (stands_at [] control onward))
          (sym (point_is program (last_of program choice run last) last.is
          ∙ ap (λ (l : List Spot). stands_at l last.is.by.control last.move) (ap (λ k. (state.thread k).origin) t ∙ initial_origin program well run r.0)))
          (one _ _ (edge t (goes_to last.move last.effect state.called last.is.by.control last.is.by.frames last.effect.sync control frames inside w (later_stand choice.thread refl t))))

      -- from the step to where the thread stood before the last one
      Earlier : Type 0
      Earlier = (before : Control) (fs : List Frame) (waits : Option Cell) → (state.thread 0).stand ≡ Running before fs waits
          → (next : Move) → Offers before next → Leads program [] program.main (point_of program m) (stands_at [] before next)

      on : Earlier → (b : Bool) → (choice.thread == 0) ≡ b → Leads program [] program.main (point_of program m) (stands_at [] control onward)
      on rec false e = rec control frames inside
          (sym (ap (λ (x : State). (x.thread 0).stand) last.is.leads ∙ others program state choice.thread last.move last.effect 0 (other choice.thread e) (lt_differs 0 state.made (some_made program well run r.0))) ∙ s) onward o
        where
          other : (k : ℕ) → (k == 0) ≡ false → (0 == k) ≡ false
          other k e = grind (arith, common_steps)
      on rec true e = by_sync last.effect.sync refl
        where
          t : choice.thread ≡ 0
          t = eqb-true choice.thread 0 e

          stands_now : (state.thread 0).stand ≡ Running last.is.by.control last.is.by.frames last.is.by.inside
          stands_now = ap (λ k. (state.thread k).stand) (sym t) ∙ last.is.by.stands

          before : Leads program [] program.main (point_of program m) (stands_at [] last.is.by.control last.move)
          before = rec last.is.by.control last.is.by.frames last.is.by.inside stands_now last.move (choice.pair, last.is.by.offers)

          further : IsNoWait last.effect.sync → Leads program [] program.main (point_of program m) (stands_at [] control onward)
          further w = more _ _ _ before (edge t (goes_to last.move last.effect state.called last.is.by.control last.is.by.frames last.effect.sync control frames inside w (later_stand choice.thread refl t)))

          by_sync : (sync : Sync) → last.effect.sync ≡ sync → Leads program [] program.main (point_of program m) (stands_at [] control onward)
          by_sync (Suspends c d) q = let same = waits_at last.move last.effect state.called last.is.by.control last.is.by.frames c d control frames inside
              (subst (λ (y : Sync). own_stand program last.move last.effect state.called last.is.by.control last.is.by.frames y ≡ Running control frames inside) q (later_stand choice.thread refl t)) in
              rec control last.is.by.frames last.is.by.inside
              (stands_now ∙ ap (λ (x : Control). Running x last.is.by.frames last.is.by.inside) same) onward o
          by_sync sync q = further (subst IsNoWait (sym q) tt)

  -- ---- passed once

  pub no_second : (run : List Choice) (i j : ℕ) (m n : Moment) (point : Point) → IsGoodRun program run → IsPoint program [] point → (IsCyclic program [] program.main point → ⊥) → i < j
      → moment_at program run i ≡ Some m → moment_at program run j ≡ Some n → point_of program m ≡ point → point_of program n ≡ point → IsNoWait m.effect.sync → ⊥
  no_second run i j m n point r p once l a b at_m at_n w = let s = moment_is program run j n r b in
      let z : n.choice.thread ≡ 0 = stands_initial run j n point r b p at_n in
      let before = to_prefix program run j i n m r b l a in
      let path = travelled n.earlier i m s.good before (stands_initial run i m point r a p at_m) w s.by.control s.by.frames s.by.inside
      (ap (λ k. ((state_at program n).thread k).stand) (sym z) ∙ s.by.stands) n.move (n.choice.pair, s.by.offers) in
      let there : stands_at [] s.by.control n.move ≡ point =
      ap (λ (l : List Spot). stands_at l s.by.control n.move) (sym (ap (λ k. ((state_at program n).thread k).origin) z ∙ initial_origin program well n.earlier s.good)) ∙ sym (point_is program n s) ∙ at_n in
      once (subst (λ (x : Point). Leads program [] program.main x point) at_m (subst (λ (x : Point). Leads program [] program.main (point_of program m) x) there path))

  pub passed_once : (run : List Choice) (i j : ℕ) (m n : Moment) (point : Point) → IsGoodRun program run → IsPoint program [] point → (IsCyclic program [] program.main point → ⊥)
      → moment_at program run i ≡ Some m → moment_at program run j ≡ Some n → point_of program m ≡ point → point_of program n ≡ point → IsNoWait m.effect.sync → IsNoWait n.effect.sync → i ≡ j
  passed_once run i j m n point r p once a b at_m at_n v w = elim (split i j) [
    | inl l ↦ absurd (no_second run i j m n point r p once l a b at_m at_n v)
    | inr g ↦ elim (eq-or-lt_of_le g) [
      | inl e ↦ sym e
      | inr l ↦ absurd (no_second run j i n m point r p once l b a at_n at_m w)
    ]
  ]
