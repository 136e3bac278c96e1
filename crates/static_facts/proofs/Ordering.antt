-- Ordered points are passed in order.
use Rattle.std.proofs.Common.{◌≡◌, ◌⊎◌, inl, inr, refl, sym, subst, ap, ◌∙◌, Bool, true, false, ℕ, ◌<◌, ◌≤◌, ◌==◌, List, [], ◌∷◌, Option, Some, eqb-true, eq-or-lt_of_le, lt_trans, arith}
use Rattle.c_program.specs.declared.program.Program.{Program}
use Rattle.c_program.specs.Values.{Cell, Location, location_of}
use Rattle.c_program.specs.Control.{Control, Move, Spot, Point}
use Rattle.c_program.specs.State.{State, Stand, Not_made, Running, Ended, Frame, has_ended, here}
use Rattle.c_program.specs.Faults.{A_thread}
use Rattle.c_program.specs.Effects.{Sync, Makes}
use Rattle.c_program.specs.Step.{Choice}
use Rattle.c_program.specs.Runs.{IsGoodRun, state_after, Moment, moment_at}
use Rattle.c_program.specs.Happens.{Before, in_thread, by_creation, by_join, through, made_thread, joined_thread, state_at}
use Rattle.c_program.specs.Breaks.{point_of}
use Rattle.c_program.specs.WellFormed.{IsWellFormed}
use Rattle.c_program.specs.Paths.{Offers, stands_at, LeadsTo}
use Rattle.c_program.proofs.Counters.{sound_run}
use Rattle.c_program.proofs.Stays.{others}
use Rattle.path_simulation.specs.Tracks.{IsPossible, Comes}
use Rattle.path_simulation.specs.Simulates.{Follows}
use Rattle.pointer_targets.specs.Names.{Names, IsExact}
use Rattle.static_facts.proofs.Moments.{IsMoment, step_of, moment_is, at_within, GoodLast, good_last}
use Rattle.static_facts.specs.ObjectStates.{ObjectState}
use Rattle.static_facts.specs.ObjectPaths.{Mark, Follows_none, At, states, MayBeAlong}
use Rattle.static_facts.specs.Seen.{seen}
use Rattle.static_facts.specs.Following.{Agrees}
use Rattle.static_facts.specs.ThreadStates.{along}
use Rattle.static_facts.specs.Order.{IsPlain, IsSettled, Ordered, in_initial, first_initial, second_initial, in_one, apart}
use Rattle.static_facts.specs.ThreadLaws.{WhatIsSeenIsPossible, origin_of, OrderedHappenInOrder, OrderedEitherWay}
use Rattle.static_facts.proofs.Alive.{seen_alive}
use Rattle.static_facts.proofs.Simulating.{followed, place_typed}
use Rattle.static_facts.proofs.Positions.{split, same_moment, place, from_prefix, to_prefix, lasting}
use Rattle.static_facts.proofs.Births.{initial_origin, initial_moves, initial_moment, BornBefore, born_before}
use Rattle.static_facts.proofs.Stopping.{point_is, IsNoWait, moment_point, stands_initial, passed_once}
use Rattle.static_facts.proofs.Making.{JoinsOne, joins_one, making_leads, making_uses, creates_here, Made, held_made}
use Rattle.static_facts.proofs.Joining.{not_yet, Joining, joined}
use Rattle.pointer_targets.specs.LibraryObjects.{type_of_sort, is_of_sort, LeadsToObject}
use Rattle.pointer_targets.proofs.Told.{Told}
use Rattle.static_facts.specs.Points.{IsCreationPoint, thread_of}

running_ended : (control : Control) (frames : List Frame) (inside : Option Cell) (s : Stand) → s ≡ Running control frames inside → has_ended s ≡ true → ⊥
running_ended control frames inside (Running c f i) e h = cc
running_ended control frames inside (Ended result) e h = cc
running_ended control frames inside Not_made e h = cc

-- ---- what is seen is possible

pub what_is_seen : (program : Program) → IsWellFormed program → (names : Names) → Told program names → WhatIsSeenIsPossible program names
what_is_seen program well names premises sort object location at run good control frames inside move stands offers =
    go f.state f.comes f.fulfils
  where
    f : Follows program (states program names sort location) ((state_after program run).thread 0).origin control (Agrees program sort object 0 run)
    f = followed program well names premises sort object location at.here at.of_sort run good 0 control frames inside stands

    initial : ((state_after program run).thread 0).origin ≡ []
    initial = initial_origin program well run good

    go : (mark : Mark) → Comes program (states program names sort location) ((state_after program run).thread 0).origin f.function control mark → Agrees program sort object 0 run mark
        → MayBeAlong program names sort location (stands_at [] control move) (seen program sort object run)
    go Follows_none c a = absurd (cc)
    go (At s outcome) c a = (
      outcome,
      subst (λ (x : ObjectState). IsPossible program (states program names sort location) [] (stands_at [] control move) (At x outcome)) a.has (record {
        function = f.function;
        leads = subst (λ (l : List Spot). LeadsTo program l l f.function) initial f.leads;
        control = control;
        move = move;
        comes = subst (λ (l : List Spot). Comes program (states program names sort location) l f.function control (At s outcome)) initial c;
        offers = offers;
        here = refl;
      }),
    )

-- who has ended has ended for good
pub ended_keeps : (program : Program) → IsWellFormed program → (thread : ℕ) (choice : Choice) (run : List Choice) → IsGoodRun program (choice ∷ run)
    → has_ended ((state_after program run).thread thread).stand ≡ true → has_ended ((state_after program (choice ∷ run)).thread thread).stand ≡ true
ended_keeps program well thread choice run r e = go (thread == choice.thread) refl (thread == state.made) refl
  where
    last : GoodLast program choice run
    last = good_last program choice run r

    state : State
    state = state_after program run

    not_new : thread ≡ state.made → ⊥
    not_new n = unmade ((sound_run program well.counts run r.0).fresh thread (let q : thread ≡ state.made = n in omega arith))
      where
        unmade : (state.thread thread).stand ≡ Not_made → ⊥
        unmade s = let f : has_ended Not_made ≡ true = subst (λ (x : Stand). has_ended x ≡ true) s e in cc

    go : (a : Bool) → (thread == choice.thread) ≡ a → (b : Bool) → (thread == state.made) ≡ b → has_ended ((state_after program (choice ∷ run)).thread thread).stand ≡ true
    go true q b n = absurd (running_ended last.is.by.control last.is.by.frames last.is.by.inside (state.thread thread).stand
        (ap (λ k. (state.thread k).stand) (eqb-true thread choice.thread q) ∙ last.is.by.stands) e)
    go false q true n = absurd (not_new (eqb-true thread state.made n))
    go false q false n = ap (λ (x : State). has_ended (x.thread thread).stand) last.is.leads ∙ ap has_ended (others program state choice.thread last.move last.effect thread q n) ∙ e

-- a step that makes a thread is no first step of a wait
makes_on : (sync : Sync) (made thread : ℕ) → made_thread sync made ≡ Some thread → IsNoWait sync
makes_on (Makes object f) made thread e = tt
makes_on _ made thread e = absurd (cc)

pub makes_is : (sync : Sync) (made thread : ℕ) → made_thread sync made ≡ Some thread → (c : Cell) × ((f : ℕ) × (sync ≡ Makes c f))
makes_is (Makes object f) made thread e = (object, (f, refl))
makes_is _ made thread e = absurd (cc)

module _ (program : Program) (well : IsWellFormed program) (names : Names) (premises : Told program names) where
  -- ---- a step that makes a thread

  -- it stands at a creation point whose argument leads to the object
  leads_at : (m : Moment) → (s : IsMoment program m) → (c : Cell) (f : ℕ) → m.effect.sync ≡ Makes c f → LeadsToObject program (type_of_sort A_thread) m.earlier m.choice.thread (point_of program m) 0 c
  leads_at m s c f e = subst (λ (p : Point). LeadsToObject program (type_of_sort A_thread) m.earlier m.choice.thread p 0 c) (sym (point_is program m s))
      (making_leads program well m.choice m.earlier (step_of program m s) c f e)

  is_of_thread : (m : Moment) → (s : IsMoment program m) → (c : Cell) (f : ℕ) → m.effect.sync ≡ Makes c f → is_of_sort program A_thread c ≡ true
  is_of_thread m s c f e = let l = leads_at m s c f e in place_typed (here program (state_at program m) m.choice.thread) (type_of_sort A_thread) l.expression c l.leads

  is_located : (m : Moment) → (s : IsMoment program m) → (c : Cell) (f : ℕ) → m.effect.sync ≡ Makes c f → (creation : Point) (object : Location) → point_of program m ≡ creation
      → IsExact names creation 0 object → location_of program c ≡ Some object
  is_located m s c f e creation object p x = premises.exact m.earlier m.choice.thread creation A_thread 0 c object s.good
      (subst (λ (p : Point). LeadsToObject program (type_of_sort A_thread) m.earlier m.choice.thread p 0 c) p (leads_at m s c f e)) x

  module _ (run : List Choice) (good : IsGoodRun program run) where
    creates_at : (i : ℕ) (m : Moment) → moment_at program run i ≡ Some m → (c : Cell) (f : ℕ) → m.effect.sync ≡ Makes c f → IsCreationPoint program (origin_of program m) (point_of program m)
    creates_at i m a c f e = let s = moment_is program run i m good a in record {
      is_point = moment_point program well run i m good a;
      creates = creates_here program well m.choice m.earlier (step_of program m s) c f e;
    }

    -- a step that makes a thread of the object of a plain point stands at that point
    at_plain : (i : ℕ) (m : Moment) → moment_at program run i ≡ Some m → (c : Cell) (f : ℕ) → m.effect.sync ≡ Makes c f → (creation : Point) (object : Location) → IsPlain program names creation object
        → location_of program c ≡ Some object → point_of program m ≡ creation
    at_plain i m a c f e creation object plain located = let s = moment_is program run i m good a in
        plain.only (origin_of program m) (point_of program m) (creates_at i m a c f e)
        (premises.may_name m.earlier m.choice.thread (point_of program m) A_thread 0 c object s.good (leads_at m s c f e) located)

    -- and there is one such step
    one_making : (i j : ℕ) (m n : Moment) → moment_at program run i ≡ Some m → moment_at program run j ≡ Some n → (s t : ℕ)
        → made_thread m.effect.sync (state_at program m).made ≡ Some s → made_thread n.effect.sync (state_at program n).made ≡ Some t
        → (creation : Point) (object : Location) → IsPlain program names creation object → point_of program m ≡ creation → point_of program n ≡ creation → (i ≡ j) × (s ≡ t)
    one_making i j m n a b s t h k creation object plain p q = (e, same)
      where
        e : i ≡ j
        e = passed_once program well run i j m n creation good plain.point.is_point plain.once a b p q (makes_on m.effect.sync (state_at program m).made s h) (makes_on n.effect.sync (state_at program n).made t k)

        same : s ≡ t
        same = let w : m ≡ n = same_moment program run i j m n e a b in
            let z : Some s ≡ Some t = sym (subst (λ (x : Moment). made_thread x.effect.sync (state_at program x).made ≡ Some s) w h) ∙ k in cc

  -- ---- where the initial thread stands at a settled point, the thread of the plain point is joined

  -- a step of the initial thread joins the thread, which had ended
  pub record JoinedIn (run : List Choice) (thread : ℕ) : Type 0 where
    pub position : ℕ
    pub moment : Moment
    pub at : moment_at program run position ≡ Some moment
    pub initial : moment.choice.thread ≡ 0
    pub joined : joined_thread moment.effect.sync ≡ Some thread
    pub ended : has_ended ((state_at program moment).thread thread).stand ≡ true

  pub joined_in : (run : List Choice) → IsGoodRun program run → (control : Control) (frames : List Frame) (inside : Option Cell) (move : Move)
      → ((state_after program run).thread 0).stand ≡ Running control frames inside → Offers control move → (creation : Point) (object : Location) → IsPlain program names creation object
      → IsSettled program names object (stands_at [] control move) → (position : ℕ) (birth : Moment) → moment_at program run position ≡ Some birth
      → (thread : ℕ) → made_thread birth.effect.sync (state_at program birth).made ≡ Some thread → point_of program birth ≡ creation → JoinedIn run thread
  joined_in run good control frames inside move stands offers creation object plain sets position birth a thread makes at_creation =
      elim (sets (seen program A_thread c run) (along (stands_at [] control move) (seen program A_thread c run) (seen_alive program c run) possible)) [
        | inl none ↦ absurd (not_yet program A_thread c run good position birth none a
            (stands_initial program well run position birth creation good a plain.point.is_point at_creation)
            (making_uses program well birth.choice birth.earlier (step_of program birth born) c making.1.0 making.1.1))
        | inr done ↦ by_joining (joined program A_thread c run good done)
      ]
    where
      born : IsMoment program birth
      born = moment_is program run position birth good a

      making : (c : Cell) × ((f : ℕ) × (birth.effect.sync ≡ Makes c f))
      making = makes_is birth.effect.sync (state_at program birth).made thread makes

      c : Cell
      c = making.0

      located : location_of program c ≡ Some object
      located = is_located birth born c making.1.0 making.1.1 creation object at_creation plain.exact

      possible : MayBeAlong program names A_thread object (stands_at [] control move) (seen program A_thread c run)
      possible = what_is_seen program well names premises A_thread c object (record { here = located; of_sort = is_of_thread birth born c making.1.0 making.1.1 }) run good control frames inside move stands offers

      by_joining : Joining program A_thread c run → JoinedIn run thread
      by_joining j = record {
        position = j.position;
        moment = j.moment;
        at = j.at;
        initial = j.initial;
        joined = facts.joined ∙ ap Some same_thread;
        ended = subst (λ k. has_ended ((state_at program j.moment).thread k).stand ≡ true) same_thread facts.ended;
      }
        where
          h : IsMoment program j.moment
          h = moment_is program run j.position j.moment good j.at

          facts : JoinsOne program well j.moment.choice j.moment.earlier (step_of program j.moment h) c
          facts = joins_one program well j.moment.choice j.moment.earlier (step_of program j.moment h) c j.joins

          made : Made program j.moment.earlier c facts.thread
          made = held_made program c j.moment.earlier h.good facts.thread facts.holds

          at_p : moment_at program run made.position ≡ Some made.moment
          at_p = from_prefix program run j.position made.position j.moment made.moment good j.at made.at

          same_thread : facts.thread ≡ thread
          same_thread = (one_making run good made.position position made.moment birth at_p a facts.thread thread made.makes makes creation object plain
              (at_plain run good made.position made.moment at_p c made.function made.is creation object plain located) at_creation).1

  module _ (run : List Choice) (good : IsGoodRun program run) where
    -- a step of a thread that has ended before another step stands before that step
    earlier_than : (i q : ℕ) (m n : Moment) → moment_at program run i ≡ Some m → moment_at program run q ≡ Some n → has_ended ((state_at program n).thread m.choice.thread).stand ≡ true → i < q
    earlier_than i q m n a b e = elim (split i q) [
      | inl l ↦ l
      | inr g ↦ elim (eq-or-lt_of_le g) [
        | inl same ↦ absurd (running_ended s.by.control s.by.frames s.by.inside _ s.by.stands
            (subst (λ (x : Moment). has_ended ((state_at program x).thread m.choice.thread).stand ≡ true) (same_moment program run q i n m same b a) e))
        | inr l ↦ absurd (running_ended s.by.control s.by.frames s.by.inside _ s.by.stands
            (lasting program (λ run. has_ended ((state_after program run).thread m.choice.thread).stand ≡ true) (ended_keeps program well m.choice.thread)
            m.earlier q n s.good (to_prefix program run i q m n good a l b) e))
      ]
    ]
      where
        s : IsMoment program m
        s = moment_is program run i m good a

    -- the initial thread's step x stands before the birth of y's thread, or joins that thread before
    pub settled : (x y : ℕ) (m n : Moment) (creation : Point) (object : Location) → moment_at program run x ≡ Some m → moment_at program run y ≡ Some n → m.choice.thread ≡ 0
        → IsPlain program names creation object → IsSettled program names object (point_of program m)
        → (b : BornBefore program well run y n.choice.thread creation) → (x ≤ b.position) ⊎ ((y < x) × Before program run y x)
    settled x y m n creation object a_x a_y z plain sets b = elim (split b.position x) [
      | inr h ↦ inl h
      | inl l ↦ inr (after_join (joined_in m.earlier s.good s.by.control s.by.frames s.by.inside m.move stands (m.choice.pair, s.by.offers) creation object plain
          (subst (IsSettled program names object) (point_is program m s ∙ ap (λ (l : List Spot). stands_at l s.by.control m.move) (initial_moment program well run x m good a_x z)) sets)
          b.position b.moment (to_prefix program run x b.position m b.moment good a_x l b.at) n.choice.thread b.makes b.point))
    ]
      where
        s : IsMoment program m
        s = moment_is program run x m good a_x

        stands : ((state_at program m).thread 0).stand ≡ Running s.by.control s.by.frames s.by.inside
        stands = ap (λ k. ((state_at program m).thread k).stand) (sym z) ∙ s.by.stands

        after_join : JoinedIn m.earlier n.choice.thread → (y < x) × Before program run y x
        after_join j = (
          lt_trans y_q q_x,
          through y j.position x (by_join y j.position (record { first = n; second = j.moment; earlier = y_q; at_first = a_y; at_second = at_q }) j.joined)
              (in_thread j.position x (record { first = j.moment; second = m; earlier = q_x; at_first = at_q; at_second = a_x }) (j.initial ∙ sym z)),
        )
          where
            at_q : moment_at program run j.position ≡ Some j.moment
            at_q = from_prefix program run x j.position m j.moment good a_x j.at

            q_x : j.position < x
            q_x = subst (λ k. j.position < k) (place program run x m good a_x) (at_within program m.earlier j.position j.moment j.at)

            y_q : y < j.position
            y_q = earlier_than y j.position n j.moment a_y at_q j.ended

    -- ---- the cases

    born_by : (x y : ℕ) (m n : Moment) → moment_at program run x ≡ Some m → moment_at program run y ≡ Some n → x < y
        → made_thread m.effect.sync (state_at program m).made ≡ Some n.choice.thread → Before program run x y
    born_by x y m n a b l e = by_creation x y (record { first = m; second = n; earlier = l; at_first = a; at_second = b }) e

    one_thread : (x y : ℕ) (m n : Moment) → moment_at program run x ≡ Some m → moment_at program run y ≡ Some n → x < y → m.choice.thread ≡ n.choice.thread → Before program run x y
    one_thread x y m n a b l e = in_thread x y (record { first = m; second = n; earlier = l; at_first = a; at_second = b }) e

    -- from a step of the thread that bears y, which stands at its birth or before
    via_birth : (x y : ℕ) (m n : Moment) (creation : Point) → moment_at program run x ≡ Some m → moment_at program run y ≡ Some n → (b : BornBefore program well run y n.choice.thread creation)
        → x ≤ b.position → m.choice.thread ≡ b.moment.choice.thread → Before program run x y
    via_birth x y m n creation a_x a_y b l t = elim (eq-or-lt_of_le l) [
      | inl same ↦ subst (λ k. Before program run k y) (sym same) (born_by b.position y b.moment n b.at a_y b.earlier b.makes)
      | inr less ↦ through x b.position y (one_thread x b.position m b.moment a_x b.at less t) (born_by b.position y b.moment n b.at a_y b.earlier b.makes)
    ]

    -- who bears a thread at a plain point is the initial thread
    bearer : (y thread : ℕ) (creation : Point) (object : Location) → IsPlain program names creation object → (b : BornBefore program well run y thread creation) → b.moment.choice.thread ≡ 0
    bearer y thread creation object plain b = stands_initial program well run b.position b.moment creation good b.at plain.point.is_point b.point

    module _ (i j : ℕ) (m n : Moment) (a : moment_at program run i ≡ Some m) (b : moment_at program run j ≡ Some n) (l : i < j) where
      born_m : (creation : Point) → origin_of program m ≡ thread_of creation → BornBefore program well run i m.choice.thread creation
      born_m creation o = born_before program well run i m creation good a o

      born_n : (creation : Point) → origin_of program n ≡ thread_of creation → BornBefore program well run j n.choice.thread creation
      born_n creation o = born_before program well run j n creation good b o

      both_initial : origin_of program m ≡ [] → origin_of program n ≡ [] → Before program run i j
      both_initial o p = one_thread i j m n a b l (initial_moves program well run i m good a o ∙ sym (initial_moves program well run j n good b p))

      initial_first : (creation : Point) (object : Location) → origin_of program m ≡ [] → origin_of program n ≡ thread_of creation → IsPlain program names creation object
          → IsSettled program names object (point_of program m) → Before program run i j
      initial_first creation object o p plain sets = elim (settled i j m n creation object a b (initial_moves program well run i m good a o) plain sets (born_n creation p)) [
        | inl h ↦ via_birth i j m n creation a b (born_n creation p) h (initial_moves program well run i m good a o ∙ sym (bearer j n.choice.thread creation object plain (born_n creation p)))
        | inr h ↦ absurd (let k : j < i = h.0 in omega arith)
      ]

      initial_second : (creation : Point) (object : Location) → origin_of program m ≡ thread_of creation → origin_of program n ≡ [] → IsPlain program names creation object
          → IsSettled program names object (point_of program n) → Before program run i j
      initial_second creation object o p plain sets = let x = born_m creation o in
          elim (settled j i n m creation object b a (initial_moves program well run j n good b p) plain sets x) [
            | inl h ↦ absurd (let k : x.position < i = x.earlier in omega arith)
            | inr h ↦ h.1
          ]

      one_plain : (creation : Point) (object : Location) → origin_of program m ≡ thread_of creation → origin_of program n ≡ thread_of creation → IsPlain program names creation object → Before program run i j
      one_plain creation object o p plain = let x = born_m creation o in let y = born_n creation p in
          one_thread i j m n a b l (one_making run good x.position y.position x.moment y.moment x.at y.at m.choice.thread n.choice.thread x.makes y.makes creation object plain x.point y.point).1

      both_plain : (one other : Point) (x y : Location) → origin_of program m ≡ thread_of one → origin_of program n ≡ thread_of other → IsPlain program names one x → IsPlain program names other y
          → IsSettled program names x other → IsSettled program names y one → Before program run i j
      both_plain one other x y o p plain_one plain_other x_settled y_settled =
          elim (settled v.position i v.moment m one x v.at a (bearer j n.choice.thread other y plain_other v) plain_one (subst (IsSettled program names x) (sym v.point) x_settled) u) [
            | inl h ↦ elim (settled u.position j u.moment n other y u.at b (bearer i m.choice.thread one x plain_one u) plain_other (subst (IsSettled program names y) (sym u.point) y_settled) v) [
              | inl k ↦ one_thread i j m n a b l (same_child (let g : v.position ≤ u.position = h in let f : u.position ≤ v.position = k in omega arith))
              | inr k ↦ absurd (let e : u.position < i = u.earlier in let f : j < u.position = k.0 in omega arith)
            ]
            | inr h ↦ through i v.position j h.1 (born_by v.position j v.moment n v.at b v.earlier v.makes)
          ]
        where
          u : BornBefore program well run i m.choice.thread one
          u = born_m one o

          v : BornBefore program well run j n.choice.thread other
          v = born_n other p

          same_child : u.position ≡ v.position → m.choice.thread ≡ n.choice.thread
          same_child e = let w : u.moment ≡ v.moment = same_moment program run u.position v.position u.moment v.moment e u.at v.at in
              let z : Some m.choice.thread ≡ Some n.choice.thread =
              sym (subst (λ (q : Moment). made_thread q.effect.sync (state_at program q).made ≡ Some m.choice.thread) w u.makes) ∙ v.makes in cc

      ordered : (s t : List Spot) (p q : Point) → s ≡ origin_of program m → p ≡ point_of program m → t ≡ origin_of program n → q ≡ point_of program n → Ordered program names s p t q
          → Before program run i j
      ordered _ _ _ _ s p t q (in_initial a b) = both_initial (sym s) (sym t)
      ordered _ _ _ _ s p t q (first_initial creation object a b plain sets) = initial_first creation object (sym s) (sym t) plain (subst (IsSettled program names object) p sets)
      ordered _ _ _ _ s p t q (second_initial creation object a b plain sets) = initial_second creation object (sym s) (sym t) plain (subst (IsSettled program names object) q sets)
      ordered _ _ _ _ s p t q (in_one creation object a b plain) = one_plain creation object (sym s) (sym t) plain
      ordered _ _ _ _ s p t q (apart one other x y a b plain_one plain_other x_settled y_settled) = both_plain one other x y (sym s) (sym t) plain_one plain_other x_settled y_settled

  pub in_order : OrderedHappenInOrder program names
  in_order run good i j m n a b l o = ordered run good i j m n a b l _ _ _ _ refl refl refl refl o

pub either_way : (program : Program) (names : Names) → OrderedEitherWay program names
either_way program names _ _ _ _ (in_initial a b) = in_initial b a
either_way program names _ _ _ _ (first_initial creation object a b plain sets) = second_initial creation object b a plain sets
either_way program names _ _ _ _ (second_initial creation object a b plain sets) = first_initial creation object b a plain sets
either_way program names _ _ _ _ (in_one creation object a b plain) = in_one creation object b a plain
either_way program names _ _ _ _ (apart one other x y a b plain_one plain_other x_settled y_settled) = apart other one y x b a plain_other plain_one y_settled x_settled
