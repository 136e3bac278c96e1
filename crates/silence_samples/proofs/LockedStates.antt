-- Where the locked text's main stands, and which states its library objects may be in there.
use Rattle.std.proofs.Common.{◌≡◌, inl, inr, refl, sym, subst, ap, ◌∙◌, Bool, true, false, ◌&&◌, ℕ, zero, suc, List, [], ◌∷◌, Option, Some, None}
use Rattle.std.specs.Prelude.{slice_get}
use Rattle.c_program.specs.declared.statement.Statement.{Do}
use Rattle.c_program.specs.Syntax.{act_at}
use Rattle.c_program.specs.Values.{Location}
use Rattle.c_program.specs.Control.{Control, Run, Move, Spot, Point, move_at, goes_on, entered}
use Rattle.c_program.specs.Faults.{Sort, A_mutex, A_condition, A_key, A_thread}
use Rattle.c_program.specs.Paths.{initial, stands_at}
use Rattle.c_program.proofs.Cells.{and_true}
use Rattle.path_simulation.specs.Tracks.{Comes, at_entry, by_move}
use Rattle.static_facts.specs.Outcomes.{follows_outcome, remembered_by}
use Rattle.static_facts.specs.ObjectStates.{ObjectState, Is_unmade, Is_live, Is_joined, Is_detached, Is_dead, Doing, Begins, Joins_it, Detaches_it, Ends_it, doing_of, result_of_call, IsStateOf}
use Rattle.static_facts.specs.ObjectPaths.{Mark, Follows_none, At, IsNoStart, ObjectStep, follows_none, passes, moves, leaves, succeeds, fails, may_succeed, may_fail, elsewhere, states, MayBeAlong}
use Rattle.litmus.specs.Pieces.{m, t}
use Rattle.silence_samples.specs.Locked.{locked_writes, locked_facts, is_object, is_named, may_have_begun, is_possible}
use Rattle.silence_samples.proofs.LockedPoints.{spot, at, true_false, false_true, none_some, same_some, Led, of_main, of_worker, led}

pub both : (a b : Bool) → a ≡ true → b ≡ true → (a && b) ≡ true
both true true e f = refl
both true false e f = false_true f
both false b e f = false_true e

-- ---- what is left of main before each action

abbrev pub mv : ℕ → Control → Move
mv number left = record { action = number; left = left }

abbrev pub r9 : Control
r9 = Run (Do 9) ∷ []

abbrev pub r8 : Control
r8 = Run (Do 8) ∷ r9

abbrev pub r7 : Control
r7 = Run (Do 7) ∷ r8

abbrev pub r6 : Control
r6 = Run (Do 6) ∷ r7

abbrev pub r5 : Control
r5 = Run (Do 5) ∷ r6

abbrev pub r4 : Control
r4 = Run (Do 4) ∷ r5

-- main stands there before the action of the number; its whole body may stand open or not
pub data Standing : Control → ℕ → Type 0 where
  s4 : Standing (entered locked_writes 1) 4
  t4 : Standing r4 4
  s5 : Standing r5 5
  s6 : Standing r6 6
  s7 : Standing r7 7
  s8 : Standing r8 8
  s9 : Standing r9 9
  s10 : Standing [] 10

pub record Goes (k : ℕ) (move : Move) : Type 0 where
  pub action : move.action ≡ k
  pub on : Standing (goes_on locked_writes move) (suc k)

first : (given : Move) (pair : ℕ) (move : Move) → slice_get (given ∷ []) pair ≡ Some move → given ≡ move
first given zero move e = same_some given move e
first given (suc k) move e = none_some move e

pub goes : (control : Control) (k pair : ℕ) (move : Move) → Standing control k → move_at control pair ≡ Some move → Goes k move
unfolding act_at
goes _ _ pair move s4 e = subst (Goes 4) (first (mv 4 r5) pair move e) (record { action = refl; on = s5 })
goes _ _ pair move t4 e = subst (Goes 4) (first (mv 4 r5) pair move e) (record { action = refl; on = s5 })
goes _ _ pair move s5 e = subst (Goes 5) (first (mv 5 r6) pair move e) (record { action = refl; on = s6 })
goes _ _ pair move s6 e = subst (Goes 6) (first (mv 6 r7) pair move e) (record { action = refl; on = s7 })
goes _ _ pair move s7 e = subst (Goes 7) (first (mv 7 r8) pair move e) (record { action = refl; on = s8 })
goes _ _ pair move s8 e = subst (Goes 8) (first (mv 8 r9) pair move e) (record { action = refl; on = s9 })
goes _ _ pair move s9 e = subst (Goes 9) (first (mv 9 []) pair move e) (record { action = refl; on = s10 })
goes _ _ pair move s10 e = none_some move e

-- ---- what each action does

by_sort : (P : Sort → Type 0) → P A_mutex → P A_condition → P A_key → P A_thread → (sort : Sort) → P sort
by_sort P a b c d A_mutex = a
by_sort P a b c d A_condition = b
by_sort P a b c d A_key = c
by_sort P a b c d A_thread = d

abbrev begins_or_none : Option Doing → Bool
begins_or_none None = true
begins_or_none (Some Begins) = true
begins_or_none _ = false

fine : (control : Control) (n : ℕ) → Standing control n → (sort : Sort) → begins_or_none (doing_of sort (act_at locked_writes n)) ≡ true
unfolding act_at
fine _ _ s4 = by_sort (λ sort. begins_or_none (doing_of sort (act_at locked_writes 4)) ≡ true) refl refl refl refl
fine _ _ t4 = by_sort (λ sort. begins_or_none (doing_of sort (act_at locked_writes 4)) ≡ true) refl refl refl refl
fine _ _ s5 = by_sort (λ sort. begins_or_none (doing_of sort (act_at locked_writes 5)) ≡ true) refl refl refl refl
fine _ _ s6 = by_sort (λ sort. begins_or_none (doing_of sort (act_at locked_writes 6)) ≡ true) refl refl refl refl
fine _ _ s7 = by_sort (λ sort. begins_or_none (doing_of sort (act_at locked_writes 7)) ≡ true) refl refl refl refl
fine _ _ s8 = by_sort (λ sort. begins_or_none (doing_of sort (act_at locked_writes 8)) ≡ true) refl refl refl refl
fine _ _ s9 = by_sort (λ sort. begins_or_none (doing_of sort (act_at locked_writes 9)) ≡ true) refl refl refl refl
fine _ _ s10 = by_sort (λ sort. begins_or_none (doing_of sort (act_at locked_writes 10)) ≡ true) refl refl refl refl

abbrev Starts : ℕ → Sort → Type 0
Starts n sort = doing_of sort (act_at locked_writes n) ≡ Some Begins → (object : Location) → is_named (act_at locked_writes n) object ≡ true → may_have_begun sort object (suc n) ≡ true

starts : (control : Control) (n : ℕ) → Standing control n → (sort : Sort) → Starts n sort
unfolding act_at
starts _ _ s4 = by_sort (Starts 4) (λ d object e. both (is_object m object) true e refl) (λ d object e. none_some Begins d) (λ d object e. none_some Begins d) (λ d object e. none_some Begins d)
starts _ _ t4 = by_sort (Starts 4) (λ d object e. both (is_object m object) true e refl) (λ d object e. none_some Begins d) (λ d object e. none_some Begins d) (λ d object e. none_some Begins d)
starts _ _ s5 = by_sort (Starts 5) (λ d object e. none_some Begins d) (λ d object e. none_some Begins d) (λ d object e. none_some Begins d) (λ d object e. both (is_object t object) true e refl)
starts _ _ s6 = by_sort (Starts 6) (λ d object e. none_some Begins d) (λ d object e. none_some Begins d) (λ d object e. none_some Begins d) (λ d object e. none_some Begins d)
starts _ _ s7 = by_sort (Starts 7) (λ d object e. none_some Begins d) (λ d object e. none_some Begins d) (λ d object e. none_some Begins d) (λ d object e. none_some Begins d)
starts _ _ s8 = by_sort (Starts 8) (λ d object e. none_some Begins d) (λ d object e. none_some Begins d) (λ d object e. none_some Begins d) (λ d object e. none_some Begins d)
starts _ _ s9 = by_sort (Starts 9) (λ d object e. none_some Begins d) (λ d object e. none_some Begins d) (λ d object e. none_some Begins d) (λ d object e. none_some Begins d)
starts _ _ s10 = by_sort (Starts 10) (λ d object e. none_some Begins d) (λ d object e. none_some Begins d) (λ d object e. none_some Begins d) (λ d object e. none_some Begins d)

abbrev Keeps : ℕ → Sort → Type 0
Keeps n sort = (object : Location) → may_have_begun sort object n ≡ true → may_have_begun sort object (suc n) ≡ true

keeps : (control : Control) (n : ℕ) → Standing control n → (sort : Sort) → Keeps n sort
keeps _ _ s4 = by_sort (Keeps 4) (λ object e. false_true (and_true (is_object m object) false e).1) (λ object e. false_true e) (λ object e. false_true e) (λ object e. false_true (and_true (is_object t object) false e).1)
keeps _ _ t4 = by_sort (Keeps 4) (λ object e. false_true (and_true (is_object m object) false e).1) (λ object e. false_true e) (λ object e. false_true e) (λ object e. false_true (and_true (is_object t object) false e).1)
keeps _ _ s5 = by_sort (Keeps 5) (λ object e. e) (λ object e. false_true e) (λ object e. false_true e) (λ object e. false_true (and_true (is_object t object) false e).1)
keeps _ _ s6 = by_sort (Keeps 6) (λ object e. e) (λ object e. false_true e) (λ object e. false_true e) (λ object e. e)
keeps _ _ s7 = by_sort (Keeps 7) (λ object e. e) (λ object e. false_true e) (λ object e. false_true e) (λ object e. e)
keeps _ _ s8 = by_sort (Keeps 8) (λ object e. e) (λ object e. false_true e) (λ object e. false_true e) (λ object e. e)
keeps _ _ s9 = by_sort (Keeps 9) (λ object e. e) (λ object e. false_true e) (λ object e. false_true e) (λ object e. e)
keeps _ _ s10 = by_sort (Keeps 10) (λ object e. e) (λ object e. false_true e) (λ object e. false_true e) (λ object e. e)

follows : (control : Control) (n pair : ℕ) → Standing control n → follows_outcome (at [] n) (act_at locked_writes n) None pair ≡ true
unfolding act_at
follows _ _ pair s4 = refl
follows _ _ pair t4 = refl
follows _ _ pair s5 = refl
follows _ _ pair s6 = refl
follows _ _ pair s7 = refl
follows _ _ pair s8 = refl
follows _ _ pair s9 = refl
follows _ _ pair s10 = refl

forgets : (control : Control) (n : ℕ) (b : Bool) → Standing control n → remembered_by locked_writes (at [] n) (result_of_call (act_at locked_writes n)) b ≡ None
unfolding act_at
forgets _ _ b s4 = refl
forgets _ _ b t4 = refl
forgets _ _ b s5 = refl
forgets _ _ b s6 = refl
forgets _ _ b s7 = refl
forgets _ _ b s8 = refl
forgets _ _ b s9 = refl
forgets _ _ b s10 = refl

no_start : (doing : Doing) → begins_or_none (Some doing) ≡ true → IsNoStart doing → ⊥
no_start Begins e n = n
no_start Joins_it e n = false_true e
no_start Detaches_it e n = false_true e
no_start Ends_it e n = false_true e

-- ---- no other states than these

module _ (sort : Sort) (object : Location) where
  abbrev Allowed : ℕ → Mark → Type 0
  Allowed n Follows_none = ⊥
  Allowed n (At state outcome) = is_possible state (may_have_begun sort object n) ≡ true

  kept : (control : Control) (n : ℕ) → Standing control n → (state : ObjectState) → is_possible state (may_have_begun sort object n) ≡ true
      → is_possible state (may_have_begun sort object (suc n)) ≡ true
  kept control n st Is_unmade a = refl
  kept control n st Is_live a = keeps control n st sort object a
  kept control n st Is_joined a = false_true a
  kept control n st Is_detached a = false_true a
  kept control n st Is_dead a = false_true a

  stepped : (control : Control) (point : Point) (pair : ℕ) (before behind : Mark) → Standing control point.spot.action → ObjectStep locked_writes locked_facts.names sort object point pair before behind
      → Allowed point.spot.action before → Allowed (suc point.spot.action) behind
  stepped control point pair _ _ st follows_none a = a
  stepped control point pair _ _ st (passes state outcome d f) a = kept control point.spot.action st state a
  stepped control point pair _ _ st (moves state outcome doing d n named) a =
      absurd (no_start doing (subst (λ x. begins_or_none x ≡ true) d (fine control point.spot.action st sort)) n)
  stepped control point pair _ _ st (leaves state outcome doing d n named) a = kept control point.spot.action st state a
  stepped control point pair _ _ st (succeeds state outcome d e) a = starts control point.spot.action st sort d object (and_true _ _ e).0
  stepped control point pair _ _ st (fails state outcome d e) a = kept control point.spot.action st state a
  stepped control point pair _ _ st (may_succeed state outcome d e named) a = absurd (e named)
  stepped control point pair _ _ st (may_fail state outcome d e named) a = kept control point.spot.action st state a
  stepped control point pair _ _ st (elsewhere state outcome d named) a = kept control point.spot.action st state a

  record IsAllowed (control : Control) (mark : Mark) : Type 0 where
    number : ℕ
    stands : Standing control number
    allowed : Allowed number mark

  comes_allowed : (control : Control) (mark : Mark) → Comes locked_writes (states locked_writes locked_facts.names sort object) [] 1 control mark → IsAllowed control mark
  comes_allowed _ _ (at_entry mark (inl s)) = subst (IsAllowed (entered locked_writes 1)) (sym s.1) (record { number = 4; stands = s4; allowed = refl })
  comes_allowed _ _ (at_entry mark (inr s)) = absurd (s.0 refl)
  comes_allowed _ _ (by_move control pair move before behind c e s) = let h = comes_allowed control before c in let g = goes control h.number pair move h.stands e in record {
    number = suc move.action;
    stands = subst (λ n. Standing (goes_on locked_writes move) (suc n)) (sym g.action) g.on;
    allowed = stepped control (stands_at [] control move) pair before behind (subst (Standing control) (sym g.action) h.stands) s (subst (λ n. Allowed n before) (sym g.action) h.allowed);
  }

  is_main : (string thread : List Spot) (f : ℕ) → Led string thread f → string ≡ [] → f ≡ 1
  is_main _ _ _ of_main e = refl
  is_main _ _ _ of_worker e = absurd (cc)

  pub along_possible : (point : Point) (state : ObjectState) → MayBeAlong locked_writes locked_facts.names sort object point state → is_possible state (may_have_begun sort object point.spot.action) ≡ true
  along_possible point state b = let p = b.1 in
      let c = subst (λ f. Comes locked_writes (states locked_writes locked_facts.names sort object) [] f p.control (At state b.0)) (is_main [] [] p.function (led [] [] p.function p.leads) refl) p.comes in
      let h = comes_allowed p.control (At state b.0) c in let g = goes p.control h.number p.offers.0 p.move h.stands p.offers.1 in
      let same : h.number ≡ point.spot.action = sym g.action ∙ ap (λ (q : Point). q.spot.action) p.here in
      subst (λ n. is_possible state (may_have_begun sort object n) ≡ true) same h.allowed

  -- ---- and these

  abbrev Steps : ℕ → ObjectState → Type 0
  Steps n state = ObjectStep locked_writes locked_facts.names sort object (at [] n) 0 (At state None) (At state None)

  stays : (control : Control) (n : ℕ) → Standing control n → (state : ObjectState) → Steps n state
  stays control n st state = go (doing_of sort (act_at locked_writes n)) refl
    where
      failing : doing_of sort (act_at locked_writes n) ≡ Some Begins → (b : Bool) → is_named (act_at locked_writes n) object ≡ b → Steps n state
      failing d true e = subst (λ r. ObjectStep locked_writes locked_facts.names sort object (at [] n) 0 (At state None) (At state r)) (forgets control n false st)
          (fails state None d (both _ _ e refl))
      failing d false e = elsewhere state None d (λ named. true_false (sym (and_true _ _ named).0 ∙ e))

      go : (doing : Option Doing) → doing_of sort (act_at locked_writes n) ≡ doing → Steps n state
      go None d = passes state None d (follows control n 0 st)
      go (Some Begins) d = failing d (is_named (act_at locked_writes n) object) refl
      go (Some Joins_it) d = false_true (sym (ap begins_or_none d) ∙ fine control n st sort)
      go (Some Detaches_it) d = false_true (sym (ap begins_or_none d) ∙ fine control n st sort)
      go (Some Ends_it) d = false_true (sym (ap begins_or_none d) ∙ fine control n st sort)

  abbrev To : Control → ObjectState → Type 0
  To control state = Comes locked_writes (states locked_writes locked_facts.names sort object) [] 1 control (At state None)

  u4 : To (entered locked_writes 1) Is_unmade
  u4 = at_entry (At Is_unmade None) (inl (refl, refl))

  u5 : To r5 Is_unmade
  unfolding act_at
  u5 = by_move (entered locked_writes 1) 0 (mv 4 r5) (At Is_unmade None) (At Is_unmade None) u4 refl (stays _ 4 s4 Is_unmade)

  u6 : To r6 Is_unmade
  unfolding act_at
  u6 = by_move r5 0 (mv 5 r6) (At Is_unmade None) (At Is_unmade None) u5 refl (stays _ 5 s5 Is_unmade)

  u7 : To r7 Is_unmade
  unfolding act_at
  u7 = by_move r6 0 (mv 6 r7) (At Is_unmade None) (At Is_unmade None) u6 refl (stays _ 6 s6 Is_unmade)

  u8 : To r8 Is_unmade
  unfolding act_at
  u8 = by_move r7 0 (mv 7 r8) (At Is_unmade None) (At Is_unmade None) u7 refl (stays _ 7 s7 Is_unmade)

  u9 : To r9 Is_unmade
  unfolding act_at
  u9 = by_move r8 0 (mv 8 r9) (At Is_unmade None) (At Is_unmade None) u8 refl (stays _ 8 s8 Is_unmade)

  there : (control : Control) (n : ℕ) (left : Control) (state : ObjectState) → move_at control 0 ≡ Some (mv n left) → stands_at [] control (mv n left) ≡ at [] n → To control state
      → MayBeAlong locked_writes locked_facts.names sort object (at [] n) state
  there control n left state offers here c = (None, record { function = 1; leads = initial; control = control; move = mv n left; comes = c; offers = (0, offers); here = here })

module _ (object : Location) (is : is_object m object ≡ true) where
  m5 : To A_mutex object r5 Is_live
  unfolding act_at
  m5 = by_move (entered locked_writes 1) 0 (mv 4 r5) (At Is_unmade None) (At Is_live None) (u4 A_mutex object) refl (succeeds Is_unmade None refl (both _ _ is refl))

  m6 : To A_mutex object r6 Is_live
  unfolding act_at
  m6 = by_move r5 0 (mv 5 r6) (At Is_live None) (At Is_live None) m5 refl (stays A_mutex object _ 5 s5 Is_live)

  m7 : To A_mutex object r7 Is_live
  unfolding act_at
  m7 = by_move r6 0 (mv 6 r7) (At Is_live None) (At Is_live None) m6 refl (stays A_mutex object _ 6 s6 Is_live)

  m8 : To A_mutex object r8 Is_live
  unfolding act_at
  m8 = by_move r7 0 (mv 7 r8) (At Is_live None) (At Is_live None) m7 refl (stays A_mutex object _ 7 s7 Is_live)

  m9 : To A_mutex object r9 Is_live
  unfolding act_at
  m9 = by_move r8 0 (mv 8 r9) (At Is_live None) (At Is_live None) m8 refl (stays A_mutex object _ 8 s8 Is_live)

module _ (object : Location) (is : is_object t object ≡ true) where
  t6 : To A_thread object r6 Is_live
  unfolding act_at
  t6 = by_move r5 0 (mv 5 r6) (At Is_unmade None) (At Is_live None) (u5 A_thread object) refl (succeeds Is_unmade None refl (both _ _ is refl))

  t7 : To A_thread object r7 Is_live
  unfolding act_at
  t7 = by_move r6 0 (mv 6 r7) (At Is_live None) (At Is_live None) t6 refl (stays A_thread object _ 6 s6 Is_live)

  t8 : To A_thread object r8 Is_live
  unfolding act_at
  t8 = by_move r7 0 (mv 7 r8) (At Is_live None) (At Is_live None) t7 refl (stays A_thread object _ 7 s7 Is_live)

  t9 : To A_thread object r9 Is_live
  unfolding act_at
  t9 = by_move r8 0 (mv 8 r9) (At Is_live None) (At Is_live None) t8 refl (stays A_thread object _ 8 s8 Is_live)

-- ---- at the points of main

pub along_4 : (sort : Sort) (object : Location) (state : ObjectState) → is_possible state (may_have_begun sort object 4) ≡ true → MayBeAlong locked_writes locked_facts.names sort object (at [] 4) state
along_4 sort object Is_unmade e = there sort object (entered locked_writes 1) 4 r5 Is_unmade refl refl (u4 sort object)
along_4 A_mutex object Is_live e = false_true (and_true (is_object m object) false e).1
along_4 A_thread object Is_live e = false_true (and_true (is_object t object) false e).1
along_4 A_condition object Is_live e = false_true e
along_4 A_key object Is_live e = false_true e
along_4 sort object Is_joined e = false_true e
along_4 sort object Is_detached e = false_true e
along_4 sort object Is_dead e = false_true e

pub along_5 : (sort : Sort) (object : Location) (state : ObjectState) → is_possible state (may_have_begun sort object 5) ≡ true → MayBeAlong locked_writes locked_facts.names sort object (at [] 5) state
along_5 sort object Is_unmade e = there sort object r5 5 r6 Is_unmade refl refl (u5 sort object)
along_5 A_mutex object Is_live e = there A_mutex object r5 5 r6 Is_live refl refl (m5 object (and_true (is_object m object) true e).0)
along_5 A_thread object Is_live e = false_true (and_true (is_object t object) false e).1
along_5 A_condition object Is_live e = false_true e
along_5 A_key object Is_live e = false_true e
along_5 sort object Is_joined e = false_true e
along_5 sort object Is_detached e = false_true e
along_5 sort object Is_dead e = false_true e

pub along_6 : (sort : Sort) (object : Location) (state : ObjectState) → is_possible state (may_have_begun sort object 6) ≡ true → MayBeAlong locked_writes locked_facts.names sort object (at [] 6) state
along_6 sort object Is_unmade e = there sort object r6 6 r7 Is_unmade refl refl (u6 sort object)
along_6 A_mutex object Is_live e = there A_mutex object r6 6 r7 Is_live refl refl (m6 object (and_true (is_object m object) true e).0)
along_6 A_thread object Is_live e = there A_thread object r6 6 r7 Is_live refl refl (t6 object (and_true (is_object t object) true e).0)
along_6 A_condition object Is_live e = false_true e
along_6 A_key object Is_live e = false_true e
along_6 sort object Is_joined e = false_true e
along_6 sort object Is_detached e = false_true e
along_6 sort object Is_dead e = false_true e

pub along_7 : (sort : Sort) (object : Location) (state : ObjectState) → is_possible state (may_have_begun sort object 7) ≡ true → MayBeAlong locked_writes locked_facts.names sort object (at [] 7) state
along_7 sort object Is_unmade e = there sort object r7 7 r8 Is_unmade refl refl (u7 sort object)
along_7 A_mutex object Is_live e = there A_mutex object r7 7 r8 Is_live refl refl (m7 object (and_true (is_object m object) true e).0)
along_7 A_thread object Is_live e = there A_thread object r7 7 r8 Is_live refl refl (t7 object (and_true (is_object t object) true e).0)
along_7 A_condition object Is_live e = false_true e
along_7 A_key object Is_live e = false_true e
along_7 sort object Is_joined e = false_true e
along_7 sort object Is_detached e = false_true e
along_7 sort object Is_dead e = false_true e

pub along_8 : (sort : Sort) (object : Location) (state : ObjectState) → is_possible state (may_have_begun sort object 8) ≡ true → MayBeAlong locked_writes locked_facts.names sort object (at [] 8) state
along_8 sort object Is_unmade e = there sort object r8 8 r9 Is_unmade refl refl (u8 sort object)
along_8 A_mutex object Is_live e = there A_mutex object r8 8 r9 Is_live refl refl (m8 object (and_true (is_object m object) true e).0)
along_8 A_thread object Is_live e = there A_thread object r8 8 r9 Is_live refl refl (t8 object (and_true (is_object t object) true e).0)
along_8 A_condition object Is_live e = false_true e
along_8 A_key object Is_live e = false_true e
along_8 sort object Is_joined e = false_true e
along_8 sort object Is_detached e = false_true e
along_8 sort object Is_dead e = false_true e

pub along_9 : (sort : Sort) (object : Location) (state : ObjectState) → is_possible state (may_have_begun sort object 9) ≡ true → MayBeAlong locked_writes locked_facts.names sort object (at [] 9) state
along_9 sort object Is_unmade e = there sort object r9 9 [] Is_unmade refl refl (u9 sort object)
along_9 A_mutex object Is_live e = there A_mutex object r9 9 [] Is_live refl refl (m9 object (and_true (is_object m object) true e).0)
along_9 A_thread object Is_live e = there A_thread object r9 9 [] Is_live refl refl (t9 object (and_true (is_object t object) true e).0)
along_9 A_condition object Is_live e = false_true e
along_9 A_key object Is_live e = false_true e
along_9 sort object Is_joined e = false_true e
along_9 sort object Is_detached e = false_true e
along_9 sort object Is_dead e = false_true e

pub state_of : (sort : Sort) (state : ObjectState) (b : Bool) → is_possible state b ≡ true → IsStateOf sort state
state_of A_mutex Is_unmade b e = tt
state_of A_condition Is_unmade b e = tt
state_of A_key Is_unmade b e = tt
state_of A_thread Is_unmade b e = tt
state_of A_mutex Is_live b e = tt
state_of A_condition Is_live b e = tt
state_of A_key Is_live b e = tt
state_of A_thread Is_live b e = tt
state_of sort Is_joined b e = false_true e
state_of sort Is_detached b e = false_true e
state_of sort Is_dead b e = false_true e
