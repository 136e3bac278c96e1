-- The order of the locked text's points, and the states of its library objects at them.
use Rattle.std.proofs.Common.{◌≡◌, ◌⊎◌, inl, inr, refl, sym, subst, ap, ◌∙◌, Bool, true, false, not, ◌&&◌, ◌==◌, ◌<◌, ℕ, suc, nat_lt, List, [], ◌∷◌, Some, None, arith, eqb-true}
use Rattle.std.specs.Prelude.{if◌then◌else◌}
use Rattle.std.specs.List.{Contains}
use Rattle.c_program.specs.Syntax.{act_at, body_at}
use Rattle.c_program.specs.Values.{Static, Location}
use Rattle.c_program.specs.Control.{Control, Run, Round, Spot, Point, goes_on}
use Rattle.c_program.specs.Faults.{Sort, A_thread}
use Rattle.c_program.specs.Paths.{Stands, at_entry, by_move, by_opening, behind, Edge, Leads, one, more, parts_of, IsPoint, initial, spots_of}
use Rattle.c_program.proofs.Members.{In, from_contains, to_contains}
use Rattle.c_program.proofs.Cells.{and_true}
use Rattle.pointer_targets.specs.Names.{IsExact}
use Rattle.pointer_targets.specs.Tellings.{Tells}
use Rattle.static_facts.specs.Points.{is_creation, thread_of, IsCreationPoint}
use Rattle.static_facts.specs.ObjectStates.{ObjectState, Is_unmade, Is_live, Is_joined, Is_detached, Is_dead}
use Rattle.static_facts.specs.ThreadStates.{MayBe, along, made_outside}
use Rattle.static_facts.specs.Lives.{MayLive, in_initial as lives_in_initial, in_created}
use Rattle.static_facts.specs.Order.{IsPlain, IsSettled, Ordered, in_initial, first_initial, second_initial, in_one, apart, IsPlainThread}
use Rattle.litmus.specs.Pieces.{t}
use Rattle.silence_samples.specs.Samples.{static}
use Rattle.silence_samples.specs.Locked.{locked_writes, locked_facts, is_object, may_have_begun, is_possible, is_initial, is_before_thread, are_ordered, is_straight, plain_of}
use Rattle.silence_samples.proofs.LockedPoints.{spot, at, worker, true_false, false_true, none_some, Led, of_main, of_worker, led, point_cases}
use Rattle.silence_samples.proofs.LockedNames.{is_it}
use Rattle.silence_samples.proofs.LockedStates.{both, Standing, s4, t4, s5, s6, s7, s8, s9, s10, r4, goes, along_possible, along_4, along_5, along_6, along_7, along_8, along_9, state_of}

-- ---- threads and creations

pub of_two : (thread : List Spot) (point : Point) → IsPoint locked_writes thread point → (thread ≡ []) ⊎ (thread ≡ worker)
of_two = point_cases (λ thread point. (thread ≡ []) ⊎ (thread ≡ worker)) (inl refl) (inl refl) (inl refl) (inl refl) (inl refl) (inl refl) (inr refl) (inr refl) (inr refl) (inr refl)

abbrev IsTheCreation : List Spot → Point → Type 0
IsTheCreation thread point = is_creation (act_at locked_writes point.spot.action) ≡ true → (thread ≡ []) × (point ≡ at [] 5)

the_creation : (thread : List Spot) (point : Point) → IsPoint locked_writes thread point → IsTheCreation thread point
unfolding act_at
the_creation = point_cases (λ thread point. IsTheCreation thread point) false_true (λ e. (refl, refl)) false_true false_true false_true false_true false_true false_true false_true false_true

only_creation : (thread : List Spot) (point : Point) → IsCreationPoint locked_writes thread point → (thread ≡ []) × (point ≡ at [] 5)
only_creation thread point c = the_creation thread point c.is_point c.creates

pub creation_is_point : IsPoint locked_writes [] (at [] 5)
creation_is_point = record { function = 1; leads = initial; has = to_contains (spot 5) (spots_of [] (body_at locked_writes 1)) (inr (inl refl)) }

-- ---- states of thread objects

may_be : (object : Location) (thread : List Spot) (point : Point) (state : ObjectState) → MayBe locked_writes locked_facts.names object thread point state
    → (is_initial thread && is_possible state (may_have_begun A_thread object point.spot.action)) ≡ true
may_be object _ _ _ (along point state s b) = along_possible A_thread object point state b
may_be object _ _ _ (made_outside thread point state s b) = absurd (b.outside (only_creation b.thread b.point b.creation).0)

abbrev MayBeThere : List Spot → Point → Type 0
MayBeThere thread point = (object : Location) (state : ObjectState) → (is_initial thread && is_possible state (may_have_begun A_thread object point.spot.action)) ≡ true
    → MayBe locked_writes locked_facts.names object thread point state

pub may_be_there : (thread : List Spot) (point : Point) → IsPoint locked_writes thread point → MayBeThere thread point
may_be_there = point_cases (λ thread point. MayBeThere thread point)
    (λ object state e. along (at [] 4) state (state_of A_thread state _ e) (along_4 A_thread object state e))
    (λ object state e. along (at [] 5) state (state_of A_thread state _ e) (along_5 A_thread object state e))
    (λ object state e. along (at [] 6) state (state_of A_thread state _ e) (along_6 A_thread object state e))
    (λ object state e. along (at [] 7) state (state_of A_thread state _ e) (along_7 A_thread object state e))
    (λ object state e. along (at [] 8) state (state_of A_thread state _ e) (along_8 A_thread object state e))
    (λ object state e. along (at [] 9) state (state_of A_thread state _ e) (along_9 A_thread object state e))
    (λ object state e. false_true e) (λ object state e. false_true e) (λ object state e. false_true e) (λ object state e. false_true e)

pub thread_told : (thread : List Spot) (point : Point) (object : Location) (state : ObjectState) → IsPoint locked_writes thread point
    → Tells (locked_facts.thread_may_be thread point object state) (MayBe locked_writes locked_facts.names object thread point state)
thread_told thread point object state is = record { all = may_be object thread point state; only = λ e. may_be_there thread point is object state e }

-- ---- lives

module _ (sort : Sort) (object : Location) where
  in_main : (thread : List Spot) (point : Point) (state : ObjectState) → MayLive locked_writes locked_facts.names sort object thread point state → thread ≡ []
      → is_possible state (may_have_begun sort object point.spot.action) ≡ true
  in_main _ _ _ (lives_in_initial point state is b) e = along_possible sort object point state b
  in_main _ _ _ (in_created parent creation point state is b) e = absurd (cc)

  same_spot : (s r : Spot) (l k : List Spot) → s ∷ l ≡ r ∷ k → (s ≡ r) × (l ≡ k)
  same_spot s r l k e = (head e, tail e)
    where
      head : s ∷ l ≡ r ∷ k → s ≡ r
      head e = cc

      tail : s ∷ l ≡ r ∷ k → l ≡ k
      tail e = cc

  parent_is : (string thread : List Spot) (f : ℕ) → Led string thread f → string ≡ [] → thread ≡ []
  parent_is _ _ _ of_main e = refl
  parent_is _ _ _ of_worker e = absurd (cc)

  in_worker : (thread : List Spot) (point : Point) (state : ObjectState) → MayLive locked_writes locked_facts.names sort object thread point state → thread ≡ worker
      → is_possible state (may_have_begun sort object 5) ≡ true
  in_worker _ _ _ (lives_in_initial point state is b) e = absurd (cc)
  in_worker _ _ _ (in_created parent creation point state is b) e = let s = same_spot creation.spot (spot 5) creation.string [] e in
      subst (λ n. is_possible state (may_have_begun sort object n) ≡ true) (ap (λ (r : Spot). r.action) s.0)
      (in_main parent creation state b (parent_is creation.string parent is.function (led creation.string parent is.function is.leads) s.1))

  abbrev Lives : List Spot → Point → Type 0
  Lives thread point = (state : ObjectState) → Tells (is_possible state (may_have_begun sort object (if is_initial thread then point.spot.action else 5))) (MayLive locked_writes locked_facts.names sort object thread point state)

  main_lives : (n : ℕ) (state : ObjectState) → (is_possible state (may_have_begun sort object n) ≡ true → MayLive locked_writes locked_facts.names sort object [] (at [] n) state)
      → Tells (is_possible state (may_have_begun sort object n)) (MayLive locked_writes locked_facts.names sort object [] (at [] n) state)
  main_lives n state only = record { all = λ b. in_main [] (at [] n) state b refl; only = only }

  worker_lives : (n : ℕ) (state : ObjectState) → Tells (is_possible state (may_have_begun sort object 5)) (MayLive locked_writes locked_facts.names sort object worker (at worker n) state)
  worker_lives n state = record {
    all = λ b. in_worker worker (at worker n) state b refl;
    only = λ e. in_created [] (at [] 5) (at worker n) state creation_is_point (lives_in_initial (at [] 5) state (state_of sort state _ e) (along_5 sort object state e));
  }

  pub lives : (thread : List Spot) (point : Point) → IsPoint locked_writes thread point → (state : ObjectState) → Tells (locked_facts.life_may_be thread point sort object state) (MayLive locked_writes locked_facts.names sort object thread point state)
  lives = point_cases (λ thread point. Lives thread point)
      (λ state. main_lives 4 state (λ e. lives_in_initial (at [] 4) state (state_of sort state _ e) (along_4 sort object state e)))
      (λ state. main_lives 5 state (λ e. lives_in_initial (at [] 5) state (state_of sort state _ e) (along_5 sort object state e)))
      (λ state. main_lives 6 state (λ e. lives_in_initial (at [] 6) state (state_of sort state _ e) (along_6 sort object state e)))
      (λ state. main_lives 7 state (λ e. lives_in_initial (at [] 7) state (state_of sort state _ e) (along_7 sort object state e)))
      (λ state. main_lives 8 state (λ e. lives_in_initial (at [] 8) state (state_of sort state _ e) (along_8 sort object state e)))
      (λ state. main_lives 9 state (λ e. lives_in_initial (at [] 9) state (state_of sort state _ e) (along_9 sort object state e)))
      (λ state. worker_lives 0 state) (λ state. worker_lives 1 state) (λ state. worker_lives 2 state) (λ state. worker_lives 3 state)

-- ---- the creation is passed once

record IsStanding (control : Control) : Type 0 where
  number : ℕ
  stands : Standing control number

abbrev head_parts : Control → List Control
head_parts (Run s ∷ rest) = parts_of s rest
head_parts _ = []

abbrev tail_of : Control → Control
tail_of (piece ∷ rest) = rest
tail_of [] = []

none_in : {A : Type 0} {C : Type 0} (x : A) → Contains [] x → C
none_in x has = absurd (from_contains x [] has)

opened : (control : Control) (k : ℕ) → Standing control k → (next : Control) → Contains (head_parts control) next → IsStanding next
opened _ _ s4 next has = go (from_contains next (r4 ∷ []) has)
  where
    go : In next (r4 ∷ []) → IsStanding next
    go (inl q) = subst IsStanding q (record { number = 4; stands = t4 })
    go (inr q) = absurd q
opened _ _ t4 next has = none_in next has
opened _ _ s5 next has = none_in next has
opened _ _ s6 next has = none_in next has
opened _ _ s7 next has = none_in next has
opened _ _ s8 next has = none_in next has
opened _ _ s9 next has = none_in next has
opened _ _ s10 next has = none_in next has

tailed : (control : Control) (k : ℕ) → Standing control k → IsStanding (tail_of control)
tailed _ _ s4 = record { number = 10; stands = s10 }
tailed _ _ t4 = record { number = 5; stands = s5 }
tailed _ _ s5 = record { number = 6; stands = s6 }
tailed _ _ s6 = record { number = 7; stands = s7 }
tailed _ _ s7 = record { number = 8; stands = s8 }
tailed _ _ s8 = record { number = 9; stands = s9 }
tailed _ _ s9 = record { number = 10; stands = s10 }
tailed _ _ s10 = record { number = 10; stands = s10 }

stands : (control : Control) → Stands locked_writes 1 control → IsStanding control
stands _ at_entry = record { number = 4; stands = s4 }
stands _ (by_move control move s offers) = let h = stands control s in record { number = suc h.number; stands = (goes control h.number offers.0 move h.stands offers.1).on }
stands _ (by_opening statement rest control s has) = let h = stands (Run statement ∷ rest) s in opened (Run statement ∷ rest) h.number h.stands control has
stands _ (behind statement rest s) = let h = stands (Run statement ∷ rest) s in tailed (Run statement ∷ rest) h.number h.stands

grows : (p q : Point) → Edge locked_writes [] 1 p q → suc p.spot.action ≡ q.spot.action
grows p q e = let h = stands e.control e.stands in let g = goes e.control h.number e.offers.0 e.move h.stands e.offers.1 in
    let k = goes (goes_on locked_writes e.move) (suc h.number) e.goes.0 e.onward g.on e.goes.1 in
    ap suc (sym (ap (λ (r : Point). r.spot.action) e.here) ∙ g.action) ∙ sym k.action ∙ ap (λ (r : Point). r.spot.action) e.there

next_less : (a b : ℕ) → suc a ≡ b → a < b
next_less a b e = omega arith

more_less : (a b c : ℕ) → a < b → suc b ≡ c → a < c
more_less a b c l e = omega arith

not_less : (a : ℕ) → a < a → ⊥
not_less a l = omega arith

upward : (p q : Point) → Leads locked_writes [] 1 p q → p.spot.action < q.spot.action
upward _ _ (one a b e) = next_less a.spot.action b.spot.action (grows a b e)
upward _ _ (more a b c l e) = more_less a.spot.action b.spot.action c.spot.action (upward a b l) (grows b c e)

-- ---- plain threads

named_thread : (creation : Point) (object : Location) → creation ≡ at [] 5 → IsExact locked_facts.names creation 0 object → is_object t object ≡ true
unfolding act_at
named_thread creation object e x = (and_true (is_object t object) true (subst (λ (p : Point). IsExact locked_facts.names p 0 object) e x)).0

plain_creation : IsPlain locked_writes locked_facts.names (at [] 5) (static t)
unfolding act_at
plain_creation = record {
  point = record { is_point = creation_is_point; creates = refl };
  once = λ cyclic. not_less 5 (upward (at [] 5) (at [] 5) cyclic);
  exact = refl;
  of_thread = record { cell = record { root = Static t; path = [] }; here = refl; of_sort = refl };
  only = λ thread other c named. (only_creation thread other c).1;
}

if_some : (b : Bool) (a o : Location) → (if b then Some a else None) ≡ Some o → (b ≡ true) × (a ≡ o)
if_some true a o e = (refl, same a o e)
  where
    same : (a o : Location) → Some a ≡ Some o → a ≡ o
    same a o e = cc
if_some false a o e = none_some o e

straight_is : (rounds : List Round) → is_straight rounds ≡ true → rounds ≡ []
straight_is [] e = refl
straight_is (round ∷ rounds) e = false_true e

spot_is : (s : Spot) → s.action ≡ 5 → s.rounds ≡ [] → s ≡ spot 5
spot_is s a b = ap (λ (n : ℕ). record { action = n; rounds = s.rounds }) a ∙ ap (λ (l : List Round). record { action = 5; rounds = l }) b

pub plain_told : (thread : List Spot) (object : Location) → plain_of thread ≡ Some object → IsPlainThread locked_writes locked_facts.names thread object
plain_told [] object e = none_some object e
plain_told (s ∷ u ∷ thread) object e = none_some object e
plain_told (s ∷ []) object e = let p = if_some ((s.action == 5) && is_straight s.rounds) (static t) object e in let b = and_true (s.action == 5) (is_straight s.rounds) p.0 in record {
  creation = at [] 5;
  is = ap (λ (r : Spot). r ∷ []) (spot_is s (eqb-true s.action 5 b.0) (straight_is s.rounds b.1));
  plain = subst (IsPlain locked_writes locked_facts.names (at [] 5)) p.1 plain_creation;
}

pub plain_is_told : (thread : List Spot) (object : Location) → IsPlainThread locked_writes locked_facts.names thread object → plain_of thread ≡ Some object
plain_is_told thread object p = let c = (only_creation [] p.creation p.plain.point).1 in
    subst (λ l. plain_of l ≡ Some object) (sym (p.is ∙ ap thread_of c)) (ap Some (is_it t object (named_thread p.creation object c p.plain.exact)))

-- ---- order

not_true : (b : Bool) → not b ≡ true → b ≡ false
not_true true e = false_true e
not_true false e = refl

-- up to the creation, the thread is unmade
settled : (point : Point) → is_before_thread point ≡ true → IsSettled locked_writes locked_facts.names (static t) point
settled point e Is_unmade b = inl refl
settled point e Is_live b = true_false (sym (may_be (static t) [] point Is_live b) ∙ ap (λ b. true && b) (not_true (nat_lt 5 point.spot.action) e))
settled point e Is_joined b = false_true (may_be (static t) [] point Is_joined b)
settled point e Is_detached b = false_true (may_be (static t) [] point Is_detached b)
settled point e Is_dead b = false_true (may_be (static t) [] point Is_dead b)

no_live : (Is_live ≡ Is_unmade) ⊎ (Is_live ≡ Is_joined) → ⊥
no_live (inl e) = absurd (cc)
no_live (inr e) = absurd (cc)

-- behind it, it may be live
unsettled : (object : Location) → is_object t object ≡ true → (point : Point) → IsPoint locked_writes [] point → IsSettled locked_writes locked_facts.names object point → is_before_thread point ≡ true
unsettled object o point is s = go (nat_lt 5 point.spot.action) refl
  where
    go : (b : Bool) → nat_lt 5 point.spot.action ≡ b → not (nat_lt 5 point.spot.action) ≡ true
    go false e = ap not e
    go true e = absurd (no_live (s Is_live (may_be_there [] point is object Is_live (both _ _ o e))))

ordered_all : (s r : List Spot) (p q : Point) → Ordered locked_writes locked_facts.names s p r q → IsPoint locked_writes s p → IsPoint locked_writes r q → are_ordered s p r q ≡ true
ordered_all _ _ _ _ (in_initial a b) first second = refl
ordered_all _ _ _ _ (first_initial creation object a b plain settled) first second =
    unsettled object (named_thread creation object (only_creation [] creation plain.point).1 plain.exact) a first settled
ordered_all _ _ _ _ (second_initial creation object a b plain settled) first second =
    unsettled object (named_thread creation object (only_creation [] creation plain.point).1 plain.exact) b second settled
ordered_all _ _ _ _ (in_one creation object a b plain) first second = refl
ordered_all _ _ _ _ (apart first_creation other_creation u v a b plain also settled too) first second = refl

ordered_only : (s r : List Spot) (p q : Point) → (s ≡ []) ⊎ (s ≡ worker) → (r ≡ []) ⊎ (r ≡ worker) → are_ordered s p r q ≡ true → Ordered locked_writes locked_facts.names s p r q
ordered_only s r p q (inl e) (inl f) o = subst (λ x. Ordered locked_writes locked_facts.names x p r q) (sym e) (subst (λ y. Ordered locked_writes locked_facts.names [] p y q) (sym f) (in_initial p q))
ordered_only s r p q (inl e) (inr f) o = subst (λ x. Ordered locked_writes locked_facts.names x p r q) (sym e) (subst (λ y. Ordered locked_writes locked_facts.names [] p y q) (sym f)
    (first_initial (at [] 5) (static t) p q plain_creation (settled p (subst (λ y. are_ordered [] p y q ≡ true) f (subst (λ x. are_ordered x p r q ≡ true) e o)))))
ordered_only s r p q (inr e) (inl f) o = subst (λ x. Ordered locked_writes locked_facts.names x p r q) (sym e) (subst (λ y. Ordered locked_writes locked_facts.names worker p y q) (sym f)
    (second_initial (at [] 5) (static t) p q plain_creation (settled q (subst (λ y. are_ordered worker p y q ≡ true) f (subst (λ x. are_ordered x p r q ≡ true) e o)))))
ordered_only s r p q (inr e) (inr f) o = subst (λ x. Ordered locked_writes locked_facts.names x p r q) (sym e) (subst (λ y. Ordered locked_writes locked_facts.names worker p y q) (sym f)
    (in_one (at [] 5) (static t) p q plain_creation))

pub ordered_told : (s r : List Spot) (p q : Point) → IsPoint locked_writes s p → IsPoint locked_writes r q → Tells (locked_facts.ordered s p r q) (Ordered locked_writes locked_facts.names s p r q)
ordered_told s r p q first second = record {
  all = λ o. ordered_all s r p q o first second;
  only = λ e. ordered_only s r p q (of_two s p first) (of_two r q second) e;
}
