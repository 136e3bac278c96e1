-- Directive 5.1 has no finding in the locked text: its two writes hold the mutex.
use Rattle.std.proofs.Common.{◌≡◌, refl, sym, subst, ap, ◌∙◌, Bool, true, false, not, ◌&&◌, ◌||◌, ℕ, zero, suc, min, List, [], ◌∷◌, Option, Some, arith}
use Rattle.std.proofs.lemmas.Grind.{common_steps}
use Rattle.std.specs.Prelude.{slice_get}
use Rattle.misra_base.specs.declared.guideline.Guideline.{Guideline}
use Rattle.misra_base.specs.declared.guideline.Guideline.TheVariants.{D5_1, R22_14, R22_20}
use Rattle.misra_base.specs.declared.kind.Kind.{Kind}
use Rattle.misra_base.specs.declared.place.Place.{Place}
use Rattle.c_program.specs.declared.action.Local.{Local as LocalOf}
use Rattle.c_program.specs.declared.program.Storage.{Storage}
use Rattle.c_program.specs.declared.program.Storage.TheVariants as storage
use Rattle.c_program.specs.declared.program.Object.{Object as ObjectOf}
use Rattle.c_program.specs.declared.statement.Statement.{Do}
use Rattle.c_program.specs.Syntax.{act_at}
use Rattle.c_program.specs.Types.{holds_library}
use Rattle.c_program.specs.Values.{Static, Location}
use Rattle.c_program.specs.WellFormed.{IsWellFormed, is_touch}
use Rattle.c_program.specs.Control.{Control, Run, Move, Spot, Point, move_at, goes_on, entered}
use Rattle.c_program.specs.Faults.{Sort, A_mutex, A_condition, A_key, A_thread}
use Rattle.c_program.specs.Paths.{IsPoint, stands_at}
use Rattle.path_simulation.specs.Tracks.{Comes, at_entry, by_move}
use Rattle.pointer_targets.specs.Manners.{Manner}
use Rattle.pointer_targets.proofs.Opening.{each_member}
use Rattle.static_facts.specs.Depths.{Doing, Does_lock, Does_try, doing_of, Mark, marked, DepthStep, passes, moves, leaves, succeeds, fails, may_succeed, may_fail, elsewhere, DepthMoves, depths, IsSurelyHeld}
use Rattle.static_facts.proofs.Reached.{reached_point}
use Rattle.guideline_findings.specs.Races.{MayRace, ShareMutex}
use Rattle.guideline_findings.specs.Text.{is_weak, HoldsLibrary}
use Rattle.guideline_findings.specs.Findings
use Rattle.guideline_findings.specs.Findings.{Found, Subject, rule_of_sort, of_text, own, dependent, IsClean}
use Rattle.guideline_findings.specs.Silence.{HasCleanText}
use Rattle.litmus.specs.Pieces.{m}
use Rattle.litmus.proofs.Plain.{plain}
use Rattle.silence_samples.specs.Samples.{static}
use Rattle.silence_samples.specs.Locked.{locked_writes, locked_facts, is_named}
use Rattle.silence_samples.proofs.LockedPoints.{at, worker, false_true, none_some, same_some, Led, of_main, of_worker, led, point_cases}
use Rattle.silence_samples.proofs.LockedStates.{Standing, s4, goes}

-- ---- a lock makes the depth at least 1

never : (depth : ℕ) → min (suc depth) 8 ≡ 0 → ⊥
never depth e = grind (arith, common_steps)

record IsLock (n : ℕ) : Type 0 where
  locks : doing_of (act_at locked_writes n) ≡ Some Does_lock
  exact : (is_named (act_at locked_writes n) (static m) && true) ≡ true

no_try : (d : Option Doing) (into : Option LocalOf) → d ≡ Some Does_lock → d ≡ Some (Does_try into) → ⊥
no_try d into e f = let g : Some Does_lock ≡ Some (Does_try into) = sym e ∙ f in cc

locked : (point : Point) (pair : ℕ) (before behind : Mark) → IsLock point.spot.action → DepthStep locked_writes locked_facts.names (static m) point pair before behind → behind.depth ≡ 0 → ⊥
locked point pair _ _ is (passes depth outcome d f) e = none_some Does_lock (sym d ∙ is.locks)
locked point pair _ _ is (moves depth behind outcome doing d n named moved) e =
    never depth (sym (subst (λ x. DepthMoves x depth behind) (sym (same_some Does_lock doing (sym is.locks ∙ d))) moved) ∙ e)
locked point pair _ _ is (leaves depth outcome doing d n x) e = x is.exact
locked point pair _ _ is (succeeds depth outcome into d x) e = no_try _ into is.locks d
locked point pair _ _ is (fails depth outcome into d x) e = no_try _ into is.locks d
locked point pair _ _ is (may_succeed depth outcome into d x named) e = no_try _ into is.locks d
locked point pair _ _ is (may_fail depth outcome into d x named) e = no_try _ into is.locks d
locked point pair _ _ is (elsewhere depth outcome into d x) e = no_try _ into is.locks d

lock_of_main : IsLock 6
unfolding act_at
lock_of_main = record { locks = refl; exact = refl }

lock_of_worker : IsLock 0
unfolding act_at
lock_of_worker = record { locks = refl; exact = refl }

pred_is : (a b : ℕ) → suc a ≡ suc b → b ≡ a
pred_is a b e = cc

-- ---- main holds it where it writes

record IsHeld (control : Control) (mark : Mark) : Type 0 where
  number : ℕ
  stands : Standing control number
  held : number ≡ 7 → mark.depth ≡ 0 → ⊥

entry_is_not : ◌≡◌ {A = ℕ} 4 7 → ⊥
entry_is_not e = omega arith

comes_held : (control : Control) (mark : Mark) → Comes locked_writes (depths locked_writes locked_facts.names (static m)) [] 1 control mark → IsHeld control mark
comes_held _ _ (at_entry mark s) = record { number = 4; stands = s4; held = λ e d. entry_is_not e }
comes_held _ _ (by_move control pair move before behind c e s) = let h = comes_held control before c in let g = goes control h.number pair move h.stands e in record {
  number = suc move.action;
  stands = subst (λ n. Standing (goes_on locked_writes move) (suc n)) (sym g.action) g.on;
  held = λ q d. locked (stands_at [] control move) pair before behind (subst IsLock (pred_is move.action 6 q) lock_of_main) s d;
}

is_main : (string thread : List Spot) (f : ℕ) → Led string thread f → string ≡ [] → f ≡ 1
is_main _ _ _ of_main e = refl
is_main _ _ _ of_worker e = absurd (cc)

is_worker : (string thread : List Spot) (f : ℕ) → Led string thread f → string ≡ worker → f ≡ 0
is_worker _ _ _ of_main e = absurd (cc)
is_worker _ _ _ of_worker e = refl

held_in_main : IsSurelyHeld locked_writes locked_facts.names (static m) [] (at [] 7)
held_in_main b = let p = b.1 in
    let c = subst (λ f. Comes locked_writes (depths locked_writes locked_facts.names (static m)) [] f p.control (marked 0 b.0)) (is_main [] [] p.function (led [] [] p.function p.leads) refl) p.comes in
    let h = comes_held p.control (marked 0 b.0) c in let g = goes p.control h.number p.offers.0 p.move h.stands p.offers.1 in
    h.held (sym g.action ∙ ap (λ (q : Point). q.spot.action) p.here) refl

-- ---- and so does the thread

abbrev mv : ℕ → Control → Move
mv number left = record { action = number; left = left }

abbrev q3 : Control
q3 = Run (Do 3) ∷ []

abbrev q2 : Control
q2 = Run (Do 2) ∷ q3

abbrev q1 : Control
q1 = Run (Do 1) ∷ q2

data Working : Control → ℕ → Type 0 where
  w0 : Working (entered locked_writes 0) 0
  w1 : Working q1 1
  w2 : Working q2 2
  w3 : Working q3 3
  w4 : Working [] 4

record Works (k : ℕ) (move : Move) : Type 0 where
  action : move.action ≡ k
  on : Working (goes_on locked_writes move) (suc k)

first : (given : Move) (pair : ℕ) (move : Move) → slice_get (given ∷ []) pair ≡ Some move → given ≡ move
first given zero move e = same_some given move e
first given (suc k) move e = none_some move e

works : (control : Control) (k pair : ℕ) (move : Move) → Working control k → move_at control pair ≡ Some move → Works k move
unfolding act_at
works _ _ pair move w0 e = subst (Works 0) (first (mv 0 q1) pair move e) (record { action = refl; on = w1 })
works _ _ pair move w1 e = subst (Works 1) (first (mv 1 q2) pair move e) (record { action = refl; on = w2 })
works _ _ pair move w2 e = subst (Works 2) (first (mv 2 q3) pair move e) (record { action = refl; on = w3 })
works _ _ pair move w3 e = subst (Works 3) (first (mv 3 []) pair move e) (record { action = refl; on = w4 })
works _ _ pair move w4 e = none_some move e

record IsHeldThere (control : Control) (mark : Mark) : Type 0 where
  number : ℕ
  stands : Working control number
  held : number ≡ 1 → mark.depth ≡ 0 → ⊥

start_is_not : ◌≡◌ {A = ℕ} 0 1 → ⊥
start_is_not e = omega arith

comes_there : (control : Control) (mark : Mark) → Comes locked_writes (depths locked_writes locked_facts.names (static m)) worker 0 control mark → IsHeldThere control mark
comes_there _ _ (at_entry mark s) = record { number = 0; stands = w0; held = λ e d. start_is_not e }
comes_there _ _ (by_move control pair move before behind c e s) = let h = comes_there control before c in let g = works control h.number pair move h.stands e in record {
  number = suc move.action;
  stands = subst (λ n. Working (goes_on locked_writes move) (suc n)) (sym g.action) g.on;
  held = λ q d. locked (stands_at worker control move) pair before behind (subst IsLock (pred_is move.action 0 q) lock_of_worker) s d;
}

held_in_worker : IsSurelyHeld locked_writes locked_facts.names (static m) worker (at worker 1)
held_in_worker b = let p = b.1 in
    let c = subst (λ f. Comes locked_writes (depths locked_writes locked_facts.names (static m)) worker f p.control (marked 0 b.0)) (is_worker worker worker p.function (led worker worker p.function p.leads) refl) p.comes in
    let h = comes_there p.control (marked 0 b.0) c in let g = works p.control h.number p.offers.0 p.move h.stands p.offers.1 in
    h.held (sym g.action ∙ ap (λ (q : Point). q.spot.action) p.here) refl

-- ---- no race

data IsWrite : List Spot → Point → Type 0 where
  in_main : IsWrite [] (at [] 7)
  in_worker : IsWrite worker (at worker 1)

abbrev Written : List Spot → Point → Type 0
Written thread point = (region : Location) (manner : Manner) → locked_facts.accesses point region manner ≡ true → IsWrite thread point

written : (thread : List Spot) (point : Point) → IsPoint locked_writes thread point → Written thread point
unfolding act_at
written = point_cases (λ thread point. Written thread point)
    (λ r n e. false_true e) (λ r n e. false_true e) (λ r n e. false_true e) (λ r n e. in_main) (λ r n e. false_true e) (λ r n e. false_true e)
    (λ r n e. false_true e) (λ r n e. in_worker) (λ r n e. false_true e) (λ r n e. false_true e)

shared : (s : List Spot) (p : Point) (r : List Spot) (q : Point) → IsSurelyHeld locked_writes locked_facts.names (static m) s p → IsSurelyHeld locked_writes locked_facts.names (static m) r q
    → ShareMutex locked_writes locked_facts s p r q
shared s p r q a b = record { cell = record { root = Static m; path = [] }; mutex = static m; is_mutex = record { here = refl; of_sort = refl }; at_first = a; at_second = b }

apart : (s : List Spot) (p : Point) (r : List Spot) (q : Point) → IsWrite s p → IsWrite r q → (locked_facts.ordered s p r q ≡ true → ⊥) → (ShareMutex locked_writes locked_facts s p r q → ⊥) → ⊥
apart _ _ _ _ in_main in_main unordered unlocked = unordered refl
apart _ _ _ _ in_main in_worker unordered unlocked = unlocked (shared [] (at [] 7) worker (at worker 1) held_in_main held_in_worker)
apart _ _ _ _ in_worker in_main unordered unlocked = unlocked (shared worker (at worker 1) [] (at [] 7) held_in_worker held_in_main)
apart _ _ _ _ in_worker in_worker unordered unlocked = unordered refl

pub well_formed : IsWellFormed locked_writes
unfolding act_at
well_formed = plain locked_writes refl

no_race : (s : List Spot) (p : Point) (region : Location) (r : List Spot) (q : Point) → MayRace locked_writes locked_facts s p region r q → ⊥
no_race s p region r q a = let well = well_formed in
    let is = reached_point locked_writes well s a.reachable.function p a.reachable.leads a.reachable.reached in
    let other = reached_point locked_writes well r a.other_reachable.function q a.other_reachable.leads a.other_reachable.reached in
    apart s p r q (written s p is region a.manner a.accesses) (written r q other region a.other_manner a.other_accesses) a.unordered a.unlocked

-- ---- nothing is found in the text

by_number : (P : ℕ → Type 0) → P 0 → P 1 → P 2 → P 3 → P 4 → P 5 → P 6 → P 7 → P 8 → P 9 → ((n : ℕ) → P (suc (suc (suc (suc (suc (suc (suc (suc (suc (suc n))))))))))) → (n : ℕ) → P n
by_number P p0 p1 p2 p3 p4 p5 p6 p7 p8 p9 more zero = p0
by_number P p0 p1 p2 p3 p4 p5 p6 p7 p8 p9 more (suc zero) = p1
by_number P p0 p1 p2 p3 p4 p5 p6 p7 p8 p9 more (suc (suc zero)) = p2
by_number P p0 p1 p2 p3 p4 p5 p6 p7 p8 p9 more (suc (suc (suc zero))) = p3
by_number P p0 p1 p2 p3 p4 p5 p6 p7 p8 p9 more (suc (suc (suc (suc zero)))) = p4
by_number P p0 p1 p2 p3 p4 p5 p6 p7 p8 p9 more (suc (suc (suc (suc (suc zero))))) = p5
by_number P p0 p1 p2 p3 p4 p5 p6 p7 p8 p9 more (suc (suc (suc (suc (suc (suc zero)))))) = p6
by_number P p0 p1 p2 p3 p4 p5 p6 p7 p8 p9 more (suc (suc (suc (suc (suc (suc (suc zero))))))) = p7
by_number P p0 p1 p2 p3 p4 p5 p6 p7 p8 p9 more (suc (suc (suc (suc (suc (suc (suc (suc zero)))))))) = p8
by_number P p0 p1 p2 p3 p4 p5 p6 p7 p8 p9 more (suc (suc (suc (suc (suc (suc (suc (suc (suc zero))))))))) = p9
by_number P p0 p1 p2 p3 p4 p5 p6 p7 p8 p9 more (suc (suc (suc (suc (suc (suc (suc (suc (suc (suc n)))))))))) = more n

weak : (n : ℕ) → is_weak (act_at locked_writes n) ≡ true → ⊥
unfolding act_at
weak = by_number (λ n. is_weak (act_at locked_writes n) ≡ true → ⊥) false_true false_true false_true false_true false_true false_true false_true false_true false_true false_true (λ n. false_true)

touched : (n : ℕ) → is_touch (act_at locked_writes n) ≡ true → ⊥
unfolding act_at
touched = by_number (λ n. is_touch (act_at locked_writes n) ≡ true → ⊥) false_true false_true false_true false_true false_true false_true false_true false_true false_true false_true (λ n. false_true)

abbrev is_static : Storage → Bool
is_static storage.Static = true
is_static _ = false

abbrev is_fine : ObjectOf → Bool
is_fine object = is_static object.storage || not (holds_library locked_writes object.c_type)

not_fine : (s : Storage) (b : Bool) → (is_static s || not b) ≡ true → is_static s ≡ false → b ≡ true → ⊥
not_fine s b e f g = let h : (false || not true) ≡ true = subst (λ x. (x || not true) ≡ true) f (subst (λ x. (is_static s || not x) ≡ true) g e) in false_true h

none_held : (kind : Storage) (object : ObjectOf) → is_static kind ≡ false → HoldsLibrary locked_writes kind object → ⊥
none_held kind object k h = not_fine object.storage (holds_library locked_writes object.c_type) (each_member locked_writes.objects h.number object is_fine refl h.has) (ap is_static h.stored ∙ k) h.holds

no_text_rule : (sort : Sort) (rule : Guideline) → rule_of_sort sort ≡ Some rule → of_text rule ≡ true → ⊥
no_text_rule A_mutex rule e j = let f : of_text R22_14 ≡ true = subst (λ r. of_text r ≡ true) (sym (same_some R22_14 rule e)) j in false_true f
no_text_rule A_condition rule e j = let f : of_text R22_14 ≡ true = subst (λ r. of_text r ≡ true) (sym (same_some R22_14 rule e)) j in false_true f
no_text_rule A_key rule e j = let f : of_text R22_20 ≡ true = subst (λ r. of_text r ≡ true) (sym (same_some R22_20 rule e)) j in false_true f
no_text_rule A_thread rule e j = none_some rule e

text_not_found : (rule : Guideline) (place : Place) (subject : Subject) (kind : Kind) (other : Option Place) → Found locked_writes locked_facts rule place subject kind other → of_text rule ≡ true → ⊥
text_not_found _ _ _ _ _ (Findings.race s t p q region r) j = false_true j
text_not_found _ _ _ _ _ (Findings.cycle t p object f) j = false_true j
text_not_found _ _ _ _ _ (Findings.creation_outside t p f) j = false_true j
text_not_found _ _ _ _ _ (Findings.creation_repeated p f) j = false_true j
text_not_found _ _ _ _ _ (Findings.later_break place f) j = false_true j
text_not_found _ _ _ _ _ (Findings.early_return place f) j = false_true j
text_not_found _ _ _ _ _ (Findings.unused call f) j = false_true j
text_not_found _ _ _ _ _ (Findings.parameter p f) j = false_true j
text_not_found _ _ _ _ _ (Findings.weak_order action f) j = weak action f
text_not_found _ _ _ _ _ (Findings.kind t p l f) j = false_true j
text_not_found _ _ _ _ _ (Findings.joined_again t p object f) j = false_true j
text_not_found _ _ _ _ _ (Findings.joined_outside t p object f) j = false_true j
text_not_found _ _ _ _ _ (Findings.touch action f) j = touched action f
text_not_found _ _ _ _ _ (Findings.automatic object d f) j = none_held storage.Automatic object refl f
text_not_found _ _ _ _ _ (Findings.thread_storage object f) j = none_held storage.Thread object refl f
text_not_found _ _ _ _ _ (Findings.before rule sort e t p l f) j = no_text_rule sort rule e j
text_not_found _ _ _ _ _ (Findings.second rule sort e t p l f) j = no_text_rule sort rule e j
text_not_found _ _ _ _ _ (Findings.made_outside rule sort e t p l f) j = no_text_rule sort rule e j
text_not_found _ _ _ _ _ (Findings.dead sort h t p l f) j = false_true j
text_not_found _ _ _ _ _ (Findings.busy sort h p l f) j = false_true j
text_not_found _ _ _ _ _ (Findings.destroyed_outside sort h t p l f) j = false_true j
text_not_found _ _ _ _ _ (Findings.kept_at_end t p l r f) j = false_true j
text_not_found _ _ _ _ _ (Findings.destroyed t p l r f) j = false_true j
text_not_found _ _ _ _ _ (Findings.given_up t p l r f) j = false_true j
text_not_found _ _ _ _ _ (Findings.locked_again t p l r f) j = false_true j
text_not_found _ _ _ _ _ (Findings.waited_with_second t p c f) j = false_true j

clean_text : HasCleanText locked_writes locked_facts
clean_text place f = text_not_found f.rule place f.subject f.kind f.other f.found f.judged

no_life_rule : (sort : Sort) → rule_of_sort sort ≡ Some D5_1 → ⊥
no_life_rule A_mutex e = absurd (cc)
no_life_rule A_condition e = absurd (cc)
no_life_rule A_key e = absurd (cc)
no_life_rule A_thread e = absurd (cc)

not_found : (place : Place) (subject : Subject) (kind : Kind) (other : Option Place) → Found locked_writes locked_facts D5_1 place subject kind other → ⊥
not_found _ _ _ _ (Findings.race s t p q region r) = no_race s p region t q r
not_found _ _ _ _ (Findings.before rule sort e t p location f) = no_life_rule sort e
not_found _ _ _ _ (Findings.second rule sort e t p location f) = no_life_rule sort e
not_found _ _ _ _ (Findings.made_outside rule sort e t p location f) = no_life_rule sort e

pub clean : IsClean locked_writes locked_facts D5_1
clean place subject kind other (own _ _ _ _ f) = not_found place subject kind other f
clean place subject kind other (dependent _ semantic f) = clean_text place f.found
