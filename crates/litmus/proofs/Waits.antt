-- Where no thread waits for one that waits itself, there is no waiting cycle.
use Rattle.std.proofs.Common.{◌≡◌, refl, sym, subst, ap, ◌∙◌, Bool, true, false, not, ◌&&◌, ◌||◌, cond, ◌==◌, ℕ, zero, suc, ◌<◌, ◌≤◌, nat_lt, List, [], ◌∷◌, Option, Some, None, arith, eqb-true}
use Rattle.std.proofs.lemmas.Grind.{common_steps}
use Rattle.std.specs.Prelude.{if◌then◌else◌}
use Rattle.c_program.specs.declared.program.Program.{Program}
use Rattle.c_program.specs.State.{State, Stand, Not_made, Running, Life, Live, Mutex, is_running}
use Rattle.c_program.specs.Requests.{Request, Locks, Joins}
use Rattle.c_program.specs.Step.{Choice}
use Rattle.c_program.specs.Runs.{IsGoodRun, state_after}
use Rattle.c_program.specs.Breaks.{IsWaiting, to_lock, to_retake, to_join, Chain, HasCycle, request_by, request_stand}
use Rattle.c_program.specs.Counters.{CountsWell}
use Rattle.c_program.proofs.Cells.{and_true}
use Rattle.c_program.proofs.Sound.{Sound, gt_differs}
use Rattle.c_program.proofs.Counters.{sound_run}

-- ---- whom a thread waits for

abbrev owner : Life Mutex → Option ℕ
owner (Live mutex) = if mutex.depth == 0 then None else Some mutex.owner
owner _ = None

abbrev running : State → Option ℕ → Option ℕ
running state None = None
running state (Some thread) = if is_running (state.thread thread).stand then Some thread else None

abbrev wanted : State → Option Request → Option ℕ
wanted state (Some (Locks m)) = owner (state.mutex m)
wanted state (Some (Joins object into)) = running state (state.holds object)
wanted state _ = None

abbrev pub asking : Program → State → ℕ → Option ℕ
asking program state thread = wanted state (request_by program state (record { thread = thread; pair = 0; values = [] }))

abbrev retaking_in : State → Stand → Option ℕ
retaking_in state (Running control frames (Some m)) = owner (state.mutex m)
retaking_in state _ = None

abbrev pub retaking : State → ℕ → Option ℕ
retaking state thread = retaking_in state (state.thread thread).stand

abbrev is_there : Option ℕ → Bool
is_there None = false
is_there (Some thread) = true

abbrev pub waits : Program → State → ℕ → Bool
waits program state thread = is_there (asking program state thread) || is_there (retaking state thread)

-- ---- a link is one of these

data Links (program : Program) (state : State) (thread other : ℕ) : Type 0 where
  asks : asking program state thread ≡ Some other → Links program state thread other
  takes : retaking state thread ≡ Some other → Links program state thread other

owned : (life : Life Mutex) (mutex : Mutex) (other : ℕ) → life ≡ Live mutex → 0 < mutex.depth → mutex.owner ≡ other → owner life ≡ Some other
owned life mutex other e l o = ap owner e ∙ ap (λ b. cond b None (Some mutex.owner)) (gt_differs 0 mutex.depth l) ∙ ap Some o

is_held : (state : State) (held : Option ℕ) (other : ℕ) → held ≡ Some other → is_running (state.thread other).stand ≡ true → running state held ≡ Some other
is_held state held other e r = ap (running state) e ∙ ap (λ b. cond b (Some other) None) r

linked : (program : Program) (state : State) (thread other : ℕ) → IsWaiting program state thread other → Links program state thread other
linked program state thread other (to_lock m mutex r e l o d) = asks (ap (wanted state) r ∙ owned (state.mutex m) mutex other e l o)
linked program state thread other (to_retake m mutex control frames s e l o d) = takes (ap (retaking_in state) s ∙ owned (state.mutex m) mutex other e l o)
linked program state thread other (to_join object into r h g) = asks (ap (wanted state) r ∙ is_held state (state.holds object) other h g)

or_second : (a b : Bool) → b ≡ true → (a || b) ≡ true
or_second true b e = refl
or_second false b e = e

or_first : (a b : Bool) → a ≡ true → (a || b) ≡ true
or_first true b e = refl
or_first false b e = absurd (cc)

link_waits : (program : Program) (state : State) (thread other : ℕ) → Links program state thread other → waits program state thread ≡ true
link_waits program state thread other (asks e) = or_first _ _ (ap is_there e)
link_waits program state thread other (takes e) = or_second (is_there (asking program state thread)) _ (ap is_there e)

-- ---- a state in which those that are waited for do not wait

abbrev rests : Program → State → Option ℕ → Bool
rests program state None = true
rests program state (Some other) = not (waits program state other)

abbrev pub all_rest : Program → State → ℕ → Bool
all_rest program state zero = true
all_rest program state (suc n) = (rests program state (asking program state n) && rests program state (retaking state n)) && all_rest program state n

below : (t k : ℕ) → t < suc k → (t == k) ≡ false → t < k
below t k l e = grind (arith, common_steps)

if_equal : {C : Type 0} (t k : ℕ) (b : Bool) → (t == k) ≡ b → (t ≡ k → C) → ((t == k) ≡ false → C) → C
if_equal t k true e f g = f (eqb-true t k e)
if_equal t k false e f g = g e

abbrev Rests : Program → State → ℕ → Type 0
Rests program state thread = (rests program state (asking program state thread) && rests program state (retaking state thread)) ≡ true

rest_at : (program : Program) (state : State) (bound thread : ℕ) → all_rest program state bound ≡ true → thread < bound → Rests program state thread
rest_at program state zero thread a l = absurd (omega arith)
rest_at program state (suc n) thread a l = let p = and_true _ _ a in if_equal thread n _ refl (λ e. subst (Rests program state) (sym e) p.0) (λ e. rest_at program state n thread p.1 (below thread n l e))

not_so : (b : Bool) → not b ≡ true → b ≡ true → ⊥
not_so true e f = absurd (cc)
not_so false e f = absurd (cc)

target_rests : (program : Program) (state : State) (bound thread other : ℕ) → all_rest program state bound ≡ true → thread < bound → Links program state thread other
    → waits program state other ≡ true → ⊥
target_rests program state bound thread other a l (asks e) w =
    not_so _ (subst (λ o. rests program state o ≡ true) e (and_true _ _ (rest_at program state bound thread a l)).0) w
target_rests program state bound thread other a l (takes e) w =
    not_so _ (subst (λ o. rests program state o ≡ true) e (and_true _ _ (rest_at program state bound thread a l)).1) w

-- a thread that was not made waits for none
not_made : (program : Program) (state : State) (thread : ℕ) → (state.thread thread).stand ≡ Not_made → waits program state thread ≡ false
not_made program state thread e =
    ap (λ stand. is_there (wanted state (request_stand program state (record { thread = thread; pair = 0; values = [] }) stand)) || is_there (retaking_in state stand)) e

split : {C : Type 0} (a b : ℕ) (x : Bool) → nat_lt a b ≡ x → (a < b → C) → (b ≤ a → C) → C
split a b true e f g = f (grind (arith, common_steps))
split a b false e f g = g (grind (arith, common_steps))

module _ (program : Program) (state : State) (sound : Sound program state) (rest : all_rest program state state.made ≡ true) where
  is_made : (thread : ℕ) → waits program state thread ≡ true → thread < state.made
  is_made thread w = split thread state.made _ refl (λ l. l) (λ l. absurd (let f : false ≡ true = sym (not_made program state thread (sound.fresh thread l)) ∙ w in cc))

  waiting : (thread other : ℕ) → IsWaiting program state thread other → waits program state thread ≡ true
  waiting thread other r = link_waits program state thread other (linked program state thread other r)

  apart : (thread other : ℕ) → IsWaiting program state thread other → waits program state other ≡ true → ⊥
  apart thread other r w = target_rests program state state.made thread other rest (is_made thread (waiting thread other r)) (linked program state thread other r) w

  first : (u v : ℕ) (us : List ℕ) → Chain (IsWaiting program state) u us v → waits program state u ≡ true
  first u v [] chain = waiting u v chain
  first u v (w ∷ us) chain = waiting u w chain.0

  none : (v : ℕ) (us : List ℕ) → Chain (IsWaiting program state) v us v → ⊥
  none v [] chain = apart v v chain (waiting v v chain)
  none v (u ∷ us) chain = apart v u chain.0 (first u v us chain.1)

  pub no_cycle_in : HasCycle (IsWaiting program state) → ⊥
  no_cycle_in c = none c.0 c.1 c.2

pub no_cycle : (program : Program) → CountsWell program → (run : List Choice) → IsGoodRun program run
    → all_rest program (state_after program run) (state_after program run).made ≡ true → HasCycle (IsWaiting program (state_after program run)) → ⊥
no_cycle program counts run good a c = no_cycle_in program (state_after program run) (sound_run program counts run good) a c
