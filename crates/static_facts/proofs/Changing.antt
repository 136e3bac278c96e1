-- What a step does to the life of a mutex, a condition variable or a key.
use Rattle.std.proofs.Common.{◌≡◌, refl, sym, subst, ap, ◌∙◌, Bool, true, false, cond, ◌||◌, ℕ, List, [], ◌∷◌, Option, Some, None}
use Rattle.std.specs.List.{list_any}
use Rattle.c_program.specs.declared.program.Program.{Program}
use Rattle.c_program.specs.Types.{is_zero}
use Rattle.c_program.specs.Values.{Cell, Value, same_cell}
use Rattle.c_program.specs.State.{State, Mark, Frame, Life, Unmade, Live, Dead, Mutex, opening}
use Rattle.c_program.specs.Requests.{Request, Creates, Joins, Detaches, Inits, Tries, Tries_timed, Destroys, Opens, Closes, Makes_key, Deletes_key, Turn, Goes, Enters, Leaves, Exits}
use Rattle.c_program.specs.Faults.{Sort, A_mutex, A_condition, A_key, A_thread, How, Initialises, Uses, Ends_life, Access, accesses_of}
use Rattle.c_program.specs.Effects.{Sync, Makes, Starts, Takes, Gives, Suspends, Resumes, Kills, Starts_condition, Kills_condition, Starts_key, Writes_key, Kills_key, Finishes, Effect, effect_of, sync_of, sync_after, if_done, marks, Use, Begins, Takes_it, Gives_it, Dies, Loses, use_of, use_if, mutex_after, condition_after, first_kept, key_after, pointed, after}
use Rattle.c_program.specs.Step.{Choice}
use Rattle.c_program.specs.Runs.{state_after}
use Rattle.c_program.specs.Laws.{accesses_object}
use Rattle.c_program.specs.Tracks.{life_number, life_of, Change, Kept, Started, Ended, change_if, change_of, life_after}
use Rattle.c_program.specs.WellFormed.{IsWellFormed}
use Rattle.path_simulation.specs.Simulates.{LastStep}
use Rattle.static_facts.proofs.Remembering.{sync_is}
use Rattle.static_facts.specs.ObjectStates.{IsNoThread, Doing, Begins as Begins_one, Joins_it, Detaches_it, Ends_it}
use Rattle.static_facts.specs.Seen.{when, use_by, use_with}
use Rattle.c_program.specs.Control.{Move}

-- ---- what a step does to one life

-- a change where a test holds, of the life and of the object
if_changed : {A : Type 0} (b : Bool) (change : Change) (new old : Life A) → life_number new ≡ life_after change (life_number old) → life_number (cond b new old) ≡ life_after (change_if b change) (life_number old)
if_changed true change new old e = e
if_changed false change new old e = refl

if_same : {A : Type 0} (b : Bool) (new old : Life A) → life_number new ≡ life_number old → life_number (cond b new old) ≡ life_number old
if_same true new old e = e
if_same false new old e = refl

used : (b : Bool) (act : Use) (change : Change) (thread : ℕ) (life : Life Mutex) → life_number (mutex_after act thread life) ≡ life_after change (life_number life)
    → life_number (mutex_after (use_if b act) thread life) ≡ life_after (change_if b change) (life_number life)
used true act change thread life e = e
used false act change thread life e = refl

-- to take, to give or to lose keeps it
owning : (act : Use) (thread : ℕ) (life : Life Mutex) → (act ≡ Takes_it) → life_number (mutex_after act thread life) ≡ life_number life
owning act thread life e = ap (λ (u : Use). life_number (mutex_after u thread life)) e ∙ go life
  where
    go : (life : Life Mutex) → life_number (mutex_after Takes_it thread life) ≡ life_number life
    go (Live mutex) = refl
    go Unmade = refl
    go Dead = refl

giving : (thread : ℕ) (life : Life Mutex) → life_number (mutex_after Gives_it thread life) ≡ life_number life
giving thread (Live mutex) = refl
giving thread Unmade = refl
giving thread Dead = refl

losing : (thread : ℕ) (life : Life Mutex) → life_number (mutex_after Loses thread life) ≡ life_number life
losing thread (Live mutex) = refl
losing thread Unmade = refl
losing thread Dead = refl

same_used : (b : Bool) (act : Use) (thread : ℕ) (life : Life Mutex) → life_number (mutex_after act thread life) ≡ life_number life → life_number (mutex_after (use_if b act) thread life) ≡ life_number life
same_used true act thread life e = e
same_used false act thread life e = refl

mutex_moves : (sync : Sync) (cell : Cell) (thread : ℕ) (life : Life Mutex) → life_number (mutex_after (use_of sync cell) thread life) ≡ life_after (change_of sync A_mutex cell) (life_number life)
mutex_moves (Starts m kind) cell thread life = used (same_cell m cell) (Begins kind) Started thread life refl
mutex_moves (Kills m) cell thread life = used (same_cell m cell) Dies Ended thread life refl
mutex_moves (Takes m) cell thread life = same_used (same_cell m cell) Takes_it thread life (owning Takes_it thread life refl)
mutex_moves (Resumes m) cell thread life = same_used (same_cell m cell) Takes_it thread life (owning Takes_it thread life refl)
mutex_moves (Gives m) cell thread life = same_used (same_cell m cell) Gives_it thread life (giving thread life)
mutex_moves (Suspends c m) cell thread life = same_used (same_cell m cell) Gives_it thread life (giving thread life)
mutex_moves (Finishes result) cell thread life = losing thread life
mutex_moves _ cell thread life = refl

kept_first : (m : Cell) (life : Life (Option Cell)) → life_number (first_kept m life) ≡ life_number life
kept_first m (Live None) = refl
kept_first m (Live (Some n)) = refl
kept_first m Unmade = refl
kept_first m Dead = refl

condition_moves : (sync : Sync) (cell : Cell) (life : Life (Option Cell)) → life_number (condition_after sync cell life) ≡ life_after (change_of sync A_condition cell) (life_number life)
condition_moves (Starts_condition c) cell life = if_changed (same_cell c cell) Started (Live None) life refl
condition_moves (Kills_condition c) cell life = if_changed (same_cell c cell) Ended Dead life refl
condition_moves (Suspends c m) cell life = if_same (same_cell c cell) (first_kept m life) life (kept_first m life)
condition_moves _ cell life = refl

kept_pointers : (thread : ℕ) (v : Value) (life : Life (ℕ → Value)) → life_number (pointed thread v life) ≡ life_number life
kept_pointers thread v (Live pointers) = refl
kept_pointers thread v Unmade = refl
kept_pointers thread v Dead = refl

key_moves : (sync : Sync) (thread : ℕ) (cell : Cell) (life : Life (ℕ → Value)) → life_number (key_after sync thread cell life) ≡ life_after (change_of sync A_key cell) (life_number life)
key_moves (Starts_key k) thread cell life = if_changed (same_cell k cell) Started (Live _) life refl
key_moves (Kills_key k) thread cell life = if_changed (same_cell k cell) Ended Dead life refl
key_moves (Writes_key k v) thread cell life = if_same (same_cell k cell) (pointed thread v life) life (kept_pointers thread v life)
key_moves _ thread cell life = refl

-- ---- by what a step does with the object

-- what a use is to a life
abbrev pub change_by : Option Doing → Change
change_by (Some Begins_one) = Started
change_by (Some Ends_it) = Ended
change_by _ = Kept

abbrev pub IsLife : Option Doing → Type 0
IsLife (Some Joins_it) = ⊥
IsLife (Some Detaches_it) = ⊥
IsLife _ = Unit {0}

-- the access of the step that begins or ends an object
abbrev pub access_of_sync : Sync → Option Access
access_of_sync (Starts m kind) = Some (record { how = Initialises; sort = A_mutex; cell = m })
access_of_sync (Kills m) = Some (record { how = Ends_life; sort = A_mutex; cell = m })
access_of_sync (Starts_condition c) = Some (record { how = Initialises; sort = A_condition; cell = c })
access_of_sync (Kills_condition c) = Some (record { how = Ends_life; sort = A_condition; cell = c })
access_of_sync (Starts_key k) = Some (record { how = Initialises; sort = A_key; cell = k })
access_of_sync (Kills_key k) = Some (record { how = Ends_life; sort = A_key; cell = k })
access_of_sync _ = None

no_access : (b : Bool) (sync : Sync) (x : Access) → access_of_sync sync ≡ None → access_of_sync (if_done b sync) ≡ Some x → ⊥
no_access true sync x e f = let g : None ≡ Some x = sym e ∙ f in cc
no_access false sync x e f = cc

no_mark : (held : Option ℕ) (mark : Mark) (x : Access) → access_of_sync (marks held mark) ≡ Some x → ⊥
no_mark None mark x e = cc
no_mark (Some t) mark x e = cc

done_access : (b : Bool) (sync : Sync) (x : Access) → access_of_sync (if_done b sync) ≡ Some x → access_of_sync sync ≡ Some x
done_access true sync x e = e
done_access false sync x e = absurd (cc)

-- it is the one access of the request
alone_as : (a x : Access) → Some a ≡ Some x → a ∷ [] ≡ x ∷ []
alone_as a x e = cc

access_of : (state : State) (request : Request) (x : Access) → access_of_sync (sync_of state request) ≡ Some x → accesses_of request ≡ x ∷ []
access_of state (Inits m kind z) x e = alone_as _ x (done_access (is_zero z) (Starts m kind) x e)
access_of state (Opens c z) x e = alone_as _ x (done_access (is_zero z) (Starts_condition c) x e)
access_of state (Makes_key k z) x e = alone_as _ x (done_access (is_zero z) (Starts_key k) x e)
access_of state (Destroys m) x e = alone_as _ x e
access_of state (Closes c) x e = alone_as _ x e
access_of state (Deletes_key k) x e = alone_as _ x e
access_of state (Creates object f v z) x e = absurd (no_access (is_zero z) (Makes object f) x refl e)
access_of state (Joins object into) x e = absurd (no_mark (state.holds object) _ x e)
access_of state (Detaches object) x e = absurd (no_mark (state.holds object) _ x e)
access_of state (Tries m z) x e = absurd (no_access (is_zero z) (Takes m) x refl e)
access_of state (Tries_timed m z) x e = absurd (no_access (is_zero z) (Takes m) x refl e)
access_of state _ x e = absurd (cc)

access_after : (state : State) (frames : List Frame) (turn : Turn) (request : Request) (x : Access) → access_of_sync (sync_after frames turn (sync_of state request)) ≡ Some x → accesses_of request ≡ x ∷ []
access_after state frames Goes request x e = access_of state request x e
access_after state frames (Enters f arguments result) request x e = access_of state request x e
access_after state frames (Exits result) request x e = absurd (cc)
access_after state [] (Leaves result) request x e = absurd (cc)
access_after state (frame ∷ []) (Leaves result) request x e = absurd (cc)
access_after state (frame ∷ caller ∷ frames) (Leaves result) request x e = access_of state request x e

or_none : (b : Bool) → (b || false) ≡ b
or_none true = refl
or_none false = refl

started : (b : Bool) → change_if b Started ≡ change_by (when b Begins_one)
started true = refl
started false = refl

ended : (b : Bool) → change_if b Ended ≡ change_by (when b Ends_it)
ended true = refl
ended false = refl

-- a sync and whether the step accesses the cell, told apart from each other
abbrev Agrees : Sync → Cell → Bool → Type 0
Agrees sync cell b = (x : Access) → access_of_sync sync ≡ Some x → b ≡ same_cell x.cell cell

change_as : (sort : Sort) → IsNoThread sort → (sync : Sync) (cell : Cell) (b : Bool) → Agrees sync cell b → change_of sync sort cell ≡ change_by (use_by sync sort b)
change_as A_mutex n (Starts m kind) cell b h = started (same_cell m cell) ∙ ap (λ x. change_by (when x Begins_one)) (sym (h _ refl))
change_as A_mutex n (Kills m) cell b h = ended (same_cell m cell) ∙ ap (λ x. change_by (when x Ends_it)) (sym (h _ refl))
change_as A_condition n (Starts_condition c) cell b h = started (same_cell c cell) ∙ ap (λ x. change_by (when x Begins_one)) (sym (h _ refl))
change_as A_condition n (Kills_condition c) cell b h = ended (same_cell c cell) ∙ ap (λ x. change_by (when x Ends_it)) (sym (h _ refl))
change_as A_key n (Starts_key k) cell b h = started (same_cell k cell) ∙ ap (λ x. change_by (when x Begins_one)) (sym (h _ refl))
change_as A_key n (Kills_key k) cell b h = ended (same_cell k cell) ∙ ap (λ x. change_by (when x Ends_it)) (sym (h _ refl))
change_as A_mutex n sync cell b h = refl
change_as A_condition n sync cell b h = refl
change_as A_key n sync cell b h = refl
change_as A_thread n sync cell b h = absurd n

life_use : (sort : Sort) → IsNoThread sort → (sync : Sync) (b : Bool) → IsLife (use_by sync sort b)
life_use A_mutex n (Starts m kind) true = tt
life_use A_mutex n (Starts m kind) false = tt
life_use A_mutex n (Kills m) true = tt
life_use A_mutex n (Kills m) false = tt
life_use A_condition n (Starts_condition c) true = tt
life_use A_condition n (Starts_condition c) false = tt
life_use A_condition n (Kills_condition c) true = tt
life_use A_condition n (Kills_condition c) false = tt
life_use A_key n (Starts_key k) true = tt
life_use A_key n (Starts_key k) false = tt
life_use A_key n (Kills_key k) true = tt
life_use A_key n (Kills_key k) false = tt
life_use A_mutex n sync b = tt
life_use A_condition n sync b = tt
life_use A_key n sync b = tt
life_use A_thread n sync b = absurd n

-- what a step that begins or ends an object does to it
abbrev pub how_of : Doing → How
how_of Begins_one = Initialises
how_of Ends_it = Ends_life
how_of _ = Uses

pub record UsesBy (sort : Sort) (sync : Sync) (b : Bool) (doing : Doing) : Type 0 where
  pub access : Access
  pub is : access_of_sync sync ≡ Some access
  pub of_sort : access.sort ≡ sort
  pub how : access.how ≡ how_of doing
  pub accessed : b ≡ true

when_is : (sort : Sort) (sync : Sync) (own doing : Doing) (x : Access) → access_of_sync sync ≡ Some x → x.sort ≡ sort → x.how ≡ how_of own → (b : Bool) → when b own ≡ Some doing → UsesBy sort sync b doing
when_is sort sync own doing x a s h true e = record { access = x; is = a; of_sort = s; how = h ∙ ap how_of (same own doing e); accessed = refl }
  where
    same : (a b : Doing) → Some a ≡ Some b → a ≡ b
    same a b e = cc
when_is sort sync own doing x a s h false e = absurd (cc)

pub uses_by : (sort : Sort) → IsNoThread sort → (sync : Sync) (b : Bool) (doing : Doing) → use_by sync sort b ≡ Some doing → UsesBy sort sync b doing
uses_by A_mutex n (Starts m kind) b doing e = when_is _ _ Begins_one doing _ refl refl refl b e
uses_by A_mutex n (Kills m) b doing e = when_is _ _ Ends_it doing _ refl refl refl b e
uses_by A_condition n (Starts_condition c) b doing e = when_is _ _ Begins_one doing _ refl refl refl b e
uses_by A_condition n (Kills_condition c) b doing e = when_is _ _ Ends_it doing _ refl refl refl b e
uses_by A_key n (Starts_key k) b doing e = when_is _ _ Begins_one doing _ refl refl refl b e
uses_by A_key n (Kills_key k) b doing e = when_is _ _ Ends_it doing _ refl refl refl b e
uses_by A_mutex n sync b doing e = absurd (cc)
uses_by A_condition n sync b doing e = absurd (cc)
uses_by A_key n sync b doing e = absurd (cc)
uses_by A_thread n sync b doing e = absurd n

life_moves : (program : Program) (state : State) (thread : ℕ) (move : Move) (effect : Effect) (cell : Cell) (sort : Sort) → IsNoThread sort
    → life_of (after program state thread move effect) sort cell ≡ life_after (change_of effect.sync sort cell) (life_of state sort cell)
unfolding after
life_moves program state thread move effect cell A_mutex n = mutex_moves effect.sync cell thread (state.mutex cell)
life_moves program state thread move effect cell A_condition n = condition_moves effect.sync cell (state.condition cell)
life_moves program state thread move effect cell A_key n = key_moves effect.sync thread cell (state.key cell)
life_moves program state thread move effect cell A_thread n = absurd n

pub life_opens : (program : Program) (sort : Sort) (cell : Cell) → IsNoThread sort → life_of (state_after program []) sort cell ≡ 0
unfolding state_after opening
life_opens program A_mutex cell n = refl
life_opens program A_condition cell n = refl
life_opens program A_key cell n = refl
life_opens program A_thread cell n = absurd n

module _ (program : Program) (well : IsWellFormed program) (sort : Sort) (no_thread : IsNoThread sort) (cell : Cell) (choice : Choice) (run : List Choice) (step : LastStep program choice run) where
  abbrev state : State
  state = state_after program run

  -- the access of the step, where it begins or ends an object
  pub one_access : (x : Access) → access_of_sync step.effect.sync ≡ Some x → accesses_of step.by.ask.request ≡ x ∷ []
  one_access x e = access_after state step.by.frames step.by.ask.turn step.by.ask.request x (subst (λ (y : Sync). access_of_sync y ≡ Some x) (sync_is program well choice run step) e)

  pub agrees : Agrees step.effect.sync cell (accesses_object step.effect cell)
  unfolding effect_of
  agrees x e = ap (λ (y : Effect). accesses_object y cell) step.by.gives ∙ ap (λ (xs : List Access). list_any (λ access. same_cell access.cell cell) xs) (one_access x e) ∙ or_none (same_cell x.cell cell)

  pub life_step : life_of (state_after program (choice ∷ run)) sort cell ≡ life_after (change_by (use_with step.effect sort cell)) (life_of state sort cell)
  life_step = ap (λ (s : State). life_of s sort cell) step.leads ∙ life_moves program state choice.thread step.move step.effect cell sort no_thread
      ∙ ap (λ (c : Change). life_after c (life_of state sort cell)) (change_as sort no_thread step.effect.sync cell (accesses_object step.effect cell) agrees)

  pub is_life : IsLife (use_with step.effect sort cell)
  is_life = life_use sort no_thread step.effect.sync (accesses_object step.effect cell)
