-- Over runs: where nothing escapes, each thread keeps its own.
use Rattle.std.proofs.Common.{◌≡◌, refl, sym, subst, ◌∙◌, true, false, ◌==◌, ℕ, List, [], ◌∷◌, Option, Some, None, arith}
use Rattle.std.proofs.lemmas.Grind.{common_steps}
use Rattle.std.specs.List.{list_all}
use Rattle.std.specs.Prelude.{option_map, unwrap_or}
use Rattle.c_program.specs.declared.expression.Expr.{Expr, Constant, Object, Path', more_of-Expr, end_of-Expr, Row_of-Step, more_of-Step, end_of-Step}
use Rattle.c_program.specs.declared.expression.Step.{Step, Indirection, Member}
use Rattle.c_program.specs.declared.program.Initial.{Initial}
use Rattle.c_program.specs.declared.program.Object.{Object as ObjectOf}
use Rattle.c_program.specs.declared.program.Storage.{Storage}
use Rattle.c_program.specs.declared.program.Storage.TheVariants as storage
use Rattle.c_program.specs.declared.program.Program.{Program}
use Rattle.c_program.specs.Syntax.{Element, Forward, Back, object_at}
use Rattle.c_program.specs.Types.{same_numbers}
use Rattle.c_program.specs.Values.{Root, Static, Of_thread, Of_frame, Cell, Value, Number, Address, is_static}
use Rattle.c_program.specs.Evaluation.{Here, root_in, root_of, eval}
use Rattle.c_program.specs.Control.{rounds_of}
use Rattle.c_program.specs.State.{State, Thread, frames_of, here, opening, at_start, initial_in, initial_of, initial_at, thread_before, no_thread}
use Rattle.c_program.specs.Effects.{is_among}
use Rattle.c_program.specs.Step.{Choice, Outcome, No_step, Undefined, Does, outcome, advanced}
use Rattle.c_program.specs.Runs.{IsGoodRun, HasMeaning, state_after, outcome_of}
use Rattle.c_program.specs.Counters.{is_constant_in, constant_in}
use Rattle.c_program.specs.WellFormed.{IsWellFormed, is_initial, is_constant, is_constant_step, are_constant_steps, is_static_object, is_object}
use Rattle.c_program.proofs.Cells.{and_true}
use Rattle.c_program.proofs.Inversion.{by_an_ask}
use Rattle.c_program.proofs.Sound.{if_either}
use Rattle.pointer_targets.specs.Places.{site_of}
use Rattle.pointer_targets.specs.Escapes.{is_static_site, NoneEscapes}
use Rattle.pointer_targets.specs.Laws.{IsOwn, NoneIsReachedByOthers, StaticHoldsStatic, KeysHoldStatic, ResultsAreStatic}
use Rattle.pointer_targets.proofs.Values.{OnOption, option_on_map, IndexKnown, IndexesKnown, along_on}
use Rattle.pointer_targets.proofs.Evaluated.{Named, evaluated}
use Rattle.pointer_targets.proofs.Opening.{holding_run, parts_fine}
use Rattle.pointer_targets.proofs.Candidates.{cells_allowed, keys_allowed, results_allowed}
use Rattle.pointer_targets.proofs.Holding
use Rattle.pointer_targets.proofs.Owned.{Has, Within, Kept, static_held, static_kept, static_result}
use Rattle.pointer_targets.proofs.Isolated.{Isolated, owner_after, isolated_after, roots_own, memory_own, Q}

-- ---- initial values are addresses of static objects

IsStatic : Root → Type 0
IsStatic (Static own) = Unit {0}
IsStatic _ = ⊥

static_within : (owner : ℕ → ℕ) (u : ℕ) (root : Root) → IsStatic root → Within owner u root
unfolding IsStatic
static_within owner u (Static own) s = tt
static_within owner u (Of_thread thread own) s = absurd s
static_within owner u (Of_frame frame own) s = absurd s

module _ (program : Program) (start : Here) (own : start.program ≡ program) where
  not_thread : (n : ℕ) (o : ObjectOf) → object_at program n ≡ Some o → o.storage ≡ storage.Thread → is_static_object program n ≡ true → ⊥
  not_thread n o q r e = let d = (and_true (is_object program n) _ e).1 in let f : false ≡ true = cc in absurd (cc)

  not_automatic : (n : ℕ) (o : ObjectOf) → object_at program n ≡ Some o → o.storage ≡ storage.Automatic → is_static_object program n ≡ true → ⊥
  not_automatic n o q r e = let d = (and_true (is_object program n) _ e).1 in let f : false ≡ true = cc in absurd (cc)

  stored_so : (n : ℕ) → is_static_object program n ≡ true → (o : Option ObjectOf) → object_at program n ≡ o → unwrap_or (option_map (λ (o : ObjectOf). o.storage) o) storage.Static ≡ storage.Static
  stored_so n e None q = refl
  stored_so n e (Some o) q = go o.storage refl
    where
      go : (s : Storage) → o.storage ≡ s → s ≡ storage.Static
      go storage.Static r = refl
      go storage.Thread r = absurd (not_thread n o q r e)
      go storage.Automatic r = absurd (not_automatic n o q r e)

  object_static : (n : ℕ) → is_static_object program n ≡ true → IsStatic (root_of start n)
  unfolding IsStatic
  object_static n e = subst (λ p. IsStatic (root_in start (unwrap_or (option_map (λ (o : ObjectOf). o.storage) (object_at p n)) storage.Static) n)) (sym own)
      (subst (λ s. IsStatic (root_in start s n)) (sym (stored_so n e (object_at program n) refl)) tt)

  constant_index : (i : Expr) → is_constant program i ≡ true → is_constant_in [] i ≡ true → eval start i ≡ constant_in program [] i
  constant_index (Constant z) c k = refl
  constant_index _ c k = absurd (cc)

  constant_step : (step : Step) → is_constant_step program step ≡ true → IndexKnown program (λ n. []) IsStatic [] start own step
  constant_step (Indirection t) c = tt
  constant_step (Member s m) c = tt
  constant_step (Element i) c = constant_index i c
  constant_step (Forward t i) c = constant_index i c
  constant_step (Back t i) c = constant_index i c

  constant_steps : {n : _} (steps : Row_of-Step n) → are_constant_steps program steps ≡ true → IndexesKnown program (λ n. []) IsStatic [] start own steps
  constant_steps end_of-Step c = tt
  constant_steps (more_of-Step step steps) c = let d = and_true _ _ c in (constant_step step d.0, constant_steps steps d.1)

  Rooted : Cell → Type 0
  Rooted cell = IsStatic cell.root

  initial_static : (e : Expr) → is_initial program e ≡ true → OnOption Rooted (eval start e)
  unfolding Rooted
  initial_static (Constant z) c = tt
  initial_static (Object n) c = object_static n c
  initial_static (Path' x (more_of-Expr e end_of-Expr) y steps) c = let d = and_true _ _ c in option_on_map _ Rooted (λ cell q. q.0) _
      (along_on program (λ n. []) IsStatic [] start own (λ place. Unit {0}) (eval start e) steps (constant_steps steps d.1) (option_on_map Rooted (λ cell. IsStatic cell.root × Unit {0}) (λ cell q. (q, tt)) _ (initial_static e d.0)))
  initial_static _ c = absurd (cc)

  parts_static : (parts : List Initial) (path : List ℕ) → list_all (λ (part : Initial). is_initial program part.value) parts ≡ true → OnOption Rooted (initial_in start parts path)
  parts_static [] path k = tt
  parts_static (part ∷ parts) path k = if_either (OnOption Rooted) (same_numbers part.path path) _ _ (λ e. initial_static part.value (and_true _ _ k).0) (λ e. parts_static parts path (and_true _ _ k).1)

-- ---- the opening

-- the thread of each call, as they were made
owner_by : (ℕ → ℕ) → State → ℕ → Outcome → ℕ → ℕ
owner_by owner state t (Does move effect) = owner_after owner state t effect.sync
owner_by owner state t _ = owner

owner_of : Program → List Choice → ℕ → ℕ
owner_of program [] = λ n. 0
owner_of program (choice ∷ run) = owner_by (owner_of program run) (state_after program run) choice.thread (outcome_of program choice run)

any_kept : (owner : ℕ → ℕ) (holder : Cell) → ((u : ℕ) → Has owner u holder.root → ⊥) → (o : Option Value) → OnOption (Kept owner holder) o
any_kept owner holder n None = tt
any_kept owner holder n (Some (Number z)) = tt
any_kept owner holder n (Some (Address cell)) = λ u h. absurd (n u h)

module _ (program : Program) (well : IsWellFormed program) (sealed : NoneEscapes program) where
  opening_cell : (owner : ℕ → ℕ) (root : Root) (path : List ℕ) → OnOption (Kept owner (record { root = root; path = path })) (initial_at program root path)
  unfolding IsStatic Rooted
  opening_cell owner (Static object) path = any_kept owner (record { root = Static object; path = path }) (λ u h. h) _
  opening_cell owner (Of_thread thread object) path = option_on_map (Rooted program (at_start program thread) refl) (Kept owner (record { root = Of_thread thread object; path = path })) (λ to s u h. static_within owner u to.root s) _
      (parts_static program (at_start program thread) refl (initial_of program object) path (parts_fine program well object))
  opening_cell owner (Of_frame frame object) path = tt

  opening_isolated : Isolated program (owner_of program []) (opening program)
  unfolding opening owner_of
  opening_isolated = record {
    frames = λ u n. if_either (λ (thread : Thread). is_among n (frames_of thread.stand) ≡ true → 0 ≡ u) (u == 0) (thread_before program program.main 0 []) no_thread (λ e a. first u e) (λ e a. absurd (cc));
    cells = λ cell. opening_cell (λ n. 0) cell.root cell.path;
  }
    where
      first : (u : ℕ) → (u == 0) ≡ true → 0 ≡ u
      first u e = grind (arith, common_steps)

  -- ---- runs

  isolated_step : (run : List Choice) (good : IsGoodRun program run) → Isolated program (owner_of program run) (state_after program run) → (choice : Choice) (found : Outcome)
      → outcome program (state_after program run) choice ≡ found → HasMeaning found
      → Isolated program (owner_by (owner_of program run) (state_after program run) choice.thread found) (advanced program (state_after program run) choice.thread found)
  unfolding owner_by
  isolated_step run good i choice No_step e m = absurd m
  isolated_step run good i choice Undefined e m = absurd m
  isolated_step run good i choice (Does move effect) e m = isolated_after program well sealed run good (holding_run program well run good) (owner_of program run) i choice move effect (by_an_ask program (state_after program run) choice move effect e)

  isolated_run : (run : List Choice) → IsGoodRun program run → Isolated program (owner_of program run) (state_after program run)
  unfolding state_after outcome_of owner_of
  isolated_run [] g = opening_isolated
  isolated_run (choice ∷ run) g = isolated_step run g.0 (isolated_run run g.0) choice (outcome program (state_after program run) choice) refl g.1

-- ---- the laws

own_root : (owner : ℕ → ℕ) (program : Program) (state : State) → Isolated program owner state → (t : ℕ) (root : Root) → Within owner t root → IsOwn state t root
own_root owner program state i t (Static own) w = tt
own_root owner program state i t (Of_thread thread own) w = w
own_root owner program state i t (Of_frame frame own) w = λ u a. sym (i.frames u frame a) ∙ w

pub none_reached : (program : Program) → IsWellFormed program → NoneIsReachedByOthers program
none_reached program well sealed run good t control frames inside stands e to q = own_root owner program state isolated t to.root
    (subst (OnOption (Named program state.string (Q program well sealed run good holding owner isolated t) (rounds_of control) (here program state t) refl there e)) q value).0.1
  where
    state : State
    state = state_after program run

    owner : ℕ → ℕ
    owner = owner_of program run

    holding : Holding.Holding program (state_after program run)
    holding = holding_run program well run good

    isolated : Isolated program (owner_of program run) (state_after program run)
    isolated = isolated_run program well sealed run good

    there : (n : ℕ) → Q program well sealed run good (holding_run program well run good) (owner_of program run) (isolated_run program well sealed run good) t (root_of (here program (state_after program run) t) n)
    there = roots_own program well sealed run good (holding_run program well run good) (owner_of program run) (isolated_run program well sealed run good) t control frames inside stands

    value : OnOption (Named program (state_after program run).string (Q program well sealed run good (holding_run program well run good) (owner_of program run) (isolated_run program well sealed run good) t) (rounds_of control) (here program (state_after program run) t) refl there e)
        (eval (here program (state_after program run) t) e)
    value = evaluated program (state_after program run).string (Q program well sealed run good (holding_run program well run good) (owner_of program run) (isolated_run program well sealed run good) t) (rounds_of control) (here program (state_after program run) t) refl there
        (Holding.here_constant program well run good (holding_run program well run good) t control frames inside stands)
        (memory_own program well sealed run good (holding_run program well run good) (owner_of program run) (isolated_run program well sealed run good) t control frames inside stands) e

-- an object that is within each thread is static
is_static_root : (cell : Cell) → ((owner : ℕ → ℕ) (u : ℕ) → Within owner u cell.root) → is_static cell ≡ true
is_static_root cell w = go cell.root cell.path w
  where
    go : (root : Root) (path : List ℕ) → ((owner : ℕ → ℕ) (u : ℕ) → Within owner u root) → is_static (record { root = root; path = path }) ≡ true
    go (Static own) path w = refl
    go (Of_thread thread own) path w = absurd (let e : thread ≡ 0 = w (λ n. 0) 0 in let f : thread ≡ 1 = w (λ n. 0) 1 in omega arith)
    go (Of_frame frame own) path w = absurd (let e : 0 ≡ 1 = w (λ n. 0) 1 in omega arith)

pub static_holds : (program : Program) → IsWellFormed program → StaticHoldsStatic program
static_holds program well sealed run good cell to s e = is_static_root to (λ owner u. static_held program sealed (state_after program run).string owner u cell to.root to.path (site_static cell.root cell.path s)
    (cells_allowed program well run good cell to e))
  where
    site_static : (root : Root) (path : List ℕ) → is_static (record { root = root; path = path }) ≡ true → is_static_site (site_of (state_after program run).string root) ≡ true
    site_static (Static own) path s = refl
    site_static (Of_thread thread own) path s = absurd (cc)
    site_static (Of_frame frame own) path s = absurd (cc)

pub keys_static : (program : Program) → IsWellFormed program → KeysHoldStatic program
keys_static program well sealed run good key to pointers thread k e = is_static_root to (λ owner u. static_kept program sealed (state_after program run).string owner u key to.root to.path (keys_allowed program well run good key to pointers thread k e))

pub results_static : (program : Program) → IsWellFormed program → ResultsAreStatic program
results_static program well sealed run good thread to e = is_static_root to (λ owner u. static_result program sealed (state_after program run).string owner u to.root to.path (results_allowed program well run good thread to e))
