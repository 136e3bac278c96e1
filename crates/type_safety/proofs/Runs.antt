-- In each good run of a well-formed program values fit what holds them, and each undefined step is one of the closed list.
use Rattle.std.proofs.Common.{◌≡◌, inl, inr, refl, sym, subst, ap, ◌∙◌, Bool, true, false, ◌||◌, ◌==◌, ℕ, List, [], ◌∷◌, Option, Some, None}
use Rattle.std.specs.Prelude.{option_map, unwrap_or, slice_get}
use Rattle.std.specs.List.{list_any, list_all}
use Rattle.c_program.specs.declared.types.CType.{CType}
use Rattle.c_program.specs.declared.program.Initial.{Initial}
use Rattle.c_program.specs.declared.program.Object.{Object}
use Rattle.c_program.specs.declared.program.Program.{Program}
use Rattle.c_program.specs.Types.{is_scalar, same_numbers, declared_type, type_at}
use Rattle.c_program.specs.Values.{Root, Static, Of_thread, Of_frame, Cell, Value, object_of}
use Rattle.c_program.specs.Evaluation.{eval}
use Rattle.c_program.specs.Control.{Control, Move, move_at}
use Rattle.c_program.specs.State.{State, Thread, Stand, Not_made, Running, Ended, Frame, opening, at_start, initial_in, initial_of, initial_at, thread_before, no_thread}
use Rattle.c_program.specs.Requests.{Request, Asked, Not_so, No_meaning, Asks}
use Rattle.c_program.specs.Faults.{is_undefined, is_broken, has_no_thread, ending_guidelines, may_move, may_answer}
use Rattle.c_program.specs.Effects.{Effect, lacks_result, after}
use Rattle.c_program.specs.Step.{Choice, Outcome, No_step, Undefined, Does, outcome, outcome_stand, outcome_moved, outcome_asked, asked_by, advanced}
use Rattle.c_program.specs.Runs.{IsGoodRun, HasMeaning, state_after, outcome_of}
use Rattle.c_program.specs.Breaks.{request_in, request_by, request_stand, request_moved}
use Rattle.c_program.specs.Typing.{kind_of, kind_of_type, takes, initial_is_typed, object_is_typed, is_typed}
use Rattle.c_program.specs.WellFormed.{IsWellFormed}
use Rattle.c_program.proofs.Cells.{and_true, numbers_same}
use Rattle.c_program.proofs.Logic.{if_cases}
use Rattle.c_program.proofs.Inversion.{by_an_ask}
use Rattle.c_program.proofs.Members.{In, to_contains}
use Rattle.c_program.proofs.Sound.{if_either}
use Rattle.type_safety.specs.Fitting.{Fits, OptFits}
use Rattle.type_safety.specs.Causes.{Fails}
use Rattle.type_safety.specs.Laws.{IsListed, in_a_part, by_a_break, without_a_thread, without_a_result, EachUndefinedStepIsListed, MemoryIsTyped}
use Rattle.type_safety.proofs.Comes.{Comes}
use Rattle.type_safety.proofs.OfKinds.{null_fits, takes_fits}
use Rattle.type_safety.proofs.Evaluating.{evaluated}
use Rattle.type_safety.proofs.Acting.{or_cases, takes_right}
use Rattle.type_safety.proofs.Controls.{all_got, body_fits}
use Rattle.type_safety.proofs.Steps.{StandFits, StateFits, cause, fits_later}

-- ---- the opening

module _ (program : Program) where
  opt_fits : (t : CType) (F : Type 0) (k : _) (o : Option Value) → takes t k ≡ true → Comes (Fits program k) F o → OptFits program (kind_of_type t) o
  unfolding Comes
  opt_fits t F k None q c = tt
  opt_fits t F k (Some v) q c = takes_fits program t.base t.pointers t.sizes k v q c

  -- an initial value fits the part that it is for
  value_fits : (thread : ℕ) (whole : CType) (part : Initial) (t : CType) → initial_is_typed program whole part ≡ true → type_at program (Some whole) part.path ≡ Some t
      → OptFits program (kind_of_type t) (eval (at_start program thread) part.value)
  value_fits thread whole part t i e = opt_fits t (Fails (at_start program thread) part.value) (kind_of program part.value) _ own
      (evaluated (at_start program thread) (λ cell t e s. tt) part.value (takes_right t.base t.pointers t.sizes (kind_of program part.value) own).0)
    where
      own : takes t (kind_of program part.value) ≡ true
      own = subst (λ o. unwrap_or (option_map (λ (u : CType). takes u (kind_of program part.value)) o) false ≡ true) e i

  parts_fit : (thread : ℕ) (whole : CType) (parts : List Initial) (path : List ℕ) (t : CType) → list_all (initial_is_typed program whole) parts ≡ true
      → type_at program (Some whole) path ≡ Some t → is_scalar t ≡ true → OptFits program (kind_of_type t) (initial_in (at_start program thread) parts path)
  parts_fit thread whole [] path t i e s = null_fits program t.base t.pointers t.sizes s
  parts_fit thread whole (part ∷ parts) path t i e s = let p = and_true _ _ i in if_either (OptFits program (kind_of_type t)) (same_numbers part.path path) _ _
      (λ q. value_fits thread whole part t p.0 (ap (type_at program (Some whole)) (numbers_same part.path path q) ∙ e))
      (λ _. parts_fit thread whole parts path t p.1 e s)

  object_fits : is_typed program ≡ true → (thread n : ℕ) (path : List ℕ) (t : CType) → type_at program (declared_type program n) path ≡ Some t → is_scalar t ≡ true
      → OptFits program (kind_of_type t) (initial_in (at_start program thread) (initial_of program n) path)
  object_fits typed thread n path t e s = go (slice_get program.objects n) refl e
    where
      go : (o : Option Object) → slice_get program.objects n ≡ o → type_at program (option_map (λ (x : Object). x.c_type) o) path ≡ Some t
          → OptFits program (kind_of_type t) (initial_in (at_start program thread) (unwrap_or (option_map (λ (x : Object). x.initial) o) []) path)
      go None g e = null_fits program t.base t.pointers t.sizes s
      go (Some o) g e = parts_fit thread o.c_type o.initial path t (all_got (object_is_typed program) program.objects n o (and_true _ _ (and_true _ _ typed).0).0 g) e s

  root_fits : is_typed program ≡ true → (root : Root) (path : List ℕ) (t : CType) → type_at program (declared_type program (object_of root)) path ≡ Some t → is_scalar t ≡ true
      → OptFits program (kind_of_type t) (initial_at program root path)
  root_fits typed (Static n) path t e s = object_fits typed 0 n path t e s
  root_fits typed (Of_thread thread n) path t e s = object_fits typed thread n path t e s
  root_fits typed (Of_frame frame n) path t e s = tt

  first_fits : is_typed program ≡ true → StandFits program (thread_before program program.main 0 []).stand
  first_fits typed = let b = body_fits program typed program.main in (b.0, (b.1, b.3 (and_true _ _ (and_true _ _ typed).0).1))

  opening_fits : is_typed program ≡ true → StateFits program (opening program)
  unfolding opening
  opening_fits typed = record {
    memory = λ cell t e s. root_fits typed cell.root cell.path t e s;
    keys = λ cell. tt;
    stands = λ u. if_either (λ (thread : Thread). StandFits program thread.stand) (u == 0) (thread_before program program.main 0 []) no_thread (λ _. first_fits typed) (λ _. tt);
  }

  -- ---- runs

  module _ (well : IsWellFormed program) where
    step_fits : (state : State) → StateFits program state → (choice : Choice) (found : Outcome) → outcome program state choice ≡ found → HasMeaning found
        → StateFits program (advanced program state choice.thread found)
    step_fits state fits choice No_step e m = absurd m
    step_fits state fits choice Undefined e m = absurd m
    step_fits state fits choice (Does move effect) e m = let step = by_an_ask program state choice move effect e in
        subst (λ (x : Effect). StateFits program (after program state choice.thread move x)) (sym step.gives)
        (fits_later program well.typed well.timespec state fits choice move step.control step.frames step.inside step.stands step.offers step.ask step.asks)

    run_fits : (run : List Choice) → IsGoodRun program run → StateFits program (state_after program run)
    unfolding state_after outcome_of
    run_fits [] g = opening_fits well.typed
    run_fits (choice ∷ run) g = step_fits (state_after program run) (run_fits run g.0) choice (outcome program (state_after program run) choice) refl g.1

-- ---- undefined steps

any_found : {A : Type 0} (test : A → Bool) (xs : List A) → list_any test xs ≡ true → (x : A) × In x xs × (test x ≡ true)
any_found test [] e = absurd (cc)
any_found test (x ∷ xs) e = go (test x) refl e (any_found test xs)
  where
    go : (b : Bool) → test x ≡ b → (b || list_any test xs) ≡ true → (list_any test xs ≡ true → (y : _) × In y xs × (test y ≡ true)) → (y : _) × In y (x ∷ xs) × (test y ≡ true)
    go true q e h = (x, inl refl, q)
    go false q e h = let r = h e in (r.0, inr r.1, r.2)

module _ (program : Program) (well : IsWellFormed program) (state : State) (fits : StateFits program state) (choice : Choice) where
  of_request : (request : Request) → request_by program state choice ≡ Some request → is_undefined program state choice.thread request ≡ true → IsListed program state choice
  unfolding is_undefined
  of_request request r e = or_cases (has_no_thread state request) (list_any (is_broken program state choice.thread request) ending_guidelines) e
      (λ q. without_a_thread request r q)
      (λ q. let f = any_found (is_broken program state choice.thread request) ending_guidelines q in by_a_break request f.0 r (to_contains f.0 ending_guidelines f.1) f.2)

  of_asked : (control : Control) (frames : List Frame) (inside : Option Cell) (move : Move) (asked : Asked) → (state.thread choice.thread).stand ≡ Running control frames inside
      → move_at control choice.pair ≡ Some move → asked_by program state choice move inside ≡ asked → outcome_asked program state choice move frames asked ≡ Undefined → IsListed program state choice
  of_asked control frames inside move Not_so s o a e = absurd (cc)
  of_asked control frames inside move (No_meaning request) s o a e = let c = cause program well.typed well.timespec state fits choice move control frames inside s o request a in
      in_a_part control frames move (s ∙ ap (λ (w : Option Cell). Running control frames w) c.0) o c.1
  of_asked control frames inside move (Asks ask) s o a e = if_cases (may_move state choice.thread ask.request) _ _ _ e
      (λ _ f. if_cases (is_undefined program state choice.thread ask.request || lacks_result frames ask.turn) _ _ _ f
      (λ bad _. or_cases (is_undefined program state choice.thread ask.request) (lacks_result frames ask.turn) bad
      (λ q. of_request ask.request (ap (request_stand program state choice) s ∙ ap (request_moved program state choice inside) o ∙ ap request_in a) q)
      (λ q. without_a_result control frames inside move ask s o a q))
      (λ _ g. if_cases (may_answer state choice.thread ask.request) _ _ _ g (λ _ h. absurd (cc)) (λ _ h. absurd (cc))))
      (λ _ f. absurd (cc))

  of_moved : (control : Control) (frames : List Frame) (inside : Option Cell) (found : Option Move) → (state.thread choice.thread).stand ≡ Running control frames inside
      → move_at control choice.pair ≡ found → outcome_moved program state choice frames inside found ≡ Undefined → IsListed program state choice
  of_moved control frames inside None s o e = absurd (cc)
  of_moved control frames inside (Some move) s o e = of_asked control frames inside move _ s o refl e

  of_stand : (stand : Stand) → (state.thread choice.thread).stand ≡ stand → outcome_stand program state choice stand ≡ Undefined → IsListed program state choice
  of_stand Not_made s e = absurd (cc)
  of_stand (Ended result) s e = absurd (cc)
  of_stand (Running control frames inside) s e = of_moved control frames inside _ s refl e

  listed : outcome program state choice ≡ Undefined → IsListed program state choice
  unfolding outcome
  listed e = if_cases state.is_over _ _ _ e (λ _ f. absurd (cc)) (λ _ f. of_stand _ refl f)

-- ---- the laws

pub each_listed : (program : Program) → EachUndefinedStepIsListed program
unfolding outcome_of
each_listed program well run good choice e = listed program well (state_after program run) (run_fits program well run good) choice e

pub memory_typed : (program : Program) → MemoryIsTyped program
memory_typed program well run good = (run_fits program well run good).memory
