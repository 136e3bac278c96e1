-- Thread objects are in possible states, and where Rule 22.11 has no finding, no run breaks it.
use Rattle.std.proofs.Common.{◌≡◌, ◌≢◌, ◌⊎◌, inl, inr, refl, sym, subst, ap, ◌∙◌, Bool, true, false, ◌==◌, ℕ, ℤ, List, [], ◌∷◌, Option, Some, None, eqb-true}
use Rattle.std.specs.Prelude.{slice_get}
use Rattle.c_program.specs.declared.expression.Expr.{Expr}
use Rattle.misra_base.specs.declared.guideline.Guideline.TheVariants.{R22_11}
use Rattle.c_program.specs.declared.action.Local.{Local}
use Rattle.c_program.specs.declared.action.LibraryCall.{LibraryCall}
use Rattle.c_program.specs.declared.action.LibraryCall.TheVariants as lib
use Rattle.c_program.specs.declared.action.Act.{Act}
use Rattle.c_program.specs.declared.action.Act.TheVariants as act
use Rattle.c_program.specs.declared.program.Program.{Program}
use Rattle.c_program.specs.Syntax.{act_at}
use Rattle.c_program.specs.Values.{Cell, Value, Location, location_of, same_cell}
use Rattle.c_program.specs.Control.{Control, Move, Spot, Point}
use Rattle.c_program.specs.Evaluation.{Here, place_at}
use Rattle.c_program.specs.State.{State, Running, Frame, Mark, Unmarked, Joined, Detached, here}
use Rattle.c_program.specs.Requests.{Request, Creates, Joins, Detaches, Inits, Locks, Tries, Tries_timed, Unlocks, Destroys, Opens, Signals, Waits, Retakes, Closes, Makes_key, Gets_key, Sets_key, Deletes_key, Turn, Asks, asked, thread_type}
use Rattle.c_program.specs.Faults.{A_thread, Access, accesses_of, is_marked, target_of, if_any}
use Rattle.c_program.specs.Effects.{Sync, Resumes, Effect, effect_of, sync_of, sync_after, Makes, Marks}
use Rattle.c_program.specs.Step.{Choice, asked_by}
use Rattle.c_program.specs.Runs.{IsGoodRun, IsRun, state_after}
use Rattle.c_program.specs.Breaks.{Breaks, request_in}
use Rattle.c_program.specs.WellFormed.{IsWellFormed}
use Rattle.c_program.specs.Paths.{Offers, stands_at}
use Rattle.c_program.specs.Laws.{IsRequestBy, NamesAt, Names as RequestNames, accesses_object}
use Rattle.c_program.proofs.Asking.{by_a_move}
use Rattle.c_program.proofs.Asks.{EachAsk, from_each}
use Rattle.c_program.proofs.Cells.{cell_same}
use Rattle.c_program.proofs.Named.{named}
use Rattle.c_program.proofs.Standing.{is_point}
use Rattle.path_simulation.specs.Simulates.{LastStep, origin_in}
use Rattle.pointer_targets.specs.Names.{Names}
use Rattle.static_facts.proofs.MutexAsks.{RetakesBy, retakes_by}
use Rattle.static_facts.proofs.Remembering.{sync_is}
use Rattle.static_facts.specs.ObjectStates.{ObjectState, Is_joined, Is_detached, Doing, IsStateOf}
use Rattle.static_facts.specs.Seen.{when, use_by, use_with, mark_use}
use Rattle.static_facts.specs.ThreadStates.{MayBe, along, made_outside}
use Rattle.static_facts.specs.ThreadLaws.{state_of_mark, state_held, state_of_object}
use Rattle.guideline_findings.specs.LifeLaws.{NoneOutside, ThreadStatesArePossible}
use Rattle.guideline_findings.specs.Threads.{Releases}
use Rattle.guideline_findings.proofs.Unfound.{NoRelease}
use Rattle.static_facts.proofs.Asking.{Leads}
use Rattle.static_facts.proofs.Accessing.{EachAccess, found_access, typed_accesses, both_each}
use Rattle.static_facts.proofs.Births.{initial_origin}
use Rattle.static_facts.proofs.Ending.{one_sort}
use Rattle.static_facts.proofs.Holding.{IsOurs, object_seen}
use Rattle.static_facts.proofs.Ordering.{what_is_seen}
use Rattle.static_facts.proofs.Reaching.{reachable}
use Rattle.static_facts.proofs.Simulating.{place_typed}
use Rattle.guideline_findings.proofs.SilenceOfLives.{created_thread}
use Rattle.static_facts.proofs.Stopping.{led}
use Rattle.static_facts.specs.ObjectPaths.{MayBeAlong}
use Rattle.c_program.specs.Counters.{arguments_of}
use Rattle.pointer_targets.specs.LibraryObjects.{type_of_sort, is_of_sort, IsObjectAt, LeadsToObject}
use Rattle.pointer_targets.proofs.Told.{Told, ObjectsAreStatic}
use Rattle.static_facts.specs.Points.{is_creation}
use Rattle.static_facts.specs.Candidates.{releases_thread}

-- a call that creates, joins or detaches by the object of its first argument
pub record IsThreadCall (here : Here) (action : Act) (cell : Cell) : Type 0 where
  pub leads : Leads here action A_thread 0 cell
  pub kind : (is_creation action ≡ true) ⊎ (releases_thread action ≡ true)

module _ (here : Here) where
  to : (call : LibraryCall) (into : Option Local) (e : Expr) (c : Cell) → slice_get (arguments_of call) 0 ≡ Some e → place_at here thread_type e ≡ Some c
      → Leads here (act.Library call into) A_thread 0 c
  to call into e c h p = record { call = call; into = into; expression = e; is_call = refl; has = h; leads = p }

  create_call : (action : Act) (object : Cell) (f : ℕ) (v : Value) (z : ℤ) → RequestNames here action (Creates object f v z) → IsThreadCall here action object
  create_call (act.Library (lib.ThreadCreate o g e) into) object f v z n = record { leads = to (lib.ThreadCreate o g e) into o object refl n.0; kind = inl refl }
  create_call _ object f v z n = absurd n

  pub join_call : (action : Act) (object : Cell) (r : Option Cell) → RequestNames here action (Joins object r) → Leads here action A_thread 0 object × (releases_thread action ≡ true)
  join_call (act.Library (lib.ThreadJoin o e) into) object r n = (to (lib.ThreadJoin o e) into o object refl n, refl)
  join_call _ object r n = absurd n

  pub detach_call : (action : Act) (object : Cell) → RequestNames here action (Detaches object) → Leads here action A_thread 0 object × (releases_thread action ≡ true)
  detach_call (act.Library (lib.ThreadDetach o) into) object n = (to (lib.ThreadDetach o) into o object refl n, refl)
  detach_call _ object n = absurd n

  abbrev pub IfThread : Act → Access → Type 0
  IfThread action access = access.sort ≡ A_thread → IsThreadCall here action access.cell

  -- the accesses to thread objects
  thread_accesses : (action : Act) (request : Request) → RequestNames here action request → EachAccess (IfThread action) (accesses_of request)
  thread_accesses action (Creates object f v z) n = ((λ t. create_call action object f v z n), tt)
  thread_accesses action (Joins object r) n = ((λ t. let c = join_call action object r n in record { leads = c.0; kind = inr c.1 }), tt)
  thread_accesses action (Detaches object) n = ((λ t. let c = detach_call action object n in record { leads = c.0; kind = inr c.1 }), tt)
  thread_accesses action (Inits m kind z) n = ((λ t. absurd (cc)), tt)
  thread_accesses action (Locks m) n = ((λ t. absurd (cc)), tt)
  thread_accesses action (Tries m z) n = ((λ t. absurd (cc)), tt)
  thread_accesses action (Tries_timed m z) n = ((λ t. absurd (cc)), tt)
  thread_accesses action (Unlocks m) n = ((λ t. absurd (cc)), tt)
  thread_accesses action (Destroys m) n = ((λ t. absurd (cc)), tt)
  thread_accesses action (Opens c z) n = ((λ t. absurd (cc)), tt)
  thread_accesses action (Closes c) n = ((λ t. absurd (cc)), tt)
  thread_accesses action (Signals c) n = ((λ t. absurd (cc)), tt)
  thread_accesses action (Waits c m) n = ((λ t. absurd (cc)), ((λ t. absurd (cc)), tt))
  thread_accesses action (Makes_key k z) n = ((λ t. absurd (cc)), tt)
  thread_accesses action (Gets_key k) n = ((λ t. absurd (cc)), tt)
  thread_accesses action (Sets_key k v) n = ((λ t. absurd (cc)), tt)
  thread_accesses action (Deletes_key k) n = ((λ t. absurd (cc)), tt)
  thread_accesses action (Retakes m z) n = ((λ t. absurd (cc)), tt)
  thread_accesses action _ n = tt

-- what does something with an object accesses it
when_accessed : (b : Bool) (own doing : Doing) → when b own ≡ Some doing → b ≡ true
when_accessed true own doing e = refl
when_accessed false own doing e = absurd (cc)

mark_accessed : (mark : Mark) (b : Bool) (doing : Doing) → mark_use mark b ≡ Some doing → b ≡ true
mark_accessed Joined b doing e = when_accessed b _ doing e
mark_accessed Detached b doing e = when_accessed b _ doing e
mark_accessed Unmarked b doing e = absurd (cc)

use_accessed : (sync : Sync) (b : Bool) (doing : Doing) → use_by sync A_thread b ≡ Some doing → b ≡ true
use_accessed (Makes object f) b doing e = when_accessed b _ doing e
use_accessed (Marks k mark) b doing e = mark_accessed mark b doing e
use_accessed _ b doing e = absurd (cc)

module _ (program : Program) (well : IsWellFormed program) (names : Names) (premises : Told program names) where
  -- ---- a step that uses a thread object is by a call that names it

  module _ (cell : Cell) (of_sort : is_of_sort program A_thread cell ≡ true) (choice : Choice) (run : List Choice) (step : LastStep program choice run)
      (doing : Doing) (used : use_with step.effect A_thread cell ≡ Some doing) where
    abbrev state : State
    state = state_after program run

    abbrev action : Act
    action = act_at program step.move.action

    abbrev now : Here
    now = here program state choice.thread

    outside : step.by.inside ≡ None
    outside = go step.by.inside step.by.asks
      where
        no_use : (m : Cell) (b : Bool) → use_by (Resumes m) A_thread b ≡ Some doing → ⊥
        no_use m b e = cc

        go : (inside : Option Cell) → asked_by program state choice step.move inside ≡ Asks step.by.ask → inside ≡ None
        go None a = refl
        go (Some m) a = let r = from_each (RetakesBy action m) step.by.ask (subst (EachAsk (RetakesBy action m)) a (retakes_by action m choice.values)) in
            absurd (no_use m (accesses_object step.effect cell) (sym (ap (λ (y : Sync). use_by y A_thread (accesses_object step.effect cell))
            (sync_is program well choice run step ∙ ap (λ (x : Turn). sync_after step.by.frames x (sync_of state step.by.ask.request)) r.goes ∙ ap (λ (q : Request). sync_of state q) r.asks)) ∙ used))

    asks_here : asked now action choice.pair choice.values ≡ Asks step.by.ask
    asks_here = subst (λ (inside : Option Cell). asked_by program state choice step.move inside ≡ Asks step.by.ask) outside step.by.asks

    pub stands_here : (state.thread choice.thread).stand ≡ Running step.by.control step.by.frames None
    stands_here = step.by.stands ∙ ap (λ (i : Option Cell). Running step.by.control step.by.frames i) outside

    pub thread_call : IsThreadCall now action cell
    unfolding effect_of
    thread_call =
        let n = named now action choice.pair choice.values step.by.ask.request (ap request_in asks_here) in
        let ours = sym (ap (λ (x : Effect). accesses_object x cell) step.by.gives) ∙ use_accessed step.effect.sync (accesses_object step.effect cell) doing used in
        let f = found_access (λ x. IfThread now action x × (is_of_sort program x.sort x.cell ≡ true)) (λ access. same_cell access.cell cell) (accesses_of step.by.ask.request)
        (both_each (IfThread now action) (λ x. is_of_sort program x.sort x.cell ≡ true) (accesses_of step.by.ask.request)
        (thread_accesses now action step.by.ask.request n) (typed_accesses now action step.by.ask.request n)) ours in
        let c = cell_same f.0.cell cell f.1.1 in
        let q = one_sort program cell f.0.sort A_thread (subst (λ (x : Cell). is_of_sort program f.0.sort x ≡ true) c f.1.0.1) of_sort in
        subst (λ (x : Cell). IsThreadCall now action x) c (f.1.0.0 q)

  -- ---- where a thread stands before such a call

  leads_to : (run : List Choice) (thread : ℕ) (control : Control) (frames : List Frame) (move : Move) (cell : Cell) → ((state_after program run).thread thread).stand ≡ Running control frames None → Offers control move
      → Leads (here program (state_after program run) thread) (act_at program move.action) A_thread 0 cell
      → LeadsToObject program (type_of_sort A_thread) run thread (stands_at (origin_in program run thread) control move) 0 cell
  leads_to run thread control frames move cell s o l = record {
    control = control;
    frames = frames;
    move = move;
    call = l.call;
    into = l.into;
    expression = l.expression;
    stands = s;
    offers = o;
    here_is = refl;
    is_call = l.is_call;
    has = l.has;
    leads = l.leads;
  }

  releases_at : (run : List Choice) → IsGoodRun program run → (thread : ℕ) (control : Control) (frames : List Frame) (move : Move) (cell : Cell)
      → ((state_after program run).thread thread).stand ≡ Running control frames None → Offers control move
      → Leads (here program (state_after program run) thread) (act_at program move.action) A_thread 0 cell → releases_thread (act_at program move.action) ≡ true
      → (location : Location) → IsObjectAt program A_thread cell location
      → Releases program names (origin_in program run thread) (stands_at (origin_in program run thread) control move) location
  releases_at run good thread control frames move cell s o l e location at = record {
    reachable = reachable program well run good thread control frames None move s o;
    releases = e;
    candidate = record {
      named = premises.may_name run thread (stands_at (origin_in program run thread) control move) A_thread 0 cell location good (leads_to run thread control frames move cell s o l) at.here;
      cell = cell;
      here = at.here;
      of_sort = at.of_sort;
    };
  }

  -- where no call of another thread may use the object, none does
  ours_by : (cell : Cell) (location : Location) → IsObjectAt program A_thread cell location → NoneOutside program names location → IsOurs program well cell
  ours_by cell location at none choice run step z doing u = go call.kind
    where
      call : IsThreadCall (here program (state_after program run) choice.thread) (act_at program step.move.action) cell
      call = thread_call cell at.of_sort choice run step doing u

      stands : ((state_after program run).thread choice.thread).stand ≡ Running step.by.control step.by.frames None
      stands = stands_here cell at.of_sort choice run step doing u

      created : origin_in program run choice.thread ≢ []
      created = created_thread program well run step.good choice.thread step.by.control step.by.frames None stands z

      go : (is_creation (act_at program step.move.action) ≡ true) ⊎ (releases_thread (act_at program step.move.action) ≡ true) → ⊥
      go (inl e) = none.0 (let f = led program well run step.good choice.thread step.by.control step.by.frames None stands in record {
        thread = origin_in program run choice.thread;
        outside = created;
        point = stands_at (origin_in program run choice.thread) step.by.control step.move;
        creation = record {
          is_point = is_point program well (origin_in program run choice.thread) f.function step.by.control step.move f.leads f.stands (choice.pair, step.by.offers);
          creates = e;
        };
        named = premises.may_name run choice.thread (stands_at (origin_in program run choice.thread) step.by.control step.move) A_thread 0 cell location step.good
            (leads_to run choice.thread step.by.control step.by.frames step.move cell stands (choice.pair, step.by.offers) call.leads) at.here;
      })
      go (inr e) = none.1 (origin_in program run choice.thread) (stands_at (origin_in program run choice.thread) step.by.control step.move) (record {
        releases = releases_at run step.good choice.thread step.by.control step.by.frames step.move cell stands (choice.pair, step.by.offers) call.leads e location at;
        elsewhere = created;
      })

  of_mark : (mark : Mark) → IsStateOf A_thread (state_of_mark mark)
  of_mark Unmarked = tt
  of_mark Joined = tt
  of_mark Detached = tt

  of_thread : (state : State) (held : Option ℕ) → IsStateOf A_thread (state_held state held)
  of_thread s None = tt
  of_thread s (Some thread) = of_mark (s.thread thread).mark

  pub states_possible : ThreadStatesArePossible program names
  states_possible cell location at none run good control frames inside move s o =
      along (stands_at [] control move) (state_of_object (state_after program run) cell) (of_thread (state_after program run) ((state_after program run).holds cell))
      (subst (λ (x : ObjectState). MayBeAlong program names A_thread location (stands_at [] control move) x)
      (sym (object_seen program well cell (ours_by cell location at none) run good))
      (what_is_seen program well names premises A_thread cell location at run good control frames inside move s o))

  -- ---- Rule 22.11

  module _ (static : ObjectsAreStatic program) (none : NoRelease program names) (run : List Choice) (good : IsGoodRun program run) (choice : Choice) where
    marked_state : (mark : Mark) → is_marked mark ≡ true → (state_of_mark mark ≡ Is_joined) ⊎ (state_of_mark mark ≡ Is_detached)
    marked_state Joined e = inl refl
    marked_state Detached e = inr refl
    marked_state Unmarked e = absurd (cc)

    held_state : (state : State) (held : Option ℕ) → if_any (λ t. is_marked (state.thread t).mark) held ≡ true → (state_held state held ≡ Is_joined) ⊎ (state_held state held ≡ Is_detached)
    held_state state None e = absurd (cc)
    held_state state (Some t) e = marked_state (state.thread t).mark e

    again : (cell : Cell) (control : Control) (frames : List Frame) (move : Move) → ((state_after program run).thread choice.thread).stand ≡ Running control frames None → Offers control move
        → Leads (here program (state_after program run) choice.thread) (act_at program move.action) A_thread 0 cell × (releases_thread (act_at program move.action) ≡ true)
        → if_any (λ t. is_marked ((state_after program run).thread t).mark) ((state_after program run).holds cell) ≡ true → ⊥
    again cell control frames move s o l e = by_thread (choice.thread == 0) refl
      where
        thread : List Spot
        thread = origin_in program run choice.thread

        point : Point
        point = stands_at (origin_in program run choice.thread) control move

        found : (location : Location) × (location_of program cell ≡ Some location)
        found = static run choice.thread (stands_at (origin_in program run choice.thread) control move) A_thread 0 cell good (leads_to run choice.thread control frames move cell s o l.0)

        at : IsObjectAt program A_thread cell found.0
        at = record { here = found.1; of_sort = place_typed (here program (state_after program run) choice.thread) (type_of_sort A_thread) l.0.expression cell l.0.leads }

        releases : Releases program names (origin_in program run choice.thread) (stands_at (origin_in program run choice.thread) control move) found.0
        releases = releases_at run good choice.thread control frames move cell s o l.0 l.1 found.0 at

        none_outside : NoneOutside program names found.0
        none_outside = (
          (λ m. none.again (origin_in program run choice.thread) (stands_at (origin_in program run choice.thread) control move) found.0 releases
              (inl (made_outside (origin_in program run choice.thread) (stands_at (origin_in program run choice.thread) control move) Is_joined tt m))),
          (λ t p q. none.outside t p found.0 q),
        )

        by_thread : (b : Bool) → (choice.thread == 0) ≡ b → ⊥
        by_thread false z = none.outside (origin_in program run choice.thread) (stands_at (origin_in program run choice.thread) control move) found.0
            (record { releases = releases; elsewhere = created_thread program well run good choice.thread control frames None s z })
        by_thread true z = none.again (origin_in program run choice.thread) (stands_at (origin_in program run choice.thread) control move) found.0 releases may_be
          where
            initial : origin_in program run choice.thread ≡ []
            initial = ap (λ n. origin_in program run n) (eqb-true choice.thread 0 z) ∙ initial_origin program well run good

            here_may : MayBe program names found.0 (origin_in program run choice.thread) (stands_at (origin_in program run choice.thread) control move) (state_of_object (state_after program run) cell)
            here_may = subst (λ (x : List Spot). MayBe program names found.0 x (stands_at x control move) (state_of_object (state_after program run) cell)) (sym initial)
                (states_possible cell found.0 at none_outside run good control frames None move (ap (λ n. ((state_after program run).thread n).stand) (sym (eqb-true choice.thread 0 z)) ∙ s) o)

            may_be : MayBe program names found.0 (origin_in program run choice.thread) (stands_at (origin_in program run choice.thread) control move) Is_joined
                ⊎ MayBe program names found.0 (origin_in program run choice.thread) (stands_at (origin_in program run choice.thread) control move) Is_detached
            may_be = elim (held_state (state_after program run) ((state_after program run).holds cell) e) [
              | inl j ↦ inl (subst (MayBe program names found.0 (origin_in program run choice.thread) (stands_at (origin_in program run choice.thread) control move)) j here_may)
              | inr d ↦ inr (subst (MayBe program names found.0 (origin_in program run choice.thread) (stands_at (origin_in program run choice.thread) control move)) d here_may)
            ]

    released : (request : Request) → IsRequestBy program (state_after program run) choice request
        → if_any (λ t. is_marked ((state_after program run).thread t).mark) (target_of (state_after program run) request) ≡ true → ⊥
    released (Joins object r) w e = go w.inside w.stands w.names
      where
        go : (inside : Option Cell) → ((state_after program run).thread choice.thread).stand ≡ Running w.control w.frames inside
            → NamesAt (here program (state_after program run) choice.thread) (act_at program w.move.action) inside (Joins object r) → ⊥
        go None s n = again object w.control w.frames w.move s (choice.pair, w.offers) (join_call (here program (state_after program run) choice.thread) (act_at program w.move.action) object r n) e
        go (Some x) s n = let q = n.1 in cc
    released (Detaches object) w e = go w.inside w.stands w.names
      where
        go : (inside : Option Cell) → ((state_after program run).thread choice.thread).stand ≡ Running w.control w.frames inside
            → NamesAt (here program (state_after program run) choice.thread) (act_at program w.move.action) inside (Detaches object) → ⊥
        go None s n = again object w.control w.frames w.move s (choice.pair, w.offers) (detach_call (here program (state_after program run) choice.thread) (act_at program w.move.action) object n) e
        go (Some x) s n = let q = n.1 in cc
    released _ w e = absurd (cc)

  pub silent_11 : ObjectsAreStatic program → NoRelease program names → (run : List Choice) → IsRun program run → Breaks R22_11 program run → ⊥
  silent_11 static none [] r b = b
  silent_11 static none (choice ∷ run) r b = released static none run r.0 choice b.0 (by_a_move program (state_after program run) choice b.0 b.1) b.2
