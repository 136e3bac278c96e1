-- The first step of a wait leaves what its thread remembers.
use Rattle.std.proofs.Common.{◌≡◌, refl, sym, subst, ap, ◌∙◌, Bool, true, false, ℕ, List, [], ◌∷◌, ◌++◌, Option, Some, None}
use Rattle.c_program.specs.declared.program.Program.{Program}
use Rattle.c_program.specs.Syntax.{act_at}
use Rattle.c_program.specs.Values.{Cell, Value}
use Rattle.c_program.specs.Control.{Spot, string_of}
use Rattle.c_program.specs.State.{State, Mark as Mark_of, Stand, Running, Frame, top, here}
use Rattle.c_program.specs.Types.{is_zero}
use Rattle.c_program.specs.Requests.{Request, Creates, Joins, Detaches, Inits, Tries, Tries_timed, Opens, Makes_key, Waits, Turn, Goes, Enters, Leaves, Exits, Asks, Store, asked}
use Rattle.c_program.specs.Effects.{Sync, Suspends, Resumes, Effect, effect_of, stores_of, put_result, memory_after, sync_of, sync_after, if_done, marks, own_stand, after}
use Rattle.c_program.specs.Step.{Choice, asked_by}
use Rattle.c_program.specs.Runs.{state_after}
use Rattle.c_program.specs.Breaks.{request_in}
use Rattle.c_program.specs.WellFormed.{IsWellFormed}
use Rattle.c_program.specs.Laws.{Names as RequestNames}
use Rattle.c_program.proofs.Asks.{EachAsk, from_each}
use Rattle.c_program.proofs.Named.{named}
use Rattle.path_simulation.specs.Simulates.{LastStep}
use Rattle.static_facts.specs.Outcomes.{Remembered}
use Rattle.static_facts.specs.Owning.{OutcomeAt, OutcomeIn}
use Rattle.static_facts.proofs.Later.{own_later, own_origin}
use Rattle.static_facts.proofs.MutexAsks.{WaitsBy, wait_asks, wait_named, RetakesBy, retakes_by}
use Rattle.static_facts.proofs.Remembering.{sync_is}

-- ---- which request suspends

done_suspends : (b : Bool) (sync : Sync) (d m : Cell) → (sync ≡ Suspends d m → ⊥) → if_done b sync ≡ Suspends d m → ⊥
done_suspends true sync d m n e = n e
done_suspends false sync d m n e = cc

marks_suspends : (held : Option ℕ) (mark : Mark_of) (d m : Cell) → marks held mark ≡ Suspends d m → ⊥
marks_suspends None mark d m e = cc
marks_suspends (Some t) mark d m e = cc

suspends_of : (state : State) (request : Request) (d m : Cell) → sync_of state request ≡ Suspends d m → request ≡ Waits d m
suspends_of state (Waits c k) d m e = same c k e
  where
    same : (c k : Cell) → Suspends c k ≡ Suspends d m → Waits c k ≡ Waits d m
    same c k e = cc
suspends_of state (Creates object f v result) d m e = absurd (done_suspends (is_zero result) _ d m (λ q. cc) e)
suspends_of state (Joins object into) d m e = absurd (marks_suspends (state.holds object) _ d m e)
suspends_of state (Detaches object) d m e = absurd (marks_suspends (state.holds object) _ d m e)
suspends_of state (Inits k kind result) d m e = absurd (done_suspends (is_zero result) _ d m (λ q. cc) e)
suspends_of state (Tries k result) d m e = absurd (done_suspends (is_zero result) _ d m (λ q. cc) e)
suspends_of state (Tries_timed k result) d m e = absurd (done_suspends (is_zero result) _ d m (λ q. cc) e)
suspends_of state (Opens c result) d m e = absurd (done_suspends (is_zero result) _ d m (λ q. cc) e)
suspends_of state (Makes_key k result) d m e = absurd (done_suspends (is_zero result) _ d m (λ q. cc) e)
suspends_of state _ d m e = absurd (cc)

suspends_by : (state : State) (frames : List Frame) (turn : Turn) (request : Request) (d m : Cell) → sync_after frames turn (sync_of state request) ≡ Suspends d m → request ≡ Waits d m
suspends_by state frames Goes request d m e = suspends_of state request d m e
suspends_by state frames (Enters f arguments result) request d m e = suspends_of state request d m e
suspends_by state frames (Exits result) request d m e = absurd (cc)
suspends_by state [] (Leaves result) request d m e = absurd (cc)
suspends_by state (frame ∷ []) (Leaves result) request d m e = absurd (cc)
suspends_by state (frame ∷ caller ∷ frames) (Leaves result) request d m e = suspends_of state request d m e

module _ (program : Program) (well : IsWellFormed program) (choice : Choice) (run : List Choice) (step : LastStep program choice run) where
  abbrev t : ℕ
  t = choice.thread

  abbrev state : State
  state = state_after program run

  abbrev later : State
  later = after program state t step.move step.effect

  -- ---- the first step of a wait

  module _ (d m : Cell) (sync : step.effect.sync ≡ Suspends d m) where
    outside : step.by.inside ≡ None
    outside = go step.by.inside step.by.asks
      where
        unlike : (x : Cell) → Resumes x ≡ Suspends d m → ⊥
        unlike x e = cc

        go : (inside : Option Cell) → asked_by program state choice step.move inside ≡ Asks step.by.ask → inside ≡ None
        go None a = refl
        go (Some x) a = let r = from_each (RetakesBy (act_at program step.move.action) x) step.by.ask
            (subst (EachAsk (RetakesBy (act_at program step.move.action) x)) a (retakes_by (act_at program step.move.action) x choice.values)) in
            absurd (unlike x (sym (sync_is program well choice run step ∙ ap (λ (y : Turn). sync_after step.by.frames y (sync_of state step.by.ask.request)) r.goes
            ∙ ap (λ (q : Request). sync_of state q) r.asks) ∙ sync))

    asks_here : asked (here program state t) (act_at program step.move.action) choice.pair choice.values ≡ Asks step.by.ask
    asks_here = subst (λ (inside : Option Cell). asked_by program state choice step.move inside ≡ Asks step.by.ask) outside step.by.asks

    pub is_waiting : step.by.ask.request ≡ Waits d m
    is_waiting = suspends_by state step.by.frames step.by.ask.turn step.by.ask.request d m (sym (sync_is program well choice run step) ∙ sync)

    waits_by : WaitsBy (here program state t) (act_at program step.move.action) step.by.ask
    waits_by = from_each (WaitsBy (here program state t) (act_at program step.move.action)) step.by.ask
        (subst (EachAsk (WaitsBy (here program state t) (act_at program step.move.action))) asks_here
        (wait_asks (here program state t) (act_at program step.move.action) choice.pair choice.values
        (wait_named (here program state t) (act_at program step.move.action) d m
        (subst (λ (q : Request). RequestNames (here program state t) (act_at program step.move.action) q) is_waiting
        (named (here program state t) (act_at program step.move.action) choice.pair choice.values step.by.ask.request (ap request_in asks_here))))))

    no_stores : step.effect.stores ≡ []
    unfolding effect_of
    no_stores = ap (λ (x : Effect). x.stores) step.by.gives ∙ ap (λ (q : Request). stores_of program state t step.by.frames step.by.ask q step.by.ask.turn) is_waiting
        ∙ ap (λ (s : List Store). s ++ put_result (top step.by.frames) step.by.ask.into step.by.ask.result) waits_by.stores
        ∙ ap (λ (o : Option Value). put_result (top step.by.frames) step.by.ask.into o) waits_by.result

    memory_stays : (cell : Cell) → later.memory cell ≡ state.memory cell
    unfolding after
    memory_stays cell = ap (λ (s : List Store). memory_after s state.memory cell) no_stores

    pub stand_later : (later.thread t).stand ≡ Running step.by.control step.by.frames (Some m)
    stand_later = own_later program well choice run step ∙ ap (λ (y : Sync). own_stand program step.move step.effect state.called step.by.control step.by.frames y) sync

    kept_waiting : (origin : List Spot) (o : Option Remembered) → OutcomeAt program state.memory (string_of step.by.control ++ origin) step.by.frames o
        → OutcomeAt program later.memory (string_of step.by.control ++ origin) step.by.frames o
    kept_waiting origin None k = tt
    kept_waiting origin (Some r) k = record {
      call = k.call;
      number = k.number;
      frame = k.frame;
      holds = memory_stays _ ∙ k.holds;
      is_answer = k.is_answer;
      is_so = k.is_so;
      automatic = k.automatic;
      unaddressed = k.unaddressed;
    }

    pub waits_in : (o : Option Remembered) → OutcomeIn program state.memory (state.thread t).origin (state.thread t).stand o
        → OutcomeIn program (state_after program (choice ∷ run)).memory ((state_after program (choice ∷ run)).thread t).origin ((state_after program (choice ∷ run)).thread t).stand o
    waits_in o k = subst (λ (s : State). OutcomeIn program s.memory (s.thread t).origin (s.thread t).stand o) (sym step.leads)
        (subst (λ (l : List Spot). OutcomeIn program later.memory l (later.thread t).stand o) (sym (own_origin program well choice run step))
        (subst (λ (s : Stand). OutcomeIn program later.memory (state.thread t).origin s o) (sym stand_later)
        (kept_waiting (state.thread t).origin o (subst (λ (s : Stand). OutcomeIn program state.memory (state.thread t).origin s o) step.by.stands k))))
