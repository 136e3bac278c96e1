-- Which call asks for which objects, and which request makes a step wait or create.
use Rattle.std.proofs.Common.{◌≡◌, refl, Bool, true, false, ℕ, ℤ, List, [], ◌∷◌, Option, Some, None}
use Rattle.c_program.specs.declared.action.LibraryCall.TheVariants as lib
use Rattle.c_program.specs.declared.action.Act.{Act}
use Rattle.c_program.specs.declared.action.Act.TheVariants as act
use Rattle.c_program.specs.Types.{is_zero}
use Rattle.c_program.specs.Values.{Cell, Value}
use Rattle.c_program.specs.Evaluation.{Here}
use Rattle.c_program.specs.State.{State, Frame, Mark}
use Rattle.c_program.specs.Requests.{Request, Creates, Joins, Detaches, Inits, Locks, Tries, Tries_timed, Opens, Waits, Makes_key, Turn, Goes, Enters, Leaves, Exits}
use Rattle.c_program.specs.Faults.{A_mutex, A_condition, A_thread}
use Rattle.c_program.specs.Effects.{Sync, Makes, Suspends, if_done, marks, sync_of, sync_after}
use Rattle.c_program.specs.Laws.{Names as RequestNames}
use Rattle.guideline_findings.specs.Graph.{takes_mutex}
use Rattle.guideline_findings.specs.Mutexes.{is_wait, is_timed_lock}
use Rattle.guideline_findings.proofs.Candidate.{Leads}
use Rattle.static_facts.specs.Points.{is_creation}
use Rattle.static_facts.specs.Candidates.{is_join}

-- ---- arguments

pub record WaitLeads (here : Here) (action : Act) (c m : Cell) : Type 0 where
  pub is : is_wait action ≡ true
  pub takes : takes_mutex action ≡ Some 1
  pub condition : Leads here action 0 A_condition c
  pub mutex : Leads here action 1 A_mutex m

module _ (here : Here) where
  pub lock_leads : (action : Act) (m : Cell) → RequestNames here action (Locks m) → (takes_mutex action ≡ Some 0) × Leads here action 0 A_mutex m
  lock_leads (act.Library (lib.MutexLock e) into) m n = (refl, record { call = lib.MutexLock e; into = into; expression = e; is_call = refl; has = refl; leads = n })
  lock_leads _ m n = absurd n

  pub timed_leads : (action : Act) (m : Cell) (z : ℤ) → RequestNames here action (Tries_timed m z) → (is_timed_lock action ≡ true) × Leads here action 0 A_mutex m
  timed_leads (act.Library (lib.MutexTimedLock e t) into) m z n = (refl, record { call = lib.MutexTimedLock e t; into = into; expression = e; is_call = refl; has = refl; leads = n })
  timed_leads _ m z n = absurd n

  pub wait_leads : (action : Act) (c m : Cell) → RequestNames here action (Waits c m) → WaitLeads here action c m
  wait_leads (act.Library (lib.ConditionWait e d) into) c m n = record {
    is = refl;
    takes = refl;
    condition = record { call = lib.ConditionWait e d; into = into; expression = e; is_call = refl; has = refl; leads = n.0 };
    mutex = record { call = lib.ConditionWait e d; into = into; expression = d; is_call = refl; has = refl; leads = n.1 };
  }
  wait_leads (act.Library (lib.ConditionTimedWait e d t) into) c m n = record {
    is = refl;
    takes = refl;
    condition = record { call = lib.ConditionTimedWait e d t; into = into; expression = e; is_call = refl; has = refl; leads = n.0 };
    mutex = record { call = lib.ConditionTimedWait e d t; into = into; expression = d; is_call = refl; has = refl; leads = n.1 };
  }
  wait_leads _ c m n = absurd n

  pub join_leads : (action : Act) (object : Cell) (to : Option Cell) → RequestNames here action (Joins object to) → (is_join action ≡ true) × Leads here action 0 A_thread object
  join_leads (act.Library (lib.ThreadJoin o e) into) object to n = (refl, record { call = lib.ThreadJoin o e; into = into; expression = o; is_call = refl; has = refl; leads = n })
  join_leads _ object to n = absurd n

  pub creation_leads : (action : Act) (object : Cell) (function : ℕ) (v : Value) (z : ℤ) → RequestNames here action (Creates object function v z) → (is_creation action ≡ true) × Leads here action 0 A_thread object
  creation_leads (act.Library (lib.ThreadCreate o f e) into) object function v z n = (refl, record { call = lib.ThreadCreate o f e; into = into; expression = o; is_call = refl; has = refl; leads = n.0 })
  creation_leads _ object function v z n = absurd n

-- ---- the first step of a wait

done_suspends : (b : Bool) (sync : Sync) (c m : Cell) → (sync ≡ Suspends c m → ⊥) → if_done b sync ≡ Suspends c m → ⊥
done_suspends true sync c m n e = n e
done_suspends false sync c m n e = cc

marks_suspends : (held : Option ℕ) (mark : Mark) (c m : Cell) → marks held mark ≡ Suspends c m → ⊥
marks_suspends None mark c m e = cc
marks_suspends (Some t) mark c m e = cc

suspends_of : (state : State) (request : Request) (c m : Cell) → sync_of state request ≡ Suspends c m → request ≡ Waits c m
suspends_of state (Waits d k) c m e = same e
  where
    same : Suspends d k ≡ Suspends c m → Waits d k ≡ Waits c m
    same q = cc
suspends_of state (Creates object f v result) c m e = absurd (done_suspends (is_zero result) _ c m (λ q. cc) e)
suspends_of state (Joins object into) c m e = absurd (marks_suspends (state.holds object) _ c m e)
suspends_of state (Detaches object) c m e = absurd (marks_suspends (state.holds object) _ c m e)
suspends_of state (Inits k kind result) c m e = absurd (done_suspends (is_zero result) _ c m (λ q. cc) e)
suspends_of state (Tries k result) c m e = absurd (done_suspends (is_zero result) _ c m (λ q. cc) e)
suspends_of state (Tries_timed k result) c m e = absurd (done_suspends (is_zero result) _ c m (λ q. cc) e)
suspends_of state (Opens d result) c m e = absurd (done_suspends (is_zero result) _ c m (λ q. cc) e)
suspends_of state (Makes_key k result) c m e = absurd (done_suspends (is_zero result) _ c m (λ q. cc) e)
suspends_of state _ c m e = absurd (cc)

pub suspends_by : (state : State) (frames : List Frame) (turn : Turn) (request : Request) (c m : Cell) → sync_after frames turn (sync_of state request) ≡ Suspends c m → request ≡ Waits c m
suspends_by state frames Goes request c m e = suspends_of state request c m e
suspends_by state frames (Enters f arguments result) request c m e = suspends_of state request c m e
suspends_by state frames (Exits result) request c m e = absurd (cc)
suspends_by state [] (Leaves result) request c m e = absurd (cc)
suspends_by state (frame ∷ []) (Leaves result) request c m e = absurd (cc)
suspends_by state (frame ∷ caller ∷ frames) (Leaves result) request c m e = suspends_of state request c m e

-- ---- a creation

pub record IsCreationOf (request : Request) (object : Cell) (function : ℕ) : Type 0 where
  pub argument : Value
  pub result : ℤ
  pub is : request ≡ Creates object function argument result

done_makes : (b : Bool) (sync : Sync) (o : Cell) (f : ℕ) → (sync ≡ Makes o f → ⊥) → if_done b sync ≡ Makes o f → ⊥
done_makes true sync o f n e = n e
done_makes false sync o f n e = cc

marks_makes : (held : Option ℕ) (mark : Mark) (o : Cell) (f : ℕ) → marks held mark ≡ Makes o f → ⊥
marks_makes None mark o f e = cc
marks_makes (Some t) mark o f e = cc

makes_of : (state : State) (request : Request) (o : Cell) (f : ℕ) → sync_of state request ≡ Makes o f → IsCreationOf request o f
makes_of state (Creates object g v result) o f e = go (is_zero result) e
  where
    same : Makes object g ≡ Makes o f → Creates object g v result ≡ Creates o f v result
    same q = cc

    go : (b : Bool) → if_done b (Makes object g) ≡ Makes o f → IsCreationOf (Creates object g v result) o f
    go true q = record { argument = v; result = result; is = same q }
    go false q = absurd (cc)
makes_of state (Joins object into) o f e = absurd (marks_makes (state.holds object) _ o f e)
makes_of state (Detaches object) o f e = absurd (marks_makes (state.holds object) _ o f e)
makes_of state (Inits k kind result) o f e = absurd (done_makes (is_zero result) _ o f (λ q. cc) e)
makes_of state (Tries k result) o f e = absurd (done_makes (is_zero result) _ o f (λ q. cc) e)
makes_of state (Tries_timed k result) o f e = absurd (done_makes (is_zero result) _ o f (λ q. cc) e)
makes_of state (Opens d result) o f e = absurd (done_makes (is_zero result) _ o f (λ q. cc) e)
makes_of state (Makes_key k result) o f e = absurd (done_makes (is_zero result) _ o f (λ q. cc) e)
makes_of state _ o f e = absurd (cc)

pub makes_by : (state : State) (frames : List Frame) (turn : Turn) (request : Request) (o : Cell) (f : ℕ) → sync_after frames turn (sync_of state request) ≡ Makes o f → IsCreationOf request o f
makes_by state frames Goes request o f e = makes_of state request o f e
makes_by state frames (Enters g arguments result) request o f e = makes_of state request o f e
makes_by state frames (Exits result) request o f e = absurd (cc)
makes_by state [] (Leaves result) request o f e = absurd (cc)
makes_by state (frame ∷ []) (Leaves result) request o f e = absurd (cc)
makes_by state (frame ∷ caller ∷ frames) (Leaves result) request o f e = makes_of state request o f e
