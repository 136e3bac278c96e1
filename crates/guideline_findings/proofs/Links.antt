-- Each link of a waiting cycle is an edge, from what the waiting thread has to what it waits for.
use Rattle.std.proofs.Common.{◌≡◌, refl, ◌≢◌, sym, subst, ap, ◌∙◌, cond, ℕ, ℤ, ◌<◌, ◌+◌, min, List, [], ◌∷◌, ◌++◌, Option, Some, None, eq-eqb, arith}
use Rattle.std.proofs.lemmas.Grind.{common_steps}
use Rattle.c_program.specs.declared.program.Program.{Program}
use Rattle.c_program.specs.Syntax.{act_at}
use Rattle.c_program.specs.Values.{Cell, Location}
use Rattle.c_program.specs.Control.{Control, Move, Spot, Point}
use Rattle.c_program.specs.State.{State, Running, Frame, Life, Live, Mutex, depth_of, here}
use Rattle.c_program.specs.Requests.{Request, Locks, Joins, Retakes}
use Rattle.c_program.specs.Faults.{A_mutex, A_thread}
use Rattle.c_program.specs.Step.{Choice}
use Rattle.c_program.specs.Runs.{IsGoodRun, state_after}
use Rattle.c_program.specs.Breaks.{IsWaiting, to_lock, to_retake, to_join, Chain, HasCycle}
use Rattle.c_program.specs.WellFormed.{IsWellFormed}
use Rattle.c_program.specs.Paths.{Offers, stands_at}
use Rattle.c_program.specs.Laws.{Names as RequestNames, NamesAt, IsRequestBy}
use Rattle.c_program.proofs.Asking.{by_a_move}
use Rattle.static_facts.specs.Owning.{depth_with_wait}
use Rattle.static_facts.proofs.Possible.{possible_with_wait}
use Rattle.static_facts.specs.Facts.{Facts}
use Rattle.guideline_findings.specs.Graph.{Vertex, Of_mutex, Of_end, Wants, wants_mutex, wants_end, Has, has_mutex, has_end, IsEdgeBetween, Edge}
use Rattle.guideline_findings.proofs.Given.{Premises}
use Rattle.guideline_findings.specs.WaitingLaws.{LinksAreEdges}
use Rattle.static_facts.proofs.Reaching.{reachable}
use Rattle.guideline_findings.proofs.Candidate.{located_at}
use Rattle.guideline_findings.proofs.Asked.{lock_leads, join_leads}
use Rattle.guideline_findings.proofs.Suspended.{waits_at}
use Rattle.guideline_findings.proofs.HeldThreads.{Created, created}
use Rattle.pointer_targets.specs.LibraryObjects.{IsObjectAt}
use Rattle.pointer_targets.proofs.Told.{Told}
use Rattle.static_facts.specs.Points.{thread_of}
use Rattle.static_facts.specs.Candidates.{IsCandidate}

-- a request that retakes nothing is made outside a wait
pub asked_outside : (program : Program) (state : State) (choice : Choice) (request : Request) → ((m : Cell) (z : ℤ) → request ≡ Retakes m z → ⊥) → (r : IsRequestBy program state choice request)
    → ((state.thread choice.thread).stand ≡ Running r.control r.frames None) × RequestNames (here program state choice.thread) (act_at program r.move.action) request
asked_outside program state choice request unlike r = go r.inside r.stands r.names
  where
    go : (inside : Option Cell) → (state.thread choice.thread).stand ≡ Running r.control r.frames inside → NamesAt (here program state choice.thread) (act_at program r.move.action) inside request
        → ((state.thread choice.thread).stand ≡ Running r.control r.frames None) × RequestNames (here program state choice.thread) (act_at program r.move.action) request
    go None s n = (s, n)
    go (Some m) s n = absurd (unlike m n.0 n.1)

pub same_location : (a b : Location) → Some a ≡ Some b → a ≡ b
same_location a b e = cc

same_live : (a b : Mutex) → Live a ≡ Live b → a ≡ b
same_live a b e = cc

module _ (program : Program) (well : IsWellFormed program) (facts : Facts) (premises : Premises program facts) (run : List Choice) (good : IsGoodRun program run) where
  abbrev state : State
  state = state_after program run

  abbrev origin_of : ℕ → List Spot
  origin_of thread = (state.thread thread).origin

  -- what one thread waits for, until the other gives it or ends
  data IsTarget (t u : ℕ) : Vertex → Type 0 where
    the_mutex : (m : Cell) (location : Location) → IsObjectAt program A_mutex m location → (mutex : Mutex) → state.mutex m ≡ Live mutex → 0 < mutex.depth → mutex.owner ≡ u → u ≢ t → IsTarget t u (Of_mutex location)
    the_end : (object : Cell) (c : Created program facts state object u) → IsTarget t u (Of_end (thread_of c.point))

  record Link (t u : ℕ) : Type 0 where
    control : Control
    frames : List Frame
    inside : Option Cell
    move : Move
    stands : (state.thread t).stand ≡ Running control frames inside
    offers : Offers control move
    object : Location
    target : Vertex
    wants : Wants program facts (stands_at (origin_of t) control move) object target
    is : IsTarget t u target

  choice_of : ℕ → Choice
  choice_of t = record { thread = t; pair = 0; values = [] }

  locks_link : (t u : ℕ) (m : Cell) (mutex : Mutex) → IsRequestBy program state (record { thread = t; pair = 0; values = [] }) (Locks m) → state.mutex m ≡ Live mutex → 0 < mutex.depth → mutex.owner ≡ u → u ≢ t → Link t u
  locks_link t u m mutex r e d o n =
      let q = asked_outside program state (record { thread = t; pair = 0; values = [] }) (Locks m) (λ x z f. cc) r in
      let k = lock_leads (here program state t) (act_at program r.move.action) m q.1 in
      let l = located_at program facts premises run good t r.control r.frames r.move 0 A_mutex m q.0 (0, r.offers) k.1 in record {
        control = r.control;
        frames = r.frames;
        inside = None;
        move = r.move;
        stands = q.0;
        offers = (0, r.offers);
        object = l.location;
        target = Of_mutex l.location;
        wants = wants_mutex 0 l.location k.0 l.candidate;
        is = the_mutex m l.location (record { here = l.here; of_sort = l.of_sort }) mutex e d o n;
      }

  retakes_link : (t u : ℕ) (m : Cell) (mutex : Mutex) (control : Control) (frames : List Frame) → (state.thread t).stand ≡ Running control frames (Some m) → state.mutex m ≡ Live mutex → 0 < mutex.depth
      → mutex.owner ≡ u → u ≢ t → Link t u
  retakes_link t u m mutex control frames s e d o n = let w = waits_at program well facts premises run good t control frames m s in record {
    control = control;
    frames = frames;
    inside = Some m;
    move = w.move;
    stands = s;
    offers = w.offers;
    object = w.mutex.location;
    target = Of_mutex w.mutex.location;
    wants = wants_mutex 1 w.mutex.location w.takes w.mutex.candidate;
    is = the_mutex m w.mutex.location (record { here = w.mutex.here; of_sort = w.mutex.of_sort }) mutex e d o n;
  }

  joins_link : (t u : ℕ) (object : Cell) (into : Option Cell) → IsRequestBy program state (record { thread = t; pair = 0; values = [] }) (Joins object into) → state.holds object ≡ Some u → Link t u
  joins_link t u object into r h =
      let q = asked_outside program state (record { thread = t; pair = 0; values = [] }) (Joins object into) (λ x z f. cc) r in
      let k = join_leads (here program state t) (act_at program r.move.action) object into q.1 in
      let l = located_at program facts premises run good t r.control r.frames r.move 0 A_thread object q.0 (0, r.offers) k.1 in
      let c = created program well facts premises run good object u h in record {
        control = r.control;
        frames = r.frames;
        inside = None;
        move = r.move;
        stands = q.0;
        offers = (0, r.offers);
        object = l.location;
        target = Of_end (thread_of c.point);
        wants = wants_end l.location c.creator c.point k.0 l.candidate c.is_point c.creates
            (subst (λ (x : Location). IsCandidate program facts.names c.point 0 A_thread x) (same_location c.object_is.location l.location (sym c.object_is.here ∙ l.here)) c.object_is.candidate);
        is = the_end object c;
      }

  link : (t u : ℕ) → IsWaiting program state t u → Link t u
  link t u (to_lock m mutex r e d o n) = locks_link t u m mutex (by_a_move program state (record { thread = t; pair = 0; values = [] }) (Locks m) r) e d o n
  link t u (to_retake m mutex control frames s e d o n) = retakes_link t u m mutex control frames s e d o n
  link t u (to_join object into r h runs) = joins_link t u object into (by_a_move program state (record { thread = t; pair = 0; values = [] }) (Joins object into) r) h

  -- ---- what the thread that is waited for has

  given : Told program facts.names
  given = premises.names

  owned_depth : (u : ℕ) (life : Life Mutex) (mutex : Mutex) (level : ℕ) → life ≡ Live mutex → 0 < mutex.depth → mutex.owner ≡ u → 0 < min (depth_of u life + level) 8
  owned_depth u life mutex level e d o = subst (λ (x : Life Mutex). 0 < min (depth_of u x + level) 8) (sym e)
      (subst (λ b. 0 < min (cond b mutex.depth 0 + level) 8) (sym (eq-eqb mutex.owner u o)) (more mutex.depth level d))
    where
      more : (a b : ℕ) → 0 < a → 0 < min (a + b) 8
      more a b l = grind (arith, common_steps)

  had : (t u v : ℕ) (target : Vertex) → IsTarget t u target → (k : Link u v) → Has program facts (origin_of u) (stands_at (origin_of u) k.control k.move) target
  had t u v _ (the_mutex m location at mutex e d o n) k = has_mutex location (
    min (depth_with_wait m state u) 8,
    (
      owned_depth u (state.mutex m) mutex _ e d o,
      possible_with_wait program well facts.names given m location at run good u k.control k.frames k.inside k.move k.stands k.offers,
    ),
  )
  had t u v _ (the_end object c) k = subst (λ (thread : List Spot). Has program facts (origin_of u) (stands_at (origin_of u) k.control k.move) (Of_end thread)) c.origin
      (has_end (λ e. created_so c.point (sym c.origin ∙ e)))
    where
      created_so : (p : Point) → thread_of p ≡ [] → ⊥
      created_so p q = cc

  between : (t u v : ℕ) (a b : Vertex) → IsTarget t u a → IsTarget u v b → IsEdgeBetween a b
  between t u v _ _ (the_mutex m location at mutex e d o n) (the_mutex k other bt mutex_k f l p q) = λ same.
      let c = premises.names.one_cell A_mutex m k other at.of_sort bt.of_sort (at.here ∙ ap Some same) bt.here in
      let s = same_live mutex mutex_k (sym e ∙ ap state.mutex c ∙ f) in
      q (sym p ∙ sym (ap (λ (x : Mutex). x.owner) s) ∙ o)
  between t u v _ _ (the_mutex m location at mutex e d o n) (the_end object c) = tt
  between t u v _ _ (the_end object c) (the_mutex k other bt mutex_k f l p q) = tt
  between t u v _ _ (the_end object c) (the_end other d) = tt

  edge : (t u v : ℕ) (p : Link t u) (q : Link u v) → Edge program facts p.target q.target
  edge t u v p q = record {
    thread = origin_of u;
    point = stands_at (origin_of u) q.control q.move;
    object = q.object;
    is = record {
      reachable = reachable program well run good u q.control q.frames q.inside q.move q.stands q.offers;
      has = had t u v p.target p.is q;
      wants = q.wants;
      between = between t u v p.target q.target p.is q.is;
    };
  }

  pub links_are_edges : LinksAreEdges program facts state
  unfolding edge
  links_are_edges = record {
    waited_for = λ s t w. (link s t w).target;
    edge = λ s t u v w. edge s t u (link s t v) (link t u w);
    stands = λ s t u v w. refl;
  }

  -- ---- along a chain of links

  record Along (t b : ℕ) (from : Vertex) : Type 0 where
    last : ℕ
    ends : Link last b
    through : List Vertex
    edges : Chain (Edge program facts) from through ends.target

  along : (t u b : ℕ) (us : List ℕ) (p : Link t u) → Chain (IsWaiting program state) u us b → Along t b p.target
  along t u b [] p c = let q = link u b c in record { last = u; ends = q; through = []; edges = edge t u b p q }
  along t u b (v ∷ us) p c = let q = link u v c.0 in let rest = along u v b us q c.1 in
      record { last = rest.last; ends = rest.ends; through = q.target ∷ rest.through; edges = (edge t u v p q, rest.edges) }

  chain_on : (a : Vertex) (vs : List Vertex) (b c : Vertex) → Chain (Edge program facts) a vs b → Edge program facts b c → Chain (Edge program facts) a (vs ++ b ∷ []) c
  chain_on a [] b c r s = (r, s)
  chain_on a (v ∷ vs) b c r s = (r.0, chain_on v vs b c r.1 s)

  pub cycle_of_edges : HasCycle (IsWaiting program state) → HasCycle (Edge program facts)
  cycle_of_edges c = go c.0 c.1 c.2
    where
      go : (v : ℕ) (vs : List ℕ) → Chain (IsWaiting program state) v vs v → HasCycle (Edge program facts)
      go v [] p = let q = link v v p in (q.target, [], edge v v v q q)
      go v (u ∷ us) p = let q = link v u p.0 in let a = along v u v us q p.1 in
          (q.target, a.through ++ a.ends.target ∷ [], chain_on q.target a.through a.ends.target q.target a.edges (edge a.last v u a.ends q))
