-- What is promised of waiting.
use Rattle.std.specs.Prelude.{◌≡◌, ℕ, List}
use Rattle.c_program.specs.declared.program.Program.{Program}
use Rattle.c_program.specs.State.{State}
use Rattle.c_program.specs.Step.{Choice}
use Rattle.c_program.specs.Runs.{IsGoodRun, state_after}
use Rattle.c_program.specs.Breaks.{IsWaiting, HasCycle}
use Rattle.static_facts.specs.Facts.{Facts}
use Rattle.guideline_findings.specs.Graph.{Vertex, Edge}
use Rattle.guideline_findings.specs.Silence.{HasCleanText}

-- each link of a waiting cycle is an edge: what a thread waits for is a vertex, and the thread that it
-- waits for gives an edge from there, at the point where it stands, to what it waits for itself
pub record LinksAreEdges (program : Program) (facts : Facts) (state : State) : Type 0 where
  pub waited_for : (thread other : ℕ) → IsWaiting program state thread other → Vertex
  pub edge : (s t u : ℕ) (first : IsWaiting program state s t) (second : IsWaiting program state t u) → Edge program facts (waited_for s t first) (waited_for t u second)
  pub stands : (s t u : ℕ) (first : IsWaiting program state s t) (second : IsWaiting program state t u) → (edge s t u first second).thread ≡ (state.thread t).origin

abbrev pub EachLinkIsAnEdge : Program → Facts → Type 0
EachLinkIsAnEdge program facts = HasCleanText program facts → (run : List Choice) → IsGoodRun program run → LinksAreEdges program facts (state_after program run)

-- so a waiting cycle gives a cycle of edges
abbrev pub EachWaitingCycleIsOfEdges : Program → Facts → Type 0
EachWaitingCycleIsOfEdges program facts = HasCleanText program facts → (run : List Choice) → IsGoodRun program run
    → HasCycle (IsWaiting program (state_after program run)) → HasCycle (Edge program facts)
