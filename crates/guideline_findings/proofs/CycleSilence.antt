-- Where Directive 5.2 has no finding, no run reaches a waiting cycle.
use Rattle.std.proofs.Common.{◌≡◌, inl, inr, refl, sym, subst, ap, List, [], ◌∷◌}
use Rattle.misra_base.specs.declared.guideline.Guideline.TheVariants.{D5_2}
use Rattle.c_program.specs.declared.program.Program.{Program}
use Rattle.c_program.specs.State.{State}
use Rattle.c_program.specs.Step.{Choice, Outcome, No_step, Undefined, Does, outcome, advanced}
use Rattle.c_program.specs.Runs.{IsGoodRun, IsRun, HasMeaning, IsStep, state_after, outcome_of}
use Rattle.c_program.specs.Breaks.{IsWaiting, Chain, HasCycle}
use Rattle.c_program.specs.WellFormed.{IsWellFormed}
use Rattle.static_facts.specs.Facts.{Facts}
use Rattle.guideline_findings.specs.Graph.{Vertex, Edge}
use Rattle.guideline_findings.specs.Findings.{cycle, own, IsClean}
use Rattle.guideline_findings.proofs.Given.{Given}
use Rattle.guideline_findings.specs.WaitingLaws.{EachLinkIsAnEdge, EachWaitingCycleIsOfEdges}
use Rattle.guideline_findings.proofs.Links.{links_are_edges, cycle_of_edges}
use Rattle.guideline_findings.specs.Silence.{IsSilent}
use Rattle.guideline_findings.proofs.Firsts.{clean_text}

-- the state that a run reaches is that of a run whose steps all have a meaning
record ReachedBy (program : Program) (state : State) : Type 0 where
  run : List Choice
  good : IsGoodRun program run
  is : state_after program run ≡ state

reached_by : (program : Program) (choice : Choice) (run : List Choice) → IsRun program (choice ∷ run) → ReachedBy program (state_after program (choice ∷ run))
unfolding outcome_of state_after
reached_by program choice run r = go (outcome program (state_after program run) choice) refl r.1
  where
    go : (x : Outcome) → outcome program (state_after program run) choice ≡ x → IsStep x → ReachedBy program (advanced program (state_after program run) choice.thread (outcome program (state_after program run) choice))
    go No_step e s = absurd s
    go Undefined e s = record { run = run; good = r.0; is = ap (advanced program (state_after program run) choice.thread) (sym e) }
    go (Does move effect) e s = record { run = choice ∷ run; good = (r.0, subst HasMeaning (sym e) tt); is = refl }

module _ (program : Program) (well : IsWellFormed program) (facts : Facts) (given : Given program facts) where
  pub each_link : EachLinkIsAnEdge program facts
  each_link text run good = links_are_edges program well facts (given text) run good

  pub waiting_sound : EachWaitingCycleIsOfEdges program facts
  waiting_sound text run good c = cycle_of_edges program well facts (given text) run good c

  -- the first edge of a cycle has a finding
  found : IsClean program facts D5_2 → (v : Vertex) (vs : List Vertex) → Chain (Edge program facts) v vs v → ⊥
  found clean v [] e = clean _ _ _ _ (own _ _ _ _ (cycle e.thread e.point e.object (record { from = v; to = v; edge = e.is; cycle = record { between = []; back = inl refl } })))
  found clean v (w ∷ ws) c = let e = c.0 in clean _ _ _ _ (own _ _ _ _ (cycle e.thread e.point e.object (record { from = v; to = w; edge = e.is; cycle = record { between = ws; back = inr c.1 } })))

  no_cycle : IsClean program facts D5_2 → HasCycle (Edge program facts) → ⊥
  no_cycle clean c = found clean c.0 c.1 c.2

  pub silent_waits : IsSilent program facts D5_2
  silent_waits clean [] r b = b
  silent_waits clean (choice ∷ run) r b = let k = reached_by program choice run r in
      no_cycle clean (waiting_sound (clean_text program facts D5_2 refl clean) k.run k.good (subst (λ (s : State). HasCycle (IsWaiting program s)) (sym k.is) b))
