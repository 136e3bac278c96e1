-- Where Rule 22.19 has no finding, no run breaks it.
use Rattle.std.proofs.Common.{◌≡◌, ◌≢◌, refl, sym, subst, ap, ◌∙◌, true, false, List, [], ◌∷◌, Option, Some, None}
use Rattle.misra_base.specs.declared.guideline.Guideline.TheVariants.{R22_19}
use Rattle.c_program.specs.declared.program.Program.{Program}
use Rattle.c_program.specs.Syntax.{act_at}
use Rattle.c_program.specs.Values.{Cell, Location, same_cell}
use Rattle.c_program.specs.Control.{Point}
use Rattle.c_program.specs.State.{Life, Unmade, Live, Dead, here}
use Rattle.c_program.specs.Requests.{Waits}
use Rattle.c_program.specs.Faults.{A_mutex, A_condition}
use Rattle.c_program.specs.Step.{Choice}
use Rattle.c_program.specs.Runs.{IsGoodRun, state_after}
use Rattle.c_program.specs.Breaks.{IsOtherThan}
use Rattle.c_program.specs.WellFormed.{IsWellFormed}
use Rattle.c_program.specs.Paths.{stands_at}
use Rattle.c_program.specs.Laws.{IsRequestBy}
use Rattle.c_program.proofs.Asking.{by_a_move}
use Rattle.static_facts.proofs.MutexAsks.{cell_equal}
use Rattle.static_facts.specs.Facts.{Facts}
use Rattle.guideline_findings.specs.Findings.{waited_with_second, own, IsClean}
use Rattle.guideline_findings.proofs.Given.{Premises, Given}
use Rattle.static_facts.proofs.Reaching.{reachable}
use Rattle.guideline_findings.proofs.Candidate.{Located, located_at}
use Rattle.guideline_findings.proofs.Asked.{wait_leads}
use Rattle.guideline_findings.proofs.Links.{asked_outside, same_location}
use Rattle.guideline_findings.proofs.FirstMutex.{first_wait}
use Rattle.static_facts.specs.Candidates.{IsCandidate}
use Rattle.guideline_findings.specs.Silence.{IsSilent}
use Rattle.guideline_findings.proofs.Firsts.{clean_text}

record HasOther (m : Cell) (life : Life (Option Cell)) : Type 0 where
  first : Cell
  live : life ≡ Live (Some first)
  differs : same_cell first m ≡ false

has_other : (m : Cell) (life : Life (Option Cell)) → IsOtherThan m life → HasOther m life
has_other m (Live (Some first)) n = record { first = first; live = refl; differs = n }
has_other m (Live None) n = absurd n
has_other m Unmade n = absurd n
has_other m Dead n = absurd n

module _ (program : Program) (well : IsWellFormed program) (facts : Facts) (premises : Premises program facts) where
  differ : (m first : Cell) (p q : Point) (l : Located program facts p 1 A_mutex m) (k : Located program facts q 1 A_mutex first) → same_cell first m ≡ false → l.location ≢ k.location
  differ m first p q l k n e = let c : m ≡ first = premises.names.one_cell A_mutex m first k.location l.of_sort k.of_sort (l.here ∙ ap Some e) k.here in
      let s : same_cell first m ≡ true = cell_equal first m (sym c) in
      absurd (let f : true ≡ false = sym s ∙ n in cc)

  waits_with_second : (run : List Choice) → IsGoodRun program run → (choice : Choice) (c m : Cell) → IsRequestBy program (state_after program run) choice (Waits c m)
      → HasOther m ((state_after program run).condition c) → IsClean program facts R22_19 → ⊥
  waits_with_second run good choice c m r h clean =
      let q = asked_outside program (state_after program run) choice (Waits c m) (λ x y f. cc) r in
      let w = wait_leads (here program (state_after program run) choice.thread) (act_at program r.move.action) c m q.1 in
      let lc = located_at program facts premises run good choice.thread r.control r.frames r.move 0 A_condition c q.0 (choice.pair, r.offers) w.condition in
      let lm = located_at program facts premises run good choice.thread r.control r.frames r.move 1 A_mutex m q.0 (choice.pair, r.offers) w.mutex in
      let f = first_wait program well facts premises run good c h.first h.live in
      let reached = reachable program well run good choice.thread r.control r.frames None r.move q.0 (choice.pair, r.offers) in
      clean _ _ _ _ (own _ _ _ _ (waited_with_second ((state_after program run).thread choice.thread).origin (stands_at ((state_after program run).thread choice.thread).origin r.control r.move) lc.location (record {
        reachable = reached;
        waits = w.is;
        candidate = lc.candidate;
        two = record {
          thread = ((state_after program run).thread choice.thread).origin;
          point = stands_at ((state_after program run).thread choice.thread).origin r.control r.move;
          mutex = lm.location;
          waits = record { reachable = reached; waits = w.is; names = lc.candidate; with_mutex = lm.candidate };
          other_thread = f.thread;
          other = f.point;
          other_mutex = f.mutex.location;
          other_waits = record {
            reachable = f.reachable;
            waits = f.waits;
            names = subst (λ (x : Location). IsCandidate program facts.names f.point 0 A_condition x) (same_location f.condition.location lc.location (sym f.condition.here ∙ lc.here)) f.condition.candidate;
            with_mutex = f.mutex.candidate;
          };
          differ = differ m h.first (stands_at ((state_after program run).thread choice.thread).origin r.control r.move) f.point lm f.mutex h.differs;
        };
      })))

pub silent_conditions : (program : Program) → IsWellFormed program → (facts : Facts) → Given program facts → IsSilent program facts R22_19
silent_conditions program well facts given clean [] r b = b
silent_conditions program well facts given clean (choice ∷ run) r b = let record { 0 = c; 1 = m; 2 = e; 3 = n } = b in
    waits_with_second program well facts (given (clean_text program facts R22_19 refl clean)) run r.0 choice c m (by_a_move program (state_after program run) choice (Waits c m) e)
    (has_other m ((state_after program run).condition c) n) clean
