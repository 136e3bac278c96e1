-- Where Rule 21.26 has no finding, no run breaks it.
use Rattle.std.proofs.Common.{◌≡◌, refl, sym, subst, ◌∙◌, false, ℤ, List, [], ◌∷◌, Some, None}
use Rattle.misra_base.specs.declared.guideline.Guideline.TheVariants.{R21_26}
use Rattle.c_program.specs.declared.program.Program.{Program}
use Rattle.c_program.specs.Syntax.{act_at}
use Rattle.c_program.specs.Values.{Cell, Location, location_of}
use Rattle.c_program.specs.State.{Life, Unmade, Live, Dead, Mutex, here}
use Rattle.c_program.specs.Requests.{Tries_timed}
use Rattle.c_program.specs.Faults.{A_mutex}
use Rattle.c_program.specs.Step.{Choice}
use Rattle.c_program.specs.Runs.{IsGoodRun, state_after}
use Rattle.c_program.specs.Breaks.{IsNotTimed}
use Rattle.c_program.specs.WellFormed.{IsWellFormed}
use Rattle.c_program.specs.Paths.{stands_at}
use Rattle.c_program.specs.Laws.{IsRequestBy}
use Rattle.c_program.proofs.Asking.{by_a_move}
use Rattle.static_facts.proofs.Begun.{Begun, begun}
use Rattle.static_facts.specs.Facts.{Facts}
use Rattle.guideline_findings.specs.Mutexes.{MayBeUntimed}
use Rattle.guideline_findings.specs.Findings.{kind, own, IsClean}
use Rattle.guideline_findings.proofs.Given.{Premises, Given}
use Rattle.static_facts.proofs.Reaching.{reachable}
use Rattle.guideline_findings.proofs.Candidate.{located, located_at}
use Rattle.guideline_findings.proofs.Asked.{timed_leads}
use Rattle.guideline_findings.proofs.Links.{asked_outside, same_location}
use Rattle.static_facts.specs.Points.{IsReachable}
use Rattle.static_facts.specs.Candidates.{IsCandidate}
use Rattle.guideline_findings.specs.Silence.{IsSilent}
use Rattle.guideline_findings.proofs.Firsts.{clean_text}

record IsUntimed (life : Life Mutex) : Type 0 where
  mutex : Mutex
  live : life ≡ Live mutex
  untimed : mutex.kind.is_timed ≡ false

is_untimed : (life : Life Mutex) → IsNotTimed life → IsUntimed life
is_untimed (Live mutex) n = record { mutex = mutex; live = refl; untimed = n }
is_untimed Unmade n = absurd n
is_untimed Dead n = absurd n

module _ (program : Program) (well : IsWellFormed program) (facts : Facts) (premises : Premises program facts) where
  may_be_untimed : (m : Cell) (mutex : Mutex) (location : Location) → location_of program m ≡ Some location → mutex.kind.is_timed ≡ false → Begun program m mutex.kind → MayBeUntimed program facts location
  may_be_untimed m mutex location e n b = let l = located program facts premises b.run b.good b.thread b.point 0 A_mutex m b.leads in record {
    thread = ((state_after program b.run).thread b.thread).origin;
    point = b.point;
    reachable = subst (IsReachable program ((state_after program b.run).thread b.thread).origin) b.leads.here_is
        (reachable program well b.run b.good b.thread b.leads.control b.leads.frames None b.leads.move b.leads.stands b.leads.offers);
    expression = b.expression;
    kind = mutex.kind;
    into = b.into;
    is_init = b.is_init;
    candidate = subst (λ (x : Location). IsCandidate program facts.names b.point 0 A_mutex x) (same_location l.location location (sym l.here ∙ e)) l.candidate;
    is_untimed = n;
  }

  locks_untimed : (run : List Choice) → IsGoodRun program run → (choice : Choice) (m : Cell) (z : ℤ) → IsRequestBy program (state_after program run) choice (Tries_timed m z)
      → IsUntimed ((state_after program run).mutex m) → IsClean program facts R21_26 → ⊥
  locks_untimed run good choice m z r u clean =
      let q = asked_outside program (state_after program run) choice (Tries_timed m z) (λ x y f. cc) r in
      let k = timed_leads (here program (state_after program run) choice.thread) (act_at program r.move.action) m z q.1 in
      let l = located_at program facts premises run good choice.thread r.control r.frames r.move 0 A_mutex m q.0 (choice.pair, r.offers) k.1 in
      clean _ _ _ _ (own _ _ _ _ (kind ((state_after program run).thread choice.thread).origin (stands_at ((state_after program run).thread choice.thread).origin r.control r.move) l.location (record {
        reachable = reachable program well run good choice.thread r.control r.frames None r.move q.0 (choice.pair, r.offers);
        locks = k.0;
        candidate = l.candidate;
        may_be = may_be_untimed m u.mutex l.location l.here u.untimed (begun program well run good m u.mutex u.live);
      })))

pub silent_timed : (program : Program) → IsWellFormed program → (facts : Facts) → Given program facts → IsSilent program facts R21_26
silent_timed program well facts given clean [] r b = b
silent_timed program well facts given clean (choice ∷ run) r b = let record { 0 = m; 1 = z; 2 = e; 3 = n } = b in
    locks_untimed program well facts (given (clean_text program facts R21_26 refl clean)) run r.0 choice m z (by_a_move program (state_after program run) choice (Tries_timed m z) e)
    (is_untimed ((state_after program run).mutex m) n) clean
