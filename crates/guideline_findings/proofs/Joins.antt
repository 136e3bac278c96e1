-- Where Rule 22.11 has no finding, the initial thread alone joins and detaches.
use Rattle.std.proofs.Common.{◌≡◌, refl, Bool, true, false, ◌==◌, List, Option, Some, None, eqb-true}
use Rattle.misra_base.specs.declared.guideline.Guideline.TheVariants.{R22_11}
use Rattle.c_program.specs.declared.program.Program.{Program}
use Rattle.c_program.specs.Syntax.{act_at}
use Rattle.c_program.specs.Values.{Cell, Location, location_of}
use Rattle.c_program.specs.Control.{Control, Move, Spot}
use Rattle.c_program.specs.State.{State, Running, Frame, here}
use Rattle.c_program.specs.Requests.{Request, Joins, Detaches}
use Rattle.c_program.specs.Faults.{A_thread}
use Rattle.c_program.specs.Step.{Choice}
use Rattle.c_program.specs.Runs.{IsGoodRun, state_after}
use Rattle.c_program.specs.WellFormed.{IsWellFormed}
use Rattle.c_program.specs.Paths.{Offers, stands_at}
use Rattle.c_program.specs.Laws.{NamesAt, IsRequestBy}
use Rattle.c_program.proofs.Asking.{by_a_move}
use Rattle.static_facts.proofs.Asking.{Leads}
use Rattle.static_facts.proofs.Simulating.{place_typed}
use Rattle.guideline_findings.proofs.SilenceOfLives.{created_thread}
use Rattle.guideline_findings.proofs.SilenceOfReleases.{join_call, detach_call}
use Rattle.static_facts.specs.Facts.{Facts}
use Rattle.guideline_findings.specs.Findings.{IsClean, own, joined_outside}
use Rattle.guideline_findings.specs.LifeLaws.{is_release, OnlyMainReleases}
use Rattle.static_facts.proofs.Reaching.{reachable}
use Rattle.static_facts.specs.Analyses.{AreSound}
use Rattle.pointer_targets.specs.LibraryObjects.{type_of_sort, LeadsToObject}
use Rattle.pointer_targets.proofs.Told.{told, are_static}
use Rattle.guideline_findings.proofs.Firsts.{clean_text}
use Rattle.guideline_findings.proofs.CleanText.{no_local_library}
use Rattle.static_facts.specs.Candidates.{releases_thread}

module _ (program : Program) (well : IsWellFormed program) (facts : Facts) (sound : AreSound program facts) (clean : IsClean program facts R22_11)
    (run : List Choice) (good : IsGoodRun program run) (choice : Choice) where
  abbrev state : State
  state = state_after program run

  abbrev thread : List Spot
  thread = (state.thread choice.thread).origin

  outside : (control : Control) (frames : List Frame) (move : Move) (cell : Cell) → (state.thread choice.thread).stand ≡ Running control frames None → Offers control move
      → Leads (here program state choice.thread) (act_at program move.action) A_thread 0 cell → releases_thread (act_at program move.action) ≡ true
      → (choice.thread == 0) ≡ false → ⊥
  outside control frames move cell s o l e z = clean _ _ _ _ (own _ _ _ _ (joined_outside thread (stands_at thread control move) found.0 (record {
    releases = record {
      reachable = reachable program well run good choice.thread control frames None move s o;
      releases = e;
      candidate = record {
        named = (told program well facts.names sound.names).may_name run choice.thread (stands_at thread control move) A_thread 0 cell found.0 good lead found.1;
        cell = cell;
        here = found.1;
        of_sort = place_typed (here program state choice.thread) (type_of_sort A_thread) l.expression cell l.leads;
      };
    };
    elsewhere = created_thread program well run good choice.thread control frames None s z;
  })))
    where
      lead : LeadsToObject program (type_of_sort A_thread) run choice.thread (stands_at thread control move) 0 cell
      lead = record {
        control = control;
        frames = frames;
        move = move;
        call = l.call;
        into = l.into;
        expression = l.expression;
        stands = s;
        offers = o;
        here_is = refl;
        is_call = l.is_call;
        has = l.has;
        leads = l.leads;
      }

      found : (location : Location) × (location_of program cell ≡ Some location)
      found = are_static program well (no_local_library program facts well (clean_text program facts R22_11 refl clean)) run choice.thread (stands_at thread control move) A_thread 0 cell good lead

  initial : ((choice.thread == 0) ≡ false → ⊥) → choice.thread ≡ 0
  initial n = go (choice.thread == 0) refl
    where
      go : (b : Bool) → (choice.thread == 0) ≡ b → choice.thread ≡ 0
      go true e = eqb-true choice.thread 0 e
      go false e = absurd (n e)

  by_main : (request : Request) → IsRequestBy program state choice request → is_release request ≡ true → choice.thread ≡ 0
  by_main (Joins object r) w e = go w.inside w.stands w.names
    where
      go : (inside : Option Cell) → (state.thread choice.thread).stand ≡ Running w.control w.frames inside
          → NamesAt (here program state choice.thread) (act_at program w.move.action) inside (Joins object r) → choice.thread ≡ 0
      go None s n = let c = join_call (here program state choice.thread) (act_at program w.move.action) object r n in
          initial (outside w.control w.frames w.move object s (choice.pair, w.offers) c.0 c.1)
      go (Some x) s n = absurd (let q = n.1 in cc)
  by_main (Detaches object) w e = go w.inside w.stands w.names
    where
      go : (inside : Option Cell) → (state.thread choice.thread).stand ≡ Running w.control w.frames inside
          → NamesAt (here program state choice.thread) (act_at program w.move.action) inside (Detaches object) → choice.thread ≡ 0
      go None s n = let c = detach_call (here program state choice.thread) (act_at program w.move.action) object n in
          initial (outside w.control w.frames w.move object s (choice.pair, w.offers) c.0 c.1)
      go (Some x) s n = absurd (let q = n.1 in cc)
  by_main _ w e = absurd (cc)

pub only_main : (program : Program) → IsWellFormed program → (facts : Facts) → AreSound program facts → OnlyMainReleases program facts
only_main program well facts sound clean run good choice request q e = by_main program well facts sound clean run good choice request (by_a_move program (state_after program run) choice request q) e
