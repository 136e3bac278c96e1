-- Where a thread stands, a path leads.
use Rattle.std.proofs.Common.{◌≡◌, refl, sym, subst, ℕ, List, ◌∷◌, length, Option, Some}
use Rattle.c_program.specs.declared.program.Program.{Program}
use Rattle.c_program.specs.Values.{Cell}
use Rattle.c_program.specs.Control.{Control, Move}
use Rattle.c_program.specs.State.{Running, Frame}
use Rattle.c_program.specs.Step.{Choice, Outcome, No_step, Undefined, Does}
use Rattle.c_program.specs.Runs.{IsGoodRun, HasMeaning, state_after, outcome_of, Moment, moment_of, moment_at}
use Rattle.c_program.specs.Breaks.{point_of}
use Rattle.c_program.specs.WellFormed.{IsWellFormed}
use Rattle.c_program.specs.Paths.{Offers, stands_at}
use Rattle.path_simulation.proofs.Plain.{is_reached}
use Rattle.static_facts.proofs.Moments.{IsMoment, last_moment}
use Rattle.static_facts.specs.ThreadLaws.{origin_of}
use Rattle.static_facts.proofs.Stopping.{plain, led, point_is}
use Rattle.static_facts.specs.Points.{IsReachable}

module _ (program : Program) (well : IsWellFormed program) where
  pub reachable : (run : List Choice) → IsGoodRun program run → (thread : ℕ) (control : Control) (frames : List Frame) (inside : Option Cell) (move : Move)
      → ((state_after program run).thread thread).stand ≡ Running control frames inside → Offers control move
      → IsReachable program ((state_after program run).thread thread).origin (stands_at ((state_after program run).thread thread).origin control move)
  reachable run good thread control frames inside move s o = let f = led program well run good thread control frames inside s in record {
    function = f.function;
    leads = f.leads;
    reached = is_reached program plain ((state_after program run).thread thread).origin _ tt
        (record { function = f.function; leads = f.leads; control = control; move = move; comes = f.comes; offers = o; here = refl });
  }

  pub moment_reachable : (m : Moment) → IsMoment program m → IsReachable program (origin_of program m) (point_of program m)
  moment_reachable m s = subst (IsReachable program (origin_of program m)) (sym (point_is program m s))
      (reachable m.earlier s.good m.choice.thread s.by.control s.by.frames s.by.inside m.move s.by.stands (m.choice.pair, s.by.offers))

-- where the last choice is a step with a meaning, the run is good
pub good_now : (program : Program) (choice : Choice) (run : List Choice) (m : Moment) → IsGoodRun program run → moment_at program (choice ∷ run) (length run) ≡ Some m → IsGoodRun program (choice ∷ run)
good_now program choice run m good e = (good, go (outcome_of program choice run) (last_moment program choice run m good e))
  where
    go : (o : Outcome) → moment_of choice run o ≡ Some m → HasMeaning o
    go No_step f = absurd (cc)
    go Undefined f = absurd (cc)
    go (Does move effect) f = tt
