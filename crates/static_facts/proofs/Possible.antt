-- The depth of a mutex that a thread does not wait with is possible at its point.
use Rattle.std.proofs.Common.{◌≡◌, refl, sym, subst, ap, ◌∙◌, Bool, true, false, cond, ◌==◌, ℕ, ◌+◌, min, List, ◌∷◌, Option, Some, None, eqb-true, arith}
use Rattle.c_program.specs.declared.program.Program.{Program}
use Rattle.c_program.specs.Values.{Cell, Location, same_cell}
use Rattle.c_program.specs.Control.{Control, Move, Spot, Point}
use Rattle.c_program.specs.State.{State, Stand, Running, Frame, depth_of, inside_of}
use Rattle.c_program.specs.Step.{Choice}
use Rattle.c_program.specs.Runs.{IsGoodRun, state_after}
use Rattle.c_program.specs.WellFormed.{IsWellFormed}
use Rattle.c_program.specs.Paths.{Offers, stands_at}
use Rattle.path_simulation.specs.Tracks.{IsPossible}
use Rattle.pointer_targets.specs.Names.{Names}
use Rattle.pointer_targets.proofs.Told.{Told}
use Rattle.static_facts.specs.Depths.{Mark, marked, depths, MayHold}
use Rattle.static_facts.specs.Owning.{level_of, depth_with_wait}
use Rattle.static_facts.specs.OwnerLaws.{IsOutside, EachDepthIsPossible}
use Rattle.static_facts.proofs.FollowingDepths.{followed}
use Rattle.pointer_targets.specs.LibraryObjects.{IsObjectAt}
use Rattle.c_program.specs.Faults.{A_mutex}

module _ (program : Program) (well : IsWellFormed program) (names : Names) (premises : Told program names) where
  -- also inside a wait: with the level that the thread takes again
  pub possible_with_wait : (c : Cell) (location : Location) → IsObjectAt program A_mutex c location → (run : List Choice) → IsGoodRun program run
      → (thread : ℕ) (control : Control) (frames : List Frame) (inside : Option Cell) (move : Move)
      → ((state_after program run).thread thread).stand ≡ Running control frames inside → Offers control move
      → MayHold program names location ((state_after program run).thread thread).origin (stands_at ((state_after program run).thread thread).origin control move)
      (min (depth_with_wait c (state_after program run) thread) 8)
  possible_with_wait c location at run good thread control frames inside move stands offers =
      let f = followed program well names premises c location at.here at.of_sort run good thread control frames inside stands in (
        f.state.outcome,
        subst (λ (d : ℕ). IsPossible program (depths program names location) ((state_after program run).thread thread).origin
            (stands_at ((state_after program run).thread thread).origin control move) (marked d f.state.outcome)) f.fulfils.depth (record {
              function = f.function;
              leads = f.leads;
              control = control;
              move = move;
              comes = f.comes;
              offers = offers;
              here = refl;
            }),
      )

  no_level : (c : Cell) (inside : Option Cell) → IsOutside c inside → level_of c inside ≡ 0
  no_level c None o = refl
  no_level c (Some m) o = ap (λ b. cond b 1 0) o

  pub possible : EachDepthIsPossible program names
  possible c location at run good thread control frames inside move stands offers outside =
      subst (λ (d : ℕ). MayHold program names location ((state_after program run).thread thread).origin (stands_at ((state_after program run).thread thread).origin control move) (min d 8))
      (ap (λ (s : Stand). depth_of thread ((state_after program run).mutex c) + level_of c (inside_of s)) stands ∙ ap (λ n. depth_of thread ((state_after program run).mutex c) + n) (no_level c inside outside) ∙ plus_none _)
      (possible_with_wait c location at run good thread control frames inside move stands offers)
    where
      plus_none : (n : ℕ) → n + 0 ≡ n
      plus_none n = omega arith
