-- What is held as a run begins, and in each run.
use Rattle.std.proofs.Common.{◌≡◌, refl, sym, subst, ap, Bool, true, ◌==◌, ℕ, zero, suc, ◌<◌, List, [], ◌∷◌, Option, Some, None, arith}
use Rattle.std.specs.List.{list_all}
use Rattle.std.specs.Prelude.{option_map, unwrap_or, slice_get}
use Rattle.c_program.specs.declared.program.Initial.{Initial}
use Rattle.c_program.specs.declared.program.Object.{Object as ObjectOf}
use Rattle.c_program.specs.declared.program.Program.{Program}
use Rattle.c_program.specs.Syntax.{object_at}
use Rattle.c_program.specs.Types.{same_numbers, declared_type}
use Rattle.c_program.specs.Values.{Root, Static, Of_thread, Of_frame, Cell, object_of, steps_of}
use Rattle.c_program.specs.Evaluation.{Here}
use Rattle.c_program.specs.State.{Thread, frames_of, opening, at_start, initial_in, initial_of, initial_at, thread_before, no_thread}
use Rattle.c_program.specs.Step.{Choice, Outcome, No_step, Undefined, Does, outcome, advanced}
use Rattle.c_program.specs.Runs.{IsGoodRun, HasMeaning, state_after, outcome_of}
use Rattle.c_program.specs.WellFormed.{IsWellFormed, is_initial, object_is_known}
use Rattle.c_program.proofs.Cells.{and_true, numbers_same}
use Rattle.c_program.proofs.Inversion.{by_an_ask}
use Rattle.c_program.proofs.Sound.{if_either}
use Rattle.pointer_targets.specs.Places.{object_in, site_of, place_of}
use Rattle.pointer_targets.specs.PointsTo.{initial}
use Rattle.pointer_targets.proofs.Values.{IsBelow, OnOption, option_on_map, below_here}
use Rattle.pointer_targets.proofs.Evaluated.{Named, initial_named}
use Rattle.pointer_targets.proofs.Fine.{Points}
use Rattle.pointer_targets.proofs.Changes.{StandFine, FramesGive}
use Rattle.pointer_targets.proofs.Holding.{Holding, holding_after}

pub each_member : {A : Type 0} (xs : List A) (n : ℕ) (x : A) (test : A → Bool) → list_all test xs ≡ true → slice_get xs n ≡ Some x → test x ≡ true
each_member [] n x test k q = absurd (cc)
each_member (y ∷ ys) zero x test k q = subst (λ z. test z ≡ true) (same y x q) (and_true _ _ k).0
  where
    same : {A : Type 0} (a b : A) → Some a ≡ Some b → a ≡ b
    same a b e = cc
each_member (y ∷ ys) (suc n) x test k q = each_member ys n x test (and_true _ _ k).1 q

-- ---- the opening

module _ (program : Program) (well : IsWellFormed program) where
  pub parts_fine : (object : ℕ) → list_all (λ (part : Initial). is_initial program part.value) (initial_of program object) ≡ true
  parts_fine object = go (object_at program object) refl
    where
      go : (o : Option ObjectOf) → object_at program object ≡ o → list_all (λ (part : Initial). is_initial program part.value) (unwrap_or (option_map (λ x. x.initial) o) []) ≡ true
      go None q = refl
      go (Some x) q = (and_true _ _ (and_true _ _ (each_member program.objects object x (object_is_known program) well.objects q)).1).1

  initial_value : (start : Here) (own : start.program ≡ program) (first : start.frame ≡ 0) (cell : Cell) (site_is : object_in (site_of (λ n. []) cell.root) ≡ object_of cell.root) (parts : List Initial)
      → ((i : ℕ) (part : Initial) → slice_get parts i ≡ Some part → (j : ℕ) × (slice_get (initial_of program (object_of cell.root)) j ≡ Some part))
      → list_all (λ (part : Initial). is_initial program part.value) parts ≡ true → IsBelow 1 cell.root
      → OnOption (Points program (λ n. []) (IsBelow 1) cell) (initial_in start parts cell.path)
  initial_value start own first cell s [] w k b = tt
  initial_value start own first cell s (part ∷ parts) w k b = if_either (OnOption (Points program (λ n. []) (IsBelow 1) cell)) (same_numbers part.path cell.path) _ _
      (λ e. option_on_map (Named program (λ n. []) (IsBelow 1) [] start own (λ n. below_here 1 start n (subst (λ n. n < 1) (sym first) (omega arith))) part.value) (Points program (λ n. []) (IsBelow 1) cell)
      (λ to n. (
        b,
        n.0,
        initial (site_of (λ n. []) cell.root) cell.path (w zero part refl).0 part (place_of (λ n. []) to)
            (subst (λ o. slice_get (initial_of program o) (w zero part refl).0 ≡ Some part) (sym s) (w zero part refl).1)
            (ap (steps_of program (declared_type program (object_in (site_of (λ n. []) cell.root)))) (sym (numbers_same _ _ e))) n.1,
      )) _
      (initial_named program (λ n. []) (IsBelow 1) [] start own (λ n. below_here 1 start n (subst (λ n. n < 1) (sym first) (omega arith))) part.value (and_true _ _ k).0))
      (λ e. initial_value start own first cell s parts (λ i p q. w (suc i) p q) (and_true _ _ k).1 b)

  opening_cell : (root : Root) (path : List ℕ) → OnOption (Points program (λ n. []) (IsBelow 1) (record { root = root; path = path })) (initial_at program root path)
  opening_cell (Static object) path = initial_value (at_start program 0) refl refl (record { root = Static object; path = path }) refl (initial_of program object) (λ i p q. (i, q)) (parts_fine object) tt
  opening_cell (Of_thread thread object) path = initial_value (at_start program thread) refl refl (record { root = Of_thread thread object; path = path }) refl (initial_of program object) (λ i p q. (i, q)) (parts_fine object) tt
  opening_cell (Of_frame frame object) path = tt

  opening_holds : Holding program (opening program)
  unfolding opening
  opening_holds = record {
    cells = λ cell. opening_cell cell.root cell.path;
    keys = λ key. tt;
    results = λ t. if_either (λ (thread : Thread). StandFine program (λ n. []) (IsBelow 1) thread.stand) (t == 0) (thread_before program program.main 0 []) no_thread (λ e. tt) (λ e. tt);
    frames = λ t. if_either (λ (thread : Thread). FramesGive program (λ n. []) (frames_of thread.stand)) (t == 0) (thread_before program program.main 0 []) no_thread (λ e. tt) (λ e. tt);
  }

  -- ---- runs

  holding_step : (run : List Choice) (good : IsGoodRun program run) → Holding program (state_after program run) → (choice : Choice) (found : Outcome)
      → outcome program (state_after program run) choice ≡ found → HasMeaning found → Holding program (advanced program (state_after program run) choice.thread found)
  holding_step run good h choice No_step e m = absurd m
  holding_step run good h choice Undefined e m = absurd m
  holding_step run good h choice (Does move effect) e m = holding_after program well run good h choice move effect (by_an_ask program (state_after program run) choice move effect e)

  pub holding_run : (run : List Choice) → IsGoodRun program run → Holding program (state_after program run)
  unfolding state_after outcome_of
  holding_run [] g = opening_holds
  holding_run (choice ∷ run) g = holding_step run g.0 (holding_run run g.0) choice (outcome program (state_after program run) choice) refl g.1
