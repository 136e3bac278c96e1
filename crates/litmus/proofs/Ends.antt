-- Steps that break a guideline on mutexes in no way: they end no thread and destroy nothing, or begin to wait first.
use Rattle.std.proofs.Common.{subst, ◌≡◌, inl, inr, sym, ap, ◌∙◌, Bool, true, false, List, ◌∷◌, length, Option, Some, None}
use Rattle.misra_base.specs.declared.guideline.Guideline.TheVariants.{R21_26, R22_16, R22_19}
use Rattle.c_program.specs.declared.program.Program.{Program}
use Rattle.c_program.specs.Requests.{Request, Destroys, Tries_timed, Waits}
use Rattle.c_program.specs.Values.{Cell}
use Rattle.c_program.specs.State.{Live}
use Rattle.c_program.specs.Effects.{finishes}
use Rattle.c_program.specs.Step.{Choice}
use Rattle.c_program.specs.Runs.{Moment, moment_at, state_after}
use Rattle.c_program.specs.Breaks.{Breaks, request_by, IsOtherThan}

abbrev pub destroys : Option Request → Bool
destroys (Some (Destroys m)) = true
destroys _ = false

abbrev pub ends : Option Moment → Bool
ends None = false
ends (Some moment) = finishes moment.effect.sync

pub keeps_going : (program : Program) (choice : Choice) (run : List Choice) → destroys (request_by program (state_after program run) choice) ≡ false
    → ends (moment_at program (choice ∷ run) (length run)) ≡ false → Breaks R22_16 program (choice ∷ run) → ⊥
keeps_going program choice run d e (inl b) = let f : false ≡ true = sym d ∙ ap destroys b.1 in cc
keeps_going program choice run d e (inr b) = let f : false ≡ true = sym e ∙ ap ends b.2 ∙ b.3 in cc

abbrev pub tries_timed : Option Request → Bool
tries_timed (Some (Tries_timed m result)) = true
tries_timed _ = false

pub keeps_plain : (program : Program) (choice : Choice) (run : List Choice) → tries_timed (request_by program (state_after program run) choice) ≡ false → Breaks R21_26 program (choice ∷ run) → ⊥
keeps_plain program choice run d b = let f : false ≡ true = sym d ∙ ap tries_timed b.2 in cc

abbrev pub waits : Option Request → Bool
waits (Some (Waits c m)) = true
waits _ = false

pub keeps_moving : (program : Program) (choice : Choice) (run : List Choice) → waits (request_by program (state_after program run) choice) ≡ false → Breaks R22_19 program (choice ∷ run) → ⊥
keeps_moving program choice run d b = let f : false ≡ true = sym d ∙ ap waits b.2 in cc

same_condition : (c d m n : Cell) → Some (Waits c m) ≡ Some (Waits d n) → c ≡ d
same_condition c d m n e = cc

pub waits_first : (program : Program) (choice : Choice) (run : List Choice) (c m : Cell) → request_by program (state_after program run) choice ≡ Some (Waits c m)
    → (state_after program run).condition c ≡ Live None → Breaks R22_19 program (choice ∷ run) → ⊥
waits_first program choice run c m e f (d, n, g, h) =
    subst (IsOtherThan n) f (subst (λ a. IsOtherThan n ((state_after program run).condition a)) (sym (same_condition c d m n (sym e ∙ g))) h)
