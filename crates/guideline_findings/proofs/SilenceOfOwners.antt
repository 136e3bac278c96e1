-- Where Rule 22.16, 22.17 or 22.18 has no finding, no run breaks it.
use Rattle.std.proofs.Common.{◌≡◌, refl, true, ℕ, List}
use Rattle.misra_base.specs.declared.guideline.Guideline.{Guideline}
use Rattle.misra_base.specs.declared.guideline.Guideline.TheVariants.{R22_16, R22_17, R22_18}
use Rattle.c_program.specs.declared.program.Program.{Program}
use Rattle.c_program.specs.Values.{Location}
use Rattle.c_program.specs.Control.{Spot, Point}
use Rattle.c_program.specs.WellFormed.{IsWellFormed}
use Rattle.pointer_targets.specs.Candidates.{NamesAreSound}
use Rattle.pointer_targets.proofs.Told.{Told, ObjectsAreStatic, told, are_static}
use Rattle.static_facts.specs.Points.{IsReachable}
use Rattle.static_facts.specs.Depths.{MayHold}
use Rattle.static_facts.specs.Facts.{Facts}
use Rattle.guideline_findings.specs.Findings.{kept_at_end, destroyed, given_up, locked_again, own, is_semantic, IsClean}
use Rattle.guideline_findings.specs.Silence.{IsSilent}
use Rattle.guideline_findings.proofs.Firsts.{clean_text}
use Rattle.guideline_findings.proofs.CleanText.{no_local_library}
use Rattle.guideline_findings.proofs.SilenceOfUnlocks.{silent_17}
use Rattle.guideline_findings.proofs.SilenceOfLocks.{held_reachable, silent_16, silent_18}

module _ (program : Program) (well : IsWellFormed program) (facts : Facts) (sound : NamesAreSound program facts.names) where
  given : Told program facts.names
  given = told program well facts.names sound

  static : (guideline : Guideline) → is_semantic guideline ≡ true → IsClean program facts guideline → ObjectsAreStatic program
  static guideline semantic clean = are_static program well (no_local_library program facts well (clean_text program facts guideline semantic clean))

  held : {thread : List Spot} {point : Point} {mutex : Location} {depth : ℕ} → MayHold program facts.names mutex thread point depth → IsReachable program thread point
  held h = held_reachable program facts.names _ _ _ h.0 h.1

  pub silent_ends : IsSilent program facts R22_16
  silent_ends clean = silent_16 program well facts.names given (static R22_16 refl clean)
      (λ t p m k. clean _ _ _ _ (own _ _ _ _ (kept_at_end t p m (held k.may_own.1.1) k)))
      (λ t p m k. clean _ _ _ _ (own _ _ _ _ (destroyed t p m (held k.may_own.1.1) k)))

  pub silent_unlocks : IsSilent program facts R22_17
  silent_unlocks clean = silent_17 program well facts.names given (static R22_17 refl clean)
      (λ t p m k. clean _ _ _ _ (own _ _ _ _ (given_up t p m (held k.may_be_free) k)))

  pub silent_locks : IsSilent program facts R22_18
  silent_locks clean = silent_18 program well facts.names given (static R22_18 refl clean)
      (λ t p m k. clean _ _ _ _ (own _ _ _ _ (locked_again t p m (held k.may_own.1.1) k)))
