-- Where a guideline on threads or lives has no finding: lives are possible, and no run breaks it.
use Rattle.std.proofs.Common.{◌≡◌, refl, sym, subst, true, false, Some}
use Rattle.misra_base.specs.declared.guideline.Guideline.{Guideline}
use Rattle.misra_base.specs.declared.guideline.Guideline.TheVariants.{D5_3, R22_11, R22_14, R22_15, R22_20}
use Rattle.c_program.specs.declared.program.Program.{Program}
use Rattle.c_program.specs.Faults.{A_mutex, A_condition, A_key, A_thread}
use Rattle.c_program.specs.WellFormed.{IsWellFormed}
use Rattle.guideline_findings.specs.Findings.{is_semantic, IsClean}
use Rattle.guideline_findings.specs.LifeLaws.{LiveWhereClean, DeadWhereClean}
use Rattle.guideline_findings.proofs.Unfound.{none_outside, none_repeated, no_release, no_life_14, no_life_20, no_end}
use Rattle.guideline_findings.proofs.SilenceOfCreations.{silent_5_3}
use Rattle.guideline_findings.proofs.SilenceOfReleases.{silent_11}
use Rattle.guideline_findings.proofs.SilenceOfLives.{live_possible, silent_14, silent_20}
use Rattle.guideline_findings.proofs.SilenceOfEnds.{dead_possible, silent_15}
use Rattle.pointer_targets.proofs.Told.{Told, told, ObjectsAreStatic, are_static}
use Rattle.static_facts.specs.Facts.{Facts}
use Rattle.static_facts.specs.Analyses.{AreSound}
use Rattle.guideline_findings.specs.Silence.{IsSilent}
use Rattle.guideline_findings.proofs.Firsts.{clean_text}
use Rattle.guideline_findings.proofs.CleanText.{no_local_library}

pub silent_creations : (program : Program) → IsWellFormed program → (facts : Facts) → IsSilent program facts D5_3
silent_creations program well facts clean = silent_5_3 program well (none_outside program facts clean) (none_repeated program facts clean)

module _ (program : Program) (well : IsWellFormed program) (facts : Facts) (sound : AreSound program facts) where
  given : Told program facts.names
  given = told program well facts.names sound.names

  pub static : (guideline : Guideline) → is_semantic guideline ≡ true → IsClean program facts guideline → ObjectsAreStatic program
  static guideline semantic clean = are_static program well (no_local_library program facts well (clean_text program facts guideline semantic clean))

  -- ---- lives

  is_14 : (rule : Guideline) → Some R22_14 ≡ Some rule → R22_14 ≡ rule
  is_14 rule e = cc

  is_20 : (rule : Guideline) → Some R22_20 ≡ Some rule → R22_20 ≡ rule
  is_20 rule e = cc

  clean_14 : (rule : Guideline) → R22_14 ≡ rule → IsClean program facts rule → IsClean program facts R22_14
  clean_14 rule e c = subst (IsClean program facts) (sym e) c

  clean_20 : (rule : Guideline) → R22_20 ≡ rule → IsClean program facts rule → IsClean program facts R22_20
  clean_20 rule e c = subst (IsClean program facts) (sym e) c

  pub live : LiveWhereClean program facts
  live A_mutex rule e clean object location at run good control frames inside move s o l = let c = clean_14 rule (is_14 rule e) clean in
      live_possible program well facts.names given (static R22_14 refl c) false (no_life_14 program well facts sound c).outside A_mutex tt refl object location at run good control frames inside move s o l
  live A_condition rule e clean object location at run good control frames inside move s o l = let c = clean_14 rule (is_14 rule e) clean in
      live_possible program well facts.names given (static R22_14 refl c) false (no_life_14 program well facts sound c).outside A_condition tt refl object location at run good control frames inside move s o l
  live A_key rule e clean object location at run good control frames inside move s o l = let c = clean_20 rule (is_20 rule e) clean in
      live_possible program well facts.names given (static R22_20 refl c) true (no_life_20 program well facts sound c).outside A_key tt refl object location at run good control frames inside move s o l
  live A_thread rule e clean object location at run good control frames inside move s o l = absurd (cc)

  pub dead : DeadWhereClean program facts
  dead sort n clean object location at run good control frames inside move s o l =
      dead_possible program well facts.names given (static R22_15 refl clean) sort n (no_end program well facts sound clean).outside object location at run good control frames inside move s o l

  -- ---- silence

  pub silent_releases : IsSilent program facts R22_11
  silent_releases clean = silent_11 program well facts.names given (static R22_11 refl clean) (no_release program well facts sound clean)

  pub silent_lives : IsSilent program facts R22_14
  silent_lives clean = silent_14 program well facts.names given (static R22_14 refl clean) (no_life_14 program well facts sound clean)

  pub silent_keys : IsSilent program facts R22_20
  silent_keys clean = silent_20 program well facts.names given (static R22_20 refl clean) (no_life_20 program well facts sound clean)

  pub silent_ends : IsSilent program facts R22_15
  silent_ends clean = silent_15 program well facts.names given (static R22_15 refl clean) (no_end program well facts sound clean)
