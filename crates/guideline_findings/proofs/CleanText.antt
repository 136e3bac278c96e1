-- Where the text is clean, no library object is local.
use Rattle.std.proofs.Common.{◌≡◌, refl, Bool, true, false, ◌||◌, ℕ, suc, List, [], ◌∷◌, Some, None}
use Rattle.std.specs.Prelude.{slice_get}
use Rattle.std.specs.List.{list_any}
use Rattle.misra_base.specs.declared.guideline.Guideline.TheVariants.{R22_12, R22_13}
use Rattle.c_program.specs.declared.program.Storage.{Storage}
use Rattle.c_program.specs.declared.program.Storage.TheVariants as storage
use Rattle.c_program.specs.declared.program.Object.{Object}
use Rattle.c_program.specs.declared.program.Program.{Program}
use Rattle.c_program.specs.Types.{is_declared, holds_library}
use Rattle.c_program.specs.WellFormed.{IsWellFormed, holds_only_for_touch}
use Rattle.c_program.proofs.Cells.{and_true}
use Rattle.pointer_targets.proofs.Opening.{each_member}
use Rattle.pointer_targets.specs.Laws.{holds_locally, NoLocalLibrary}
use Rattle.static_facts.specs.Facts.{Facts}
use Rattle.guideline_findings.specs.Findings.{automatic, thread_storage, touch}
use Rattle.guideline_findings.specs.Silence.{HasCleanText}
use Rattle.guideline_findings.proofs.Named.{found_one, touch_of}

library_held : (program : Program) (o : Object) → holds_locally program o ≡ true → holds_library program o.c_type ≡ true
library_held program o e = (and_true _ (holds_library program o.c_type) e).1

not_static : (program : Program) (o : Object) → o.storage ≡ storage.Static → holds_locally program o ≡ true → ⊥
not_static program o r e = absurd (cc)

module _ (program : Program) (facts : Facts) (well : IsWellFormed program) (clean : HasCleanText program facts) where
  local : (n : ℕ) (o : Object) → slice_get program.objects n ≡ Some o → holds_locally program o ≡ true → ⊥
  local n o has e = go o.storage refl
    where
      library : holds_library program o.c_type ≡ true
      library = library_held program o e

      of_automatic : o.storage ≡ storage.Automatic → (b : Bool) → is_declared o ≡ b → ⊥
      of_automatic r true d = clean o.place (record {
        rule = R22_13;
        judged = refl;
        subject = _;
        kind = _;
        other = None;
        found = automatic o d (record { number = n; has = has; stored = r; holds = library });
      })
      of_automatic r false d = let f = touch_of program o (each_member program.objects n o (holds_only_for_touch program) well.fresh has) d library in
          clean _ (record { rule = R22_12; judged = refl; subject = _; kind = _; other = None; found = touch f.0 f.1 })

      go : (s : Storage) → o.storage ≡ s → ⊥
      go storage.Static r = not_static program o r e
      go storage.Automatic r = of_automatic r (is_declared o) refl
      go storage.Thread r = clean o.place (record {
        rule = R22_13;
        judged = refl;
        subject = _;
        kind = _;
        other = None;
        found = thread_storage o (record { number = n; has = has; stored = r; holds = library });
      })

  pub no_local_library : NoLocalLibrary program
  no_local_library = go (list_any (holds_locally program) program.objects) refl
    where
      go : (b : Bool) → list_any (holds_locally program) program.objects ≡ b → b ≡ false
      go false e = refl
      go true e = let f = found_one (holds_locally program) program.objects e in absurd (local f.number f.one f.has f.holds)
