-- What the samples say, and the texts among them that are no litmus test of the meaning.
use Rattle.std.specs.Prelude.{ℕ, [], ◌∷◌, Option}
use Rattle.misra_base.specs.declared.guideline.Guideline.{Guideline}
use Rattle.misra_base.specs.declared.kind.Kind.{Kind}
use Rattle.misra_base.specs.declared.place.Place.{Place}
use Rattle.c_program.specs.declared.program.Program.{Program}
use Rattle.c_program.specs.Values.{Location}
use Rattle.litmus.specs.Pieces.{m, straight, in_w, in_main, return_0, init, lock, unlock, create}
use Rattle.static_facts.specs.Facts.{Facts}
use Rattle.static_facts.specs.Analyses.{AreSound}
use Rattle.guideline_findings.specs.Findings.{Subject, Finding}

-- the location of a whole object
abbrev pub static : ℕ → Location
static object = record { object = object; steps = [] }

-- whatever the answers, as long as they are sound, the report has this finding
abbrev pub HasFinding : Program → Guideline → Place → Subject → Kind → Option Place → Type 0
HasFinding program guideline place subject kind other = (facts : Facts) → AreSound program facts → Finding program facts guideline place subject kind other

-- w: (void)mtx_unlock(&m);    main: (void)mtx_init(&m, mtx_plain); (void)mtx_lock(&m); (void)thrd_create(&t, w, NULL);
abbrev pub unlock_by_another : Program
unlock_by_another = straight [] (in_w 33 (unlock m) ∷ in_w 49 return_0 ∷ []) (in_main 24 (init m) ∷ in_main 55 (lock m) ∷ in_main 75 create ∷ in_main 101 return_0 ∷ [])
