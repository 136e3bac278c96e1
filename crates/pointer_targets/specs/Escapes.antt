-- What leaves its thread or its call.
use Rattle.std.specs.Prelude.{◌≡◌, ℕ, Bool, true, false, List, Option}
use Rattle.c_program.specs.declared.expression.Expr.{Expr}
use Rattle.c_program.specs.declared.action.Local.{Local}
use Rattle.c_program.specs.declared.action.LibraryCall.TheVariants as lib
use Rattle.c_program.specs.declared.action.Act.TheVariants as act
use Rattle.c_program.specs.declared.program.Program.{Program}
use Rattle.c_program.specs.Control.{Spot}
use Rattle.pointer_targets.specs.Places.{Site, Of_all, Place}
use Rattle.pointer_targets.specs.PointsTo.{Stands, Returns, MayPointTo, Holds, Keeps, Results}

abbrev pub is_static_site : Site → Bool
is_static_site (Of_all object) = true
is_static_site _ = false

-- the address of an automatic or thread-storage object comes into a static object, a key, the argument of a created
-- thread, or the result of a function or of a thread
pub data Escapes (program : Program) : Place → Type 0 where
  into_static : (holder target : Place) → is_static_site target.site ≡ false → is_static_site holder.site ≡ true → Holds program holder target → Escapes program target
  into_key : (key target : Place) → is_static_site target.site ≡ false → Keeps program key target → Escapes program target
  into_thread : (string : List Spot) (spot : Spot) (o argument : Expr) (f : ℕ) (into : Option Local) (target : Place) → is_static_site target.site ≡ false
      → Stands program string spot (act.Library (lib.ThreadCreate o f argument) into) → MayPointTo program string spot.rounds argument target → Escapes program target
  by_return : (thread string : List Spot) (spot : Spot) (e : Expr) (target : Place) → is_static_site target.site ≡ false
      → Returns program thread string spot e → MayPointTo program string spot.rounds e target → Escapes program target
  by_exit : (target : Place) → is_static_site target.site ≡ false → Results program target → Escapes program target

abbrev pub NoneEscapes : Program → Type 0
NoneEscapes program = (target : Place) → Escapes program target → ⊥
