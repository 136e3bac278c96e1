-- What the walk over the events knows of the types of typedef names.
use Rattle.std.specs.Prelude.{◌≡◌, ℕ, List, nat_eq}
use Rattle.indexmap.specs.IndexMap.{get}
use Rattle.c_visibility.specs.declared.spelled.Spelled.{Spelled}
use Rattle.c_visibility.specs.declared.typedefs.Typedefs.{Typedefs}
use Rattle.c_visibility.specs.Typedefs.{class_named, worst}

pub record Recalls (typedefs : Typedefs) (before : List Spelled) : Type 0 where
  pub classes : (name : ℕ) → get nat_eq typedefs.classes name ≡ class_named name before
  pub parameters : typedefs.parameters ≡ worst before
