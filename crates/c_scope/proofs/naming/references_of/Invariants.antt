use Rattle.std.proofs.Common.{◌≡◌, drop}
use Rattle.indexmap.specs.IndexMap.{get}
use Rattle.misra_base.specs.declared.place.Place.{Place}
use Rattle.c_names.specs.References.{same_place}
use Rattle.c_scope.specs.Names.{number_at, or_else}
use Rattle.c_scope.proofs.naming.references_of.Given as goal

abbrev pub invariant-loop-seen : goal.invariant-loop-seen
invariant-loop-seen l =
    (place : Place) → or_else (number_at place (drop l.seen-index l.all)) (get same_place l.references place) ≡ number_at place l.all
