-- Places as keys.
use Rattle.std.specs.Prelude.{Bool}
use Rattle.misra_base.specs.declared.place.Place.{Place}
use Rattle.misra_base.specs.contracts.place.PlacePartialEq.TheImpl as places

-- `==` of places
abbrev pub same_place : Place → Place → Bool
same_place = places.ghosts.eq
