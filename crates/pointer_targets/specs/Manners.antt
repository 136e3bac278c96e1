-- How a data region is accessed.
use Rattle.std.specs.Prelude.{◌≡◌, Bool, true, false, ◌&&◌, ◌||◌}
use Rattle.c_program.specs.declared.program.Program.{Program}
use Rattle.c_program.specs.Syntax.{act_at}
use Rattle.c_program.specs.Values.{Location}
use Rattle.c_program.specs.Control.{Point}
use Rattle.pointer_targets.specs.Accesses.{MayTouch}

pub record Manner : Type 0 where
  pub writes : Bool
  pub is_atomic : Bool

-- one of the two writes, and they are not both atomic
abbrev pub AreInConflict : Manner → Manner → Type 0
AreInConflict a b = ((a.writes || b.writes) ≡ true) × ((a.is_atomic && b.is_atomic) ≡ false)

-- the point's action may access the region so
abbrev pub MayAccessAt : Program → Point → Location → Manner → Type 0
MayAccessAt program point region manner = MayTouch program point.string point.spot (act_at program point.spot.action) manner.writes manner.is_atomic region
