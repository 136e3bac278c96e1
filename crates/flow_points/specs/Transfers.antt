-- The functions that actions name.
use Rattle.std.specs.Prelude.{ℕ, Option, Some, None}
use Rattle.flow_points.specs.declared.transfer.Transfer.{Transfer}
use Rattle.flow_points.specs.declared.transfer.Transfer.TheVariants.{Call, Create}

-- the function that a call or a creation names
abbrev pub callee_of : Transfer → Option ℕ
callee_of (Call function) = Some function
callee_of (Create function) = Some function
callee_of _ = None
