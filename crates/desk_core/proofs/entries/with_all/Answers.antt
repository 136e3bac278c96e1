use Rattle.std.proofs.Common.{◌∙◌}
use Rattle.desk_core.proofs.Refusing.{in_order_planned}
use Rattle.desk_core.proofs.entries.with_all.Goals as goal

pub returns : goal.returns
returns c = c.with_entries.ensures ∙ in_order_planned _ _ _ c.in_order.ensures
