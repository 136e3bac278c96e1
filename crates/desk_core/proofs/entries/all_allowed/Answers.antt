use Rattle.desk_core.proofs.Refusing.{in_order_refused}
use Rattle.desk_core.proofs.entries.all_allowed.Goals as goal

pub returns-clause-answer : goal.returns-clause-answer
returns-clause-answer c = in_order_refused _ _ _ _ c.in_order.ensures c.entries_allowed.ensures.answer
