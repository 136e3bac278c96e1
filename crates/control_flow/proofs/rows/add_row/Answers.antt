use Rattle.std.proofs.Common.{◌∙◌, ap}
use Rattle.std.proofs.lemmas.Result.{on_ok_weaker}
use Rattle.control_flow.specs.Rows.{nexts_in}
use Rattle.control_flow.proofs.Rowing.{rows_joined}
use Rattle.control_flow.proofs.rows.add_row.Goals as goal

pub returns : goal.returns
returns c = on_ok_weaker c.push_row.result (λ e. ap nexts_in e ∙ rows_joined c.args.rows.now.items _) c.push_row.ensures
