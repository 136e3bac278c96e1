use Rattle.std.proofs.Common.{◌∙◌}
use Rattle.compliance_core.proofs.PlanLemmas.{category_read}
use Rattle.desk_json.proofs.fields.read_category.Goals as goal

pub returns : goal.returns
returns c = c.ok.ensures.value ∙ category_read c.args.word.now c.from_str.result c.from_str.ensures
