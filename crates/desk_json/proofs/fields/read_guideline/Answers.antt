use Rattle.std.proofs.Common.{◌∙◌}
use Rattle.compliance_core.proofs.PlanLemmas.{guideline_read}
use Rattle.desk_json.proofs.fields.read_guideline.Goals as goal

pub returns : goal.returns
returns c = c.ok.ensures.value ∙ guideline_read c.args.name.now c.from_str.result c.from_str.ensures
