use Rattle.compliance_core.proofs.LawLemmas.{plans_allowed}
use Rattle.compliance_core.proofs.laws.plans_are_allowed.Goals as goal

pub returns : goal.returns
returns c = plans_allowed
