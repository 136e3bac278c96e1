use Rattle.compliance_core.proofs.LawLemmas.{mandatory_stands}
use Rattle.compliance_core.proofs.laws.mandatory_findings_stand.Goals as goal

pub returns : goal.returns
returns c = mandatory_stands
