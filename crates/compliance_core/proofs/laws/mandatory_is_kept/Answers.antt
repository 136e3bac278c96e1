use Rattle.compliance_core.proofs.LawLemmas.{mandatory_kept}
use Rattle.compliance_core.proofs.laws.mandatory_is_kept.Goals as goal

pub returns : goal.returns
returns c = mandatory_kept
