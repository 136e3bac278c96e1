use Rattle.guideline_findings.proofs.Firsts.{clean_text}
use Rattle.guideline_findings.proofs.laws.dependents.Goals as goal

pub returns : goal.returns
returns c = λ facts guideline semantic clean. clean_text c.args.program.now facts guideline semantic clean
