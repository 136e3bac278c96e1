use Rattle.guideline_findings.proofs.Joins.{only_main}
use Rattle.guideline_findings.proofs.laws.joins.Goals as goal

pub returns : goal.returns
returns c = λ facts sound. only_main c.args.program.now c.requires facts sound
