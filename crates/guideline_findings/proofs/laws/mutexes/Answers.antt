use Rattle.guideline_findings.proofs.Given.{given}
use Rattle.guideline_findings.proofs.TimedSilence.{silent_timed}
use Rattle.guideline_findings.proofs.ConditionSilence.{silent_conditions}
use Rattle.guideline_findings.proofs.laws.mutexes.Goals as goal

pub returns-clause-timed : goal.returns-clause-timed
returns-clause-timed c = λ facts sound. silent_timed c.args.program.now c.requires facts (given c.args.program.now c.requires facts sound)

pub returns-clause-conditions : goal.returns-clause-conditions
returns-clause-conditions c = λ facts sound. silent_conditions c.args.program.now c.requires facts (given c.args.program.now c.requires facts sound)
