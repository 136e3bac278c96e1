use Rattle.guideline_findings.proofs.Given.{given}
use Rattle.guideline_findings.proofs.CycleSilence.{each_link, waiting_sound, silent_waits}
use Rattle.guideline_findings.proofs.laws.waits.Goals as goal

pub returns-clause-links : goal.returns-clause-links
returns-clause-links c = λ facts sound. each_link c.args.program.now c.requires facts (given c.args.program.now c.requires facts sound)

pub returns-clause-edges : goal.returns-clause-edges
returns-clause-edges c = λ facts sound. waiting_sound c.args.program.now c.requires facts (given c.args.program.now c.requires facts sound)

pub returns-clause-cycles : goal.returns-clause-cycles
returns-clause-cycles c = λ facts sound. silent_waits c.args.program.now c.requires facts (given c.args.program.now c.requires facts sound)
