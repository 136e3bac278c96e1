use Rattle.guideline_findings.proofs.Given.{given}
use Rattle.guideline_findings.proofs.CycleSilence.{each_link, waiting_sound}
use Rattle.soundness.proofs.laws.waiting.Goals as goal

pub returns-clause-links : goal.returns-clause-links
returns-clause-links c = λ facts sound. let well = c.requires in each_link c.args.program.now well facts (given c.args.program.now well facts sound.names)

pub returns-clause-edges : goal.returns-clause-edges
returns-clause-edges c = λ facts sound. let well = c.requires in waiting_sound c.args.program.now well facts (given c.args.program.now well facts sound.names)
