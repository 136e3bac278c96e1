use Rattle.pointer_targets.proofs.Told.{told}
use Rattle.guideline_findings.proofs.SilenceOfReleases.{states_possible}
use Rattle.guideline_findings.proofs.SilenceOfThreads.{live, dead}
use Rattle.guideline_findings.proofs.laws.lives.Goals as goal

pub returns-clause-threads : goal.returns-clause-threads
returns-clause-threads c = λ names sound. let well = c.requires in states_possible c.args.program.now well names (told c.args.program.now well names sound)

pub returns-clause-live : goal.returns-clause-live
returns-clause-live c = λ facts sound. live c.args.program.now c.requires facts sound

pub returns-clause-dead : goal.returns-clause-dead
returns-clause-dead c = λ facts sound. dead c.args.program.now c.requires facts sound
