use Rattle.pointer_targets.proofs.Told.{told}
use Rattle.static_facts.proofs.Lifetimes.{unmade_possible}
use Rattle.guideline_findings.proofs.SilenceOfReleases.{states_possible}
use Rattle.guideline_findings.proofs.Joins.{only_main}
use Rattle.guideline_findings.proofs.SilenceOfThreads.{live, dead}
use Rattle.soundness.proofs.laws.lives_and_joins.Goals as goal

pub returns-clause-unmade : goal.returns-clause-unmade
returns-clause-unmade c = λ facts sound. let well = c.requires in unmade_possible c.args.program.now well facts.names (told c.args.program.now well facts.names sound.names)

pub returns-clause-live : goal.returns-clause-live
returns-clause-live c = λ facts sound. live c.args.program.now c.requires facts sound

pub returns-clause-dead : goal.returns-clause-dead
returns-clause-dead c = λ facts sound. dead c.args.program.now c.requires facts sound

pub returns-clause-threads : goal.returns-clause-threads
returns-clause-threads c = λ facts sound. let well = c.requires in states_possible c.args.program.now well facts.names (told c.args.program.now well facts.names sound.names)

pub returns-clause-releases : goal.returns-clause-releases
returns-clause-releases c = λ facts sound. only_main c.args.program.now c.requires facts sound
