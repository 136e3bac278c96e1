use Rattle.guideline_findings.proofs.SilenceOfThreads.{silent_creations, silent_releases, silent_lives, silent_ends, silent_keys}
use Rattle.guideline_findings.proofs.laws.threads.Goals as goal

pub returns-clause-creations : goal.returns-clause-creations
returns-clause-creations c = λ facts. silent_creations c.args.program.now c.requires facts

pub returns-clause-releases : goal.returns-clause-releases
returns-clause-releases c = λ facts sound. silent_releases c.args.program.now c.requires facts sound

pub returns-clause-lives : goal.returns-clause-lives
returns-clause-lives c = λ facts sound. silent_lives c.args.program.now c.requires facts sound

pub returns-clause-ends : goal.returns-clause-ends
returns-clause-ends c = λ facts sound. silent_ends c.args.program.now c.requires facts sound

pub returns-clause-keys : goal.returns-clause-keys
returns-clause-keys c = λ facts sound. silent_keys c.args.program.now c.requires facts sound
