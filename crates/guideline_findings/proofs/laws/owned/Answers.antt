use Rattle.guideline_findings.proofs.SilenceOfOwners.{silent_ends, silent_unlocks, silent_locks}
use Rattle.guideline_findings.proofs.laws.owned.Goals as goal

pub returns-clause-ends : goal.returns-clause-ends
returns-clause-ends c = λ facts sound. silent_ends c.args.program.now c.requires facts sound

pub returns-clause-unlocks : goal.returns-clause-unlocks
returns-clause-unlocks c = λ facts sound. silent_unlocks c.args.program.now c.requires facts sound

pub returns-clause-locks : goal.returns-clause-locks
returns-clause-locks c = λ facts sound. silent_locks c.args.program.now c.requires facts sound
