use Rattle.pointer_targets.proofs.Accessed.{reads_allowed, writes_allowed}
use Rattle.pointer_targets.proofs.Conflicts.{conflicts_told}
use Rattle.pointer_targets.proofs.laws.accesses.Goals as goal

pub returns-clause-reads : goal.returns-clause-reads
returns-clause-reads c = reads_allowed c.args.program.now c.requires

pub returns-clause-writes : goal.returns-clause-writes
returns-clause-writes c = writes_allowed c.args.program.now c.requires

pub returns-clause-conflicts : goal.returns-clause-conflicts
returns-clause-conflicts c = conflicts_told c.args.program.now c.requires
