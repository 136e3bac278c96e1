use Rattle.pointer_targets.proofs.Candidates.{named, exactly_named}
use Rattle.pointer_targets.proofs.laws.by_tests.Goals as goal

pub returns-clause-may_name : goal.returns-clause-may_name
returns-clause-may_name c = named c.args.program.now c.requires

pub returns-clause-exact : goal.returns-clause-exact
returns-clause-exact c = exactly_named c.args.program.now c.requires
