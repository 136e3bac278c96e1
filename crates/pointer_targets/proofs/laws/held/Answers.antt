use Rattle.pointer_targets.proofs.Candidates.{cells_allowed, keys_allowed, results_allowed}
use Rattle.pointer_targets.proofs.laws.held.Goals as goal

pub returns-clause-cells : goal.returns-clause-cells
returns-clause-cells c = cells_allowed c.args.program.now c.requires

pub returns-clause-keys : goal.returns-clause-keys
returns-clause-keys c = keys_allowed c.args.program.now c.requires

pub returns-clause-results : goal.returns-clause-results
returns-clause-results c = results_allowed c.args.program.now c.requires
