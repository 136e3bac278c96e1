use Rattle.pointer_targets.proofs.Apart.{none_reached, static_holds, keys_static, results_static}
use Rattle.pointer_targets.proofs.laws.apart.Goals as goal

pub returns-clause-threads : goal.returns-clause-threads
returns-clause-threads c = none_reached c.args.program.now c.requires

pub returns-clause-static_objects : goal.returns-clause-static_objects
returns-clause-static_objects c = static_holds c.args.program.now c.requires

pub returns-clause-keys : goal.returns-clause-keys
returns-clause-keys c = keys_static c.args.program.now c.requires

pub returns-clause-results : goal.returns-clause-results
returns-clause-results c = results_static c.args.program.now c.requires
