use Rattle.pointer_targets.proofs.Candidates.{candidates_allowed, exact_is_led}
use Rattle.pointer_targets.proofs.laws.candidates.Goals as goal

pub returns-clause-candidates : goal.returns-clause-candidates
returns-clause-candidates c = candidates_allowed c.args.program.now c.requires

pub returns-clause-exact : goal.returns-clause-exact
returns-clause-exact c = exact_is_led c.args.program.now c.requires
