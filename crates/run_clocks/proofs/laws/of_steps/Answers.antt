use Rattle.run_clocks.proofs.Telling.{before_is_of_steps, races_are_of_steps}
use Rattle.run_clocks.proofs.laws.of_steps.Goals as goal

pub returns-clause-before : goal.returns-clause-before
returns-clause-before c = before_is_of_steps c.args.program.now

pub returns-clause-races : goal.returns-clause-races
returns-clause-races c = races_are_of_steps c.args.program.now
