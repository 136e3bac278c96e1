use Rattle.run_clocks.proofs.Telling.{clocks_tell_before, clocks_tell_races}
use Rattle.run_clocks.proofs.Hearing.{each_run_is_heard}
use Rattle.run_clocks.proofs.laws.by_clocks.Goals as goal

pub returns-clause-heard : goal.returns-clause-heard
returns-clause-heard c = each_run_is_heard c.args.program.now

pub returns-clause-before : goal.returns-clause-before
returns-clause-before c = clocks_tell_before c.args.program.now

pub returns-clause-races : goal.returns-clause-races
returns-clause-races c = clocks_tell_races c.args.program.now
