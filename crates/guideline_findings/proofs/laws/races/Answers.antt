use Rattle.guideline_findings.proofs.RaceSilence.{silent_races}
use Rattle.guideline_findings.proofs.laws.races.Goals as goal

pub returns : goal.returns
returns c = λ facts sound. silent_races c.args.program.now c.requires facts sound
