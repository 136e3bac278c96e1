use Rattle.guideline_findings.proofs.CleanText.{no_local_library}
use Rattle.guideline_findings.proofs.laws.libraries.Goals as goal

pub returns : goal.returns
returns c = λ facts clean. no_local_library c.args.program.now facts c.requires clean
