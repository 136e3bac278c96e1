use Rattle.guideline_findings.proofs.RaceSilence.{silent_races}
use Rattle.soundness.proofs.Halves.{sound}
use Rattle.silence_samples.specs.Locked.{locked_writes, locked_facts}
use Rattle.silence_samples.proofs.LockedExact.{exact}
use Rattle.silence_samples.proofs.LockedClean.{well_formed, clean}
use Rattle.silence_samples.proofs.laws.locked.Goals as goal

pub returns-clause-exact : goal.returns-clause-exact
returns-clause-exact c = exact

pub returns-clause-clean : goal.returns-clause-clean
returns-clause-clean c = clean

pub returns-clause-silent : goal.returns-clause-silent
returns-clause-silent c = λ run is_run breaks. silent_races locked_writes well_formed locked_facts (sound locked_writes locked_facts exact) clean run is_run breaks
