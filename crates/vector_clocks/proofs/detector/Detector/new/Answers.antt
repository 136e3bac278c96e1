use Rattle.vector_clocks.proofs.Noting.{same_kept}
use Rattle.vector_clocks.proofs.detector.Detector.new.Goals as goal

pub returns-clause-kept : goal.returns-clause-kept
returns-clause-kept c = same_kept _ _ c.new.ensures c.new-2.ensures c.new-3.ensures c.new-4.ensures c.new-5.ensures
