use Rattle.vector_clocks.specs.Held.{kept_by}
use Rattle.vector_clocks.proofs.Noting.{begun, heard_is}
use Rattle.vector_clocks.proofs.detector.Detector.begin.Goals as goal

pub returns : goal.returns
returns c = begun _ _ _ _ _ _ _ _ c.new-clock.ensures c.in_ok-tell.ensures c.in_ok-tell-2.ensures c.in_ok-hear.ensures
    (heard_is (kept_by c.args.self.now) c.args.event.action)
