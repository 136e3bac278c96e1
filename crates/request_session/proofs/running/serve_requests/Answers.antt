use Rattle.std.proofs.Common.{◌∙◌, ◌-◌, refl, arith}
use Rattle.request_session.specs.declared.stop.SessionStop.{SessionStop}
use Rattle.request_session.proofs.Sessions.{all_read, begins, goes_on}
use Rattle.request_session.proofs.running.serve_requests.Goals as goal

pub loop-init : goal.loop-init
loop-init g c = (λ all is. begins g.S.Service.IsFirst g.S.Service.Answers 1000 _ all _ _ _ c.new-bytes.ensures.items is, refl, refl)

pub loop-preserved : goal.loop-preserved
loop-preserved g c = (
  λ all is. goes_on g.S.Service.IsFirst g.S.Service.Answers SessionStop _ c.loop.counter all _ _ _ _ _ _ _ _ c.loop-test.true c.in-Ok-true.field-0-test c.in-Ok-true.ensures.turn (c.loop.invariant.0 all is),
  c.in-Ok-true.ensures.other ∙ c.loop.invariant.1,
  c.in-Ok-true.ensures.cause.kept ∙ c.loop.invariant.2,
)

pub returns-clause-served : goal.returns-clause-served
returns-clause-served g c all is =
    all_read g.S.Service.IsFirst g.S.Service.Answers (1000 - c.loop.counter) all _ _ _ _ _ (omega (arith, c.loop-test.false)) (c.loop.invariant.0 all is)
