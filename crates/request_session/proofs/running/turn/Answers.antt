use Rattle.request_session.proofs.Sessions.{at_end, cut_off, stopped_at, turned}
use Rattle.request_session.specs.declared.stop.SessionStop.{SessionStop}
use Rattle.request_session.proofs.running.turn.Goals as goal

pub returns-in-Ok-clause-turn : goal.returns-in-Ok-clause-turn
returns-in-Ok-clause-turn g c pending is =
    turned g.S.Service.IsFirst g.S.Service.Answers SessionStop _ _ _ pending _ _ _ _ _ _ _ _ c.in-Ok-Some.answer _ is c.in-Ok-Some.ensures.stream c.in-Ok-Some.field-0-is c.in-Ok-Some.ensures.answer
    (g.met.L.Link.read_keeps_written _ _ c.in-Ok-Some.ensures.rest) c.deref.ensures.value c.in-Ok.ensures.bytes c.in-Ok.ensures.left c.drop_front.ensures

pub returns-in-Ok-Some-clause-turn : goal.returns-in-Ok-Some-clause-turn
returns-in-Ok-Some-clause-turn g c pending is limit room =
    cut_off g.S.Service.IsFirst g.S.Service.Answers limit _ _ pending _ _ _ _ _ _ _ c.in-Ok-Some.answer _ room is c.in-Ok-Some.ensures.stream c.in-Ok-Some.field-0-is c.in-Ok-Some.ensures.answer
    (g.met.L.Link.read_keeps_written _ _ c.in-Ok-Some.ensures.rest) c.deref.ensures.value c.in-Err-write_reply.ensures.bytes

pub returns-in-Ok-None-clause-turn : goal.returns-in-Ok-None-clause-turn
returns-in-Ok-None-clause-turn g c pending is limit room =
    at_end g.S.Service.IsFirst g.S.Service.Answers limit _ _ pending _ _ _ _ _ _ is c.in-Ok-None.ensures.stream c.in-Ok-None.field-0-is c.in-Ok-None.ensures.answer
    (g.met.L.Link.read_keeps_written _ _ c.in-Ok-None.ensures.rest)

pub returns-clause-turn : goal.returns-clause-turn
returns-clause-turn g c pending is limit room =
    stopped_at g.S.Service.IsFirst g.S.Service.Answers limit _ _ pending _ _ _ _ _ room is c.in-Err.ensures.answer (g.met.L.Link.read_keeps_written _ _ c.in-Err.ensures.rest)
