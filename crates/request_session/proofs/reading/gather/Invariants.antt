use Rattle.std.proofs.Common.{◌≡◌, ◌<◌, ◌-◌, ◌+◌}
use Rattle.std.specs.Io.KnownBytes.{Keeps, prepend_known}
use Rattle.request_session.proofs.reading.gather.Given as goal

abbrev pub invariant-loop-ended : goal.invariant-loop-ended
invariant-loop-ended g l =
    Keeps (prepend_known l.fn.bytes.items (g.L.Source.left l.fn.source)) (prepend_known l.bytes.items (g.L.Source.left l.source))
    × (g.L.Source.rest l.source ≡ g.L.Source.rest l.fn.source)
    × (g.L.Source.faults l.source ≡ g.L.Source.faults l.fn.source)
    × (g.S.Service.state l.service ≡ g.S.Service.state l.fn.service)
    × (0 < l.need)

abbrev pub decreases-loop-ended : goal.decreases-loop-ended
decreases-loop-ended g l = g.S.Service.ROOM + 1 - l.need
