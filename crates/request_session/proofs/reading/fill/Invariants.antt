use Rattle.std.proofs.Common.{◌≡◌, ◌-◌, length}
use Rattle.std.specs.Io.KnownBytes.{Keeps, prepend_known}
use Rattle.request_session.proofs.reading.fill.Given as goal

abbrev pub invariant-loop-room : goal.invariant-loop-room
invariant-loop-room g l =
    Keeps (prepend_known l.fn.bytes.items (g.S.Source.left l.fn.source)) (prepend_known l.bytes.items (g.S.Source.left l.source))
    × (g.S.Source.rest l.source ≡ g.S.Source.rest l.fn.source)
    × (g.S.Source.faults l.source ≡ g.S.Source.faults l.fn.source)
    × (length l.room ≡ 4096)

abbrev pub decreases-loop-room : goal.decreases-loop-room
decreases-loop-room g l = l.need - length l.bytes.items
