use Rattle.std.proofs.Common.{◌≡◌, ℕ, ◌-◌, List, Some}
use Rattle.std.specs.Io.KnownBytes.{prepend_known}
use Rattle.request_session.specs.Loops.{Follows}
use Rattle.request_session.proofs.running.serve_requests.Given as goal

abbrev pub invariant-loop : goal.invariant-loop
invariant-loop g l =
    ((all : List ℕ) → g.L.Source.left l.fn.link ≡ Some all
    → Follows g.S.Service.IsFirst g.S.Service.Answers (1000 - l.counter) (prepend_known l.bytes.items (g.L.Source.left l.link)) (g.S.Service.state l.service) (g.L.Sink.written l.link)
    1000 all (g.S.Service.state l.fn.service) (g.L.Sink.written l.fn.link))
    × (g.L.Link.other l.link ≡ g.L.Link.other l.fn.link)
    × (g.L.Source.faults l.link ≡ g.L.Source.faults l.fn.link)
