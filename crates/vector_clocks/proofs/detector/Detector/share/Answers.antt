use Rattle.std.proofs.Common.{ap, ◌∙◌}
use Rattle.vector_clocks.specs.Clocks.{put_at}
use Rattle.vector_clocks.specs.Held.{counts_of, last_of, kept_by, noted}
use Rattle.vector_clocks.proofs.Noting.{values_moved, last_moved}
use Rattle.vector_clocks.proofs.detector.Detector.share.Goals as goal

pub returns-in_ok-join-in-Create-clause-births : goal.returns-in_ok-join-in-Create-clause-births
returns-in_ok-join-in-Create-clause-births c = rw c.in-Create.is c.in_ok-join-in-Create.ensures

pub returns-in_ok-join-in-Release-clause-mutexes : goal.returns-in_ok-join-in-Release-clause-mutexes
returns-in_ok-join-in-Release-clause-mutexes c = rw c.in-Release.is c.in_ok-join-in-Release.ensures

pub returns-in_ok-note-in-Access-clause-values : goal.returns-in_ok-note-in-Access-clause-values
returns-in_ok-note-in-Access-clause-values c = rw c.in-Access.is (c.in_ok-write_value-in-Access.ensures
    ∙ values_moved c.args.event.thread c.args.lane c.in-Access.cell c.in-Access.access (kept_by c.args.self.now) (counts_of c.args.clock.now))

pub returns-in_ok-note-in-Access-clause-last : goal.returns-in_ok-note-in-Access-clause-last
returns-in_ok-note-in-Access-clause-last c = rw c.in-Access.is (c.in_ok-note-in-Access.ensures
    ∙ ap (λ count. noted (last_of c.args.self.now.accesses) c.in-Access.access c.in-Access.cell (λ own. put_at own c.args.lane count)) c.count-count.ensures
    ∙ last_moved c.args.event.thread c.args.lane c.in-Access.cell c.in-Access.access (kept_by c.args.self.now) (counts_of c.args.clock.now))
