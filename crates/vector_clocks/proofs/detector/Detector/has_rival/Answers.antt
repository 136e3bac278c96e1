use Rattle.std.proofs.Common.{◌↔◌, ℕ, ◌<◌, subst, IsTrue}
use Rattle.vector_clocks.specs.Held.{counts_of, kept_by}
use Rattle.vector_clocks.proofs.Noting.{rival_here}
use Rattle.vector_clocks.proofs.detector.Detector.has_rival.Goals as goal

pub returns-in-Access : goal.returns-in-Access
returns-in-Access c =
    let r = subst (λ last. IsTrue c.exceeds.result ↔ ((thread : ℕ) × (counts_of c.args.clock.now thread < last c.in-Access.cell thread))) c.rivals.ensures c.exceeds.ensures in
    let h = rival_here c.args.event.thread c.in-Access.cell c.in-Access.access (kept_by c.args.self.now) (counts_of c.args.clock.now) in
    rw c.in-Access.is (λ t. h.0 (r.0 t), λ x. r.1 (h.1 x))
