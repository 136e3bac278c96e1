use Rattle.std.proofs.Common.{ap, ◌∙◌, sym, cond}
use Rattle.vector_clocks.specs.Clocks.{joined, nothing_known}
use Rattle.vector_clocks.specs.Held.{counts_of, clocks_of, kept_by}
use Rattle.vector_clocks.proofs.Noting.{joined_nothing, unheard}
use Rattle.vector_clocks.proofs.detector.Detector.hear.Goals as goal

pub returns-in_ok-tell-in-Join : goal.returns-in_ok-tell-in-Join
returns-in_ok-tell-in-Join c = rw c.in-Join.is c.in_ok-tell-in-Join.ensures

pub returns-in_ok-tell-in-Take : goal.returns-in_ok-tell-in-Take
returns-in_ok-tell-in-Take c = rw c.in-Take.is c.in_ok-tell-in-Take.ensures

pub returns-in_ok-tell-in-Access : goal.returns-in_ok-tell-in-Access
returns-in_ok-tell-in-Access c = rw c.in-Access.is (c.in_ok-tell-in-Access.ensures
    ∙ ap (λ b. joined (counts_of c.args.clock.now) (cond b (clocks_of c.args.self.now.values c.in-Access.cell) nothing_known)) c.if-is_atomic_read.ensures)

pub returns-else-is_atomic_read : goal.returns-else-is_atomic_read
returns-else-is_atomic_read c = rw c.in-Access.is (joined_nothing (counts_of c.args.clock.now)
    ∙ ap (λ b. joined (counts_of c.args.clock.now) (cond b (clocks_of c.args.self.now.values c.in-Access.cell) nothing_known)) c.if-is_atomic_read.ensures)

pub returns-in_default : goal.returns-in_default
returns-in_default c = joined_nothing (counts_of c.args.clock.now)
    ∙ ap (λ other. joined (counts_of c.args.clock.now) other) (sym (unheard (kept_by c.args.self.now) c.args.action c.in_default.not-Join c.in_default.not-Take c.in_default.not-Access))
