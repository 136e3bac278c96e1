use Rattle.vector_clocks.specs.Clocks.{put_at}
use Rattle.vector_clocks.specs.Held.{last_of}
use Rattle.vector_clocks.proofs.Noting.{each_noted}
use Rattle.vector_clocks.proofs.accesses.Accesses.note.Goals as goal

pub returns : goal.returns
returns c = each_noted _ (last_of c.args.self.now) c.args.access c.args.cell (λ own. put_at own c.args.lane c.args.count) _ _ _
    c.is_plain.ensures c.is_write.ensures c.is_plain_write.ensures
    c.in_ok-mark.ensures c.in_ok-mark_if.ensures c.in_ok-mark_if-2.ensures c.in_ok-mark_if-3.ensures
