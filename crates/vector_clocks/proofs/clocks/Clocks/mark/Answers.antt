use Rattle.vector_clocks.specs.Clocks.{put_at}
use Rattle.vector_clocks.specs.Held.{counts_of, clocks_of}
use Rattle.vector_clocks.proofs.Changes.{put_back}
use Rattle.vector_clocks.proofs.clocks.Clocks.mark.Goals as goal

pub returns : goal.returns
returns c = put_back _ (clocks_of c.take-own.new.self) _ c.args.key (counts_of c.take-own.result) (counts_of c.set.new.self) (λ own. put_at own c.args.lane c.args.count)
    c.take-own.ensures.here c.take-own.ensures.elsewhere c.in_ok-set.ensures c.in_ok-put.ensures
