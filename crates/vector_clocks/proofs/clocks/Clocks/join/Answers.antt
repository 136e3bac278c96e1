use Rattle.vector_clocks.specs.Clocks.{joined}
use Rattle.vector_clocks.specs.Held.{counts_of, clocks_of}
use Rattle.vector_clocks.proofs.Changes.{put_back}
use Rattle.vector_clocks.proofs.clocks.Clocks.join.Goals as goal

pub returns : goal.returns
returns c = put_back _ (clocks_of c.take-own.new.self) _ c.args.key (counts_of c.take-own.result) (counts_of c.join.new.self) (λ own. joined own (counts_of c.args.clock.now))
    c.take-own.ensures.here c.take-own.ensures.elsewhere c.in_ok-join.ensures c.in_ok-put.ensures
