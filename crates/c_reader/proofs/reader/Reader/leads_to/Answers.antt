use Rattle.c_tables.specs.Grammar.{left_side}
use Rattle.c_reader.proofs.Choosing.{chosen}
use Rattle.c_reader.proofs.reader.Reader.leads_to.Goals as goal

pub returns-clause-moved : goal.returns-clause-moved
returns-clause-moved c =
    chosen c.args.left (left_side c.args.inner) c.in_ok-first.first c.symbol.result c.args.self.now c.choose.new.self c.requires.two c.symbol.ensures c.in_ok-first.ensures.one c.in_ok-first.ensures.moved
