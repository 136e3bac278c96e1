use Rattle.c_lexer.specs.TokenClasses.{class_number}
use Rattle.c_reader.proofs.Choosing.{chosen}
use Rattle.c_reader.proofs.reader.Reader.starts_with.Goals as goal

pub returns-clause-moved : goal.returns-clause-moved
returns-clause-moved c =
    chosen c.args.left (class_number c.args.class) c.in_ok-first.first c.number.result c.args.self.now c.choose.new.self c.requires.two c.number.ensures c.in_ok-first.ensures.one c.in_ok-first.ensures.moved
