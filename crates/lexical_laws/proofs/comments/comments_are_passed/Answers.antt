use Rattle.lexical_laws.proofs.Closing.{block_passed, line_passed, open_faulty}
use Rattle.lexical_laws.proofs.comments.comments_are_passed.Goals as goal

pub returns-clause-block : goal.returns-clause-block
returns-clause-block c = block_passed

pub returns-clause-line : goal.returns-clause-line
returns-clause-line c = line_passed

pub returns-clause-open : goal.returns-clause-open
returns-clause-open c = open_faulty
