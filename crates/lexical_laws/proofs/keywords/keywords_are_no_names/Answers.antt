use Rattle.lexical_laws.proofs.Reserved.{no_identifier, no_name}
use Rattle.lexical_laws.proofs.keywords.keywords_are_no_names.Goals as goal

pub returns-clause-identifier : goal.returns-clause-identifier
returns-clause-identifier c = no_identifier

pub returns-clause-token : goal.returns-clause-token
returns-clause-token c = no_name
