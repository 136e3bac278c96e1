use Rattle.lexical_laws.proofs.Cuts.{longest}
use Rattle.lexical_laws.proofs.lexemes.longest_token_is_cut.Goals as goal

pub returns : goal.returns
returns c = longest
