use Rattle.lexical_laws.proofs.Laying.{its_parts}
use Rattle.lexical_laws.proofs.parts.text_is_its_parts.Goals as goal

pub returns : goal.returns
returns c = its_parts
