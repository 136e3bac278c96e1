use Rattle.lexical_laws.proofs.Classed.{of_words}
use Rattle.lexical_laws.proofs.classes.classes_are_of_words.Goals as goal

pub returns : goal.returns
returns c = of_words
