use Rattle.analysis.proofs.Supported.{form_supported}
use Rattle.analysis.proofs.premises.form_is_supported.Goals as goal

pub returns : goal.returns
returns c = form_supported c.classes_are_of_words.ensures
