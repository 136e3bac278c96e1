use Rattle.analysis.proofs.SampleTexts.{unlock_supported, unlock_finding}
use Rattle.analysis.proofs.premises.some_text_has_a_finding.Goals as goal

pub returns-clause-supported : goal.returns-clause-supported
returns-clause-supported c = unlock_supported c.form_is_supported.ensures

pub returns-clause-finding : goal.returns-clause-finding
returns-clause-finding c = unlock_finding

pub returns-clause-breaks : goal.returns-clause-breaks
returns-clause-breaks c = c.some_run_breaks.ensures
