use Rattle.analysis.proofs.SampleTexts.{lock_supported, lock_clean}
use Rattle.analysis.proofs.premises.some_text_is_clean.Goals as goal

pub returns-clause-supported : goal.returns-clause-supported
returns-clause-supported c = lock_supported c.form_is_supported.ensures

pub returns-clause-clean : goal.returns-clause-clean
returns-clause-clean c = lock_clean

pub returns-clause-returns : goal.returns-clause-returns
returns-clause-returns c = c.some_run_returns.ensures
