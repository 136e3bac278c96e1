use Rattle.guideline_findings.proofs.TextSilence.{silent_orders, silent_touches, silent_objects}
use Rattle.guideline_findings.proofs.laws.text.Goals as goal

pub returns-clause-orders : goal.returns-clause-orders
returns-clause-orders c = λ facts. silent_orders c.args.program.now facts

pub returns-clause-touches : goal.returns-clause-touches
returns-clause-touches c = λ facts. silent_touches c.args.program.now facts

pub returns-clause-objects : goal.returns-clause-objects
returns-clause-objects c = λ facts. silent_objects c.args.program.now c.requires facts
