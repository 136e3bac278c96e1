use Rattle.c_program.proofs.Control.{control_sound}
use Rattle.pointer_targets.proofs.Candidates.{cells_allowed, keys_allowed, names_allowed}
use Rattle.soundness.proofs.laws.control_and_pointers.Goals as goal
use Rattle.pointer_targets.proofs.Apart.{none_reached}

pub returns-clause-control : goal.returns-clause-control
returns-clause-control c well = control_sound c.args.program.now well

pub returns-clause-cells : goal.returns-clause-cells
returns-clause-cells c = cells_allowed c.args.program.now c.requires

pub returns-clause-keys : goal.returns-clause-keys
returns-clause-keys c = keys_allowed c.args.program.now c.requires

pub returns-clause-names : goal.returns-clause-names
returns-clause-names c = names_allowed c.args.program.now c.requires

pub returns-clause-apart : goal.returns-clause-apart
returns-clause-apart c = none_reached c.args.program.now c.requires
