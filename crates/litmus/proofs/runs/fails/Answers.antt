use Rattle.std.proofs.Common.{refl}
use Rattle.c_program.proofs.Build.{computes}
use Rattle.litmus.proofs.Plain.{plain}
use Rattle.litmus.proofs.runs.fails.Goals as goal

pub returns-clause-creation : goal.returns-clause-creation
unfolding computes
returns-clause-creation c = record {
  is_well_formed = plain _ refl;
  busy = record { is_run = (tt, tt); answered = refl; mutex = refl; condition = refl; key = refl; holds = refl; threads = refl; calls = refl };
  error = record { is_run = (tt, tt); answered = refl; mutex = refl; condition = refl; key = refl; holds = refl; threads = refl; calls = refl };
  nomem = record { is_run = (tt, tt); answered = refl; mutex = refl; condition = refl; key = refl; holds = refl; threads = refl; calls = refl };
  timedout = record { is_run = (tt, tt); answered = refl; mutex = refl; condition = refl; key = refl; holds = refl; threads = refl; calls = refl };
  no_other = refl;
}

pub returns-clause-mutex : goal.returns-clause-mutex
unfolding computes
returns-clause-mutex c = record {
  is_well_formed = plain _ refl;
  busy = record { is_run = (tt, tt); answered = refl; mutex = refl; condition = refl; key = refl; holds = refl; threads = refl; calls = refl };
  error = record { is_run = (tt, tt); answered = refl; mutex = refl; condition = refl; key = refl; holds = refl; threads = refl; calls = refl };
  nomem = record { is_run = (tt, tt); answered = refl; mutex = refl; condition = refl; key = refl; holds = refl; threads = refl; calls = refl };
  timedout = record { is_run = (tt, tt); answered = refl; mutex = refl; condition = refl; key = refl; holds = refl; threads = refl; calls = refl };
  no_other = refl;
}

pub returns-clause-condition : goal.returns-clause-condition
unfolding computes
returns-clause-condition c = record {
  is_well_formed = plain _ refl;
  busy = record { is_run = (tt, tt); answered = refl; mutex = refl; condition = refl; key = refl; holds = refl; threads = refl; calls = refl };
  error = record { is_run = (tt, tt); answered = refl; mutex = refl; condition = refl; key = refl; holds = refl; threads = refl; calls = refl };
  nomem = record { is_run = (tt, tt); answered = refl; mutex = refl; condition = refl; key = refl; holds = refl; threads = refl; calls = refl };
  timedout = record { is_run = (tt, tt); answered = refl; mutex = refl; condition = refl; key = refl; holds = refl; threads = refl; calls = refl };
  no_other = refl;
}

pub returns-clause-key : goal.returns-clause-key
unfolding computes
returns-clause-key c = record {
  is_well_formed = plain _ refl;
  busy = record { is_run = (tt, tt); answered = refl; mutex = refl; condition = refl; key = refl; holds = refl; threads = refl; calls = refl };
  error = record { is_run = (tt, tt); answered = refl; mutex = refl; condition = refl; key = refl; holds = refl; threads = refl; calls = refl };
  nomem = record { is_run = (tt, tt); answered = refl; mutex = refl; condition = refl; key = refl; holds = refl; threads = refl; calls = refl };
  timedout = record { is_run = (tt, tt); answered = refl; mutex = refl; condition = refl; key = refl; holds = refl; threads = refl; calls = refl };
  no_other = refl;
}
