use Rattle.std.proofs.Common.{◌≡◌, ◌<◌, false, length}
use Rattle.compliance_core.specs.Hashes.{hash_count, hash_from, outside_from}
use Rattle.compliance_core.proofs.hashes.hash_outside.Given as goal

abbrev pub decreases-loop-rest : goal.decreases-loop-rest
decreases-loop-rest l = length l.rest

abbrev pub invariant-loop-rest : goal.invariant-loop-rest
invariant-loop-rest l = record {
  summed : hash_from l.sum (outside_from l.inside l.rest) ≡ hash_from l.hash (outside_from false l.text);
  within : l.sum < hash_count;
}
