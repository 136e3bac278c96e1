use Rattle.std.proofs.Common.{◌≡◌, ◌<◌, length}
use Rattle.compliance_core.specs.Hashes.{hash_count, hash_from}
use Rattle.compliance_core.proofs.hashes.hash_from.Given as goal

abbrev pub decreases-loop-rest : goal.decreases-loop-rest
decreases-loop-rest l = length l.rest

abbrev pub invariant-loop-rest : goal.invariant-loop-rest
invariant-loop-rest l = record {
  summed : hash_from l.sum l.rest ≡ hash_from l.hash l.text;
  within : l.sum < hash_count;
}
