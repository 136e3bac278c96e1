use Rattle.std.proofs.Common.{◌≡◌, ◌++◌, true, take}
use Rattle.std.specs.List.{flat_map, list_all}
use Rattle.desk_coding.specs.Parts.{finding}
use Rattle.desk_coding.proofs.putting.put_each_finding.Given as goal

abbrev pub invariant-loop-finding : goal.invariant-loop-finding
invariant-loop-finding l = (l.out.items ≡ l.fn.out.items ++ flat_map finding.written (take l.finding-index l.found)) × (list_all finding.fits (take l.finding-index l.found) ≡ true)
