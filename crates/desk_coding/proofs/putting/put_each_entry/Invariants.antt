use Rattle.std.proofs.Common.{◌≡◌, ◌++◌, true, take}
use Rattle.std.specs.List.{flat_map, list_all}
use Rattle.desk_coding.specs.Parts.{entry}
use Rattle.desk_coding.proofs.putting.put_each_entry.Given as goal

abbrev pub invariant-loop-entry : goal.invariant-loop-entry
invariant-loop-entry l = (l.out.items ≡ l.fn.out.items ++ flat_map entry.written (take l.entry-index l.entries)) × (list_all entry.fits (take l.entry-index l.entries) ≡ true)
