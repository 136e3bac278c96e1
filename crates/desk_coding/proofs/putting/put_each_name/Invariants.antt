use Rattle.std.proofs.Common.{◌≡◌, ◌++◌, true, take}
use Rattle.std.specs.List.{flat_map, list_all}
use Rattle.desk_coding.specs.Codings.{text}
use Rattle.desk_coding.proofs.putting.put_each_name.Given as goal

abbrev pub invariant-loop-name : goal.invariant-loop-name
invariant-loop-name l = (l.out.items ≡ l.fn.out.items ++ flat_map text.written (take l.name-index l.names)) × (list_all text.fits (take l.name-index l.names) ≡ true)
