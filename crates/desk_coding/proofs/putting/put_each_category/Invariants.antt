use Rattle.std.proofs.Common.{◌≡◌, ◌++◌, true, take}
use Rattle.std.specs.List.{flat_map, list_all}
use Rattle.desk_coding.specs.Parts.{category}
use Rattle.desk_coding.proofs.putting.put_each_category.Given as goal

abbrev pub invariant-loop-category : goal.invariant-loop-category
invariant-loop-category l = (l.out.items ≡ l.fn.out.items ++ flat_map category.written (take l.category-index l.categories)) × (list_all category.fits (take l.category-index l.categories) ≡ true)
