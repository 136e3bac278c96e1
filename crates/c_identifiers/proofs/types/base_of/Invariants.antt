use Rattle.std.proofs.Common.{◌≡◌, drop}
use Rattle.c_tree.specs.Views.{specifiers_view}
use Rattle.c_identifiers.specs.Types.{base_from, base_of}
use Rattle.c_identifiers.proofs.types.base_of.Given as goal

abbrev pub invariant-loop-specifier : goal.invariant-loop-specifier
invariant-loop-specifier l = base_from l.base (specifiers_view (drop l.specifier-index l.specifiers)) ≡ base_of (specifiers_view l.specifiers)
