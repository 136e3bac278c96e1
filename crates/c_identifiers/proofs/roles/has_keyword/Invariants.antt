use Rattle.std.proofs.Common.{◌≡◌, drop}
use Rattle.c_tree.specs.Views.{specifiers_view}
use Rattle.c_identifiers.specs.Roles.{has_keyword}
use Rattle.c_identifiers.proofs.roles.has_keyword.Given as goal

abbrev pub invariant-loop-specifier : goal.invariant-loop-specifier
invariant-loop-specifier l = has_keyword l.keyword (specifiers_view (drop l.specifier-index l.specifiers)) ≡ has_keyword l.keyword (specifiers_view l.specifiers)
