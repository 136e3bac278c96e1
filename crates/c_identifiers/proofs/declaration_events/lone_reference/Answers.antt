use Rattle.std.proofs.Common.{◌≡◌, ◌≢◌, List, [], ◌∷◌, length, None, refl, arith}
use Rattle.c_tree.specs.declared.expression.Specifier.{Specifier}
use Rattle.c_tree.specs.Views.{specifiers_view}
use Rattle.c_identifiers.specs.Statements.{lone_reference}
use Rattle.c_identifiers.proofs.declaration_events.lone_reference.Goals as goal

none_of_others : (xs : List Specifier) → length xs ≢ 1 → None ≡ lone_reference (specifiers_view xs)
none_of_others [] ne = refl
none_of_others (x ∷ []) ne = absurd (ne refl)
none_of_others (x ∷ y ∷ xs) ne = refl

pub returns-then-specifiers-ne1 : goal.returns-then-specifiers-ne1
returns-then-specifiers-ne1 c = none_of_others _ (omega arith)
