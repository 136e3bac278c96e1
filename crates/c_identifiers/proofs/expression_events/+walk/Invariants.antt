use Rattle.std.proofs.Common.{◌≡◌, ◌++◌, map, drop}
use Rattle.c_tree.specs.Views.{expression_view, expressions_of, operation_view, operations_of, postfix_view, postfixes_of, specifiers_view, member_view, members_of, declarator_view, declarators_of, bound_view, bounds_of, enumerator_view, enumerators_of}
use Rattle.c_identifiers.specs.Expressions.{expressions_events, operations_events, postfixes_events, specifiers_events, members_events, declarators_events, bounds_events, enumerators_events}
use Rattle.c_identifiers.proofs.Walks.{GoesOn}
use Rattle.c_identifiers.proofs.expression_events.+walk.Given as goal

abbrev pub invariant-add_arguments-loop-expression : goal.invariant-add_arguments-loop-expression
invariant-add_arguments-loop-expression l = l.events.items ++ expressions_events l.usage l.next (expressions_of (map expression_view (drop l.expression-index l.arguments)))
    ≡ l.fn.events.items ++ expressions_events l.usage l.fn.argument (expressions_of (map expression_view l.arguments))

abbrev pub invariant-add_postfixes-loop-postfix : goal.invariant-add_postfixes-loop-postfix
invariant-add_postfixes-loop-postfix l = l.events.items ++ postfixes_events l.usage l.next (postfixes_of (map postfix_view (drop l.postfix-index l.postfixes)))
    ≡ l.fn.events.items ++ postfixes_events l.usage l.fn.argument (postfixes_of (map postfix_view l.postfixes))

abbrev pub invariant-add_bounds-loop-bound : goal.invariant-add_bounds-loop-bound
invariant-add_bounds-loop-bound l = GoesOn (λ xs. bounds_events l.usage (bounds_of (map bound_view xs))) l.events.items l.bound-index l.bounds l.fn.events.items

abbrev pub invariant-add_enumerators-loop-enumerator : goal.invariant-add_enumerators-loop-enumerator
invariant-add_enumerators-loop-enumerator l = GoesOn (λ xs. enumerators_events l.usage (enumerators_of (map enumerator_view xs))) l.events.items l.enumerator-index l.enumerators l.fn.events.items

abbrev pub invariant-add_member_declarators-loop-declarator : goal.invariant-add_member_declarators-loop-declarator
invariant-add_member_declarators-loop-declarator l = GoesOn (λ xs. declarators_events l.usage l.structure (declarators_of (map declarator_view xs))) l.events.items l.declarator-index l.declarators l.fn.events.items

abbrev pub invariant-add_members-loop-member : goal.invariant-add_members-loop-member
invariant-add_members-loop-member l = GoesOn (λ xs. members_events l.usage l.structure (members_of (map member_view xs))) l.events.items l.member-index l.members l.fn.events.items

abbrev pub invariant-add_operations-loop-operation : goal.invariant-add_operations-loop-operation
invariant-add_operations-loop-operation l = GoesOn (λ xs. operations_events l.usage (operations_of (map operation_view xs))) l.events.items l.operation-index l.operations l.fn.events.items

abbrev pub invariant-add_specifiers-loop-specifier : goal.invariant-add_specifiers-loop-specifier
invariant-add_specifiers-loop-specifier l = GoesOn (λ xs. specifiers_events l.usage (specifiers_view xs)) l.events.items l.specifier-index l.specifiers l.fn.events.items
