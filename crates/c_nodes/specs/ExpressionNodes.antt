-- What the productions of expressions make of their parts.
use Rattle.std.specs.Prelude.{true, List, [], ◌∷◌, Some, None}
use Rattle.misra_base.specs.declared.place.Place.{Place}
use Rattle.c_rawtree.specs.Expressions
use Rattle.c_rawtree.specs.Views
use Rattle.c_parts.specs.Kinds
use Rattle.c_parts.specs.PartData
use Rattle.c_parts.specs.Reading.{part, arguments_of, bracketed_of, infix_operator_of, leaf_of, operand_of, operations_of, pointers_of, postfix_of, postfixes_of, prefix_operator_of, sizeof_operand_of, specifiers_of, type_name_of}
use Rattle.c_nodes.specs.OperandNodes.{plain, postfixed}
use Rattle.c_nodes.specs.declared.expression_nodes.ExpressionAction.{ExpressionAction}
use Rattle.c_nodes.specs.declared.expression_nodes.ExpressionAction.TheVariants as ActionOf

-- the parts of the production
abbrev pub kinds : ExpressionAction → List Kinds.Kind
kinds (ActionOf.Infix operator) = Kinds.leaf ∷ []
kinds (ActionOf.Prefix operator) = Kinds.leaf ∷ []
kinds (ActionOf.Operation operator) = Kinds.leaf ∷ Kinds.operand ∷ Kinds.operations ∷ []
kinds ActionOf.SignedOperation = Kinds.infix_operator ∷ Kinds.operand ∷ Kinds.operations ∷ []
kinds ActionOf.Branches = Kinds.leaf ∷ Kinds.operand ∷ Kinds.leaf ∷ Kinds.operand ∷ []
kinds ActionOf.Unary = Kinds.prefix_operator ∷ Kinds.operand ∷ []
kinds ActionOf.Sizeof = Kinds.leaf ∷ Kinds.leaf ∷ Kinds.sizeof_operand ∷ []
kinds ActionOf.SizeofType = Kinds.type_name ∷ Kinds.leaf ∷ []
kinds ActionOf.SizeofExpression = Kinds.operand ∷ Kinds.leaf ∷ []
kinds ActionOf.Bracket = Kinds.leaf ∷ Kinds.bracketed ∷ []
kinds ActionOf.Cast = Kinds.type_name ∷ Kinds.leaf ∷ Kinds.operand ∷ []
kinds ActionOf.Group = Kinds.operand ∷ Kinds.leaf ∷ Kinds.postfixes ∷ []
kinds ActionOf.Postfixes = Kinds.postfix ∷ Kinds.postfixes ∷ []
kinds ActionOf.TypeName = Kinds.specifiers ∷ Kinds.pointers ∷ []
kinds ActionOf.Index = Kinds.leaf ∷ Kinds.operand ∷ Kinds.leaf ∷ []
kinds ActionOf.Call = Kinds.leaf ∷ Kinds.arguments ∷ Kinds.leaf ∷ []
kinds ActionOf.FirstArgument = Kinds.operand ∷ Kinds.arguments ∷ []
kinds ActionOf.Argument = Kinds.leaf ∷ Kinds.operand ∷ Kinds.arguments ∷ []
kinds ActionOf.NoArguments = []
kinds ActionOf.Member = Kinds.leaf ∷ Kinds.leaf ∷ []
kinds ActionOf.Arrow = Kinds.leaf ∷ Kinds.leaf ∷ []
kinds ActionOf.SomeExpression = Kinds.operand ∷ []
kinds ActionOf.InitialExpression = Kinds.leaf ∷ Kinds.operand ∷ []
kinds ActionOf.NoExpression = []
kinds (ActionOf.AssignmentSign operator) = Kinds.leaf ∷ []
kinds (ActionOf.StepSign step) = Kinds.leaf ∷ []

-- what it makes
abbrev pub kind : ExpressionAction → Kinds.Kind
kind (ActionOf.Infix operator) = Kinds.infix_operator
kind (ActionOf.Prefix operator) = Kinds.prefix_operator
kind (ActionOf.Operation operator) = Kinds.operations
kind ActionOf.SignedOperation = Kinds.operations
kind ActionOf.Branches = Kinds.branches
kind ActionOf.Unary = Kinds.operand
kind ActionOf.Sizeof = Kinds.operand
kind ActionOf.SizeofType = Kinds.sizeof_operand
kind ActionOf.SizeofExpression = Kinds.sizeof_operand
kind ActionOf.Bracket = Kinds.operand
kind ActionOf.Cast = Kinds.bracketed
kind ActionOf.Group = Kinds.bracketed
kind ActionOf.Postfixes = Kinds.postfixes
kind ActionOf.TypeName = Kinds.type_name
kind ActionOf.Index = Kinds.postfix
kind ActionOf.Call = Kinds.postfix
kind ActionOf.FirstArgument = Kinds.arguments
kind ActionOf.Argument = Kinds.arguments
kind ActionOf.NoArguments = Kinds.arguments
kind ActionOf.Member = Kinds.postfix
kind ActionOf.Arrow = Kinds.postfix
kind ActionOf.SomeExpression = Kinds.optional_expression
kind ActionOf.InitialExpression = Kinds.optional_expression
kind ActionOf.NoExpression = Kinds.optional_expression
kind (ActionOf.AssignmentSign operator) = Kinds.assignment_sign
kind (ActionOf.StepSign step) = Kinds.step_sign

abbrev pub bracketed : PartData.OperandData → PartData.OperandData
bracketed o = record { expression = o.expression; bracketed = true }

abbrev pub sizeof : Place → PartData.SizeofOperandData → Expressions.ExpressionData
sizeof place (PartData.sizeof_of_type t) = Expressions.sizeof_type place t
sizeof place (PartData.sizeof_of_expression e) = Expressions.sizeof_expression place e

abbrev pub behind_bracket : Place → PartData.BracketedData → PartData.OperandData
behind_bracket place (PartData.bracketed_cast t e) = plain (Expressions.cast place t e)
behind_bracket place (PartData.bracketed_operand o) = o

abbrev pub node : ExpressionAction → List PartData.PartData → PartData.ExpressionPart
node (ActionOf.Infix operator) ps = PartData.infix_operator (record { place = (leaf_of (part 0 ps)).place; operator = operator })
node (ActionOf.Prefix operator) ps = PartData.prefix_operator (record { place = (leaf_of (part 0 ps)).place; operator = operator })
node (ActionOf.Operation operator) ps = PartData.operations ((record { place = (leaf_of (part 0 ps)).place; operator = operator; operand = (operand_of (part 1 ps)).expression }) ∷ (operations_of (part 2 ps)))
node ActionOf.SignedOperation ps = PartData.operations ((record { place = (infix_operator_of (part 0 ps)).place; operator = (infix_operator_of (part 0 ps)).operator; operand = (operand_of (part 1 ps)).expression }) ∷ (operations_of (part 2 ps)))
node ActionOf.Branches ps = PartData.branches (Some (record { question = (leaf_of (part 0 ps)).place; then = (operand_of (part 1 ps)).expression; otherwise = (operand_of (part 3 ps)).expression }))
node ActionOf.Unary ps = PartData.operand (plain (Expressions.unary (prefix_operator_of (part 0 ps)).place (prefix_operator_of (part 0 ps)).operator (operand_of (part 1 ps)).expression))
node ActionOf.Sizeof ps = PartData.operand (plain (sizeof (leaf_of (part 0 ps)).place (sizeof_operand_of (part 2 ps))))
node ActionOf.SizeofType ps = PartData.sizeof_operand (PartData.sizeof_of_type (type_name_of (part 0 ps)))
node ActionOf.SizeofExpression ps = PartData.sizeof_operand (PartData.sizeof_of_expression (operand_of (part 0 ps)).expression)
node ActionOf.Bracket ps = PartData.operand (behind_bracket (leaf_of (part 0 ps)).place (bracketed_of (part 1 ps)))
node ActionOf.Cast ps = PartData.bracketed (PartData.bracketed_cast (type_name_of (part 0 ps)) (operand_of (part 2 ps)).expression)
node ActionOf.Group ps = PartData.bracketed (PartData.bracketed_operand (postfixed (bracketed (operand_of (part 0 ps))) (postfixes_of (part 2 ps))))
node ActionOf.Postfixes ps = PartData.postfixes (((postfix_of (part 0 ps))) ∷ (postfixes_of (part 1 ps)))
node ActionOf.TypeName ps = PartData.type_name (Expressions.type_name (Views.specifiers_of (specifiers_of (part 0 ps))) (pointers_of (part 1 ps)))
node ActionOf.Index ps = PartData.postfix (Expressions.index (leaf_of (part 0 ps)).place (operand_of (part 1 ps)).expression)
node ActionOf.Call ps = PartData.postfix (Expressions.call (leaf_of (part 0 ps)).place (Views.expressions_of (arguments_of (part 1 ps))))
node ActionOf.FirstArgument ps = PartData.arguments (((operand_of (part 0 ps)).expression) ∷ (arguments_of (part 1 ps)))
node ActionOf.Argument ps = PartData.arguments (((operand_of (part 1 ps)).expression) ∷ (arguments_of (part 2 ps)))
node ActionOf.NoArguments ps = PartData.arguments []
node ActionOf.Member ps = PartData.postfix (Expressions.member (leaf_of (part 0 ps)).place (leaf_of (part 1 ps)))
node ActionOf.Arrow ps = PartData.postfix (Expressions.arrow (leaf_of (part 0 ps)).place (leaf_of (part 1 ps)))
node ActionOf.SomeExpression ps = PartData.optional_expression (Some (operand_of (part 0 ps)).expression)
node ActionOf.InitialExpression ps = PartData.optional_expression (Some (operand_of (part 1 ps)).expression)
node ActionOf.NoExpression ps = PartData.optional_expression None
node (ActionOf.AssignmentSign operator) ps = PartData.assignment_sign (record { place = (leaf_of (part 0 ps)).place; operator = operator })
node (ActionOf.StepSign step) ps = PartData.step_sign (record { place = (leaf_of (part 0 ps)).place; step = step })
