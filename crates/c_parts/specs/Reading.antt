-- The kind of a part, and what is read of it: where it is of another kind, nothing that matters.
use Rattle.std.specs.Prelude.{◌≡◌, ℕ, zero, suc, false, List, [], ◌∷◌, Option, None}
use Rattle.misra_base.specs.declared.place.Place.{Place}
use Rattle.c_rawtree.specs.declared.expression.Word.{Word}
use Rattle.c_rawtree.specs.declared.expression.Qualifier.{Qualifier}
use Rattle.c_rawtree.specs.declared.expression.BinaryOperator.TheVariants.{Add}
use Rattle.c_rawtree.specs.declared.expression.UnaryOperator.TheVariants as UnaryOf
use Rattle.c_rawtree.specs.declared.statement.AssignmentOperator.TheVariants.{Assign}
use Rattle.c_rawtree.specs.declared.statement.Step.TheVariants.{Increment}
use Rattle.c_rawtree.specs.Expressions
use Rattle.c_rawtree.specs.Statements
use Rattle.c_rawtree.specs.Views.{OneOperation, OneMember, OneEnumerator}
use Rattle.c_rawtree.specs.StatementViews.{OneClause}
use Rattle.c_parts.specs.declared.expression_part.InfixOperator.{InfixOperator}
use Rattle.c_parts.specs.declared.expression_part.PrefixOperator.{PrefixOperator}
use Rattle.c_parts.specs.declared.expression_part.AssignmentSign.{AssignmentSign}
use Rattle.c_parts.specs.declared.expression_part.StepSign.{StepSign}
use Rattle.c_parts.specs.GroupedKinds as Grouped
use Rattle.c_parts.specs.Kinds
use Rattle.c_parts.specs.PartData

abbrev pub expression_kind : PartData.ExpressionPart → Grouped.ExpressionKind
expression_kind (PartData.operand x) = Grouped.operand
expression_kind (PartData.optional_expression x) = Grouped.optional_expression
expression_kind (PartData.infix_operator x) = Grouped.infix_operator
expression_kind (PartData.operations x) = Grouped.operations
expression_kind (PartData.prefix_operator x) = Grouped.prefix_operator
expression_kind (PartData.postfix x) = Grouped.postfix
expression_kind (PartData.postfixes x) = Grouped.postfixes
expression_kind (PartData.arguments x) = Grouped.arguments
expression_kind (PartData.type_name x) = Grouped.type_name
expression_kind (PartData.branches x) = Grouped.branches
expression_kind (PartData.sizeof_operand x) = Grouped.sizeof_operand
expression_kind (PartData.bracketed x) = Grouped.bracketed
expression_kind (PartData.assignment_sign x) = Grouped.assignment_sign
expression_kind (PartData.step_sign x) = Grouped.step_sign

abbrev pub declaration_kind : PartData.DeclarationPart → Grouped.DeclarationKind
declaration_kind (PartData.qualifiers x) = Grouped.qualifiers
declaration_kind (PartData.pointers x) = Grouped.pointers
declaration_kind (PartData.specifier x) = Grouped.specifier
declaration_kind (PartData.specifiers x) = Grouped.specifiers
declaration_kind (PartData.bounds x) = Grouped.bounds
declaration_kind (PartData.declarator x) = Grouped.declarator
declaration_kind (PartData.declarators x) = Grouped.declarators
declaration_kind (PartData.members x) = Grouped.members
declaration_kind (PartData.optional_members x) = Grouped.optional_members
declaration_kind (PartData.structure x) = Grouped.structure
declaration_kind (PartData.enumerators x) = Grouped.enumerators
declaration_kind (PartData.optional_enumerators x) = Grouped.optional_enumerators
declaration_kind (PartData.enumeration x) = Grouped.enumeration
declaration_kind (PartData.initializer x) = Grouped.initializer
declaration_kind (PartData.initializers x) = Grouped.initializers
declaration_kind (PartData.initialization x) = Grouped.initialization
declaration_kind (PartData.init_declarators x) = Grouped.init_declarators
declaration_kind (PartData.objects x) = Grouped.objects

abbrev pub external_kind : PartData.ExternalPart → Grouped.ExternalKind
external_kind (PartData.optional_bound x) = Grouped.optional_bound
external_kind (PartData.parameter_name x) = Grouped.parameter_name
external_kind (PartData.parameter x) = Grouped.parameter
external_kind (PartData.parameters x) = Grouped.parameters
external_kind (PartData.optional_block x) = Grouped.optional_block
external_kind (PartData.function_rest x) = Grouped.function_rest
external_kind (PartData.name_rest x) = Grouped.name_rest
external_kind (PartData.external_rest x) = Grouped.external_rest
external_kind (PartData.external x) = Grouped.external
external_kind (PartData.externals x) = Grouped.externals

abbrev pub statement_kind : PartData.StatementPart → Grouped.StatementKind
statement_kind (PartData.block x) = Grouped.block
statement_kind (PartData.item x) = Grouped.item
statement_kind (PartData.items x) = Grouped.items
statement_kind (PartData.statement x) = Grouped.statement
statement_kind (PartData.statements x) = Grouped.statements
statement_kind (PartData.if_statement x) = Grouped.if_statement
statement_kind (PartData.otherwise x) = Grouped.otherwise
statement_kind (PartData.otherwise_branch x) = Grouped.otherwise_branch
statement_kind (PartData.for_start x) = Grouped.for_start
statement_kind (PartData.optional_for_start x) = Grouped.optional_for_start
statement_kind (PartData.simple x) = Grouped.simple
statement_kind (PartData.optional_simple x) = Grouped.optional_simple
statement_kind (PartData.simple_rest x) = Grouped.simple_rest
statement_kind (PartData.case_labels x) = Grouped.case_labels
statement_kind (PartData.clause x) = Grouped.clause
statement_kind (PartData.clauses x) = Grouped.clauses
statement_kind (PartData.body x) = Grouped.body
statement_kind (PartData.optional_body x) = Grouped.optional_body
statement_kind (PartData.leave x) = Grouped.leave

abbrev pub kind_of : PartData.PartData → Kinds.Kind
kind_of (PartData.leaf w) = Kinds.leaf
kind_of (PartData.expression_part p) = Kinds.of_expression (expression_kind p)
kind_of (PartData.declaration_part p) = Kinds.of_declaration (declaration_kind p)
kind_of (PartData.external_part p) = Kinds.of_external (external_kind p)
kind_of (PartData.statement_part p) = Kinds.of_statement (statement_kind p)

-- ---- where there is nothing

abbrev pub no_place : Place
no_place = record { line = 1; column = 1 }

abbrev pub no_word : Word
no_word = record { place = no_place; text = [] }

abbrev pub no_expression : Expressions.ExpressionData
no_expression = Expressions.identifier no_word

abbrev pub no_operand : PartData.OperandData
no_operand = record { expression = no_expression; bracketed = false }

abbrev pub no_block : Statements.BlockData
no_block = Statements.block no_place Statements.no_items

abbrev pub no_statement : Statements.StatementData
no_statement = Statements.empty_statement no_place

abbrev pub no_simple : Statements.SimpleData
no_simple = Statements.simple_expression no_expression

abbrev pub no_body : Statements.BodyData
no_body = Statements.body Statements.no_statements (Statements.breaks no_place)

-- ---- the parts of a production, in order

abbrev pub first : List PartData.PartData → PartData.PartData
first [] = PartData.leaf no_word
first (p ∷ ps) = p

abbrev pub rest : List PartData.PartData → List PartData.PartData
rest [] = []
rest (p ∷ ps) = ps

-- part n, from 0
abbrev pub part : ℕ → List PartData.PartData → PartData.PartData
part zero parts = first parts
part (suc n) parts = part n (rest parts)

-- the parts are of these kinds
abbrev pub Fits : List Kinds.Kind → List PartData.PartData → Type 0
Fits [] parts = Unit
Fits (k ∷ ks) parts = (kind_of (first parts) ≡ k) × Fits ks (rest parts)

-- ---- what is read of a part

abbrev pub leaf_of : PartData.PartData → Word
leaf_of (PartData.leaf w) = w
leaf_of p = no_word

abbrev pub operand_of : PartData.PartData → PartData.OperandData
operand_of (PartData.expression_part (PartData.operand x)) = x
operand_of p = no_operand

abbrev pub optional_expression_of : PartData.PartData → Option Expressions.ExpressionData
optional_expression_of (PartData.expression_part (PartData.optional_expression x)) = x
optional_expression_of p = None

abbrev pub infix_operator_of : PartData.PartData → InfixOperator
infix_operator_of (PartData.expression_part (PartData.infix_operator x)) = x
infix_operator_of p = record { place = no_place; operator = Add }

abbrev pub operations_of : PartData.PartData → List OneOperation
operations_of (PartData.expression_part (PartData.operations x)) = x
operations_of p = []

abbrev pub prefix_operator_of : PartData.PartData → PrefixOperator
prefix_operator_of (PartData.expression_part (PartData.prefix_operator x)) = x
prefix_operator_of p = record { place = no_place; operator = UnaryOf.Not }

abbrev pub postfix_of : PartData.PartData → Expressions.PostfixData
postfix_of (PartData.expression_part (PartData.postfix x)) = x
postfix_of p = Expressions.index no_place no_expression

abbrev pub postfixes_of : PartData.PartData → List Expressions.PostfixData
postfixes_of (PartData.expression_part (PartData.postfixes x)) = x
postfixes_of p = []

abbrev pub arguments_of : PartData.PartData → List Expressions.ExpressionData
arguments_of (PartData.expression_part (PartData.arguments x)) = x
arguments_of p = []

abbrev pub type_name_of : PartData.PartData → Expressions.TypeNameData
type_name_of (PartData.expression_part (PartData.type_name x)) = x
type_name_of p = Expressions.type_name Expressions.no_specifiers []

abbrev pub branches_of : PartData.PartData → Option PartData.BranchesData
branches_of (PartData.expression_part (PartData.branches x)) = x
branches_of p = None

abbrev pub sizeof_operand_of : PartData.PartData → PartData.SizeofOperandData
sizeof_operand_of (PartData.expression_part (PartData.sizeof_operand x)) = x
sizeof_operand_of p = PartData.sizeof_of_expression no_expression

abbrev pub bracketed_of : PartData.PartData → PartData.BracketedData
bracketed_of (PartData.expression_part (PartData.bracketed x)) = x
bracketed_of p = PartData.bracketed_operand no_operand

abbrev pub assignment_sign_of : PartData.PartData → AssignmentSign
assignment_sign_of (PartData.expression_part (PartData.assignment_sign x)) = x
assignment_sign_of p = record { place = no_place; operator = Assign }

abbrev pub step_sign_of : PartData.PartData → StepSign
step_sign_of (PartData.expression_part (PartData.step_sign x)) = x
step_sign_of p = record { place = no_place; step = Increment }

abbrev pub qualifiers_of : PartData.PartData → List Qualifier
qualifiers_of (PartData.declaration_part (PartData.qualifiers x)) = x
qualifiers_of p = []

abbrev pub pointers_of : PartData.PartData → List Expressions.PointerData
pointers_of (PartData.declaration_part (PartData.pointers x)) = x
pointers_of p = []

abbrev pub specifier_of : PartData.PartData → Expressions.SpecifierData
specifier_of (PartData.declaration_part (PartData.specifier x)) = x
specifier_of p = Expressions.typedef_name no_word

abbrev pub specifiers_of : PartData.PartData → List Expressions.SpecifierData
specifiers_of (PartData.declaration_part (PartData.specifiers x)) = x
specifiers_of p = []

abbrev pub bounds_of : PartData.PartData → List Expressions.BoundData
bounds_of (PartData.declaration_part (PartData.bounds x)) = x
bounds_of p = []

abbrev pub declarator_of : PartData.PartData → Expressions.DeclaratorData
declarator_of (PartData.declaration_part (PartData.declarator x)) = x
declarator_of p = Expressions.declarator [] no_word Expressions.no_bounds

abbrev pub declarators_of : PartData.PartData → List Expressions.DeclaratorData
declarators_of (PartData.declaration_part (PartData.declarators x)) = x
declarators_of p = []

abbrev pub members_of : PartData.PartData → List OneMember
members_of (PartData.declaration_part (PartData.members x)) = x
members_of p = []

abbrev pub optional_members_of : PartData.PartData → Option (List OneMember)
optional_members_of (PartData.declaration_part (PartData.optional_members x)) = x
optional_members_of p = None

abbrev pub structure_of : PartData.PartData → PartData.StructureData
structure_of (PartData.declaration_part (PartData.structure x)) = x
structure_of p = PartData.structure_reference no_word

abbrev pub enumerators_of : PartData.PartData → List OneEnumerator
enumerators_of (PartData.declaration_part (PartData.enumerators x)) = x
enumerators_of p = []

abbrev pub optional_enumerators_of : PartData.PartData → Option (List OneEnumerator)
optional_enumerators_of (PartData.declaration_part (PartData.optional_enumerators x)) = x
optional_enumerators_of p = None

abbrev pub enumeration_of : PartData.PartData → PartData.EnumerationData
enumeration_of (PartData.declaration_part (PartData.enumeration x)) = x
enumeration_of p = PartData.enumeration_reference no_word

abbrev pub initializer_of : PartData.PartData → Statements.InitializerData
initializer_of (PartData.declaration_part (PartData.initializer x)) = x
initializer_of p = Statements.initial_expression no_expression

abbrev pub initializers_of : PartData.PartData → List Statements.InitializerData
initializers_of (PartData.declaration_part (PartData.initializers x)) = x
initializers_of p = []

abbrev pub initialization_of : PartData.PartData → Option Statements.InitializationData
initialization_of (PartData.declaration_part (PartData.initialization x)) = x
initialization_of p = None

abbrev pub init_declarators_of : PartData.PartData → List Statements.InitDeclaratorData
init_declarators_of (PartData.declaration_part (PartData.init_declarators x)) = x
init_declarators_of p = []

abbrev pub objects_of : PartData.PartData → PartData.ObjectsData
objects_of (PartData.declaration_part (PartData.objects x)) = x
objects_of p = record { bounds = []; initialization = None; others = [] }

abbrev pub optional_bound_of : PartData.PartData → Option Expressions.BoundData
optional_bound_of (PartData.external_part (PartData.optional_bound x)) = x
optional_bound_of p = None

abbrev pub parameter_name_of : PartData.PartData → PartData.ParameterNameData
parameter_name_of (PartData.external_part (PartData.parameter_name x)) = x
parameter_name_of p = record { name = None; bound = None }

abbrev pub parameter_of : PartData.PartData → Statements.ParameterData
parameter_of (PartData.external_part (PartData.parameter x)) = x
parameter_of p = record { specifiers = Expressions.no_specifiers; pointers = []; name = None; bound = None }

abbrev pub parameters_of : PartData.PartData → List Statements.ParameterData
parameters_of (PartData.external_part (PartData.parameters x)) = x
parameters_of p = []

abbrev pub optional_block_of : PartData.PartData → Option Statements.BlockData
optional_block_of (PartData.external_part (PartData.optional_block x)) = x
optional_block_of p = None

abbrev pub function_rest_of : PartData.PartData → PartData.FunctionRestData
function_rest_of (PartData.external_part (PartData.function_rest x)) = x
function_rest_of p = record { parameters = []; body = None }

abbrev pub name_rest_of : PartData.PartData → PartData.NameRestData
name_rest_of (PartData.external_part (PartData.name_rest x)) = x
name_rest_of p = PartData.rest_of_function (record { parameters = []; body = None })

abbrev pub external_rest_of : PartData.PartData → PartData.ExternalRestData
external_rest_of (PartData.external_part (PartData.external_rest x)) = x
external_rest_of p = PartData.rest_declarators []

abbrev pub external_of : PartData.PartData → Statements.ExternalData
external_of (PartData.external_part (PartData.external x)) = x
external_of p = Statements.declaration (record { specifiers = Expressions.no_specifiers; declarators = [] })

abbrev pub externals_of : PartData.PartData → List Statements.ExternalData
externals_of (PartData.external_part (PartData.externals x)) = x
externals_of p = []

abbrev pub block_of : PartData.PartData → Statements.BlockData
block_of (PartData.statement_part (PartData.block x)) = x
block_of p = no_block

abbrev pub item_of : PartData.PartData → Statements.ItemData
item_of (PartData.statement_part (PartData.item x)) = x
item_of p = Statements.statement_item no_statement

abbrev pub items_of : PartData.PartData → List Statements.ItemData
items_of (PartData.statement_part (PartData.items x)) = x
items_of p = []

abbrev pub statement_of : PartData.PartData → Statements.StatementData
statement_of (PartData.statement_part (PartData.statement x)) = x
statement_of p = no_statement

abbrev pub statements_of : PartData.PartData → List Statements.StatementData
statements_of (PartData.statement_part (PartData.statements x)) = x
statements_of p = []

abbrev pub if_statement_of : PartData.PartData → Statements.IfData
if_statement_of (PartData.statement_part (PartData.if_statement x)) = x
if_statement_of p = Statements.if_then no_place no_expression no_block Statements.no_otherwise

abbrev pub otherwise_of : PartData.PartData → Option Statements.OtherwiseData
otherwise_of (PartData.statement_part (PartData.otherwise x)) = x
otherwise_of p = None

abbrev pub otherwise_branch_of : PartData.PartData → Statements.OtherwiseData
otherwise_branch_of (PartData.statement_part (PartData.otherwise_branch x)) = x
otherwise_branch_of p = Statements.otherwise_block no_block

abbrev pub for_start_of : PartData.PartData → Statements.ForStartData
for_start_of (PartData.statement_part (PartData.for_start x)) = x
for_start_of p = Statements.start_simple no_simple

abbrev pub optional_for_start_of : PartData.PartData → Option Statements.ForStartData
optional_for_start_of (PartData.statement_part (PartData.optional_for_start x)) = x
optional_for_start_of p = None

abbrev pub simple_of : PartData.PartData → Statements.SimpleData
simple_of (PartData.statement_part (PartData.simple x)) = x
simple_of p = no_simple

abbrev pub optional_simple_of : PartData.PartData → Option Statements.SimpleData
optional_simple_of (PartData.statement_part (PartData.optional_simple x)) = x
optional_simple_of p = None

abbrev pub simple_rest_of : PartData.PartData → Option PartData.SimpleRestData
simple_rest_of (PartData.statement_part (PartData.simple_rest x)) = x
simple_rest_of p = None

abbrev pub case_labels_of : PartData.PartData → List Statements.CaseLabelData
case_labels_of (PartData.statement_part (PartData.case_labels x)) = x
case_labels_of p = []

abbrev pub clause_of : PartData.PartData → OneClause
clause_of (PartData.statement_part (PartData.clause x)) = x
clause_of p = record { labels = []; body = no_body }

abbrev pub clauses_of : PartData.PartData → List OneClause
clauses_of (PartData.statement_part (PartData.clauses x)) = x
clauses_of p = []

abbrev pub body_of : PartData.PartData → Statements.BodyData
body_of (PartData.statement_part (PartData.body x)) = x
body_of p = no_body

abbrev pub optional_body_of : PartData.PartData → Option Statements.BodyData
optional_body_of (PartData.statement_part (PartData.optional_body x)) = x
optional_body_of p = None

abbrev pub leave_of : PartData.PartData → Statements.LeaveData
leave_of (PartData.statement_part (PartData.leave x)) = x
leave_of p = Statements.breaks no_place
