-- The kinds of parts: what a symbol of the grammar stands for.
use Rattle.c_parts.specs.GroupedKinds as Grouped

pub data Kind : Type 0 where
  leaf : Kind
  of_expression : Grouped.ExpressionKind → Kind
  of_declaration : Grouped.DeclarationKind → Kind
  of_external : Grouped.ExternalKind → Kind
  of_statement : Grouped.StatementKind → Kind

abbrev pub operand : Kind
operand = of_expression Grouped.operand

abbrev pub optional_expression : Kind
optional_expression = of_expression Grouped.optional_expression

abbrev pub infix_operator : Kind
infix_operator = of_expression Grouped.infix_operator

abbrev pub operations : Kind
operations = of_expression Grouped.operations

abbrev pub prefix_operator : Kind
prefix_operator = of_expression Grouped.prefix_operator

abbrev pub postfix : Kind
postfix = of_expression Grouped.postfix

abbrev pub postfixes : Kind
postfixes = of_expression Grouped.postfixes

abbrev pub arguments : Kind
arguments = of_expression Grouped.arguments

abbrev pub type_name : Kind
type_name = of_expression Grouped.type_name

abbrev pub branches : Kind
branches = of_expression Grouped.branches

abbrev pub sizeof_operand : Kind
sizeof_operand = of_expression Grouped.sizeof_operand

abbrev pub bracketed : Kind
bracketed = of_expression Grouped.bracketed

abbrev pub assignment_sign : Kind
assignment_sign = of_expression Grouped.assignment_sign

abbrev pub step_sign : Kind
step_sign = of_expression Grouped.step_sign

abbrev pub qualifiers : Kind
qualifiers = of_declaration Grouped.qualifiers

abbrev pub pointers : Kind
pointers = of_declaration Grouped.pointers

abbrev pub specifier : Kind
specifier = of_declaration Grouped.specifier

abbrev pub specifiers : Kind
specifiers = of_declaration Grouped.specifiers

abbrev pub bounds : Kind
bounds = of_declaration Grouped.bounds

abbrev pub declarator : Kind
declarator = of_declaration Grouped.declarator

abbrev pub declarators : Kind
declarators = of_declaration Grouped.declarators

abbrev pub members : Kind
members = of_declaration Grouped.members

abbrev pub optional_members : Kind
optional_members = of_declaration Grouped.optional_members

abbrev pub structure : Kind
structure = of_declaration Grouped.structure

abbrev pub enumerators : Kind
enumerators = of_declaration Grouped.enumerators

abbrev pub optional_enumerators : Kind
optional_enumerators = of_declaration Grouped.optional_enumerators

abbrev pub enumeration : Kind
enumeration = of_declaration Grouped.enumeration

abbrev pub initializer : Kind
initializer = of_declaration Grouped.initializer

abbrev pub initializers : Kind
initializers = of_declaration Grouped.initializers

abbrev pub initialization : Kind
initialization = of_declaration Grouped.initialization

abbrev pub init_declarators : Kind
init_declarators = of_declaration Grouped.init_declarators

abbrev pub objects : Kind
objects = of_declaration Grouped.objects

abbrev pub optional_bound : Kind
optional_bound = of_external Grouped.optional_bound

abbrev pub parameter_name : Kind
parameter_name = of_external Grouped.parameter_name

abbrev pub parameter : Kind
parameter = of_external Grouped.parameter

abbrev pub parameters : Kind
parameters = of_external Grouped.parameters

abbrev pub optional_block : Kind
optional_block = of_external Grouped.optional_block

abbrev pub function_rest : Kind
function_rest = of_external Grouped.function_rest

abbrev pub name_rest : Kind
name_rest = of_external Grouped.name_rest

abbrev pub external_rest : Kind
external_rest = of_external Grouped.external_rest

abbrev pub external : Kind
external = of_external Grouped.external

abbrev pub externals : Kind
externals = of_external Grouped.externals

abbrev pub block : Kind
block = of_statement Grouped.block

abbrev pub item : Kind
item = of_statement Grouped.item

abbrev pub items : Kind
items = of_statement Grouped.items

abbrev pub statement : Kind
statement = of_statement Grouped.statement

abbrev pub statements : Kind
statements = of_statement Grouped.statements

abbrev pub if_statement : Kind
if_statement = of_statement Grouped.if_statement

abbrev pub otherwise : Kind
otherwise = of_statement Grouped.otherwise

abbrev pub otherwise_branch : Kind
otherwise_branch = of_statement Grouped.otherwise_branch

abbrev pub for_start : Kind
for_start = of_statement Grouped.for_start

abbrev pub optional_for_start : Kind
optional_for_start = of_statement Grouped.optional_for_start

abbrev pub simple : Kind
simple = of_statement Grouped.simple

abbrev pub optional_simple : Kind
optional_simple = of_statement Grouped.optional_simple

abbrev pub simple_rest : Kind
simple_rest = of_statement Grouped.simple_rest

abbrev pub case_labels : Kind
case_labels = of_statement Grouped.case_labels

abbrev pub clause : Kind
clause = of_statement Grouped.clause

abbrev pub clauses : Kind
clauses = of_statement Grouped.clauses

abbrev pub body : Kind
body = of_statement Grouped.body

abbrev pub optional_body : Kind
optional_body = of_statement Grouped.optional_body

abbrev pub leave : Kind
leave = of_statement Grouped.leave

-- ---- the groups

abbrev pub IsExpression : Kind → Type 0
IsExpression (of_expression kind) = Unit
IsExpression kind = ⊥

abbrev pub IsDeclaration : Kind → Type 0
IsDeclaration (of_declaration kind) = Unit
IsDeclaration kind = ⊥

abbrev pub IsExternal : Kind → Type 0
IsExternal (of_external kind) = Unit
IsExternal kind = ⊥

abbrev pub IsStatement : Kind → Type 0
IsStatement (of_statement kind) = Unit
IsStatement kind = ⊥
