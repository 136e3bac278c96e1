-- What the parts stand for.
use Rattle.std.specs.Prelude.{List, map, Option}
use Rattle.std.specs.Option.{option_map}
use Rattle.c_rawtree.specs.declared.expression.Word.{Word}
use Rattle.c_rawtree.specs.Views.{boxed_view, expression_view, operation_view, postfix_view, type_name_view, specifier_view, pointers_view, bound_view, declarator_view, member_view, enumerator_view}
use Rattle.c_rawtree.specs.StatementViews.{initializer_view, initialization_view, init_declarator_view, parameter_view, block_view, item_view, statement_view, if_view, otherwise_view, for_start_view, simple_view, case_label_view, clause_view, body_view, leave_view, external_view}
use Rattle.c_parts.specs.PartData
use Rattle.c_parts.specs.declared.leaf.Leaf.{Leaf}
use Rattle.c_parts.specs.declared.expression_part.Operand.{Operand}
use Rattle.c_parts.specs.declared.expression_part.Branches.{Branches}
use Rattle.c_parts.specs.declared.expression_part.SizeofOperand.{SizeofOperand}
use Rattle.c_parts.specs.declared.expression_part.Bracketed.{Bracketed}
use Rattle.c_parts.specs.declared.declaration_part.Structure.{Structure}
use Rattle.c_parts.specs.declared.declaration_part.Enumeration.{Enumeration}
use Rattle.c_parts.specs.declared.declaration_part.Objects.{Objects}
use Rattle.c_parts.specs.declared.external_part.ParameterName.{ParameterName}
use Rattle.c_parts.specs.declared.external_part.FunctionRest.{FunctionRest}
use Rattle.c_parts.specs.declared.external_part.NameRest.{NameRest}
use Rattle.c_parts.specs.declared.external_part.ExternalRest.{ExternalRest}
use Rattle.c_parts.specs.declared.statement_part.SimpleRest.{SimpleRest}
use Rattle.c_parts.specs.declared.expression_part.SizeofOperand.TheVariants as SizeofOperandOf
use Rattle.c_parts.specs.declared.expression_part.Bracketed.TheVariants as BracketedOf
use Rattle.c_parts.specs.declared.declaration_part.Structure.TheVariants as StructureOf
use Rattle.c_parts.specs.declared.declaration_part.Enumeration.TheVariants as EnumerationOf
use Rattle.c_parts.specs.declared.external_part.NameRest.TheVariants as NameRestOf
use Rattle.c_parts.specs.declared.external_part.ExternalRest.TheVariants as ExternalRestOf
use Rattle.c_parts.specs.declared.statement_part.SimpleRest.TheVariants as SimpleRestOf
use Rattle.c_parts.specs.declared.expression_part.ExpressionPart.{ExpressionPart}
use Rattle.c_parts.specs.declared.expression_part.ExpressionPart.TheVariants as ExpressionPartOf
use Rattle.c_parts.specs.declared.declaration_part.DeclarationPart.{DeclarationPart}
use Rattle.c_parts.specs.declared.declaration_part.DeclarationPart.TheVariants as DeclarationPartOf
use Rattle.c_parts.specs.declared.external_part.ExternalPart.{ExternalPart}
use Rattle.c_parts.specs.declared.external_part.ExternalPart.TheVariants as ExternalPartOf
use Rattle.c_parts.specs.declared.statement_part.StatementPart.{StatementPart}
use Rattle.c_parts.specs.declared.statement_part.StatementPart.TheVariants as StatementPartOf
use Rattle.c_parts.specs.declared.part.Part.{Part}
use Rattle.c_parts.specs.declared.part.Part.TheVariants as PartOf
use Rattle.c_parts.specs.declared.parts.Parts.{Parts}

abbrev pub leaf_view : Leaf → Word
leaf_view l = record { place = l.place; text = l.text.now }

abbrev pub operand_view : Operand → PartData.OperandData
operand_view o = record { expression = boxed_view o.expression; bracketed = o.bracketed }

abbrev pub branches_view : Branches → PartData.BranchesData
branches_view b = record { question = b.question; then = boxed_view b.then; otherwise = boxed_view b.otherwise }

abbrev pub sizeof_operand_view : SizeofOperand → PartData.SizeofOperandData
sizeof_operand_view (SizeofOperandOf.Type t) = PartData.sizeof_of_type (type_name_view t)
sizeof_operand_view (SizeofOperandOf.Expression e) = PartData.sizeof_of_expression (boxed_view e)

abbrev pub bracketed_view : Bracketed → PartData.BracketedData
bracketed_view (BracketedOf.Cast t e) = PartData.bracketed_cast (type_name_view t) (boxed_view e)
bracketed_view (BracketedOf.Operand o) = PartData.bracketed_operand (operand_view o)

abbrev pub structure_view : Structure → PartData.StructureData
structure_view (StructureOf.Reference w) = PartData.structure_reference w
structure_view (StructureOf.Declaration t ms) = PartData.structure_declaration t (map member_view ms)

abbrev pub enumeration_view : Enumeration → PartData.EnumerationData
enumeration_view (EnumerationOf.Reference w) = PartData.enumeration_reference w
enumeration_view (EnumerationOf.Declaration t es) = PartData.enumeration_declaration t (map enumerator_view es)

abbrev pub objects_view : Objects → PartData.ObjectsData
objects_view o = record {
  bounds = map bound_view o.bounds;
  initialization = option_map initialization_view o.initialization;
  others = map init_declarator_view o.others;
}

abbrev pub parameter_name_view : ParameterName → PartData.ParameterNameData
parameter_name_view p = record { name = p.name; bound = option_map bound_view p.bound }

abbrev pub function_rest_view : FunctionRest → PartData.FunctionRestData
function_rest_view f = record { parameters = map parameter_view f.parameters; body = option_map block_view f.body }

abbrev pub name_rest_view : NameRest → PartData.NameRestData
name_rest_view (NameRestOf.Function f) = PartData.rest_of_function (function_rest_view f)
name_rest_view (NameRestOf.Objects o) = PartData.rest_of_objects (objects_view o)

abbrev pub external_rest_view : ExternalRest → PartData.ExternalRestData
external_rest_view (ExternalRestOf.Declarators ds) = PartData.rest_declarators (map init_declarator_view ds)
external_rest_view (ExternalRestOf.Function ps w f) = PartData.rest_function (pointers_view ps) w (function_rest_view f)

abbrev pub simple_rest_view : SimpleRest → PartData.SimpleRestData
simple_rest_view (SimpleRestOf.Assignment p o e) = PartData.rest_assignment p o (boxed_view e)
simple_rest_view (SimpleRestOf.Step p s) = PartData.rest_step p s

abbrev pub expression_part_view : ExpressionPart → PartData.ExpressionPart
expression_part_view (ExpressionPartOf.Operand x) = PartData.operand (operand_view x)
expression_part_view (ExpressionPartOf.OptionalExpression x) = PartData.optional_expression (option_map boxed_view x)
expression_part_view (ExpressionPartOf.InfixOperator x) = PartData.infix_operator x
expression_part_view (ExpressionPartOf.Operations x) = PartData.operations (map operation_view x)
expression_part_view (ExpressionPartOf.PrefixOperator x) = PartData.prefix_operator x
expression_part_view (ExpressionPartOf.Postfix x) = PartData.postfix (postfix_view x)
expression_part_view (ExpressionPartOf.Postfixes x) = PartData.postfixes (map postfix_view x)
expression_part_view (ExpressionPartOf.Arguments x) = PartData.arguments (map expression_view x)
expression_part_view (ExpressionPartOf.TypeName x) = PartData.type_name (type_name_view x)
expression_part_view (ExpressionPartOf.Branches x) = PartData.branches (option_map branches_view x)
expression_part_view (ExpressionPartOf.SizeofOperand x) = PartData.sizeof_operand (sizeof_operand_view x)
expression_part_view (ExpressionPartOf.Bracketed x) = PartData.bracketed (bracketed_view x)
expression_part_view (ExpressionPartOf.AssignmentSign x) = PartData.assignment_sign x
expression_part_view (ExpressionPartOf.StepSign x) = PartData.step_sign x

abbrev pub declaration_part_view : DeclarationPart → PartData.DeclarationPart
declaration_part_view (DeclarationPartOf.Qualifiers x) = PartData.qualifiers x
declaration_part_view (DeclarationPartOf.Pointers x) = PartData.pointers (pointers_view x)
declaration_part_view (DeclarationPartOf.Specifier x) = PartData.specifier (specifier_view x)
declaration_part_view (DeclarationPartOf.Specifiers x) = PartData.specifiers (map specifier_view x)
declaration_part_view (DeclarationPartOf.Bounds x) = PartData.bounds (map bound_view x)
declaration_part_view (DeclarationPartOf.Declarator x) = PartData.declarator (declarator_view x)
declaration_part_view (DeclarationPartOf.Declarators x) = PartData.declarators (map declarator_view x)
declaration_part_view (DeclarationPartOf.Members x) = PartData.members (map member_view x)
declaration_part_view (DeclarationPartOf.OptionalMembers x) = PartData.optional_members (option_map (map member_view) x)
declaration_part_view (DeclarationPartOf.Structure x) = PartData.structure (structure_view x)
declaration_part_view (DeclarationPartOf.Enumerators x) = PartData.enumerators (map enumerator_view x)
declaration_part_view (DeclarationPartOf.OptionalEnumerators x) = PartData.optional_enumerators (option_map (map enumerator_view) x)
declaration_part_view (DeclarationPartOf.Enumeration x) = PartData.enumeration (enumeration_view x)
declaration_part_view (DeclarationPartOf.Initializer x) = PartData.initializer (initializer_view x)
declaration_part_view (DeclarationPartOf.Initializers x) = PartData.initializers (map initializer_view x)
declaration_part_view (DeclarationPartOf.Initialization x) = PartData.initialization (option_map initialization_view x)
declaration_part_view (DeclarationPartOf.InitDeclarators x) = PartData.init_declarators (map init_declarator_view x)
declaration_part_view (DeclarationPartOf.Objects x) = PartData.objects (objects_view x)

abbrev pub external_part_view : ExternalPart → PartData.ExternalPart
external_part_view (ExternalPartOf.OptionalBound x) = PartData.optional_bound (option_map bound_view x)
external_part_view (ExternalPartOf.ParameterName x) = PartData.parameter_name (parameter_name_view x)
external_part_view (ExternalPartOf.Parameter x) = PartData.parameter (parameter_view x)
external_part_view (ExternalPartOf.Parameters x) = PartData.parameters (map parameter_view x)
external_part_view (ExternalPartOf.OptionalBlock x) = PartData.optional_block (option_map block_view x)
external_part_view (ExternalPartOf.FunctionRest x) = PartData.function_rest (function_rest_view x)
external_part_view (ExternalPartOf.NameRest x) = PartData.name_rest (name_rest_view x)
external_part_view (ExternalPartOf.ExternalRest x) = PartData.external_rest (external_rest_view x)
external_part_view (ExternalPartOf.External x) = PartData.external (external_view x)
external_part_view (ExternalPartOf.Externals x) = PartData.externals (map external_view x)

abbrev pub statement_part_view : StatementPart → PartData.StatementPart
statement_part_view (StatementPartOf.Block x) = PartData.block (block_view x)
statement_part_view (StatementPartOf.Item x) = PartData.item (item_view x.value)
statement_part_view (StatementPartOf.Items x) = PartData.items (map item_view x)
statement_part_view (StatementPartOf.Statement x) = PartData.statement (statement_view x.value)
statement_part_view (StatementPartOf.Statements x) = PartData.statements (map statement_view x)
statement_part_view (StatementPartOf.IfStatement x) = PartData.if_statement (if_view x)
statement_part_view (StatementPartOf.Otherwise x) = PartData.otherwise (option_map otherwise_view x)
statement_part_view (StatementPartOf.OtherwiseBranch x) = PartData.otherwise_branch (otherwise_view x)
statement_part_view (StatementPartOf.ForStart x) = PartData.for_start (for_start_view x)
statement_part_view (StatementPartOf.OptionalForStart x) = PartData.optional_for_start (option_map for_start_view x)
statement_part_view (StatementPartOf.Simple x) = PartData.simple (simple_view x)
statement_part_view (StatementPartOf.OptionalSimple x) = PartData.optional_simple (option_map simple_view x)
statement_part_view (StatementPartOf.SimpleRest x) = PartData.simple_rest (option_map simple_rest_view x)
statement_part_view (StatementPartOf.CaseLabels x) = PartData.case_labels (map case_label_view x)
statement_part_view (StatementPartOf.Clause x) = PartData.clause (clause_view x)
statement_part_view (StatementPartOf.Clauses x) = PartData.clauses (map clause_view x)
statement_part_view (StatementPartOf.Body x) = PartData.body (body_view x)
statement_part_view (StatementPartOf.OptionalBody x) = PartData.optional_body (option_map body_view x)
statement_part_view (StatementPartOf.Leave x) = PartData.leave (leave_view x)

abbrev pub part_view : Part → PartData.PartData
part_view (PartOf.Leaf l) = PartData.leaf (leaf_view l)
part_view (PartOf.Expression x) = PartData.expression_part (expression_part_view x)
part_view (PartOf.Declaration x) = PartData.declaration_part (declaration_part_view x)
part_view (PartOf.External x) = PartData.external_part (external_part_view x)
part_view (PartOf.Statement x) = PartData.statement_part (statement_part_view x)

abbrev pub parts_view : Parts → List PartData.PartData
parts_view parts = map part_view parts.chain
