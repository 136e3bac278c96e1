-- The parts of which the tree of a text is made, as plain data.
use Rattle.std.specs.Prelude.{Bool, List, Option}
use Rattle.misra_base.specs.declared.place.Place.{Place}
use Rattle.c_rawtree.specs.declared.expression.Word.{Word}
use Rattle.c_rawtree.specs.declared.expression.Qualifier.{Qualifier}
use Rattle.c_rawtree.specs.Expressions
use Rattle.c_rawtree.specs.Statements
use Rattle.c_rawtree.specs.Views.{OneOperation, OneMember, OneEnumerator}
use Rattle.c_rawtree.specs.StatementViews.{OneClause}
use Rattle.c_rawtree.specs.declared.statement.AssignmentOperator.{AssignmentOperator}
use Rattle.c_rawtree.specs.declared.statement.Step.{Step}
use Rattle.c_parts.specs.declared.expression_part.InfixOperator.{InfixOperator}
use Rattle.c_parts.specs.declared.expression_part.PrefixOperator.{PrefixOperator}
use Rattle.c_parts.specs.declared.expression_part.AssignmentSign.{AssignmentSign}
use Rattle.c_parts.specs.declared.expression_part.StepSign.{StepSign}

pub record OperandData : Type 0 where
  pub expression : Expressions.ExpressionData
  pub bracketed : Bool

pub record BranchesData : Type 0 where
  pub question : Place
  pub then : Expressions.ExpressionData
  pub otherwise : Expressions.ExpressionData

pub data SizeofOperandData : Type 0 where
  sizeof_of_type : Expressions.TypeNameData → SizeofOperandData
  sizeof_of_expression : Expressions.ExpressionData → SizeofOperandData

pub data BracketedData : Type 0 where
  bracketed_cast : Expressions.TypeNameData → Expressions.ExpressionData → BracketedData
  bracketed_operand : OperandData → BracketedData

pub data StructureData : Type 0 where
  structure_reference : Word → StructureData
  structure_declaration : Option Word → List OneMember → StructureData

pub data EnumerationData : Type 0 where
  enumeration_reference : Word → EnumerationData
  enumeration_declaration : Option Word → List OneEnumerator → EnumerationData

pub record ObjectsData : Type 0 where
  pub bounds : List Expressions.BoundData
  pub initialization : Option Statements.InitializationData
  pub others : List Statements.InitDeclaratorData

pub record ParameterNameData : Type 0 where
  pub name : Option Word
  pub bound : Option Expressions.BoundData

pub record FunctionRestData : Type 0 where
  pub parameters : List Statements.ParameterData
  pub body : Option Statements.BlockData

pub data NameRestData : Type 0 where
  rest_of_function : FunctionRestData → NameRestData
  rest_of_objects : ObjectsData → NameRestData

pub data ExternalRestData : Type 0 where
  rest_declarators : List Statements.InitDeclaratorData → ExternalRestData
  rest_function : List Expressions.PointerData → Word → FunctionRestData → ExternalRestData

pub data SimpleRestData : Type 0 where
  rest_assignment : Place → AssignmentOperator → Expressions.ExpressionData → SimpleRestData
  rest_step : Place → Step → SimpleRestData

pub data ExpressionPart : Type 0 where
  operand : OperandData → ExpressionPart
  optional_expression : Option Expressions.ExpressionData → ExpressionPart
  infix_operator : InfixOperator → ExpressionPart
  operations : List OneOperation → ExpressionPart
  prefix_operator : PrefixOperator → ExpressionPart
  postfix : Expressions.PostfixData → ExpressionPart
  postfixes : List Expressions.PostfixData → ExpressionPart
  arguments : List Expressions.ExpressionData → ExpressionPart
  type_name : Expressions.TypeNameData → ExpressionPart
  branches : Option BranchesData → ExpressionPart
  sizeof_operand : SizeofOperandData → ExpressionPart
  bracketed : BracketedData → ExpressionPart
  assignment_sign : AssignmentSign → ExpressionPart
  step_sign : StepSign → ExpressionPart

pub data DeclarationPart : Type 0 where
  qualifiers : List Qualifier → DeclarationPart
  pointers : List Expressions.PointerData → DeclarationPart
  specifier : Expressions.SpecifierData → DeclarationPart
  specifiers : List Expressions.SpecifierData → DeclarationPart
  bounds : List Expressions.BoundData → DeclarationPart
  declarator : Expressions.DeclaratorData → DeclarationPart
  declarators : List Expressions.DeclaratorData → DeclarationPart
  members : List OneMember → DeclarationPart
  optional_members : Option (List OneMember) → DeclarationPart
  structure : StructureData → DeclarationPart
  enumerators : List OneEnumerator → DeclarationPart
  optional_enumerators : Option (List OneEnumerator) → DeclarationPart
  enumeration : EnumerationData → DeclarationPart
  initializer : Statements.InitializerData → DeclarationPart
  initializers : List Statements.InitializerData → DeclarationPart
  initialization : Option Statements.InitializationData → DeclarationPart
  init_declarators : List Statements.InitDeclaratorData → DeclarationPart
  objects : ObjectsData → DeclarationPart

pub data ExternalPart : Type 0 where
  optional_bound : Option Expressions.BoundData → ExternalPart
  parameter_name : ParameterNameData → ExternalPart
  parameter : Statements.ParameterData → ExternalPart
  parameters : List Statements.ParameterData → ExternalPart
  optional_block : Option Statements.BlockData → ExternalPart
  function_rest : FunctionRestData → ExternalPart
  name_rest : NameRestData → ExternalPart
  external_rest : ExternalRestData → ExternalPart
  external : Statements.ExternalData → ExternalPart
  externals : List Statements.ExternalData → ExternalPart

pub data StatementPart : Type 0 where
  block : Statements.BlockData → StatementPart
  item : Statements.ItemData → StatementPart
  items : List Statements.ItemData → StatementPart
  statement : Statements.StatementData → StatementPart
  statements : List Statements.StatementData → StatementPart
  if_statement : Statements.IfData → StatementPart
  otherwise : Option Statements.OtherwiseData → StatementPart
  otherwise_branch : Statements.OtherwiseData → StatementPart
  for_start : Statements.ForStartData → StatementPart
  optional_for_start : Option Statements.ForStartData → StatementPart
  simple : Statements.SimpleData → StatementPart
  optional_simple : Option Statements.SimpleData → StatementPart
  simple_rest : Option SimpleRestData → StatementPart
  case_labels : List Statements.CaseLabelData → StatementPart
  clause : OneClause → StatementPart
  clauses : List OneClause → StatementPart
  body : Statements.BodyData → StatementPart
  optional_body : Option Statements.BodyData → StatementPart
  leave : Statements.LeaveData → StatementPart

-- a token has its place and its text
pub data PartData : Type 0 where
  leaf : Word → PartData
  expression_part : ExpressionPart → PartData
  declaration_part : DeclarationPart → PartData
  external_part : ExternalPart → PartData
  statement_part : StatementPart → PartData
