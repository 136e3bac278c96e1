-- What a production makes is of its kind.
use Rattle.std.proofs.Common.{◌≡◌, List, refl}
use Rattle.c_parts.specs.PartData
use Rattle.c_parts.specs.Reading.{kind_of}
use Rattle.c_nodes.specs.declared.action.Action.{Action}
use Rattle.c_nodes.specs.declared.action.Action.TheVariants as ActionOf
use Rattle.c_nodes.specs.Nodes.{node, kind}
use Rattle.c_nodes.specs.declared.expression_nodes.ExpressionAction.{ExpressionAction}
use Rattle.c_nodes.specs.declared.expression_nodes.ExpressionAction.TheVariants as ExpressionOf
use Rattle.c_nodes.specs.declared.operand_nodes.OperandAction.{OperandAction}
use Rattle.c_nodes.specs.declared.operand_nodes.OperandAction.TheVariants as OperandOf
use Rattle.c_nodes.specs.declared.specifier_nodes.SpecifierAction.{SpecifierAction}
use Rattle.c_nodes.specs.declared.specifier_nodes.SpecifierAction.TheVariants as SpecifierOf
use Rattle.c_nodes.specs.declared.declarator_nodes.DeclaratorAction.{DeclaratorAction}
use Rattle.c_nodes.specs.declared.declarator_nodes.DeclaratorAction.TheVariants as DeclaratorOf
use Rattle.c_nodes.specs.declared.external_nodes.ExternalAction.{ExternalAction}
use Rattle.c_nodes.specs.declared.external_nodes.ExternalAction.TheVariants as ExternalOf
use Rattle.c_nodes.specs.declared.statement_nodes.StatementAction.{StatementAction}
use Rattle.c_nodes.specs.declared.statement_nodes.StatementAction.TheVariants as StatementOf
use Rattle.c_nodes.specs.declared.switch_nodes.SwitchAction.{SwitchAction}
use Rattle.c_nodes.specs.declared.switch_nodes.SwitchAction.TheVariants as SwitchOf

operand_kind : (action : OperandAction) (parts : List PartData.PartData) → kind_of (node (ActionOf.Operand action) parts) ≡ kind (ActionOf.Operand action)
operand_kind OperandOf.Identifier parts = refl
operand_kind OperandOf.Constant parts = refl
operand_kind OperandOf.NoOperations parts = refl
operand_kind OperandOf.Binary parts = refl
operand_kind OperandOf.Conditional parts = refl
operand_kind OperandOf.NoBranches parts = refl
operand_kind OperandOf.NoPostfixes parts = refl
operand_kind OperandOf.Postfixed parts = refl

expression_kind : (action : ExpressionAction) (parts : List PartData.PartData) → kind_of (node (ActionOf.Expression action) parts) ≡ kind (ActionOf.Expression action)
expression_kind (ExpressionOf.Infix operator) parts = refl
expression_kind (ExpressionOf.Prefix operator) parts = refl
expression_kind (ExpressionOf.Operation operator) parts = refl
expression_kind ExpressionOf.SignedOperation parts = refl
expression_kind ExpressionOf.Branches parts = refl
expression_kind ExpressionOf.Unary parts = refl
expression_kind ExpressionOf.Sizeof parts = refl
expression_kind ExpressionOf.SizeofType parts = refl
expression_kind ExpressionOf.SizeofExpression parts = refl
expression_kind ExpressionOf.Bracket parts = refl
expression_kind ExpressionOf.Cast parts = refl
expression_kind ExpressionOf.Group parts = refl
expression_kind ExpressionOf.Postfixes parts = refl
expression_kind ExpressionOf.TypeName parts = refl
expression_kind ExpressionOf.Index parts = refl
expression_kind ExpressionOf.Call parts = refl
expression_kind ExpressionOf.FirstArgument parts = refl
expression_kind ExpressionOf.Argument parts = refl
expression_kind ExpressionOf.NoArguments parts = refl
expression_kind ExpressionOf.Member parts = refl
expression_kind ExpressionOf.Arrow parts = refl
expression_kind ExpressionOf.SomeExpression parts = refl
expression_kind ExpressionOf.InitialExpression parts = refl
expression_kind ExpressionOf.NoExpression parts = refl
expression_kind (ExpressionOf.AssignmentSign operator) parts = refl
expression_kind (ExpressionOf.StepSign step) parts = refl

specifier_kind : (action : SpecifierAction) (parts : List PartData.PartData) → kind_of (node (ActionOf.Specifier action) parts) ≡ kind (ActionOf.Specifier action)
specifier_kind SpecifierOf.Specifiers parts = refl
specifier_kind SpecifierOf.NoSpecifiers parts = refl
specifier_kind (SpecifierOf.Keyword keyword) parts = refl
specifier_kind SpecifierOf.LibraryType parts = refl
specifier_kind SpecifierOf.TypedefName parts = refl
specifier_kind SpecifierOf.Struct parts = refl
specifier_kind SpecifierOf.TaggedStructure parts = refl
specifier_kind SpecifierOf.UntaggedStructure parts = refl
specifier_kind SpecifierOf.SomeMembers parts = refl
specifier_kind SpecifierOf.NoMembers parts = refl
specifier_kind SpecifierOf.MembersInBraces parts = refl
specifier_kind SpecifierOf.MemberDeclaration parts = refl
specifier_kind SpecifierOf.NoMoreMembers parts = refl
specifier_kind SpecifierOf.Declarators parts = refl
specifier_kind SpecifierOf.NoDeclarators parts = refl
specifier_kind SpecifierOf.Enum parts = refl
specifier_kind SpecifierOf.TaggedEnumeration parts = refl
specifier_kind SpecifierOf.UntaggedEnumeration parts = refl
specifier_kind SpecifierOf.SomeEnumerators parts = refl
specifier_kind SpecifierOf.NoEnumerators parts = refl
specifier_kind SpecifierOf.EnumeratorsInBraces parts = refl
specifier_kind SpecifierOf.EnumeratorsBehindComma parts = refl
specifier_kind SpecifierOf.EnumeratorsAgain parts = refl
specifier_kind SpecifierOf.Enumerator parts = refl
specifier_kind SpecifierOf.NoMoreEnumerators parts = refl

declarator_kind : (action : DeclaratorAction) (parts : List PartData.PartData) → kind_of (node (ActionOf.Declarator action) parts) ≡ kind (ActionOf.Declarator action)
declarator_kind (DeclaratorOf.Qualifier qualifier) parts = refl
declarator_kind DeclaratorOf.NoQualifiers parts = refl
declarator_kind DeclaratorOf.Pointer parts = refl
declarator_kind DeclaratorOf.NoPointers parts = refl
declarator_kind DeclaratorOf.Pointers parts = refl
declarator_kind DeclaratorOf.Bound parts = refl
declarator_kind DeclaratorOf.MemberBound parts = refl
declarator_kind DeclaratorOf.NoBounds parts = refl
declarator_kind DeclaratorOf.Bounds parts = refl
declarator_kind DeclaratorOf.Declarator parts = refl
declarator_kind DeclaratorOf.InitializerExpression parts = refl
declarator_kind DeclaratorOf.InitializerList parts = refl
declarator_kind DeclaratorOf.InitializersBehindComma parts = refl
declarator_kind DeclaratorOf.InitializersAgain parts = refl
declarator_kind DeclaratorOf.Initializers parts = refl
declarator_kind DeclaratorOf.NoInitializers parts = refl
declarator_kind DeclaratorOf.Initialization parts = refl
declarator_kind DeclaratorOf.NoInitialization parts = refl
declarator_kind DeclaratorOf.InitDeclarators parts = refl
declarator_kind DeclaratorOf.NoInitDeclarators parts = refl
declarator_kind DeclaratorOf.Objects parts = refl
declarator_kind DeclaratorOf.OnlyTypes parts = refl
declarator_kind DeclaratorOf.Declarators parts = refl

external_kind : (action : ExternalAction) (parts : List PartData.PartData) → kind_of (node (ActionOf.External action) parts) ≡ kind (ActionOf.External action)
external_kind ExternalOf.Externals parts = refl
external_kind ExternalOf.NoExternals parts = refl
external_kind ExternalOf.Unit parts = refl
external_kind ExternalOf.TypeDefinition parts = refl
external_kind ExternalOf.Declared parts = refl
external_kind ExternalOf.OnlyTypes parts = refl
external_kind ExternalOf.Named parts = refl
external_kind ExternalOf.FunctionBehindName parts = refl
external_kind ExternalOf.ObjectsBehindName parts = refl
external_kind ExternalOf.Function parts = refl
external_kind ExternalOf.Parameters parts = refl
external_kind ExternalOf.NoParameters parts = refl
external_kind ExternalOf.NoBody parts = refl
external_kind ExternalOf.SomeBody parts = refl
external_kind ExternalOf.Parameter parts = refl
external_kind ExternalOf.ParameterName parts = refl
external_kind ExternalOf.NoParameterName parts = refl
external_kind ExternalOf.ParameterBound parts = refl
external_kind ExternalOf.NoParameterBound parts = refl

statement_kind : (action : StatementAction) (parts : List PartData.PartData) → kind_of (node (ActionOf.Statement action) parts) ≡ kind (ActionOf.Statement action)
statement_kind StatementOf.Block parts = refl
statement_kind StatementOf.Items parts = refl
statement_kind StatementOf.NoItems parts = refl
statement_kind StatementOf.DeclarationItem parts = refl
statement_kind StatementOf.StatementItem parts = refl
statement_kind StatementOf.LeaveItem parts = refl
statement_kind StatementOf.BlockStatement parts = refl
statement_kind StatementOf.IfStatement parts = refl
statement_kind StatementOf.While parts = refl
statement_kind StatementOf.Do parts = refl
statement_kind StatementOf.For parts = refl
statement_kind StatementOf.Switch parts = refl
statement_kind StatementOf.Continue parts = refl
statement_kind StatementOf.SimpleStatement parts = refl
statement_kind StatementOf.Empty parts = refl
statement_kind StatementOf.If parts = refl
statement_kind StatementOf.Else parts = refl
statement_kind StatementOf.NoElse parts = refl
statement_kind StatementOf.OtherwiseBlock parts = refl
statement_kind StatementOf.OtherwiseIf parts = refl
statement_kind StatementOf.SomeForStart parts = refl
statement_kind StatementOf.NoForStart parts = refl
statement_kind StatementOf.StartDeclaration parts = refl
statement_kind StatementOf.StartSimple parts = refl
statement_kind StatementOf.SomeSimple parts = refl
statement_kind StatementOf.NoSimple parts = refl

switch_kind : (action : SwitchAction) (parts : List PartData.PartData) → kind_of (node (ActionOf.Switch action) parts) ≡ kind (ActionOf.Switch action)
switch_kind SwitchOf.Clauses parts = refl
switch_kind SwitchOf.NoClauses parts = refl
switch_kind SwitchOf.Default parts = refl
switch_kind SwitchOf.NoDefault parts = refl
switch_kind SwitchOf.Clause parts = refl
switch_kind SwitchOf.CaseLabels parts = refl
switch_kind SwitchOf.NoCaseLabels parts = refl
switch_kind SwitchOf.Body parts = refl
switch_kind SwitchOf.Statements parts = refl
switch_kind SwitchOf.NoStatements parts = refl
switch_kind SwitchOf.Break parts = refl
switch_kind SwitchOf.Return parts = refl
switch_kind SwitchOf.PrefixStep parts = refl
switch_kind SwitchOf.Simple parts = refl
switch_kind SwitchOf.Assignment parts = refl
switch_kind (SwitchOf.PostfixStep step) parts = refl
switch_kind SwitchOf.NoSimpleRest parts = refl

pub node_kind : (action : Action) (parts : List PartData.PartData) → kind_of (node action parts) ≡ kind action
node_kind ActionOf.Tag parts = refl
node_kind (ActionOf.Operand action) parts = operand_kind action parts
node_kind (ActionOf.Expression action) parts = expression_kind action parts
node_kind (ActionOf.Specifier action) parts = specifier_kind action parts
node_kind (ActionOf.Declarator action) parts = declarator_kind action parts
node_kind (ActionOf.External action) parts = external_kind action parts
node_kind (ActionOf.Statement action) parts = statement_kind action parts
node_kind (ActionOf.Switch action) parts = switch_kind action parts
