-- What each production makes of its parts.
use Rattle.std.specs.Prelude.{List, [], ◌∷◌}
use Rattle.c_parts.specs.Kinds
use Rattle.c_parts.specs.PartData
use Rattle.c_parts.specs.Reading.{part, leaf_of}
use Rattle.c_nodes.specs.declared.action.Action.{Action}
use Rattle.c_nodes.specs.declared.action.Action.TheVariants as ActionOf
use Rattle.c_nodes.specs.OperandNodes
use Rattle.c_nodes.specs.ExpressionNodes
use Rattle.c_nodes.specs.SpecifierNodes
use Rattle.c_nodes.specs.DeclaratorNodes
use Rattle.c_nodes.specs.ExternalNodes
use Rattle.c_nodes.specs.StatementNodes
use Rattle.c_nodes.specs.SwitchNodes

-- the parts of the production
abbrev pub kinds : Action → List Kinds.Kind
kinds ActionOf.Tag = Kinds.leaf ∷ []
kinds (ActionOf.Operand action) = OperandNodes.kinds action
kinds (ActionOf.Expression action) = ExpressionNodes.kinds action
kinds (ActionOf.Specifier action) = SpecifierNodes.kinds action
kinds (ActionOf.Declarator action) = DeclaratorNodes.kinds action
kinds (ActionOf.External action) = ExternalNodes.kinds action
kinds (ActionOf.Statement action) = StatementNodes.kinds action
kinds (ActionOf.Switch action) = SwitchNodes.kinds action

-- what it makes
abbrev pub kind : Action → Kinds.Kind
kind ActionOf.Tag = Kinds.leaf
kind (ActionOf.Operand action) = OperandNodes.kind action
kind (ActionOf.Expression action) = ExpressionNodes.kind action
kind (ActionOf.Specifier action) = SpecifierNodes.kind action
kind (ActionOf.Declarator action) = DeclaratorNodes.kind action
kind (ActionOf.External action) = ExternalNodes.kind action
kind (ActionOf.Statement action) = StatementNodes.kind action
kind (ActionOf.Switch action) = SwitchNodes.kind action

abbrev pub node : Action → List PartData.PartData → PartData.PartData
node ActionOf.Tag ps = PartData.leaf (leaf_of (part 0 ps))
node (ActionOf.Operand action) ps = PartData.expression_part (OperandNodes.node action ps)
node (ActionOf.Expression action) ps = PartData.expression_part (ExpressionNodes.node action ps)
node (ActionOf.Specifier action) ps = PartData.declaration_part (SpecifierNodes.node action ps)
node (ActionOf.Declarator action) ps = PartData.declaration_part (DeclaratorNodes.node action ps)
node (ActionOf.External action) ps = PartData.external_part (ExternalNodes.node action ps)
node (ActionOf.Statement action) ps = PartData.statement_part (StatementNodes.node action ps)
node (ActionOf.Switch action) ps = PartData.statement_part (SwitchNodes.node action ps)
