-- What the productions that an operand goes through make of their parts.
use Rattle.std.specs.Prelude.{false, List, [], ◌∷◌, Option, Some, None}
use Rattle.c_rawtree.specs.Expressions
use Rattle.c_rawtree.specs.Views
use Rattle.c_parts.specs.Kinds
use Rattle.c_parts.specs.PartData
use Rattle.c_parts.specs.Reading.{part, branches_of, leaf_of, operand_of, operations_of, postfixes_of}
use Rattle.c_nodes.specs.declared.operand_nodes.OperandAction.{OperandAction}
use Rattle.c_nodes.specs.declared.operand_nodes.OperandAction.TheVariants as ActionOf

-- the parts of the production
abbrev pub kinds : OperandAction → List Kinds.Kind
kinds ActionOf.Identifier = Kinds.leaf ∷ []
kinds ActionOf.Constant = Kinds.leaf ∷ []
kinds ActionOf.NoOperations = []
kinds ActionOf.Binary = Kinds.operand ∷ Kinds.operations ∷ []
kinds ActionOf.Conditional = Kinds.operand ∷ Kinds.branches ∷ []
kinds ActionOf.NoBranches = []
kinds ActionOf.NoPostfixes = []
kinds ActionOf.Postfixed = Kinds.operand ∷ Kinds.postfixes ∷ []

-- what it makes
abbrev pub kind : OperandAction → Kinds.Kind
kind ActionOf.Identifier = Kinds.operand
kind ActionOf.Constant = Kinds.operand
kind ActionOf.NoOperations = Kinds.operations
kind ActionOf.Binary = Kinds.operand
kind ActionOf.Conditional = Kinds.operand
kind ActionOf.NoBranches = Kinds.branches
kind ActionOf.NoPostfixes = Kinds.postfixes
kind ActionOf.Postfixed = Kinds.operand

-- an expression that is not in brackets
abbrev pub plain : Expressions.ExpressionData → PartData.OperandData
plain e = record { expression = e; bracketed = false }

abbrev pub binary : PartData.OperandData → List Views.OneOperation → PartData.OperandData
binary first [] = first
binary first (o ∷ os) = plain (Expressions.binary first.expression (Views.operations_of (o ∷ os)))

abbrev pub conditional : PartData.OperandData → Option PartData.BranchesData → PartData.OperandData
conditional condition None = condition
conditional condition (Some b) = plain (Expressions.conditional condition.expression b.question b.then b.otherwise)

abbrev pub postfixed : PartData.OperandData → List Expressions.PostfixData → PartData.OperandData
postfixed inner [] = inner
postfixed inner (p ∷ ps) = plain (Expressions.postfix inner.expression (Views.postfixes_of (p ∷ ps)))

abbrev pub node : OperandAction → List PartData.PartData → PartData.ExpressionPart
node ActionOf.Identifier ps = PartData.operand (plain (Expressions.identifier (leaf_of (part 0 ps))))
node ActionOf.Constant ps = PartData.operand (plain (Expressions.constant (leaf_of (part 0 ps))))
node ActionOf.NoOperations ps = PartData.operations []
node ActionOf.Binary ps = PartData.operand (binary (operand_of (part 0 ps)) (operations_of (part 1 ps)))
node ActionOf.Conditional ps = PartData.operand (conditional (operand_of (part 0 ps)) (branches_of (part 1 ps)))
node ActionOf.NoBranches ps = PartData.branches None
node ActionOf.NoPostfixes ps = PartData.postfixes []
node ActionOf.Postfixed ps = PartData.operand (postfixed (operand_of (part 0 ps)) (postfixes_of (part 1 ps)))
