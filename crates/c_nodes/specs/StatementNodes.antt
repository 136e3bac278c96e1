-- What the productions of statements make of their parts.
use Rattle.std.specs.Prelude.{List, [], ◌∷◌, Some, None}
use Rattle.c_rawtree.specs.Statements
use Rattle.c_rawtree.specs.Views
use Rattle.c_rawtree.specs.StatementViews
use Rattle.c_parts.specs.Kinds
use Rattle.c_parts.specs.PartData
use Rattle.c_parts.specs.Reading.{part, block_of, clauses_of, for_start_of, if_statement_of, init_declarators_of, item_of, items_of, leaf_of, leave_of, operand_of, optional_body_of, optional_expression_of, optional_for_start_of, optional_simple_of, otherwise_branch_of, otherwise_of, pointers_of, simple_of, specifiers_of, statement_of}
use Rattle.c_nodes.specs.declared.statement_nodes.StatementAction.{StatementAction}
use Rattle.c_nodes.specs.declared.statement_nodes.StatementAction.TheVariants as ActionOf

-- the parts of the production
abbrev pub kinds : StatementAction → List Kinds.Kind
kinds ActionOf.Block = Kinds.leaf ∷ Kinds.items ∷ Kinds.leaf ∷ []
kinds ActionOf.Items = Kinds.item ∷ Kinds.items ∷ []
kinds ActionOf.NoItems = []
kinds ActionOf.DeclarationItem = Kinds.specifiers ∷ Kinds.init_declarators ∷ []
kinds ActionOf.StatementItem = Kinds.statement ∷ []
kinds ActionOf.LeaveItem = Kinds.leave ∷ []
kinds ActionOf.BlockStatement = Kinds.block ∷ []
kinds ActionOf.IfStatement = Kinds.if_statement ∷ []
kinds ActionOf.While = Kinds.leaf ∷ Kinds.leaf ∷ Kinds.operand ∷ Kinds.leaf ∷ Kinds.block ∷ []
kinds ActionOf.Do = Kinds.leaf ∷ Kinds.block ∷ Kinds.leaf ∷ Kinds.leaf ∷ Kinds.operand ∷ Kinds.leaf ∷ Kinds.leaf ∷ []
kinds ActionOf.For = Kinds.leaf ∷ Kinds.leaf ∷ Kinds.optional_for_start ∷ Kinds.leaf ∷ Kinds.optional_expression ∷ Kinds.leaf ∷ Kinds.optional_simple ∷ Kinds.leaf ∷ Kinds.block ∷ []
kinds ActionOf.Switch = Kinds.leaf ∷ Kinds.leaf ∷ Kinds.operand ∷ Kinds.leaf ∷ Kinds.leaf ∷ Kinds.clauses ∷ Kinds.optional_body ∷ Kinds.leaf ∷ []
kinds ActionOf.Continue = Kinds.leaf ∷ Kinds.leaf ∷ []
kinds ActionOf.SimpleStatement = Kinds.simple ∷ Kinds.leaf ∷ []
kinds ActionOf.Empty = Kinds.leaf ∷ []
kinds ActionOf.If = Kinds.leaf ∷ Kinds.leaf ∷ Kinds.operand ∷ Kinds.leaf ∷ Kinds.block ∷ Kinds.otherwise ∷ []
kinds ActionOf.Else = Kinds.leaf ∷ Kinds.otherwise_branch ∷ []
kinds ActionOf.NoElse = []
kinds ActionOf.OtherwiseBlock = Kinds.block ∷ []
kinds ActionOf.OtherwiseIf = Kinds.if_statement ∷ []
kinds ActionOf.SomeForStart = Kinds.for_start ∷ []
kinds ActionOf.NoForStart = []
kinds ActionOf.StartDeclaration = Kinds.specifiers ∷ Kinds.pointers ∷ Kinds.leaf ∷ Kinds.leaf ∷ Kinds.operand ∷ []
kinds ActionOf.StartSimple = Kinds.simple ∷ []
kinds ActionOf.SomeSimple = Kinds.simple ∷ []
kinds ActionOf.NoSimple = []

-- what it makes
abbrev pub kind : StatementAction → Kinds.Kind
kind ActionOf.Block = Kinds.block
kind ActionOf.Items = Kinds.items
kind ActionOf.NoItems = Kinds.items
kind ActionOf.DeclarationItem = Kinds.item
kind ActionOf.StatementItem = Kinds.item
kind ActionOf.LeaveItem = Kinds.item
kind ActionOf.BlockStatement = Kinds.statement
kind ActionOf.IfStatement = Kinds.statement
kind ActionOf.While = Kinds.statement
kind ActionOf.Do = Kinds.statement
kind ActionOf.For = Kinds.statement
kind ActionOf.Switch = Kinds.statement
kind ActionOf.Continue = Kinds.statement
kind ActionOf.SimpleStatement = Kinds.statement
kind ActionOf.Empty = Kinds.statement
kind ActionOf.If = Kinds.if_statement
kind ActionOf.Else = Kinds.otherwise
kind ActionOf.NoElse = Kinds.otherwise
kind ActionOf.OtherwiseBlock = Kinds.otherwise_branch
kind ActionOf.OtherwiseIf = Kinds.otherwise_branch
kind ActionOf.SomeForStart = Kinds.optional_for_start
kind ActionOf.NoForStart = Kinds.optional_for_start
kind ActionOf.StartDeclaration = Kinds.for_start
kind ActionOf.StartSimple = Kinds.for_start
kind ActionOf.SomeSimple = Kinds.optional_simple
kind ActionOf.NoSimple = Kinds.optional_simple

abbrev pub node : StatementAction → List PartData.PartData → PartData.StatementPart
node ActionOf.Block ps = PartData.block (Statements.block (leaf_of (part 0 ps)).place (StatementViews.items_of (items_of (part 1 ps))))
node ActionOf.Items ps = PartData.items (((item_of (part 0 ps))) ∷ (items_of (part 1 ps)))
node ActionOf.NoItems ps = PartData.items []
node ActionOf.DeclarationItem ps = PartData.item (Statements.declaration_item (record { specifiers = Views.specifiers_of (specifiers_of (part 0 ps)); declarators = (init_declarators_of (part 1 ps)) }))
node ActionOf.StatementItem ps = PartData.item (Statements.statement_item (statement_of (part 0 ps)))
node ActionOf.LeaveItem ps = PartData.item (Statements.leave_item (leave_of (part 0 ps)))
node ActionOf.BlockStatement ps = PartData.statement (Statements.block_statement (block_of (part 0 ps)))
node ActionOf.IfStatement ps = PartData.statement (Statements.if_statement (if_statement_of (part 0 ps)))
node ActionOf.While ps = PartData.statement (Statements.while_statement (leaf_of (part 0 ps)).place (operand_of (part 2 ps)).expression (block_of (part 4 ps)))
node ActionOf.Do ps = PartData.statement (Statements.do_statement (block_of (part 1 ps)) (leaf_of (part 2 ps)).place (operand_of (part 4 ps)).expression)
node ActionOf.For ps = PartData.statement (Statements.for_statement (leaf_of (part 0 ps)).place (optional_for_start_of (part 2 ps)) (optional_expression_of (part 4 ps)) (optional_simple_of (part 6 ps)) (block_of (part 8 ps)))
node ActionOf.Switch ps = PartData.statement (Statements.switch_statement (leaf_of (part 0 ps)).place (operand_of (part 2 ps)).expression (StatementViews.clauses_of (clauses_of (part 5 ps))) (StatementViews.maybe_body (optional_body_of (part 6 ps))))
node ActionOf.Continue ps = PartData.statement (Statements.continue_statement (leaf_of (part 0 ps)).place)
node ActionOf.SimpleStatement ps = PartData.statement (Statements.simple_statement (simple_of (part 0 ps)))
node ActionOf.Empty ps = PartData.statement (Statements.empty_statement (leaf_of (part 0 ps)).place)
node ActionOf.If ps = PartData.if_statement (Statements.if_then (leaf_of (part 0 ps)).place (operand_of (part 2 ps)).expression (block_of (part 4 ps)) (StatementViews.maybe_otherwise (otherwise_of (part 5 ps))))
node ActionOf.Else ps = PartData.otherwise (Some (otherwise_branch_of (part 1 ps)))
node ActionOf.NoElse ps = PartData.otherwise None
node ActionOf.OtherwiseBlock ps = PartData.otherwise_branch (Statements.otherwise_block (block_of (part 0 ps)))
node ActionOf.OtherwiseIf ps = PartData.otherwise_branch (Statements.otherwise_if (if_statement_of (part 0 ps)))
node ActionOf.SomeForStart ps = PartData.optional_for_start (Some (for_start_of (part 0 ps)))
node ActionOf.NoForStart ps = PartData.optional_for_start None
node ActionOf.StartDeclaration ps = PartData.for_start (Statements.start_declaration (Views.specifiers_of (specifiers_of (part 0 ps))) (pointers_of (part 1 ps)) (leaf_of (part 2 ps)) (leaf_of (part 3 ps)).place (operand_of (part 4 ps)).expression)
node ActionOf.StartSimple ps = PartData.for_start (Statements.start_simple (simple_of (part 0 ps)))
node ActionOf.SomeSimple ps = PartData.optional_simple (Some (simple_of (part 0 ps)))
node ActionOf.NoSimple ps = PartData.optional_simple None
