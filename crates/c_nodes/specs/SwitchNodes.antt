-- What the productions of clauses of a `switch`, jumps, assignments and steps make of their parts.
use Rattle.std.specs.Prelude.{List, [], ◌∷◌, Option, Some, None}
use Rattle.c_rawtree.specs.Statements
use Rattle.c_rawtree.specs.StatementViews
use Rattle.c_parts.specs.Kinds
use Rattle.c_parts.specs.PartData
use Rattle.c_parts.specs.Reading.{part, assignment_sign_of, body_of, case_labels_of, clause_of, clauses_of, leaf_of, leave_of, operand_of, optional_expression_of, simple_rest_of, statement_of, statements_of, step_sign_of}
use Rattle.c_nodes.specs.declared.switch_nodes.SwitchAction.{SwitchAction}
use Rattle.c_nodes.specs.declared.switch_nodes.SwitchAction.TheVariants as ActionOf

-- the parts of the production
abbrev pub kinds : SwitchAction → List Kinds.Kind
kinds ActionOf.Clauses = Kinds.clause ∷ Kinds.clauses ∷ []
kinds ActionOf.NoClauses = []
kinds ActionOf.Default = Kinds.leaf ∷ Kinds.leaf ∷ Kinds.body ∷ []
kinds ActionOf.NoDefault = []
kinds ActionOf.Clause = Kinds.leaf ∷ Kinds.operand ∷ Kinds.leaf ∷ Kinds.case_labels ∷ Kinds.body ∷ []
kinds ActionOf.CaseLabels = Kinds.leaf ∷ Kinds.operand ∷ Kinds.leaf ∷ Kinds.case_labels ∷ []
kinds ActionOf.NoCaseLabels = []
kinds ActionOf.Body = Kinds.statements ∷ Kinds.leave ∷ []
kinds ActionOf.Statements = Kinds.statement ∷ Kinds.statements ∷ []
kinds ActionOf.NoStatements = []
kinds ActionOf.Break = Kinds.leaf ∷ Kinds.leaf ∷ []
kinds ActionOf.Return = Kinds.leaf ∷ Kinds.optional_expression ∷ Kinds.leaf ∷ []
kinds ActionOf.PrefixStep = Kinds.step_sign ∷ Kinds.operand ∷ []
kinds ActionOf.Simple = Kinds.operand ∷ Kinds.simple_rest ∷ []
kinds ActionOf.Assignment = Kinds.assignment_sign ∷ Kinds.operand ∷ []
kinds (ActionOf.PostfixStep step) = Kinds.leaf ∷ []
kinds ActionOf.NoSimpleRest = []

-- what it makes
abbrev pub kind : SwitchAction → Kinds.Kind
kind ActionOf.Clauses = Kinds.clauses
kind ActionOf.NoClauses = Kinds.clauses
kind ActionOf.Default = Kinds.optional_body
kind ActionOf.NoDefault = Kinds.optional_body
kind ActionOf.Clause = Kinds.clause
kind ActionOf.CaseLabels = Kinds.case_labels
kind ActionOf.NoCaseLabels = Kinds.case_labels
kind ActionOf.Body = Kinds.body
kind ActionOf.Statements = Kinds.statements
kind ActionOf.NoStatements = Kinds.statements
kind ActionOf.Break = Kinds.leave
kind ActionOf.Return = Kinds.leave
kind ActionOf.PrefixStep = Kinds.simple
kind ActionOf.Simple = Kinds.simple
kind ActionOf.Assignment = Kinds.simple_rest
kind (ActionOf.PostfixStep step) = Kinds.simple_rest
kind ActionOf.NoSimpleRest = Kinds.simple_rest

abbrev pub simple : PartData.OperandData → Option PartData.SimpleRestData → Statements.SimpleData
simple left None = Statements.simple_expression left.expression
simple left (Some (PartData.rest_assignment place operator value)) = Statements.assignment left.expression place operator value
simple left (Some (PartData.rest_step place step)) = Statements.postfix_step left.expression left.bracketed place step

abbrev pub node : SwitchAction → List PartData.PartData → PartData.StatementPart
node ActionOf.Clauses ps = PartData.clauses (((clause_of (part 0 ps))) ∷ (clauses_of (part 1 ps)))
node ActionOf.NoClauses ps = PartData.clauses []
node ActionOf.Default ps = PartData.optional_body (Some (body_of (part 2 ps)))
node ActionOf.NoDefault ps = PartData.optional_body None
node ActionOf.Clause ps = PartData.clause (record { labels = record { place = (leaf_of (part 0 ps)).place; value = (operand_of (part 1 ps)).expression } ∷ (case_labels_of (part 3 ps)); body = (body_of (part 4 ps)) })
node ActionOf.CaseLabels ps = PartData.case_labels ((record { place = (leaf_of (part 0 ps)).place; value = (operand_of (part 1 ps)).expression }) ∷ (case_labels_of (part 3 ps)))
node ActionOf.NoCaseLabels ps = PartData.case_labels []
node ActionOf.Body ps = PartData.body (Statements.body (StatementViews.statements_of (statements_of (part 0 ps))) (leave_of (part 1 ps)))
node ActionOf.Statements ps = PartData.statements (((statement_of (part 0 ps))) ∷ (statements_of (part 1 ps)))
node ActionOf.NoStatements ps = PartData.statements []
node ActionOf.Break ps = PartData.leave (Statements.breaks (leaf_of (part 0 ps)).place)
node ActionOf.Return ps = PartData.leave (Statements.returns (leaf_of (part 0 ps)).place (optional_expression_of (part 1 ps)))
node ActionOf.PrefixStep ps = PartData.simple (Statements.prefix_step (step_sign_of (part 0 ps)).place (step_sign_of (part 0 ps)).step (operand_of (part 1 ps)).expression)
node ActionOf.Simple ps = PartData.simple (simple (operand_of (part 0 ps)) (simple_rest_of (part 1 ps)))
node ActionOf.Assignment ps = PartData.simple_rest (Some (PartData.rest_assignment (assignment_sign_of (part 0 ps)).place (assignment_sign_of (part 0 ps)).operator (operand_of (part 1 ps)).expression))
node (ActionOf.PostfixStep step) ps = PartData.simple_rest (Some (PartData.rest_step (leaf_of (part 0 ps)).place step))
node ActionOf.NoSimpleRest ps = PartData.simple_rest None
