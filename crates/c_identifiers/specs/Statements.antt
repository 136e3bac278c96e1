-- What scopes see of declarations and statements (C11 6.2.1, 6.7, 6.8).
use Rattle.std.specs.Prelude.{true, false, List, [], ◌∷◌, ◌++◌, Option, Some, None}
use Rattle.std.specs.Option.{is_some}
use Rattle.c_names.specs.declared.declaration.Kind.TheVariants as a
use Rattle.c_tree.specs.declared.expression.Word.{Word}
use Rattle.c_tree.specs.Expressions
use Rattle.c_tree.specs.Statements
use Rattle.c_identifiers.specs.declared.event.Form.TheVariants.{Other as unjudged}
use Rattle.c_identifiers.specs.declared.event.Usage.TheVariants.{Evaluated}
use Rattle.c_identifiers.specs.declared.event.Event.{Event}
use Rattle.c_identifiers.specs.declared.event.Event.TheVariants.{Open, Close}
use Rattle.c_identifiers.specs.declared.roles.Level.{Level}
use Rattle.c_identifiers.specs.declared.roles.Level.TheVariants.{Block as block_level}
use Rattle.c_identifiers.specs.Roles.{tag_role, object_role}
use Rattle.c_identifiers.specs.Expressions.{expression_events, specifiers_events, declarator_events, declaration_of}

abbrev pub each : {A : Type 0} → (A → List Event) → Option A → List Event
each events None = []
each events (Some x) = events x

abbrev pub evaluated : Expressions.ExpressionData → List Event
evaluated = expression_events Evaluated

-- ---- declarations

abbrev pub reference_tag : Expressions.SpecifierData → Option Word
reference_tag (Expressions.structure_reference place tag) = Some tag
reference_tag _ = None

abbrev pub lone_reference : Expressions.Specifiers → Option Word
lone_reference Expressions.no_specifiers = None
lone_reference (Expressions.specifier first Expressions.no_specifiers) = reference_tag first
lone_reference (Expressions.specifier first (Expressions.specifier second rest)) = None

abbrev pub lone_by : List Statements.InitDeclaratorData → Expressions.Specifiers → Option Word
lone_by [] words = lone_reference words
lone_by (d ∷ ds) words = None

-- `struct tag ;` declares the tag
abbrev pub lone_tag : Statements.DeclarationData → Option Word
lone_tag d = lone_by d.declarators d.specifiers

abbrev mutual
  pub initializer_events : Statements.InitializerData → List Event
  initializer_events (Statements.initial_expression expression) = evaluated expression
  initializer_events (Statements.initial_list place items comma close) = initializers_events items

  pub initializers_events : Statements.Initializers → List Event
  initializers_events Statements.no_initializers = []
  initializers_events (Statements.initializer first rest) = initializer_events first ++ initializers_events rest

abbrev pub initialization_events : Option Statements.InitializationData → List Event
initialization_events None = []
initialization_events (Some i) = initializer_events i.value

-- an object is visible in its own value
abbrev pub init_declarators_events : Level → Expressions.Specifiers → List Statements.InitDeclaratorData → List Event
init_declarators_events level words [] = []
init_declarators_events level words (d ∷ ds) =
    (declarator_events Evaluated (object_role level words (is_some d.initialization)) d.declarator ++ initialization_events d.initialization)
    ++ init_declarators_events level words ds

abbrev pub objects_events : Level → Statements.DeclarationData → List Event
objects_events level d = specifiers_events Evaluated d.specifiers ++ init_declarators_events level d.specifiers d.declarators

abbrev pub declared_events : Level → Statements.DeclarationData → Option Word → List Event
declared_events level d (Some tag) = declaration_of (tag_role a.Structure false) unjudged tag
declared_events level d None = objects_events level d

abbrev pub declaration_events : Level → Statements.DeclarationData → List Event
declaration_events level d = declared_events level d (lone_tag d)

-- ---- statements

abbrev pub simple_events : Statements.SimpleData → List Event
simple_events (Statements.simple_expression expression) = evaluated expression
simple_events (Statements.assignment target place operator value) = evaluated target ++ evaluated value
simple_events (Statements.prefix_step place step operand) = evaluated operand
simple_events (Statements.postfix_step operand place step) = evaluated operand

abbrev pub leave_events : Statements.LeaveData → List Event
leave_events (Statements.breaks place) = []
leave_events (Statements.returns place value) = each evaluated value

abbrev pub for_start_events : Statements.ForStartData → List Event
for_start_events (Statements.start_declaration words pointers name place value) =
    specifiers_events Evaluated words ++ (declaration_of (object_role block_level words true) unjudged name ++ evaluated value)
for_start_events (Statements.start_simple simple) = simple_events simple

abbrev pub labels_events : List Statements.CaseLabelData → List Event
labels_events [] = []
labels_events (l ∷ ls) = evaluated l.value ++ labels_events ls

-- what stands in a scope of its own
abbrev pub in_scope : List Event → List Event
in_scope events = Open ∷ (events ++ Close ∷ [])

-- a loop and a selection are a scope of their own (C11 6.8.4p3, 6.8.5p5)
abbrev mutual
  pub block_events : Statements.BlockData → List Event
  block_events (Statements.block place items close) = in_scope (items_events items)

  pub items_events : Statements.Items → List Event
  items_events Statements.no_items = []
  items_events (Statements.item_first first rest) = item_events first ++ items_events rest

  pub item_events : Statements.ItemData → List Event
  item_events (Statements.declaration_item declaration) = declaration_events block_level declaration
  item_events (Statements.statement_item statement) = statement_events statement
  item_events (Statements.leave_item leave) = leave_events leave

  pub statement_events : Statements.StatementData → List Event
  statement_events (Statements.block_statement b) = block_events b
  statement_events (Statements.if_statement i) = if_events i
  statement_events (Statements.while_statement place condition b) = in_scope (evaluated condition ++ block_events b)
  statement_events (Statements.do_statement place b while_place condition) = in_scope (block_events b ++ evaluated condition)
  statement_events (Statements.for_statement place start condition step b) =
      in_scope (each for_start_events start ++ each evaluated condition ++ each simple_events step ++ block_events b)
  statement_events (Statements.switch_statement place subject clauses default close) =
      in_scope (evaluated subject ++ clauses_events clauses ++ maybe_body_events default)
  statement_events (Statements.continue_statement place) = []
  statement_events (Statements.simple_statement simple) = simple_events simple
  statement_events (Statements.empty_statement place) = []

  pub if_events : Statements.IfData → List Event
  if_events (Statements.if_then place condition chosen otherwise) =
      in_scope (evaluated condition ++ block_events chosen ++ maybe_otherwise_events otherwise)

  pub maybe_otherwise_events : Statements.MaybeOtherwise → List Event
  maybe_otherwise_events Statements.no_otherwise = []
  maybe_otherwise_events (Statements.some_otherwise otherwise) = otherwise_events otherwise

  pub otherwise_events : Statements.OtherwiseData → List Event
  otherwise_events (Statements.otherwise_block b) = block_events b
  otherwise_events (Statements.otherwise_if i) = if_events i

  pub clauses_events : Statements.Clauses → List Event
  clauses_events Statements.no_clauses = []
  clauses_events (Statements.clause_first labels b rest) = (labels_events labels ++ body_events b) ++ clauses_events rest

  pub maybe_body_events : Statements.MaybeBody → List Event
  maybe_body_events Statements.no_body = []
  maybe_body_events (Statements.some_body b) = body_events b

  pub body_events : Statements.BodyData → List Event
  body_events (Statements.body ss leave) = statements_events ss ++ leave_events leave

  pub statements_events : Statements.Statements → List Event
  statements_events Statements.no_statements = []
  statements_events (Statements.statement_first first rest) = statement_events first ++ statements_events rest
