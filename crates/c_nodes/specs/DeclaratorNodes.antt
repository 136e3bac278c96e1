-- What the productions of declarators and initialisers make of their parts.
use Rattle.std.specs.Prelude.{List, [], ◌∷◌, Some, None}
use Rattle.c_rawtree.specs.declared.expression.Word.{Word}
use Rattle.c_rawtree.specs.Expressions
use Rattle.c_rawtree.specs.Statements
use Rattle.c_rawtree.specs.Views
use Rattle.c_rawtree.specs.StatementViews
use Rattle.c_parts.specs.Kinds
use Rattle.c_parts.specs.PartData
use Rattle.c_parts.specs.Reading.{part, bounds_of, init_declarators_of, initialization_of, initializer_of, initializers_of, leaf_of, objects_of, operand_of, optional_expression_of, pointers_of, qualifiers_of}
use Rattle.c_nodes.specs.declared.declarator_nodes.DeclaratorAction.{DeclaratorAction}
use Rattle.c_nodes.specs.declared.declarator_nodes.DeclaratorAction.TheVariants as ActionOf

-- the parts of the production
abbrev pub kinds : DeclaratorAction → List Kinds.Kind
kinds (ActionOf.Qualifier qualifier) = Kinds.leaf ∷ Kinds.qualifiers ∷ []
kinds ActionOf.NoQualifiers = []
kinds ActionOf.Pointer = Kinds.leaf ∷ Kinds.qualifiers ∷ Kinds.pointers ∷ []
kinds ActionOf.NoPointers = []
kinds ActionOf.Pointers = Kinds.pointers ∷ []
kinds ActionOf.Bound = Kinds.leaf ∷ Kinds.optional_expression ∷ Kinds.leaf ∷ Kinds.bounds ∷ []
kinds ActionOf.MemberBound = Kinds.leaf ∷ Kinds.operand ∷ Kinds.leaf ∷ Kinds.bounds ∷ []
kinds ActionOf.NoBounds = []
kinds ActionOf.Bounds = Kinds.bounds ∷ []
kinds ActionOf.Declarator = Kinds.pointers ∷ Kinds.leaf ∷ Kinds.bounds ∷ []
kinds ActionOf.InitializerExpression = Kinds.operand ∷ []
kinds ActionOf.InitializerList = Kinds.leaf ∷ Kinds.initializer ∷ Kinds.initializers ∷ Kinds.leaf ∷ []
kinds ActionOf.InitializersBehindComma = Kinds.leaf ∷ Kinds.initializers ∷ []
kinds ActionOf.InitializersAgain = Kinds.initializers ∷ []
kinds ActionOf.Initializers = Kinds.initializer ∷ Kinds.initializers ∷ []
kinds ActionOf.NoInitializers = []
kinds ActionOf.Initialization = Kinds.leaf ∷ Kinds.initializer ∷ []
kinds ActionOf.NoInitialization = []
kinds ActionOf.InitDeclarators = Kinds.leaf ∷ Kinds.pointers ∷ Kinds.leaf ∷ Kinds.bounds ∷ Kinds.initialization ∷ Kinds.init_declarators ∷ []
kinds ActionOf.NoInitDeclarators = []
kinds ActionOf.Objects = Kinds.bounds ∷ Kinds.initialization ∷ Kinds.init_declarators ∷ Kinds.leaf ∷ []
kinds ActionOf.OnlyTypes = Kinds.leaf ∷ []
kinds ActionOf.Declarators = Kinds.pointers ∷ Kinds.leaf ∷ Kinds.objects ∷ []

-- what it makes
abbrev pub kind : DeclaratorAction → Kinds.Kind
kind (ActionOf.Qualifier qualifier) = Kinds.qualifiers
kind ActionOf.NoQualifiers = Kinds.qualifiers
kind ActionOf.Pointer = Kinds.pointers
kind ActionOf.NoPointers = Kinds.pointers
kind ActionOf.Pointers = Kinds.pointers
kind ActionOf.Bound = Kinds.bounds
kind ActionOf.MemberBound = Kinds.bounds
kind ActionOf.NoBounds = Kinds.bounds
kind ActionOf.Bounds = Kinds.bounds
kind ActionOf.Declarator = Kinds.declarator
kind ActionOf.InitializerExpression = Kinds.initializer
kind ActionOf.InitializerList = Kinds.initializer
kind ActionOf.InitializersBehindComma = Kinds.initializers
kind ActionOf.InitializersAgain = Kinds.initializers
kind ActionOf.Initializers = Kinds.initializers
kind ActionOf.NoInitializers = Kinds.initializers
kind ActionOf.Initialization = Kinds.initialization
kind ActionOf.NoInitialization = Kinds.initialization
kind ActionOf.InitDeclarators = Kinds.init_declarators
kind ActionOf.NoInitDeclarators = Kinds.init_declarators
kind ActionOf.Objects = Kinds.objects
kind ActionOf.OnlyTypes = Kinds.init_declarators
kind ActionOf.Declarators = Kinds.init_declarators

-- all declarators of a declaration: that of the first name, and the others
abbrev pub all_declarators : List Expressions.PointerData → Word → PartData.ObjectsData → List Statements.InitDeclaratorData
all_declarators pointers name o =
    record { declarator = Expressions.declarator pointers name (Views.bounds_of o.bounds); initialization = o.initialization } ∷ o.others

abbrev pub node : DeclaratorAction → List PartData.PartData → PartData.DeclarationPart
node (ActionOf.Qualifier qualifier) ps = PartData.qualifiers ((qualifier) ∷ (qualifiers_of (part 1 ps)))
node ActionOf.NoQualifiers ps = PartData.qualifiers []
node ActionOf.Pointer ps = PartData.pointers ((record { place = (leaf_of (part 0 ps)).place; qualifiers = (qualifiers_of (part 1 ps)) }) ∷ (pointers_of (part 2 ps)))
node ActionOf.NoPointers ps = PartData.pointers []
node ActionOf.Pointers ps = PartData.pointers (pointers_of (part 0 ps))
node ActionOf.Bound ps = PartData.bounds ((Expressions.bound (Views.maybe_of (optional_expression_of (part 1 ps))) (leaf_of (part 2 ps)).place) ∷ (bounds_of (part 3 ps)))
node ActionOf.MemberBound ps = PartData.bounds ((Expressions.bound (Expressions.some_expression (operand_of (part 1 ps)).expression) (leaf_of (part 2 ps)).place) ∷ (bounds_of (part 3 ps)))
node ActionOf.NoBounds ps = PartData.bounds []
node ActionOf.Bounds ps = PartData.bounds (bounds_of (part 0 ps))
node ActionOf.Declarator ps = PartData.declarator (Expressions.declarator (pointers_of (part 0 ps)) (leaf_of (part 1 ps)) (Views.bounds_of (bounds_of (part 2 ps))))
node ActionOf.InitializerExpression ps = PartData.initializer (Statements.initial_expression (operand_of (part 0 ps)).expression)
node ActionOf.InitializerList ps = PartData.initializer (Statements.initial_list (leaf_of (part 0 ps)).place (StatementViews.initializers_of ((initializer_of (part 1 ps)) ∷ (initializers_of (part 2 ps)))))
node ActionOf.InitializersBehindComma ps = PartData.initializers (initializers_of (part 1 ps))
node ActionOf.InitializersAgain ps = PartData.initializers (initializers_of (part 0 ps))
node ActionOf.Initializers ps = PartData.initializers (((initializer_of (part 0 ps))) ∷ (initializers_of (part 1 ps)))
node ActionOf.NoInitializers ps = PartData.initializers []
node ActionOf.Initialization ps = PartData.initialization (Some (record { place = (leaf_of (part 0 ps)).place; value = (initializer_of (part 1 ps)) }))
node ActionOf.NoInitialization ps = PartData.initialization None
node ActionOf.InitDeclarators ps = PartData.init_declarators ((record { declarator = Expressions.declarator (pointers_of (part 1 ps)) (leaf_of (part 2 ps)) (Views.bounds_of (bounds_of (part 3 ps))); initialization = (initialization_of (part 4 ps)) }) ∷ (init_declarators_of (part 5 ps)))
node ActionOf.NoInitDeclarators ps = PartData.init_declarators []
node ActionOf.Objects ps = PartData.objects (record { bounds = (bounds_of (part 0 ps)); initialization = (initialization_of (part 1 ps)); others = (init_declarators_of (part 2 ps)) })
node ActionOf.OnlyTypes ps = PartData.init_declarators []
node ActionOf.Declarators ps = PartData.init_declarators (all_declarators (pointers_of (part 0 ps)) (leaf_of (part 1 ps)) (objects_of (part 2 ps)))
