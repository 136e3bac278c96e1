-- What the productions of external declarations make of their parts.
use Rattle.std.specs.Prelude.{List, [], ◌∷◌, Some, None}
use Rattle.c_rawtree.specs.declared.expression.Word.{Word}
use Rattle.c_rawtree.specs.Expressions
use Rattle.c_rawtree.specs.Statements
use Rattle.c_rawtree.specs.Views
use Rattle.c_parts.specs.Kinds
use Rattle.c_parts.specs.PartData
use Rattle.c_parts.specs.Reading.{part, block_of, external_of, external_rest_of, externals_of, function_rest_of, leaf_of, name_rest_of, objects_of, optional_block_of, optional_bound_of, optional_expression_of, parameter_name_of, parameter_of, parameters_of, pointers_of, specifiers_of}
use Rattle.c_nodes.specs.DeclaratorNodes.{all_declarators}
use Rattle.c_nodes.specs.declared.external_nodes.ExternalAction.{ExternalAction}
use Rattle.c_nodes.specs.declared.external_nodes.ExternalAction.TheVariants as ActionOf

-- the parts of the production
abbrev pub kinds : ExternalAction → List Kinds.Kind
kinds ActionOf.Externals = Kinds.external ∷ Kinds.externals ∷ []
kinds ActionOf.NoExternals = []
kinds ActionOf.Unit = Kinds.externals ∷ []
kinds ActionOf.TypeDefinition = Kinds.leaf ∷ Kinds.specifiers ∷ Kinds.pointers ∷ Kinds.leaf ∷ Kinds.leaf ∷ []
kinds ActionOf.Declared = Kinds.specifiers ∷ Kinds.external_rest ∷ []
kinds ActionOf.OnlyTypes = Kinds.leaf ∷ []
kinds ActionOf.Named = Kinds.pointers ∷ Kinds.leaf ∷ Kinds.name_rest ∷ []
kinds ActionOf.FunctionBehindName = Kinds.function_rest ∷ []
kinds ActionOf.ObjectsBehindName = Kinds.objects ∷ []
kinds ActionOf.Function = Kinds.leaf ∷ Kinds.parameter ∷ Kinds.parameters ∷ Kinds.leaf ∷ Kinds.optional_block ∷ []
kinds ActionOf.Parameters = Kinds.leaf ∷ Kinds.parameter ∷ Kinds.parameters ∷ []
kinds ActionOf.NoParameters = []
kinds ActionOf.NoBody = Kinds.leaf ∷ []
kinds ActionOf.SomeBody = Kinds.block ∷ []
kinds ActionOf.Parameter = Kinds.specifiers ∷ Kinds.pointers ∷ Kinds.parameter_name ∷ []
kinds ActionOf.ParameterName = Kinds.leaf ∷ Kinds.optional_bound ∷ []
kinds ActionOf.NoParameterName = []
kinds ActionOf.ParameterBound = Kinds.leaf ∷ Kinds.optional_expression ∷ Kinds.leaf ∷ []
kinds ActionOf.NoParameterBound = []

-- what it makes
abbrev pub kind : ExternalAction → Kinds.Kind
kind ActionOf.Externals = Kinds.externals
kind ActionOf.NoExternals = Kinds.externals
kind ActionOf.Unit = Kinds.externals
kind ActionOf.TypeDefinition = Kinds.external
kind ActionOf.Declared = Kinds.external
kind ActionOf.OnlyTypes = Kinds.external_rest
kind ActionOf.Named = Kinds.external_rest
kind ActionOf.FunctionBehindName = Kinds.name_rest
kind ActionOf.ObjectsBehindName = Kinds.name_rest
kind ActionOf.Function = Kinds.function_rest
kind ActionOf.Parameters = Kinds.parameters
kind ActionOf.NoParameters = Kinds.parameters
kind ActionOf.NoBody = Kinds.optional_block
kind ActionOf.SomeBody = Kinds.optional_block
kind ActionOf.Parameter = Kinds.parameter
kind ActionOf.ParameterName = Kinds.parameter_name
kind ActionOf.NoParameterName = Kinds.parameter_name
kind ActionOf.ParameterBound = Kinds.optional_bound
kind ActionOf.NoParameterBound = Kinds.optional_bound

abbrev pub external : List Expressions.SpecifierData → PartData.ExternalRestData → Statements.ExternalData
external specifiers (PartData.rest_declarators ds) =
    Statements.declaration (record { specifiers = Views.specifiers_of specifiers; declarators = ds })
external specifiers (PartData.rest_function pointers name f) =
    Statements.function (record { specifiers = Views.specifiers_of specifiers; pointers = pointers; name = name; parameters = f.parameters; body = f.body })

abbrev pub named : List Expressions.PointerData → Word → PartData.NameRestData → PartData.ExternalRestData
named pointers name (PartData.rest_of_function f) = PartData.rest_function pointers name f
named pointers name (PartData.rest_of_objects o) = PartData.rest_declarators (all_declarators pointers name o)

abbrev pub node : ExternalAction → List PartData.PartData → PartData.ExternalPart
node ActionOf.Externals ps = PartData.externals (((external_of (part 0 ps))) ∷ (externals_of (part 1 ps)))
node ActionOf.NoExternals ps = PartData.externals []
node ActionOf.Unit ps = PartData.externals (externals_of (part 0 ps))
node ActionOf.TypeDefinition ps = PartData.external (Statements.type_definition (record { place = (leaf_of (part 0 ps)).place; specifiers = Views.specifiers_of (specifiers_of (part 1 ps)); pointers = (pointers_of (part 2 ps)); name = (leaf_of (part 3 ps)) }))
node ActionOf.Declared ps = PartData.external (external (specifiers_of (part 0 ps)) (external_rest_of (part 1 ps)))
node ActionOf.OnlyTypes ps = PartData.external_rest (PartData.rest_declarators [])
node ActionOf.Named ps = PartData.external_rest (named (pointers_of (part 0 ps)) (leaf_of (part 1 ps)) (name_rest_of (part 2 ps)))
node ActionOf.FunctionBehindName ps = PartData.name_rest (PartData.rest_of_function (function_rest_of (part 0 ps)))
node ActionOf.ObjectsBehindName ps = PartData.name_rest (PartData.rest_of_objects (objects_of (part 0 ps)))
node ActionOf.Function ps = PartData.function_rest (record { parameters = (parameter_of (part 1 ps)) ∷ (parameters_of (part 2 ps)); body = (optional_block_of (part 4 ps)) })
node ActionOf.Parameters ps = PartData.parameters (((parameter_of (part 1 ps))) ∷ (parameters_of (part 2 ps)))
node ActionOf.NoParameters ps = PartData.parameters []
node ActionOf.NoBody ps = PartData.optional_block None
node ActionOf.SomeBody ps = PartData.optional_block (Some (block_of (part 0 ps)))
node ActionOf.Parameter ps = PartData.parameter (record { specifiers = Views.specifiers_of (specifiers_of (part 0 ps)); pointers = (pointers_of (part 1 ps)); name = (parameter_name_of (part 2 ps)).name; bound = (parameter_name_of (part 2 ps)).bound })
node ActionOf.ParameterName ps = PartData.parameter_name (record { name = Some (leaf_of (part 0 ps)); bound = (optional_bound_of (part 1 ps)) })
node ActionOf.NoParameterName ps = PartData.parameter_name (record { name = None; bound = None })
node ActionOf.ParameterBound ps = PartData.optional_bound (Some (Expressions.bound (Views.maybe_of (optional_expression_of (part 1 ps))) (leaf_of (part 2 ps)).place))
node ActionOf.NoParameterBound ps = PartData.optional_bound None
