-- What scopes see of a translation unit (C11 6.2.1, 6.9).
use Rattle.std.specs.Prelude.{List, [], ◌∷◌, ◌++◌, Option, Some, None}
use Rattle.std.specs.Option.{is_some}
use Rattle.c_tree.specs.declared.expression.Word.{Word}
use Rattle.c_tree.specs.Expressions
use Rattle.c_tree.specs.Statements
use Rattle.c_identifiers.specs.declared.event.Form.TheVariants.{Other as unjudged}
use Rattle.c_identifiers.specs.declared.event.Usage.TheVariants.{Evaluated}
use Rattle.c_identifiers.specs.declared.event.Event.{Event}
use Rattle.c_identifiers.specs.declared.event.Event.TheVariants.{Parameter}
use Rattle.c_identifiers.specs.declared.roles.Level.TheVariants.{File}
use Rattle.c_identifiers.specs.Roles.{parameter_role, typedef_role, function_role}
use Rattle.c_identifiers.specs.Types.{parameter_form, typedef_form, function_form}
use Rattle.c_identifiers.specs.Expressions.{specifiers_events, bound_events, declaration_of, mention_of}
use Rattle.c_identifiers.specs.Statements.{declaration_events, items_events, in_scope}

abbrev pub parameter_bound_events : Option Expressions.BoundData → List Event
parameter_bound_events None = []
parameter_bound_events (Some size) = bound_events Evaluated size

abbrev pub parameter_name_events : Option Word → Option Expressions.BoundData → List Event
parameter_name_events None size = parameter_bound_events size
parameter_name_events (Some name) size = mention_of name ++ parameter_bound_events size ++ declaration_of parameter_role unjudged name

abbrev pub parameters_events : List Statements.ParameterData → List Event
parameters_events [] = []
parameters_events (p ∷ ps) = (specifiers_events Evaluated p.specifiers ++ parameter_name_events p.name p.bound) ++ parameters_events ps

abbrev pub parameter_forms : List Statements.ParameterData → List Event
parameter_forms [] = []
parameter_forms (p ∷ ps) = Parameter (parameter_form p) ∷ parameter_forms ps

-- the items of a body, which are in the scope of the parameters (C11 6.2.1p4)
abbrev pub function_body_events : Option Statements.BlockData → List Event
function_body_events None = []
function_body_events (Some (Statements.block place items close)) = items_events items

-- the name begins to be visible behind the parameters (C11 6.2.1p7)
abbrev pub function_scope_events : Statements.FunctionData → List Event
function_scope_events f =
    parameters_events f.parameters ++ parameter_forms f.parameters
    ++ declaration_of (function_role f.specifiers (is_some f.body)) (function_form f) f.name ++ function_body_events f.body

abbrev pub function_events : Statements.FunctionData → List Event
function_events f = specifiers_events Evaluated f.specifiers ++ mention_of f.name ++ in_scope (function_scope_events f)

abbrev pub typedef_events : Statements.TypeDefinitionData → List Event
typedef_events d = specifiers_events Evaluated d.specifiers ++ declaration_of typedef_role (typedef_form d) d.name

abbrev pub external_events : Statements.ExternalData → List Event
external_events (Statements.type_definition d) = typedef_events d
external_events (Statements.declaration d) = declaration_events File d
external_events (Statements.function f) = function_events f

abbrev pub externals_events : List Statements.ExternalData → List Event
externals_events [] = []
externals_events (e ∷ es) = external_events e ++ externals_events es

abbrev pub events_of : Statements.TreeData → List Event
events_of tree = externals_events tree.externals
