-- Types, so far as it matters whether a function may be called without a body: arithmetic, void, or neither.
use Rattle.std.specs.Prelude.{Bool, true, false, ◌||◌, if◌then◌else◌, List, [], ◌∷◌, ℕ, codes}
use Rattle.std.specs.Option.{is_some, is_none}
use Rattle.std.specs.Str.{bytes_eq}
use Rattle.c_tree.specs.declared.expression.Word.{Word}
use Rattle.c_tree.specs.declared.expression.Keyword.TheVariants.{Void as void_}
use Rattle.c_tree.specs.Expressions
use Rattle.c_tree.specs.Statements
use Rattle.c_identifiers.specs.declared.event.Base.{Base}
use Rattle.c_identifiers.specs.declared.event.Base.TheVariants.{Arithmetic, Void, Other, Typedef}
use Rattle.c_identifiers.specs.declared.event.TypeForm.{TypeForm}
use Rattle.c_identifiers.specs.declared.event.Form.{Form}
use Rattle.c_identifiers.specs.declared.event.Form.TheVariants as says

abbrev pub is_text : List ℕ → Word → Bool
is_text text word = bytes_eq word.text text

-- the library's types that are no arithmetic types
abbrev pub is_library_object : Word → Bool
is_library_object word =
    is_text (codes "mtx_t") word || is_text (codes "cnd_t") word || is_text (codes "thrd_t") word || is_text (codes "tss_t") word

abbrev pub unless_other : Base → Base → Base
unless_other Other base = Other
unless_other _ base = base

abbrev pub or_void : Base → Base
or_void Arithmetic = Void
or_void base = base

-- what one word more makes of a type: a structure or an object of the library counts before all else, then the type that
-- a typedef name stands for, then `void`
abbrev pub base_behind : Base → Expressions.SpecifierData → Base
base_behind base (Expressions.structure_reference place tag) = Other
base_behind base (Expressions.structure_declaration place tag list close) = Other
base_behind base (Expressions.library_type word) = if is_library_object word then Other else base
base_behind base (Expressions.typedef_name word) = unless_other base (Typedef word)
base_behind base (Expressions.keyword word void_) = or_void base
base_behind base (Expressions.keyword word _) = base
base_behind base (Expressions.enumeration_reference place tag) = base
base_behind base (Expressions.enumeration_declaration place tag list comma close) = base

abbrev pub base_from : Base → Expressions.Specifiers → Base
base_from base Expressions.no_specifiers = base
base_from base (Expressions.specifier first rest) = base_from (base_behind base first) rest

abbrev pub base_of : Expressions.Specifiers → Base
base_of = base_from Arithmetic

abbrev pub type_form : Expressions.Specifiers → Bool → TypeForm
type_form specifiers pointer = record { base = base_of specifiers; is_pointer = pointer }

abbrev pub any_of : {A : Type 0} → List A → Bool
any_of [] = false
any_of (x ∷ xs) = true

-- an array that is a parameter is a pointer
abbrev pub parameter_form : Statements.ParameterData → TypeForm
parameter_form p = type_form p.specifiers (any_of p.pointers || is_some p.bound)

-- whether there is one parameter, which has no name
abbrev pub is_lone : List Statements.ParameterData → Bool
is_lone [] = false
is_lone (p ∷ []) = is_none p.name
is_lone (p ∷ q ∷ ps) = false

abbrev pub typedef_form : Statements.TypeDefinitionData → Form
typedef_form d = says.Type (type_form d.specifiers (any_of d.pointers))

abbrev pub function_form : Statements.FunctionData → Form
function_form f = says.Function (type_form f.specifiers (any_of f.pointers)) (is_lone f.parameters)
