-- What scopes see, with words by their numbers, typedef names by the types that they stand for, and functions by whether
-- they are to have a body where they are called. What stands before is listed the nearest first.
use Rattle.std.specs.Prelude.{ℕ, Bool, true, false, ◌||◌, ◌&&◌, ◌==◌, not, if◌then◌else◌, List, [], ◌∷◌, Option, Some, None, codes}
use Rattle.std.specs.Option.{is_some}
use Rattle.c_names.specs.declared.declaration.Kind.{Kind}
use Rattle.c_names.specs.declared.declaration.Kind.TheVariants as a
use Rattle.c_names.specs.contracts.declaration.KindPartialEq.TheImpl as kinds
use Rattle.c_tree.specs.declared.expression.Word.{Word}
use Rattle.c_identifiers.specs.declared.event.Base.{Base}
use Rattle.c_identifiers.specs.declared.event.Base.TheVariants as base
use Rattle.c_identifiers.specs.declared.event.TypeForm.{TypeForm}
use Rattle.c_identifiers.specs.declared.event.Form.{Form}
use Rattle.c_identifiers.specs.declared.event.Form.TheVariants as says
use Rattle.c_identifiers.specs.declared.event.Event.{Event}
use Rattle.c_identifiers.specs.declared.event.Event.TheVariants as event
use Rattle.c_identifiers.specs.Types.{is_text}
use Rattle.c_visibility.specs.declared.spelled.Class.{Class}
use Rattle.c_visibility.specs.declared.spelled.Class.TheVariants.{Arithmetic, Void, Other}
use Rattle.c_visibility.specs.declared.spelled.Facts.{Facts}
use Rattle.c_visibility.specs.declared.spelled.Spelled.{Spelled}
use Rattle.c_visibility.specs.declared.spelled.Spelled.TheVariants.{Open, Close, Mention, Parameter, Declare, Use}
use Rattle.c_visibility.specs.Library.{is_library}
use Rattle.c_visibility.specs.Spelling.{number_of, spot}

-- `==` of kinds
abbrev pub same_kind : Kind → Kind → Bool
same_kind = kinds.ghosts.eq

abbrev pub worse : Class → Class → Class
worse Other b = Other
worse Void Other = Other
worse Void Void = Void
worse Void Arithmetic = Void
worse Arithmetic b = b

-- the type that a typedef name stands for
abbrev pub class_named : ℕ → List Spelled → Option Class
class_named name [] = None
class_named name (Open ∷ before) = class_named name before
class_named name (Close ∷ before) = class_named name before
class_named name (Mention ∷ before) = class_named name before
class_named name (Parameter class ∷ before) = class_named name before
class_named name (Declare role facts word ∷ before) =
    if same_kind role.kind a.Typedef && word.name == name then Some facts.class else class_named name before
class_named name (Use space usage word ∷ before) = class_named name before

-- the worst of the parameters directly before
abbrev pub worst : List Spelled → Class
worst [] = Arithmetic
worst (Parameter class ∷ before) = worse class (worst before)
worst (_ ∷ before) = Arithmetic

abbrev pub or_arithmetic : Option Class → Class
or_arithmetic None = Arithmetic
or_arithmetic (Some class) = class

abbrev pub base_class : List (List ℕ) → List Spelled → Base → Class
base_class names before base.Arithmetic = Arithmetic
base_class names before base.Void = Void
base_class names before base.Other = Other
base_class names before (base.Typedef word) = or_arithmetic (class_named (number_of names word) before)

abbrev pub form_class : List (List ℕ) → List Spelled → TypeForm → Class
form_class names before form = if form.is_pointer then Other else base_class names before form.base

-- a name of the library, or of a typedef
abbrev pub is_reserved : List (List ℕ) → List Spelled → Word → Bool
is_reserved names before word = is_library word.text || is_some (class_named (number_of names word) before)

-- whether a function with these types of its result and its parameters is to have a body where it is called: `(void)`
-- alone means that it has no parameters
abbrev pub needs_body : Class → Class → Bool → Bool
needs_body Other parameters lone = true
needs_body Arithmetic Other lone = true
needs_body Arithmetic Void lone = not lone
needs_body Arithmetic Arithmetic lone = false
needs_body Void Other lone = true
needs_body Void Void lone = not lone
needs_body Void Arithmetic lone = false

abbrev pub facts_by : Form → List (List ℕ) → List Spelled → Word → Facts
facts_by says.Other names before word =
    record { is_reserved = is_reserved names before word; class = Arithmetic; needs_body = false; is_main = is_text (codes "main") word }
facts_by (says.Type form) names before word =
    record { is_reserved = is_reserved names before word; class = form_class names before form; needs_body = false; is_main = is_text (codes "main") word }
facts_by (says.Function answer lone) names before word =
    record {
      is_reserved = is_reserved names before word;
      class = Arithmetic;
      needs_body = needs_body (form_class names before answer) (worst before) lone;
      is_main = is_text (codes "main") word;
    }

abbrev pub facts_of : List (List ℕ) → List Spelled → Form → Word → Facts
facts_of names before form word = facts_by form names before word

abbrev pub spelled : List (List ℕ) → List Spelled → Event → Spelled
spelled names before event.Open = Open
spelled names before event.Close = Close
spelled names before (event.Mention word) = Mention
spelled names before (event.Parameter form) = Parameter (form_class names before form)
spelled names before (event.Declare role form word) = Declare role (facts_of names before form word) (spot names word)
spelled names before (event.Use space usage word) = Use space usage (spot names word)

-- one after the other
abbrev pub spelled_behind : List (List ℕ) → List Spelled → List Event → List Spelled
spelled_behind names before [] = []
spelled_behind names before (e ∷ es) = spelled names before e ∷ spelled_behind names (spelled names before e ∷ before) es
